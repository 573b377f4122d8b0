-- The set places are visited, lowest first: the invariant is the walk, run as far as the bit has moved.
use Rattle.std.proofs.Common.{◌≡◌, ◌+◌, ◌*◌, length, refl, ap, ◌∙◌, arith}
use Rattle.bits.proofs.Walks.{ahead-falls}
use Rattle.walk.specs.Walk.{index_at}
use Rattle.walk.proofs.WalkLoop.{start, masks-fit, turn, finished, is_set, len_is, asked, on-clear, on-set}
use Rattle.walk.proofs.walk.Goals as goal
use Rattle.walk.proofs.walk.Goals.{then-vm-xy-ne0, else-vm-xy-ne0}

pub loop-xy-init : goal.loop-xy-init
loop-xy-init g c = (start _ _ _ _ _ _, refl)

pub overflow_mul-n-then-vm-xy-ne0 : goal.overflow_mul-n-then-vm-xy-ne0
overflow_mul-n-then-vm-xy-ne0 g c =
    let v = c.loop-xy.invariant.0 in
    let f = turn v (masks-fit v (omega arith) (omega arith) (omega arith)) (omega arith) c.loop-xy-test.true in
    let r = c.requires.3.ready c.loop-xy.n (is_set v f c.if-vm-xy-ne0.true) in
    record { fits = omega (arith, r.to) }

pub overflow_add-l : goal.overflow_add-l
overflow_add-l g c =
    let v = c.loop-xy.invariant.0 in
    let f = turn v (masks-fit v (omega arith) (omega arith) (omega arith)) (omega arith) c.loop-xy-test.true in
    let r = c.requires.3.ready c.loop-xy.n (is_set v f c.if-vm-xy-ne0.true) in
    record { fits = omega (arith, r.to) }

pub overflow_mul-n-then-vm-xy-ne0-2 : goal.overflow_mul-n-then-vm-xy-ne0-2
overflow_mul-n-then-vm-xy-ne0-2 g c =
    let v = c.loop-xy.invariant.0 in
    let f = turn v (masks-fit v (omega arith) (omega arith) (omega arith)) (omega arith) c.loop-xy-test.true in
    let r = c.requires.3.ready c.loop-xy.n (is_set v f c.if-vm-xy-ne0.true) in
    record { fits = omega (arith, r.inside) }

pub overflow_add-l-then-vm-xy-ne0 : goal.overflow_add-l-then-vm-xy-ne0
overflow_add-l-then-vm-xy-ne0 g c =
    let v = c.loop-xy.invariant.0 in
    let f = turn v (masks-fit v (omega arith) (omega arith) (omega arith)) (omega arith) c.loop-xy-test.true in
    let r = c.requires.3.ready c.loop-xy.n (is_set v f c.if-vm-xy-ne0.true) in
    record { fits = omega (arith, r.inside) }

pub filter_level-requires : goal.filter_level-requires
filter_level-requires g c =
    let v = c.loop-xy.invariant.0 in
    let f = turn v (masks-fit v (omega arith) (omega arith) (omega arith)) (omega arith) c.loop-xy-test.true in
    let r = c.requires.3.ready c.loop-xy.n (is_set v f c.if-vm-xy-ne0.true) in
    (r.inside, r.behind)

pub visit-requires : goal.visit-requires
visit-requires g c =
    let v = c.loop-xy.invariant.0 in
    let f = turn v (masks-fit v (omega arith) (omega arith) (omega arith)) (omega arith) c.loop-xy-test.true in
    let p = c.requires in
    let q : c.args.l.q + c.loop-xy.n * 4 * c.args.l.line_step ≡ index_at c.args.l c.loop-xy.n = omega arith in
    let a = asked v f c.if-vm-xy-ne0.true _ _ _ (len_is v f _ _ c.class_of.ensures c.width_of-wd.ensures) c.filter_level.ensures q p.0 p.3 p.4 in
    (a.0, a.1, a.2, omega arith, p.0, p.1, p.2, a.4)

pub loop-xy-smaller : goal.loop-xy-smaller
loop-xy-smaller g c =
    let v = c.loop-xy.invariant.0 in
    let f = turn v (masks-fit v (omega arith) (omega arith) (omega arith)) (omega arith) c.loop-xy-test.true in
    ahead-falls c.loop-xy.n c.loop-xy.xy f v.bit

pub loop-xy-preserved : goal.loop-xy-preserved
loop-xy-preserved g c =
    let v = c.loop-xy.invariant.0 in
    let f = turn v (masks-fit v (omega arith) (omega arith) (omega arith)) (omega arith) c.loop-xy-test.true in
    let q : c.args.l.q + c.loop-xy.n * 4 * c.args.l.line_step ≡ index_at c.args.l c.loop-xy.n = omega arith in
    elim c.if-vm-xy-ne0.branch [
      | then-vm-xy-ne0 w ↦ (
        on-set v f w.if-vm-xy-ne0.true _ _ _ (len_is v f _ _ w.class_of.ensures w.width_of-wd.ensures) w.filter_level.ensures q _
            (ap g.P.Pixel.samples w.dst-is ∙ w.visit.ensures),
        ap length w.dst-is ∙ w.visit.auto.dst ∙ c.loop-xy.invariant.1,
      )
      | else-vm-xy-ne0 w ↦ (on-clear v f _ w.if-vm-xy-ne0.false (ap g.P.Pixel.samples w.dst-is), ap length w.dst-is ∙ c.loop-xy.invariant.1)
    ]

pub returns : goal.returns
returns g c =
    let v = c.loop-xy.invariant.0 in
    finished v (masks-fit v (omega arith) (omega arith) (omega arith)) (omega arith) c.loop-xy-test.false
