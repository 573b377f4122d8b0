-- `read_deltas` meets its contract: the invariant says that the first i are read, and that those behind are as before.
use mathlib.Core.Bool.{cond}
use mathlib.Core.Path.{◌≡◌, refl, ap, ◌∙◌}
use Prim.Native.Nat.{ℕ, ◌+◌, ◌-◌, ◌*◌}
use native.Mathlib.Numerals.{add-one}
use native.Mathlib.Omega.{arith}
use lib.Dec.{eqb}
use lib.IntN.{pos}
use lib.ListN.{length, take, replicate, length-set, length-replicate}
use lib.Seq.{take-suc-set, drop-set-lt}
use Rattle.standard.specs.Header.{su_of}
use Rattle.deltas.specs.Deltas.{delta}
use Rattle.bit_place.specs.Place.{bit_at, number_at}
use Rattle.bit_place.proofs.Places.{number_small}
use Rattle.params_read.proofs.Readers.{reads_as, reads-updated, reads_none, reads_more, deltas-sent, deltas-kept}
use Rattle.params_read.proofs.Fronts.{next-same, behind-same, stored}
use Rattle.params_read.proofs.read_deltas.Goals as goal

pub returns-then-u-eq0 : goal.returns-then-u-eq0
returns-then-u-eq0 g c =
    let a = c.args in (
      omega arith,
      omega arith,
      deltas-kept a.u a.deltas.now g.row.N (replicate g.row.N 0) a.deltas.now (bit_at a.bytes.now) (a.at + a.from) (a.from - a.from)
          c.if-u-eq0.true refl refl (omega arith),
    )

pub loop-i-init : goal.loop-i-init
loop-i-init g c =
    let a = c.args in
    let e : a.from - a.from ≡ 0 = omega arith in (
      refl,
      refl,
      omega arith,
      omega arith,
      rw e (reads_none a.deltas.now (bit_at a.bytes.now) (a.at + a.from)),
      refl,
      refl,
    )

pub loop-i-preserved : goal.loop-i-preserved
loop-i-preserved g c =
    let l = c.loop-i in
    let a = c.args in
    let s = bit_at a.bytes.now in
    let u = c.number-sent in
    let long : length l.update ≡ g.row.N = simp length-replicate at l.invariant.0 in
    let held = c.read_delta-arg-1.given in
    let same = next-same l.i l.deltas a.deltas.now (pos 0) l.invariant.6 in
    let q : a.at + l.k ≡ a.at + a.from + (l.k - a.from) = omega arith in
    let q₁ : a.at + (l.k + 1) ≡ a.at + a.from + (l.k - a.from) + 1 = omega arith in
    let e : u.result ≡ number_at s (a.at + a.from + (l.k - a.from)) 1 = u.ensures.0 ∙ ap (λ (n : ℕ). number_at s n 1) q in
    let d = stored (eqb u.result 1) (number_at s (a.at + (l.k + 1)) 7) c.read_delta.result _ _ (number_small s (a.at + (l.k + 1)) 7) held c.read_delta.ensures same
    ∙ ap (λ (n : ℕ). cond (eqb u.result 1) (su_of (number_at s n 7)) (delta a.deltas.now l.i)) q₁ in (
      simp length-set l.invariant.0,
      simp length-set l.invariant.1,
      omega arith,
      omega arith,
      rw (add-one l.i, take-suc-set l.update l.i u.result (omega arith), take-suc-set l.deltas l.i _ (omega arith), d)
          (reads_as refl (omega arith) (reads_more a.deltas.now l.i (take l.i l.update) (take l.i l.deltas) u.result _ s (a.at + a.from) (l.k - a.from)
          (1 + 7 * u.result) l.invariant.4 (reads-updated (delta a.deltas.now l.i) s (a.at + a.from + (l.k - a.from)) u.result e))),
      drop-set-lt (l.i + 1) l.update l.i _ (omega arith) ∙ behind-same l.i l.update (replicate g.row.N 0) l.invariant.5,
      drop-set-lt (l.i + 1) l.deltas l.i _ (omega arith) ∙ behind-same l.i l.deltas a.deltas.now l.invariant.6,
    )

pub returns : goal.returns
returns g c =
    let l = c.loop-i in
    let a = c.args in
    let m = g.row.N in
    let all : l.i ≡ m = omega arith in (
      l.invariant.2,
      omega (arith, l.invariant.3),
      deltas-sent a.u a.deltas.now m l.i l.update l.deltas (bit_at a.bytes.now) (a.at + a.from) (l.k - a.from) (omega arith) all (simp length-replicate at l.invariant.0) (omega arith) l.invariant.4,
    )
