-- The number of a call is told by what it looks at: each fault of one lending is a fault of the other, so the tests that reflect them agree.
use mathlib.Core.Path.{◌≡◌, refl, sym, ap}
use mathlib.Core.Bool.{Bool, true, false, cond, not}
use mathlib.Core.List.{List}
use mathlib.Core.Logic.{⊎_elim}
use Prim.Native.Nat.{ℕ, ◌<◌}
use native.Mathlib.Omega.{arith}
use Rattle.loops.proofs.Reflected.{reflects-same}
use Rattle.checks.specs.declared.Call.{Call}
use Rattle.checks.specs.Call.{Lent, samples, call_pass, sb4, grid_of, Filtered, Shaped}
use Rattle.checks.specs.Tests.{level_bad, depth_bad, shape_bad, length_bad, inside, levels_bad, planes_bad, gap_bad, mask_bad, number}
use Rattle.checks.specs.Faults.{LevelByteFault, SampleFault, stride-short, too_short, too-high, PlaneFault, GapFault, MaskFault}
use Rattle.checks.proofs.TestsPassed.{shaped, sizes, proper}
use Rattle.checks.proofs.FaultTests.{reflects-bytes, reflects-planes-bad, reflects-gap, reflects-mask}
use Rattle.own_row.specs.Own.{SameTables, SameLent}
use Rattle.own_row.proofs.Bits.{keeps_same}

-- ---- the other way round

pub back-tables : {c : Call} {ls ls' ms ms' : List ℕ} → SameTables c ls ls' ms ms' → SameTables c ls' ls ms' ms
back-tables s =
    record {
      levels-long = sym s.levels-long;
      masks-long = sym s.masks-long;
      levels = λ n f. record { same = λ x y a b o. sym ((s.levels n f).same x y a b o) };
      bits = λ n f. record { same = λ u k j b x y z w. sym ((s.bits n f).same u k j b x y z w) };
    }

back : {c : Call} {m m' : Lent} → SameLent c m m' → SameLent c m' m
back s =
    record {
      tables = back-tables s.tables;
      samples = λ n f. record { long = sym (s.samples n f).long; same = λ i h. sym ((s.samples n f).same i h) };
    }

-- ---- each fault

module _ (c : Call) (m m' : Lent) (s : SameLent c m m') where
  level-fault : LevelByteFault c m → LevelByteFault c m'
  level-fault a =
      let h = a.too-high in
      record {
        inside = a.inside;
        plane = a.plane;
        filtered = a.filtered;
        too-high = record {
          x = h.x;
          y = h.y;
          right = h.right;
          down = h.down;
          from = h.from;
          to = h.to;
          too-high = rw ((s.tables.levels a.plane a.filtered).same h.x h.y h.right h.down (h.from, h.to)) at h.too-high;
        };
      }

  sample-fault : (n : ℕ) → Filtered c n → SampleFault c n (samples m n) → SampleFault c n (samples m' n)
  sample-fault n f (stride-short h) = stride-short h
  sample-fault n f (too_short h) = too_short (rw (s.samples n f).long at h)
  sample-fault n f (too-high i h) =
      too-high i
      (record {
        x = h.x;
        y = h.y;
        right = h.right;
        from = h.from;
        to = h.to;
        too-high = rw ((s.samples n f).same _ (record { x = h.x; y = h.y; at = refl; right = h.right; from = h.from; to = h.to })) at h.too-high;
      })

  plane-fault : PlaneFault c m → PlaneFault c m'
  plane-fault a = record { plane = a.plane; filtered = a.filtered; fault = sample-fault a.plane a.filtered a.fault }

  mask-fault : MaskFault c m → MaskFault c m'
  mask-fault a =
      let b = a.bit in
      record {
        plane = a.plane;
        filtered = a.filtered;
        bit = record {
          unit = b.unit;
          class = b.class;
          half_no = b.half_no;
          bit = b.bit;
          across = b.across;
          along = b.along;
          a-class = b.a-class;
          a-bit = b.a-bit;
          set = rw ((s.tables.bits a.plane a.filtered).same b.unit b.class b.half_no b.bit b.across b.along b.a-class b.a-bit) at b.set;
          refused = b.refused;
        };
      }

gap-fault : (c : Call) (m m' : Lent) → SameLent c m m' → Shaped c → GapFault c m → GapFault c m'
gap-fault c m m' s h a =
    let b = a.broken in
    let t = (back-tables s.tables).bits a.plane a.filtered in
    record {
      plane = a.plane;
      filtered = a.filtered;
      broken = record {
        line = b.line;
        looks = b.looks;
        breaks = λ k. b.breaks (keeps_same (grid_of c a.plane) (proper c a.plane) (sb4 c) c.row (sizes c h) (call_pass c) m'.masks m.masks t b.line b.looks k);
      };
    }

-- ---- each test

guarded : (b : Bool) (n x y : ℕ) → (b ≡ false → x ≡ y) → cond b n x ≡ cond b n y
guarded true n x y h = refl
guarded false n x y h = h refl

module _ (c : Call) (m m' : Lent) (s : SameLent c m m') where
  some-sb : Shaped c → 0 < sb4 c
  some-sb h = ⊎_elim (λ e. omega arith) (λ e. omega arith) (sizes c h)

  pub number_same : number c m ≡ number c m'
  unfolding number
  number_same =
      ap (λ (z : ℕ). cond (level_bad c) 2 (cond (depth_bad c) 3 z))
      (guarded (shape_bad c) 4 _ _ (λ e.
      let h = shaped c e in
      let p = some-sb h in
      let level : levels_bad c m.levels ≡ levels_bad c m'.levels =
      reflects-same (reflects-bytes c p m) (reflects-bytes c p m') (level-fault c m m' s) (level-fault c m' m (back s)) in
      let plane : planes_bad c m ≡ planes_bad c m' =
      reflects-same (reflects-planes-bad c p m) (reflects-planes-bad c p m') (plane-fault c m m' s) (plane-fault c m' m (back s)) in
      let gap : gap_bad c m.masks ≡ gap_bad c m'.masks =
      reflects-same (reflects-gap c m) (reflects-gap c m') (gap-fault c m m' s h) (gap-fault c m' m (back s) h) in
      let mask : mask_bad c m.masks ≡ mask_bad c m'.masks =
      reflects-same (reflects-mask c m) (reflects-mask c m') (mask-fault c m m' s) (mask-fault c m' m (back s)) in
      λ q.
      cond (length_bad c (s.tables.levels-long q) (s.tables.masks-long q)) 7
      (cond (level q) 8 (cond (plane q) 9 (cond (not (inside c)) 10 (cond (gap q) 11 (cond (mask q) 12 0)))))))
