-- The number of a line that comes in its turn is the lowest that refuses it, 0 where none does: each test reflects its fault.
use mathlib.Core.Bool.{Bool, true, false, cond, not, ◌&&◌, false≢true}
use mathlib.Core.Logic.{◌⊎◌, inl, inr, ⊎_elim, by_cases}
use mathlib.Core.Path.{◌≡◌, refl, sym, ap, subst}
use Prim.Native.Nat.{ℕ, zero, suc, ◌+◌, ◌*◌, ◌<◌, ◌≤◌}
use native.Mathlib.Decide.{ℕ_discrete, dec_lt}
use native.Mathlib.Omega.{arith}
use borrow.Author.Tests.{ne_eqb}
use lib.Dec.{ltb}
use lib.IntN.{ℤ, pos}
use lib.ListN.{replicate, length-replicate, get_or-replicate, get_or-eq_default}
use Rattle.loops.specs.Exactly.{Reflects}
use Rattle.loops.proofs.Reflected.{reflects-ltb, reflects-eqb, reflects-not, reflects-and, reflects-or}
use Rattle.units.specs.Layout.{Layout, layout_ok}
use Rattle.units.specs.Frame.{superblock_ok}
use Rattle.units.proofs.Tests.{reflects-layout, reflects-superblock}
use Rattle.deltas.specs.Deltas.{delta, outside, Outside}
use Rattle.deltas.proofs.Range.{reflects-outside}
use Rattle.levels.specs.Levels.{levels_number}
use Rattle.levels.specs.Promises.{base-above-63, ref-outside, mode-outside, lf-outside, seg-outside, chroma-at-400}
use Rattle.levels.specs.Promises as levels
use Rattle.levels.proofs.Numbers.{exactly-2 as levels-2, exactly-0 as levels-0}
use Rattle.block.specs.declared.Block.{Block as BlockIn}
use Rattle.block.specs.Block.{w4, Lent}
use Rattle.block.specs.Tests.{number}
use Rattle.block.specs.Faults.{BlockFault, ContextsFault, LengthFault}
use Rattle.block.specs.Faults as blocks
use Rattle.block.proofs.Numbers.{exactly-4 as block_4, exactly-5 as block_5, exactly-0 as block_0}
use Rattle.record.specs.Record.{intra_of}
use Rattle.list_script.specs.Line.{Line, Frame, Level, Block}
use Rattle.list_steps.specs.Steps.{side_ok, depth_ok, frame_number, bases}
use Rattle.list_steps.proofs.Outcomes.{reflects-side}
use Rattle.list_numbers.specs.Faults.{DepthFault, ShapeFault, layout-other, width-outside, height-outside, superblock-other}
use Rattle.list_numbers.specs.Faults.{LevelFault, columns-above, rows_above, u-above, v_above, u-at-400, v-at-400}
use Rattle.list_numbers.specs.Faults.{Refuses, sharpness-above, level, depth-other, shape, pair-at-400, block}

pub data Judged (f l : Line) : ℕ → Type 0 where
  clear : ((n : ℕ) → ¬ Refuses f l n) → Judged f l 0
  refuses : {n : ℕ} → Refuses f l n → ((m : ℕ) → m < n → ¬ Refuses f l m) → Judged f l n

-- ---- a frame line

module _ (f : Line) (width height layout depth superblock sharpness : ℕ) where
  abbrev Line₁ : Line
  Line₁ = Frame width height layout depth superblock sharpness

  frame-faults : {g : Line} {n : ℕ} → Refuses g Line₁ n
      → ((n ≡ 1) × (7 < sharpness)) ⊎ (((n ≡ 3) × DepthFault depth) ⊎ ((n ≡ 4) × ShapeFault width height layout superblock))
  frame-faults (sharpness-above h) = inl (refl, h)
  frame-faults (depth-other h) = inr (inl (refl, h))
  frame-faults (shape h) = inr (inr (refl, h))

  found : (a b c d : Bool) → Reflects a (Layout layout) → Reflects b ((1 ≤ width) × (width ≤ 256)) → Reflects c ((1 ≤ height) × (height ≤ 256))
      → Reflects d ((superblock ≡ 64) ⊎ (superblock ≡ 128)) → (a && (b && (c && d))) ≡ false → ShapeFault width height layout superblock
  found false b c d p q r s e = layout-other (p.no refl)
  found true false c d p q r s e = width-outside (q.no refl)
  found true true false d p q r s e = height-outside (r.no refl)
  found true true true false p q r s e = superblock-other (s.no refl)
  found true true true true p q r s e = absurd (false≢true (sym e))

  plain : ShapeFault width height layout superblock
      → ¬ (Layout layout × (((1 ≤ width) × (width ≤ 256)) × (((1 ≤ height) × (height ≤ 256)) × ((superblock ≡ 64) ⊎ (superblock ≡ 128)))))
  plain (layout-other n) p = n p.0
  plain (width-outside n) p = n p.1.0
  plain (height-outside n) p = n p.1.1.0
  plain (superblock-other n) p = n p.1.1.1

  reflects-shape : Reflects (not (layout_ok layout && (side_ok width && (side_ok height && superblock_ok superblock)))) (ShapeFault width height layout superblock)
  reflects-shape = go (layout_ok layout && (side_ok width && (side_ok height && superblock_ok superblock))) refl
    where
      go : (t : Bool) → (layout_ok layout && (side_ok width && (side_ok height && superblock_ok superblock))) ≡ t → Reflects (not t) (ShapeFault width height layout superblock)
      go true e =
          record {
            yes = λ z. absurd (false≢true z);
            no = λ _ s. plain s ((reflects-and (reflects-layout layout) (reflects-and (reflects-side width) (reflects-and (reflects-side height) (reflects-superblock superblock)))).yes e);
          }
      go false e =
          record {
            yes = λ _.
                found (layout_ok layout) (side_ok width) (side_ok height) (superblock_ok superblock) (reflects-layout layout) (reflects-side width) (reflects-side height)
                (reflects-superblock superblock) e;
            no = λ z. absurd (false≢true (sym z));
          }

  reflects-depth : Reflects (not (depth_ok depth)) (DepthFault depth)
  reflects-depth = reflects-not (reflects-or (reflects-or (reflects-eqb depth 8) (reflects-eqb depth 10)) (reflects-eqb depth 12))

  pub frame-judged : Judged f Line₁ (frame_number width height layout depth superblock sharpness)
  unfolding frame_number
  frame-judged =
      go (ltb 7 sharpness) (not (depth_ok depth)) (layout_ok layout && (side_ok width && (side_ok height && superblock_ok superblock)))
      (reflects-ltb 7 sharpness) reflects-depth reflects-shape
    where
      none : ¬ (7 < sharpness) → ¬ DepthFault depth → (m : ℕ) → m < 4 → ¬ Refuses f Line₁ m
      none a b m h r = ⊎_elim (λ p. a p.1) (⊎_elim (λ p. b p.1) (λ p. omega (arith, p.0))) (frame-faults r)

      go : (a b c : Bool) → Reflects a (7 < sharpness) → Reflects b (DepthFault depth) → Reflects (not c) (ShapeFault width height layout superblock)
          → Judged f Line₁ (cond a 1 (cond b 3 (cond c 0 4)))
      go true b c p q r =
          refuses (sharpness-above (p.yes refl))
          (λ m h g. ⊎_elim (λ t. omega (arith, t.0)) (⊎_elim (λ t. omega (arith, t.0)) (λ t. omega (arith, t.0))) (frame-faults g))
      go false true c p q r =
          refuses (depth-other (q.yes refl))
          (λ m h g. ⊎_elim (λ t. p.no refl t.1) (⊎_elim (λ t. omega (arith, t.0)) (λ t. omega (arith, t.0))) (frame-faults g))
      go false false true p q r =
          clear (λ n g. ⊎_elim (λ t. p.no refl t.1) (⊎_elim (λ t. q.no refl t.1) (λ t. r.no refl t.1)) (frame-faults g))
      go false false false p q r = refuses (shape (r.yes refl)) (none (p.no refl) (q.no refl))

-- ---- a level line

zero-delta : (n r : ℕ) → delta (replicate n (pos 0)) r ≡ pos 0
zero-delta n r =
    by_cases (dec_lt r n) (λ h. get_or-replicate n r (pos 0) (pos 0) h)
    (λ h. get_or-eq_default (replicate n (pos 0)) (pos 0) {n = r} (omega (arith, length-replicate {A = ℤ} n (pos 0))))

not-outside : (low n r : ℕ) → outside low (pos 0) ≡ false → ¬ Outside low (delta (replicate n (pos 0)) r)
not-outside low n r e h = (reflects-outside low (pos 0)).no e (subst (Outside low) (zero-delta n r) h)

at-64 : outside 64 (pos 0) ≡ false
unfolding outside
at-64 = refl

at-63 : outside 63 (pos 0) ≡ false
unfolding outside
at-63 = refl

module _ (width height layout depth superblock sharpness columns rows u v : ℕ) where
  abbrev First₂ : Line
  First₂ = Frame width height layout depth superblock sharpness

  level-is : levels.LevelFault layout (bases columns rows u v) → LevelFault layout columns rows u v
  level-is (base-above-63 zero h f) = columns-above f
  level-is (base-above-63 (suc zero) h f) = rows_above f
  level-is (base-above-63 (suc (suc zero)) h f) = u-above f
  level-is (base-above-63 (suc (suc (suc zero))) h f) = v_above f
  level-is (base-above-63 (suc (suc (suc (suc k)))) h f) = absurd (omega arith)
  level-is (ref-outside r h f) = absurd (not-outside 64 8 r at-64 f)
  level-is (mode-outside m h f) = absurd (not-outside 64 2 m at-64 f)
  level-is (lf-outside k h f) = absurd (not-outside 63 4 k at-63 f)
  level-is (seg-outside s k g h f) = absurd (not-outside 63 32 (s * 4 + k) at-63 f)
  level-is (chroma-at-400 zero g h n e) = absurd (omega arith)
  level-is (chroma-at-400 (suc zero) g h n e) = absurd (omega arith)
  level-is (chroma-at-400 (suc (suc zero)) g h n e) = u-at-400 e n
  level-is (chroma-at-400 (suc (suc (suc zero))) g h n e) = v-at-400 e n
  level-is (chroma-at-400 (suc (suc (suc (suc k)))) g h n e) = absurd (omega arith)

  is-level : LevelFault layout columns rows u v → levels.LevelFault layout (bases columns rows u v)
  is-level (columns-above h) = base-above-63 0 (omega arith) h
  is-level (rows_above h) = base-above-63 1 (omega arith) h
  is-level (u-above h) = base-above-63 2 (omega arith) h
  is-level (v_above h) = base-above-63 3 (omega arith) h
  is-level (u-at-400 e n) = chroma-at-400 2 (omega arith) (omega arith) n e
  is-level (v-at-400 e n) = chroma-at-400 3 (omega arith) (omega arith) n e

  level-faults : {n : ℕ} → Refuses First₂ (Level columns rows u v) n → (n ≡ 2) × LevelFault layout columns rows u v
  level-faults (level h) = (refl, h)

  pub level-judged : Layout layout → Judged First₂ (Level columns rows u v) (levels_number layout (bases columns rows u v))
  level-judged l =
      by_cases (ℕ_discrete (levels_number layout (bases columns rows u v)) 2)
      (λ e. rw e (refuses (level (level-is ((levels-2 layout (bases columns rows u v)).only e))) (λ m h g. omega (arith, (level-faults g).0))))
      (λ n.
      let free : ¬ levels.LevelFault layout (bases columns rows u v) = λ f. n ((levels-2 layout (bases columns rows u v)).always f) in
      rw ((levels-0 layout (bases columns rows u v)).always (l, free)) (clear (λ m g. free (is-level (level-faults g).1))))

-- ---- a block line

module _ (width height layout depth superblock sharpness x y size tx chroma uvtx : ℕ) where
  abbrev First₃ : Line
  First₃ = Frame width height layout depth superblock sharpness

  abbrev b : BlockIn
  b = intra_of width height layout x y size tx chroma uvtx

  block-faults : {n : ℕ} → Refuses First₃ (Block x y size tx chroma uvtx) n → ((n ≡ 4) × ((layout ≡ 400) × (¬ (chroma ≡ 0)))) ⊎ ((n ≡ 5) × BlockFault b)
  block-faults (pair-at-400 e c) = inl (refl, (e, c))
  block-faults (block f) = inr (refl, f)

  module _ (l : Layout layout) (width-in : (1 ≤ width) × (width ≤ 256)) (height-in : (1 ≤ height) × (height ≤ 256)) where
    pair-only : blocks.ShapeFault b → (layout ≡ 400) × (¬ (chroma ≡ 0))
    pair-only (blocks.layout-other n) = absurd (n l)
    pair-only (blocks.size-outside n) = absurd (n ((width-in.0, omega arith), (height-in.0, omega arith)))
    pair-only (blocks.pair-at-400 c e) = (e, (reflects-not (reflects-eqb chroma 0)).yes c)

    only-pair : layout ≡ 400 → ¬ (chroma ≡ 0) → blocks.ShapeFault b
    only-pair e c = blocks.pair-at-400 (ap not (ne_eqb chroma 0 c)) e

    pub block-judged : (m : Lent) → ¬ ContextsFault b m → ¬ LengthFault b (w4 b) m → Judged First₃ (Block x y size tx chroma uvtx) (number b (w4 b) m)
    block-judged m c h =
        by_cases (ℕ_discrete (number b (w4 b) m) 4)
        (λ e.
        let p = pair-only ((block_4 b (w4 b) m).only e) in
        rw e (refuses (pair-at-400 p.0 p.1) (λ k g r. ⊎_elim (λ t. omega (arith, t.0)) (λ t. omega (arith, t.0)) (block-faults r))))
        (λ n.
        let shaped : ¬ blocks.ShapeFault b = λ s. n ((block_4 b (w4 b) m).always s) in
        by_cases (ℕ_discrete (number b (w4 b) m) 5)
        (λ e.
        rw e (refuses (block ((block_5 b (w4 b) m).only e).0)
        (λ k g r. ⊎_elim (λ t. shaped (only-pair t.1.0 t.1.1)) (λ t. omega (arith, t.0)) (block-faults r))))
        (λ q.
        let fine : ¬ BlockFault b = λ f. q ((block_5 b (w4 b) m).always (f, shaped)) in
        rw ((block_0 b (w4 b) m).always (h, c, fine, shaped))
        (clear (λ k r. ⊎_elim (λ t. shaped (only-pair t.1.0 t.1.1)) (λ t. fine t.1) (block-faults r)))))
