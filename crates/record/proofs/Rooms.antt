-- A block's visible units lie within the frame, its record and the level bytes: from the place's being a multiple of the block's sides,
-- at each code of the tables and at ss 0 and 1.
use mathlib.Core.Bool.{true, ◌&&◌, and-eq-true_iff}
use mathlib.Core.Logic.{⊎_elim}
use mathlib.Core.Path.{◌≡◌, sym, subst}
use Prim.Native.Nat.{ℕ, ◌+◌, ◌-◌, ◌*◌, ◌/◌, ◌%◌, ◌<◌, ◌≤◌, min}
use native.Mathlib.Nat.{mul_comm, add-mul}
use native.Mathlib.Omega.{arith}
use lib.Dec.{ltb}
use borrow.Author.Tests.{ltb-true}
use Rattle.loops.proofs.Products.{row_in}
use Rattle.loops.proofs.Tables.{each_at}
use Rattle.standard.specs.Sizes.{Num_4x4_Blocks_Wide, Num_4x4_Blocks_High, Tx_Wide, Tx_High}
use Rattle.units.specs.Units.{chroma_unit, chroma_units}
use Rattle.units.specs.Frame.{records, frame_records, record_of}
use Rattle.units.specs.Masks.{half_units}
use Rattle.units.specs.Memory.{level_at}
use Rattle.units.proofs.Places.{chroma-units-le, ss-hor-le, ss-ver-le}
use Rattle.units.proofs.Rules.{block-rule}
use Rattle.decomp.specs.Cells.{Covers}
use Rattle.block.specs.declared.Block.{Block}
use Rattle.block.specs.Block.{w4, h4, block_width, block_height, ss-hor, ss-ver, bw4, bh4, cbw4, cbh4, sees_luma, sees_chroma}
use Rattle.block.proofs.TestsPassed.{chroma-unit-le}
use Rattle.record.specs.Record.{record_at, cbx4, cby4, Fitting}

-- ---- sides

cut : (a u n : ℕ) → u ≤ a → (u + min (a - u) n ≤ a) × (min (a - u) n ≤ n)
cut a u n h = (omega arith, omega arith)

wide_fits : (s : ℕ) → s < 22 → (x : ℕ) → x % Num_4x4_Blocks_Wide s ≡ 0 → x % 32 + Num_4x4_Blocks_Wide s ≤ 32
unfolding Num_4x4_Blocks_Wide
wide_fits =
    each_at 22 (λ s. (x : ℕ) → x % Num_4x4_Blocks_Wide s ≡ 0 → x % 32 + Num_4x4_Blocks_Wide s ≤ 32) (
      λ x h. omega arith,
      (
        λ x h. omega arith,
        (
          λ x h. omega arith,
          (
            λ x h. omega arith,
            (
              λ x h. omega arith,
              (
                λ x h. omega arith,
                (
                  λ x h. omega arith,
                  (
                    λ x h. omega arith,
                    (
                      λ x h. omega arith,
                      (
                        λ x h. omega arith,
                        (
                          λ x h. omega arith,
                          (
                            λ x h. omega arith,
                            (
                              λ x h. omega arith,
                              (
                                λ x h. omega arith,
                                (
                                  λ x h. omega arith,
                                  (λ x h. omega arith, (λ x h. omega arith, (λ x h. omega arith, (λ x h. omega arith, (λ x h. omega arith, (λ x h. omega arith, (λ x h. omega arith, tt))))))),
                                ),
                              ),
                            ),
                          ),
                        ),
                      ),
                    ),
                  ),
                ),
              ),
            ),
          ),
        ),
      ),
    )

high_fits : (s : ℕ) → s < 22 → (x : ℕ) → x % Num_4x4_Blocks_High s ≡ 0 → x % 32 + Num_4x4_Blocks_High s ≤ 32
unfolding Num_4x4_Blocks_High
high_fits =
    each_at 22 (λ s. (x : ℕ) → x % Num_4x4_Blocks_High s ≡ 0 → x % 32 + Num_4x4_Blocks_High s ≤ 32) (
      λ x h. omega arith,
      (
        λ x h. omega arith,
        (
          λ x h. omega arith,
          (
            λ x h. omega arith,
            (
              λ x h. omega arith,
              (
                λ x h. omega arith,
                (
                  λ x h. omega arith,
                  (
                    λ x h. omega arith,
                    (
                      λ x h. omega arith,
                      (
                        λ x h. omega arith,
                        (
                          λ x h. omega arith,
                          (
                            λ x h. omega arith,
                            (
                              λ x h. omega arith,
                              (
                                λ x h. omega arith,
                                (
                                  λ x h. omega arith,
                                  (λ x h. omega arith, (λ x h. omega arith, (λ x h. omega arith, (λ x h. omega arith, (λ x h. omega arith, (λ x h. omega arith, (λ x h. omega arith, tt))))))),
                                ),
                              ),
                            ),
                          ),
                        ),
                      ),
                    ),
                  ),
                ),
              ),
            ),
          ),
        ),
      ),
    )

chroma-fits : (u n ss : ℕ) → u + n ≤ 32 → ss ≤ 1 → chroma_unit ss u + chroma_units ss n ≤ 2 * half_units ss
chroma-fits u n ss h l = each_at 2 (λ s. chroma_unit s u + chroma_units s n ≤ 2 * half_units s) (omega arith, (omega arith, tt)) ss (omega arith)

-- a chroma unit of the frame lies in one of its records
chroma-record : (u n ss : ℕ) → chroma_unit ss u < chroma_units ss n → ss ≤ 1 → u / 32 < records n
chroma-record u n ss h l = each_at 2 (λ s. chroma_unit s u < chroma_units s n → u / 32 < records n) (λ h. omega arith, (λ h. omega arith, tt)) ss (omega arith) h

record-within : (w h x y : ℕ) → x / 32 < records w → y / 32 < records h → 640 * record_of w x y + 640 ≤ 640 * frame_records w h
record-within w h x y p q = omega (arith, row_in (y / 32) (records h) (records w) q, mul_comm (records w) (records h))

-- line j of h lines of w units at (x, y)
lines-in : (level-stride W H len x y w h area : ℕ) → W ≤ level-stride → 4 * level-stride * H ≤ len → x + w ≤ W → y + h ≤ H → area ≤ 2
    → (j : ℕ) → j < h → level_at level-stride x y area + 4 * (j * level-stride + w) ≤ len + 2
unfolding level_at
lines-in level-stride W H len x y w h area a b p q k j l =
    omega (arith, row_in (y + j) H level-stride (omega arith), add-mul y j level-stride, mul_comm H level-stride)

square-flat : Tx_High 0 < Tx_Wide 0 → ⊥
unfolding Tx_High Tx_Wide
square-flat f = omega arith

square-tall : Tx_Wide 0 < Tx_High 0 → ⊥
unfolding Tx_High Tx_Wide
square-tall f = omega arith

seen : (p q : ℕ) → (ltb 0 p && ltb 0 q) ≡ true → (0 < p) × (0 < q)
seen p q e = let f = (and-eq-true_iff (ltb 0 p) (ltb 0 q)).0 e in (ltb-true 0 p f.0, ltb-true 0 q f.1)

module _ (b : Block) (s : Fitting b) where
  -- ---- luma

  module _ (e : sees_luma b ≡ true) where
    pub luma-seen : (0 < bw4 b) × (0 < bh4 b)
    luma-seen = seen (bw4 b) (bh4 b) e

    pub luma-cut : (b.x.0 + bw4 b ≤ w4 b) × (b.y.0 + bh4 b ≤ h4 b)
    unfolding bw4 bh4
    luma-cut = ((cut (w4 b) b.x.0 (block_width b) s.x-in).0, (cut (h4 b) b.y.0 (block_height b) s.y-in).0)

    pub luma-sides : (bw4 b ≤ block_width b) × (bh4 b ≤ block_height b)
    unfolding bw4 bh4
    luma-sides = ((cut (w4 b) b.x.0 (block_width b) s.x-in).1, (cut (h4 b) b.y.0 (block_height b) s.y-in).1)

    pub luma-fits : (b.x.0 % 32 + bw4 b ≤ 32) × (b.y.0 % 32 + bh4 b ≤ 32)
    luma-fits =
        let w = wide_fits b.size s.sides.2 b.x.0 s.x-on in
        let h = high_fits b.size s.sides.2 b.y.0 s.y-on in
        (omega (arith, luma-sides.0), omega (arith, luma-sides.1))

    pub luma-record : record_at b + 640 ≤ 640 * frame_records (w4 b) (h4 b)
    luma-record =
        record-within (w4 b) (h4 b) b.x.0 b.y.0 (omega (arith, luma-cut.0, luma-seen.0)) (omega (arith, luma-cut.1, luma-seen.1))

    pub luma-lines : (level-stride len : ℕ) → w4 b ≤ level-stride → 4 * level-stride * h4 b ≤ len
        → (j : ℕ) → j < bh4 b → level_at level-stride b.x.0 b.y.0 0 + 4 * (j * level-stride + bw4 b) ≤ len + 2
    luma-lines level-stride len p q =
        lines-in level-stride (w4 b) (h4 b) len b.x.0 b.y.0 (bw4 b) (bh4 b) 0 p q luma-cut.0 luma-cut.1 (omega arith)

    pub luma-covers : b.inter ≡ true → Covers b.tx (bw4 b) (bh4 b)
    luma-covers i =
        let r = block-rule b.size s.sides.2 in
        let d = luma-sides in
        let z = luma-seen in
        let w = r.width.at_most in
        let h = r.height.at_most in
        let tw = r.tx-wide in
        let th = r.tx-high in
        ⊎_elim (λ m. subst (λ (t : ℕ). Covers t (bw4 b) (bh4 b)) (sym m)
        (record {
          code = r.tx;
          width = (z.0, omega arith);
          height = (z.1, omega arith);
          two = λ _. (omega arith, omega arith);
          flat = λ f. omega arith;
          tall = λ f. omega arith;
        }))
        (λ m. subst (λ (t : ℕ). Covers t (bw4 b) (bh4 b)) (sym m)
        (record {
          code = omega arith;
          width = (z.0, omega arith);
          height = (z.1, omega arith);
          two = λ f. absurd (omega arith);
          flat = λ f. absurd (square-flat f);
          tall = λ f. absurd (square-tall f);
        }))
        (s.largest i)

  -- ---- chroma

  module _ (e : sees_chroma b ≡ true) where
    both : (b.chroma ≡ true) × ((ltb 0 (cbw4 b) && ltb 0 (cbh4 b)) ≡ true)
    both = (and-eq-true_iff b.chroma (ltb 0 (cbw4 b) && ltb 0 (cbh4 b))).0 e

    pub chroma-tx : b.uvtx < 19
    chroma-tx = s.uvtx both.0

    pub chroma-seen : (0 < cbw4 b) × (0 < cbh4 b)
    chroma-seen = seen (cbw4 b) (cbh4 b) both.1

    pub chroma-cut : (chroma_unit (ss-hor b) b.x.0 + cbw4 b ≤ chroma_units (ss-hor b) (w4 b)) × (chroma_unit (ss-ver b) b.y.0 + cbh4 b ≤ chroma_units (ss-ver b) (h4 b))
    unfolding cbw4 cbh4
    chroma-cut = (
      (cut (chroma_units (ss-hor b) (w4 b)) (chroma_unit (ss-hor b) b.x.0) (chroma_units (ss-hor b) (block_width b)) (chroma-unit-le b.x.0 (w4 b) (ss-hor b) s.x-in (ss-hor-le b.layout))).0,
      (cut (chroma_units (ss-ver b) (h4 b)) (chroma_unit (ss-ver b) b.y.0) (chroma_units (ss-ver b) (block_height b)) (chroma-unit-le b.y.0 (h4 b) (ss-ver b) s.y-in (ss-ver-le b.layout))).0,
    )

    chroma-sides : (cbw4 b ≤ chroma_units (ss-hor b) (block_width b)) × (cbh4 b ≤ chroma_units (ss-ver b) (block_height b))
    unfolding cbw4 cbh4
    chroma-sides = (
      (cut (chroma_units (ss-hor b) (w4 b)) (chroma_unit (ss-hor b) b.x.0) (chroma_units (ss-hor b) (block_width b)) (chroma-unit-le b.x.0 (w4 b) (ss-hor b) s.x-in (ss-hor-le b.layout))).1,
      (cut (chroma_units (ss-ver b) (h4 b)) (chroma_unit (ss-ver b) b.y.0) (chroma_units (ss-ver b) (block_height b)) (chroma-unit-le b.y.0 (h4 b) (ss-ver b) s.y-in (ss-ver-le b.layout))).1,
    )

    pub chroma-place : (cbx4 b + cbw4 b ≤ 2 * half_units (ss-hor b)) × (cby4 b + cbh4 b ≤ 2 * half_units (ss-ver b))
    chroma-place =
        let d = chroma-sides in
        let w = chroma-fits (b.x.0 % 32) (block_width b) (ss-hor b) (wide_fits b.size s.sides.2 b.x.0 s.x-on) (ss-hor-le b.layout) in
        let h = chroma-fits (b.y.0 % 32) (block_height b) (ss-ver b) (high_fits b.size s.sides.2 b.y.0 s.y-on) (ss-ver-le b.layout) in
        (within (cbx4 b) _ _ _ d.0 w, within (cby4 b) _ _ _ d.1 h)
      where
        within : (u k m n : ℕ) → k ≤ m → u + m ≤ n → u + k ≤ n
        within u k m n p q = omega arith

    pub chroma-record-in : record_at b + 640 ≤ 640 * frame_records (w4 b) (h4 b)
    chroma-record-in =
        let z = chroma-seen in
        let d = chroma-cut in
        record-within (w4 b) (h4 b) b.x.0 b.y.0
        (chroma-record b.x.0 (w4 b) (ss-hor b) (less _ _ _ z.0 d.0) (ss-hor-le b.layout))
        (chroma-record b.y.0 (h4 b) (ss-ver b) (less _ _ _ z.1 d.1) (ss-ver-le b.layout))
      where
        less : (k u n : ℕ) → 0 < k → u + k ≤ n → u < n
        less k u n p q = omega arith

    pub chroma-lines : (level-stride len : ℕ) → w4 b ≤ level-stride → 4 * level-stride * h4 b ≤ len
        → (j : ℕ) → j < cbh4 b → level_at level-stride (chroma_unit (ss-hor b) b.x.0) (chroma_unit (ss-ver b) b.y.0) 2 + 4 * (j * level-stride + cbw4 b) ≤ len + 2
    chroma-lines level-stride len p q =
        lines-in level-stride (w4 b) (h4 b) len (chroma_unit (ss-hor b) b.x.0) (chroma_unit (ss-ver b) b.y.0) (cbw4 b) (cbh4 b) 2 p q
        (through chroma-cut.0 (chroma-units-le (w4 b) (ss-hor b) (ss-hor-le b.layout)))
        (through chroma-cut.1 (chroma-units-le (h4 b) (ss-ver b) (ss-ver-le b.layout))) (omega arith)
      where
        through : {k m n : ℕ} → k ≤ m → m ≤ n → k ≤ n
        through p q = omega arith
