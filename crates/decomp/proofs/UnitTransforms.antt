-- The tables tell each unit's transform: a split's parts paint what the split tells of their units, by recursion on the masks left.
-- And the units of one transform all have it: a transform's side divides the side of the one that was split.
use mathlib.Core.Path.{◌≡◌, refl, sym, ap, ap₂, ◌∙◌}
use mathlib.Core.Bool.{Bool, true, false, cond, not, ◌&&◌}
use mathlib.Core.Logic.{by_cases}
use mathlib.Core.List.{List, [], ◌∷◌}
use Prim.Native.Nat.{ℕ, ◌+◌, ◌-◌, ◌*◌, ◌/◌, ◌%◌, ◌≤◌, ◌<◌}
use native.Mathlib.Decide.{dec_lt}
use native.Mathlib.Nat.{add-mul, one-mul, mod-lt, div-eq_of_lt-le, div-lt_iff_lt-mul, zero-add}
use native.Mathlib.Omega.{arith}
use lib.Dec.{eqb, ltb}
use lib.ListN.{length, get_or}
use borrow.Author.Tests.{lt-ltb, le-ltb}
use Rattle.bits.specs.Bit.{has_bit}
use Rattle.standard.specs.Sizes.{Tx_Wide, Tx_High, Split_Tx_Size}
use Rattle.units.specs.Sizes.{TxRule}
use Rattle.units.proofs.Rules.{tx-rule}
use Rattle.decomp.specs.Split.{is_split, leaf, tx_at}
use Rattle.decomp.specs.Cells.{cell, Covers, Cells}
use Rattle.decomp.specs.Folds.{value, wide_in, high_in, whole, grid, splits, decomp, masks_from, counted, block, Place}
use Rattle.decomp.proofs.Splits.{not_least, rows, columns, part}
use Rattle.decomp.proofs.Blocks.{place}
use Rattle.decomp.proofs.Paints.{In, Paints, paint-on, paints-grid, paints-same, paints-whole}

-- ---- one split

div-in : (n s x : ℕ) → n * s ≤ x → x < n * s + s → x / s ≡ n
div-in n s x p q = div-eq_of_lt-le s p (omega (arith, add-mul n 1 s, one-mul s))

-- the units of a transform have its bit
split_at : (m t Y X y x : ℕ) → In (Y * Tx_High t) (X * Tx_Wide t) (Tx_High t) (Tx_Wide t) y x → is_split m t x y ≡ splits m t Y X
unfolding is_split splits
split_at m t Y X y x i =
    ap (λ (k : ℕ). not (eqb t 0) && has_bit m k)
    (ap₂ (λ (v u : ℕ). v * 4 + u) (div-in Y (Tx_High t) y i.0 i.1) (div-in X (Tx_Wide t) x i.2 i.3))

-- its parts along a side: two of a long one, one of a short one
module _ (own other s : ℕ) where
  all-parts : (other ≤ own → 2 * s ≡ own) → (own < other → s ≡ own) → cond (ltb own other) 1 2 * s ≡ own
  all-parts two one =
      by_cases (dec_lt own other)
      (λ q. rw (lt-ltb own other q) (one-mul s ∙ one q))
      (λ q. rw (le-ltb own other (omega arith)) (two (omega arith)))

  each_part : (i : ℕ) → i < cond (ltb own other) 1 2 → (i < 2) × (i ≡ 1 → other ≤ own)
  each_part i h =
      by_cases (dec_lt own other)
      (λ q. let k = rw (lt-ltb own other q) at h in (omega arith, λ e. omega arith))
      (λ q. let k = rw (le-ltb own other (omega arith)) at h in (omega arith, λ e. omega arith))

-- ---- the tables

-- the parts of a split cover it
paints-parts : (t d y x : ℕ) (tx : ℕ → ℕ → ℕ) (g : ℕ → ℕ → List ℕ → List ℕ) → Place t d y x → 0 < t → d < 2
    → ((i j : ℕ) → Place (Split_Tx_Size t) (d + 1) (y * 2 + i) (x * 2 + j)
    → Paints (In ((y * 2 + i) * Tx_High (Split_Tx_Size t)) ((x * 2 + j) * Tx_Wide (Split_Tx_Size t)) (Tx_High (Split_Tx_Size t)) (Tx_Wide (Split_Tx_Size t)))
    tx (g i j))
    → Paints (In (y * Tx_High t) (x * Tx_Wide t) (Tx_High t) (Tx_Wide t)) tx
    (grid (cond (ltb (Tx_Wide t) (Tx_High t)) 1 2) (cond (ltb (Tx_High t) (Tx_Wide t)) 1 2) g)
paints-parts t d y x tx g p n b k =
    let r = (tx-rule t p.code).split in
    let eh = all-parts (Tx_High t) (Tx_Wide t) (Tx_High (Split_Tx_Size t)) (λ q. r.height q n) r.high-stays in
    let ew = all-parts (Tx_Wide t) (Tx_High t) (Tx_Wide (Split_Tx_Size t)) (λ q. r.width q n) r.wide-stays in
    rw (eh, ew) at
    (paints-grid tx (y * Tx_High t) (x * Tx_Wide t) (Tx_High (Split_Tx_Size t)) (Tx_Wide (Split_Tx_Size t)) _ _ g (omega (arith, p.height))
    (omega (arith, p.width))
    (λ i j hi hj. let f = each_part (Tx_High t) (Tx_Wide t) (Tx_High (Split_Tx_Size t)) i hi in
    let h = each_part (Tx_Wide t) (Tx_High t) (Tx_Wide (Split_Tx_Size t)) j hj in
    rw ((rows t d y x p n i f.0 f.1).at, (columns t d y x p n j h.0 h.1).at) at
    (k i j (part t d y x p n i j b f.0 h.0 f.1 h.1))))

paints-decomp : (ms : List ℕ) (t d y x : ℕ) → d + length ms ≤ 2 → Place t d y x
    → Paints (In (y * Tx_High t) (x * Tx_Wide t) (Tx_High t) (Tx_Wide t)) (leaf ms t) (decomp ms t y x)
unfolding decomp
paints-decomp [] t d y x b p = paints-whole t y x p.code p.height p.width
paints-decomp (m ∷ ms) t d y x b p =
    go (splits m t y x) refl
    (λ n. paints-parts t d y x (leaf ms (Split_Tx_Size t)) (λ i j. decomp ms (Split_Tx_Size t) (y * 2 + i) (x * 2 + j)) p n (omega arith)
    (λ i j. paints-decomp ms (Split_Tx_Size t) (d + 1) (y * 2 + i) (x * 2 + j) (omega arith)))
  where
    R : ℕ → ℕ → Type 0
    R = In (y * Tx_High t) (x * Tx_Wide t) (Tx_High t) (Tx_Wide t)

    told : (s : Bool) → splits m t y x ≡ s → (v u : ℕ) → R v u → cond s (leaf ms (Split_Tx_Size t) u v) t ≡ leaf (m ∷ ms) t u v
    told s e v u i = sym (ap (λ (c : Bool). cond c (leaf ms (Split_Tx_Size t) u v) t) (split_at m t y x v u i ∙ e))

    go : (s : Bool) → splits m t y x ≡ s
        → (0 < t → Paints R (leaf ms (Split_Tx_Size t)) (grid (cond (ltb (Tx_Wide t) (Tx_High t)) 1 2) (cond (ltb (Tx_High t) (Tx_Wide t)) 1 2)
        (λ i j. decomp ms (Split_Tx_Size t) (y * 2 + i) (x * 2 + j))))
        → Paints R (leaf (m ∷ ms) t) (decomp (m ∷ ms) t y x)
    go false e k = rw e (paints-same R (λ _ _. t) (leaf (m ∷ ms) t) (whole t y x) (told false e) (paints-whole t y x p.code p.height p.width))
    go true e k = rw e (paints-same R (leaf ms (Split_Tx_Size t)) (leaf (m ∷ ms) t) _ (told true e) (k (not_least m t y x e)))

leaf-code : (ms : List ℕ) (t x y : ℕ) → t < 19 → leaf ms t x y < 19
leaf-code [] t x y h = h
leaf-code (m ∷ ms) t x y h = go (is_split m t x y) (leaf-code ms (Split_Tx_Size t) x y (tx-rule t h).split.code)
  where
    go : (b : Bool) → leaf ms (Split_Tx_Size t) x y < 19 → cond b (leaf ms (Split_Tx_Size t) x y) t < 19
    go true k = k
    go false k = h

pub tx_at-code : (ms : List ℕ) (t x y : ℕ) → t < 19 → tx_at ms t x y < 19
unfolding tx_at
tx_at-code ms = leaf-code (get_or ms 0 0 ∷ get_or ms 1 0 ∷ [])

-- ---- a block

-- the transforms that n units have cover them, and end within the tables
covered : (n side : ℕ) → 0 < side → (n - 1) / side * side + side ≤ 32 → (n ≤ counted n side * side) × (counted n side * side ≤ 32)
covered n side s h =
    let e = add-mul ((n - 1) / side) 1 side in
    let o = one-mul side in
    let l = (div-lt_iff_lt-mul {k = side} {x = n - 1} {y = counted n side} s).0 (omega arith) in
    (omega arith, omega arith)

module _ (ms : List ℕ) (t w4 h4 : ℕ) (c : Covers t w4 h4) where
  last : Place t 0 ((h4 - 1) / Tx_High t) ((w4 - 1) / Tx_Wide t)
  last = place t w4 h4 c ((h4 - 1) / Tx_High t) ((w4 - 1) / Tx_Wide t) (omega arith) (omega arith)

  down : (h4 ≤ counted h4 (Tx_High t) * Tx_High t) × (counted h4 (Tx_High t) * Tx_High t ≤ 32)
  down = covered h4 (Tx_High t) (tx-rule t c.code).height.low last.height

  across : (w4 ≤ counted w4 (Tx_Wide t) * Tx_Wide t) × (counted w4 (Tx_Wide t) * Tx_Wide t ≤ 32)
  across = covered w4 (Tx_Wide t) (tx-rule t c.code).width.low last.width

  paints-block : Paints (In 0 0 (counted h4 (Tx_High t) * Tx_High t) (counted w4 (Tx_Wide t) * Tx_Wide t)) (tx_at ms t) (block ms t w4 h4)
  unfolding block masks_from tx_at
  paints-block =
      paints-grid (tx_at ms t) 0 0 (Tx_High t) (Tx_Wide t) (counted w4 (Tx_Wide t)) (counted h4 (Tx_High t))
      (decomp (get_or ms 0 0 ∷ get_or ms 1 0 ∷ []) t) (omega (arith, down)) (omega (arith, across))
      (λ y x hy hx. rw (zero-add (y * Tx_High t), zero-add (x * Tx_Wide t))
      (paints-decomp (get_or ms 0 0 ∷ get_or ms 1 0 ∷ []) t 0 y x (omega arith) (place t w4 h4 c y x hy hx)))

  module _ (a : List ℕ) (l : length a ≡ 4096) where
    told : (x y p : ℕ) → x < w4 → y < h4 → p < 4 → x % Tx_Wide (tx_at ms t x y) < wide_in p (Tx_Wide (tx_at ms t x y))
        → y % Tx_High (tx_at ms t x y) < high_in p (Tx_High (tx_at ms t x y))
        → get_or (block ms t w4 h4 a) (cell p y x) 0 ≡ value p (Tx_Wide (tx_at ms t x y)) (Tx_High (tx_at ms t x y))
    told x y p hx hy h u v = paints-block.inside a l p y x h (omega (arith, down, across)) ∙ paint-on p (tx_at ms t x y) y x _ u v

    pub cells : Cells (tx_at ms t) w4 h4 (block ms t w4 h4 a)
    cells =
        record {
          long = paints-block.long a l;
          class-across = λ x y hx hy. told x y 0 hx hy (omega arith) (mod-lt x (rule x y).width.low) (mod-lt y (rule x y).height.low);
          step-across = λ x y hx hy e. told x y 1 hx hy (omega arith) (omega arith) (mod-lt y (rule x y).height.low);
          class-down = λ x y hx hy. told x y 2 hx hy (omega arith) (mod-lt x (rule x y).width.low) (mod-lt y (rule x y).height.low);
          step_down = λ x y hx hy e. told x y 3 hx hy (omega arith) (mod-lt x (rule x y).width.low) (omega arith);
        }
      where
        rule : (x y : ℕ) → TxRule (tx_at ms t x y)
        rule x y = tx-rule (tx_at ms t x y) (tx_at-code ms t x y c.code)
