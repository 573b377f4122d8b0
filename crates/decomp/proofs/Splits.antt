-- A split in the code's own terms: whether there is one, where its parts stand, and what their calls make of the tables. By the rules of the sizes.
use mathlib.Core.Path.{◌≡◌, refl, sym, ap, ◌∙◌}
use mathlib.Core.Bool.{Bool, true, false, cond, not, not-not, false≢true}
use mathlib.Core.Logic.{by_cases}
use mathlib.Core.List.{List, [], ◌∷◌}
use Prim.Native.Nat.{ℕ, zero, suc, ◌+◌, ◌*◌, ◌≤◌, ◌<◌}
use native.Mathlib.Decide.{ℕ_discrete, dec_le}
use native.Mathlib.Nat.{add-mul, mul_assoc, one-mul, le-mul_of_pos_right, mul-le-mul_right}
use native.Mathlib.Omega.{arith}
use lib.Dec.{ltb}
use lib.ListN.{get_or}
use borrow.Author.Tests.{ne_eqb, lt-ltb, le-ltb}
use Rattle.bits.specs.Bit.{has_bit}
use Rattle.standard.specs.Sizes.{Tx_Wide, Tx_High, Split_Tx_Size}
use Rattle.units.proofs.Rules.{tx-rule}
use Rattle.decomp.specs.Folds.{whole, grid, splits, splits_by, decomp, masks_from, Place}

-- ---- whether it is split

-- a test of the code that asks for `not`
pub unnot : (a : Bool) {b : Bool} → not a ≡ b → a ≡ not b
unnot a e = sym (not-not a) ∙ ap not e

module _ (d t y x : ℕ) (l : List ℕ) where
  pub split-least : t ≡ 0 → false ≡ splits_by (masks_from d l) t y x
  unfolding splits splits_by masks_from
  split-least e = go d
    where
      go : (d : ℕ) → false ≡ splits_by (masks_from d l) t y x
      go zero = rw e
      go (suc zero) = rw e
      go (suc (suc d)) = refl

pub split-deep : (d t y x : ℕ) (l : List ℕ) → 1 < d → false ≡ splits_by (masks_from d l) t y x
unfolding splits_by masks_from
split-deep zero t y x l h = absurd (omega arith)
split-deep (suc zero) t y x l h = absurd (omega arith)
split-deep (suc (suc d)) t y x l h = refl

pub split-bit : (d t y x : ℕ) (l : List ℕ) → (t ≡ 0 → ⊥) → d ≤ 1 → has_bit (get_or l d 0) (y * 4 + x) ≡ splits_by (masks_from d l) t y x
unfolding splits splits_by masks_from
split-bit zero t y x l n h = rw (ne_eqb t 0 n)
split-bit (suc zero) t y x l n h = rw (ne_eqb t 0 n)
split-bit (suc (suc d)) t y x l n h = absurd (omega arith)

pub not_least : (m t y x : ℕ) → splits m t y x ≡ true → 0 < t
unfolding splits
not_least m zero y x e = absurd (false≢true e)
not_least m (suc t) y x e = omega arith

-- then the depth is 0 or 1, and its mask says so
record Told (d t y x : ℕ) (l : List ℕ) : Type 0 where
  pub shallow : d < 2
  pub big : 0 < t
  pub by_mask : splits (get_or l d 0) t y x ≡ true
  pub next : masks_from d l ≡ get_or l d 0 ∷ masks_from (d + 1) l

told : (d t y x : ℕ) (l : List ℕ) → splits_by (masks_from d l) t y x ≡ true → Told d t y x l
unfolding splits_by masks_from
told zero t y x l e = record { shallow = omega arith; big = not_least _ t y x e; by_mask = e; next = refl }
told (suc zero) t y x l e = record { shallow = omega arith; big = not_least _ t y x e; by_mask = e; next = refl }
told (suc (suc d)) t y x l e = absurd (false≢true e)

-- ---- where its parts stand

-- part i of a side, the y-th of its size: one half of a long side, or the whole of a short one, which is the first
pub record Half (own s y i : ℕ) : Type 0 where
  pub at : (y * 2 + i) * s ≡ y * own + i * s
  pub room : i * s + s ≤ own

-- 0 * s and 1 * s
once : (i s : ℕ) → i < 2 → i * s ≤ s
once i s h = omega (arith, mul-le-mul_right {m = i} {n = 1} s (omega arith), one-mul s)

pub half : (own other s y i : ℕ) → (other ≤ own → 2 * s ≡ own) → (own < other → s ≡ own) → (own < other → y ≡ 0) → i < 2 → (i ≡ 1 → other ≤ own)
    → Half own s y i
half own other s y i two one none h f =
    by_cases (dec_le other own)
    (λ q. let e = two q in
    record { at = omega (arith, add-mul (y * 2) i s, mul_assoc y 2 s, ap (λ (k : ℕ). y * k) e); room = omega (arith, once i s h) })
    (λ q. let z = none (omega arith) in
    let e = one (omega arith) in
    let g : i ≡ 0 = by_cases (ℕ_discrete i 1) (λ r. absurd (q (f r))) (λ r. omega arith) in
    record {
      at = omega (arith, ap (λ (k : ℕ). (k * 2 + i) * s) z, ap (λ (k : ℕ). k * own) z, ap (λ (k : ℕ). k * s) g);
      room = omega (arith, ap (λ (k : ℕ). k * s) g);
    })

module _ (t d y x : ℕ) (p : Place t d y x) (n : 0 < t) where
  pub rows : (i : ℕ) → i < 2 → (i ≡ 1 → Tx_Wide t ≤ Tx_High t) → Half (Tx_High t) (Tx_High (Split_Tx_Size t)) y i
  rows i =
      let r = (tx-rule t p.code).split in
      half (Tx_High t) (Tx_Wide t) (Tx_High (Split_Tx_Size t)) y i (λ q. r.height q n) r.high-stays p.flat

  pub columns : (j : ℕ) → j < 2 → (j ≡ 1 → Tx_High t ≤ Tx_Wide t) → Half (Tx_Wide t) (Tx_Wide (Split_Tx_Size t)) x j
  columns j =
      let r = (tx-rule t p.code).split in
      half (Tx_Wide t) (Tx_High t) (Tx_Wide (Split_Tx_Size t)) x j (λ q. r.width q n) r.wide-stays p.tall

  pub part : (i j : ℕ) → d < 2 → i < 2 → j < 2 → (i ≡ 1 → Tx_Wide t ≤ Tx_High t) → (j ≡ 1 → Tx_High t ≤ Tx_Wide t)
      → Place (Split_Tx_Size t) (d + 1) (y * 2 + i) (x * 2 + j)
  part i j b hi hj f g =
      let r = (tx-rule t p.code).split in
      let u = tx-rule (Split_Tx_Size t) r.code in
      let v = rows i hi f in
      let w = columns j hj g in
      record {
        code = r.code;
        deep = omega arith;
        row = omega (arith, le-mul_of_pos_right (y * 2 + i) u.height.low, p.height);
        column = omega (arith, le-mul_of_pos_right (x * 2 + j) u.width.low, p.width);
        height = omega (arith, p.height);
        width = omega (arith, p.width);
        flat = λ q. none y i (p.flat (r.flat q)) hi (λ e. omega (arith, f e, r.flat q));
        tall = λ q. none x j (p.tall (r.tall q)) hj (λ e. omega (arith, g e, r.tall q));
        near = λ q l. let k = p.near n b in omega arith;
      }
    where
      none : (y i : ℕ) → y ≡ 0 → i < 2 → (i ≡ 1 → ⊥) → y * 2 + i ≡ 0
      none y i e h f = by_cases (ℕ_discrete i 1) (λ r. absurd (f r)) (λ r. omega arith)

-- ---- what the calls make of the tables

pub decomp-whole : (ms : List ℕ) (t y x : ℕ) (a : List ℕ) → splits_by ms t y x ≡ false → decomp ms t y x a ≡ whole t y x a
unfolding decomp splits_by
decomp-whole [] t y x a e = refl
decomp-whole (m ∷ ms) t y x a e = rw e

-- the parts of a split at the code's own numbers: their places, and their calls one after the other
pub record Parts (l : List ℕ) (t d y x s w h : ℕ) : Type 0 where
  pub deeper : d + 1 ≤ 2
  pub place : (i j : ℕ) → i < 2 → j < 2 → (i ≡ 1 → w ≤ h) → (j ≡ 1 → h ≤ w) → Place s (d + 1) (y * 2 + i) (x * 2 + j)
  pub calls : (a : List ℕ) → decomp (masks_from d l) t y x a
      ≡ grid (cond (ltb w h) 1 2) (cond (ltb h w) 1 2) (λ i j. decomp (masks_from (d + 1) l) s (y * 2 + i) (x * 2 + j)) a

pub parts : (l : List ℕ) (t d y x s w h : ℕ) → Place t d y x → splits_by (masks_from d l) t y x ≡ true → s ≡ Split_Tx_Size t → w ≡ Tx_Wide t → h ≡ Tx_High t
    → Parts l t d y x s w h
unfolding decomp
parts l t d y x s w h p e es ew eh =
    let k = told d t y x l e in
    rw (es, ew, eh)
    (record {
      deeper = omega (arith, k.shallow);
      place = λ i j. part t d y x p k.big i j k.shallow;
      calls = λ a. rw (k.next, k.by_mask) refl;
    })

module _ {l : List ℕ} {t d y x s w h : ℕ} (k : Parts l t d y x s w h) (a b₀ : List ℕ)
    (e₀ : b₀ ≡ decomp (masks_from (d + 1) l) s (y * 2 + 0) (x * 2 + 0) a) where
  pub four : (b₁ b₂ b₃ : List ℕ) → h ≡ w → b₁ ≡ decomp (masks_from (d + 1) l) s (y * 2 + 0) (x * 2 + 1) b₀
      → b₂ ≡ decomp (masks_from (d + 1) l) s (y * 2 + 1) (x * 2 + 0) b₁ → b₃ ≡ decomp (masks_from (d + 1) l) s (y * 2 + 1) (x * 2 + 1) b₂
      → b₃ ≡ decomp (masks_from d l) t y x a
  four b₁ b₂ b₃ e e₁ e₂ e₃ = rw (k.calls a, le-ltb w h (omega arith), le-ltb h w (omega arith)) (e₃ ∙ rw (e₂, e₁, e₀) refl)

  pub across : (b₁ : List ℕ) → h < w → b₁ ≡ decomp (masks_from (d + 1) l) s (y * 2 + 0) (x * 2 + 1) b₀ → b₁ ≡ decomp (masks_from d l) t y x a
  across b₁ e e₁ = rw (k.calls a, le-ltb w h (omega arith), lt-ltb h w e) (e₁ ∙ rw e₀ refl)

  pub down : (b₁ : List ℕ) → w < h → b₁ ≡ decomp (masks_from (d + 1) l) s (y * 2 + 1) (x * 2 + 0) b₀ → b₁ ≡ decomp (masks_from d l) t y x a
  down b₁ e e₁ = rw (k.calls a, lt-ltb w h e, le-ltb h w (omega arith)) (e₁ ∙ rw e₀ refl)
