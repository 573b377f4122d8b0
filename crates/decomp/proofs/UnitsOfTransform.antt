-- The units of one transform all have it: a part's side divides the side of what was split, so units that agree on the part agree on every bit above it.
use mathlib.Core.Path.{◌≡◌, refl, sym, ap, ap₂, ◌∙◌}
use mathlib.Core.Bool.{Bool, true, false, cond, not, ◌&&◌, false≢true}
use mathlib.Core.Logic.{by_cases}
use mathlib.Core.List.{List, [], ◌∷◌}
use Prim.Native.Nat.{ℕ, zero, suc, ◌+◌, ◌*◌, ◌/◌, ◌≤◌, ◌<◌}
use native.Mathlib.Decide.{dec_le}
use native.Mathlib.Nat.{div-div-eq-div-mul, mul_comm}
use native.Mathlib.Omega.{arith}
use lib.Dec.{eqb}
use lib.ListN.{get_or}
use Rattle.bits.specs.Bit.{has_bit}
use Rattle.standard.specs.Sizes.{Tx_Wide, Tx_High, Split_Tx_Size}
use Rattle.units.proofs.Rules.{tx-rule}
use Rattle.decomp.specs.Split.{is_split, leaf, tx_at}

module _ (x y x' y' : ℕ) where
  -- the two units lie in one transform of size t, counted from the corner
  abbrev Together : ℕ → Type 0
  Together t = (x / Tx_Wide t ≡ x' / Tx_Wide t) × (y / Tx_High t ≡ y' / Tx_High t)

-- a side that is halved, or stays
coarser : (own other s x x' : ℕ) → (other ≤ own → 2 * s ≡ own) → (own < other → s ≡ own) → x / s ≡ x' / s → x / own ≡ x' / own
coarser own other s x x' two one e =
    by_cases (dec_le other own)
    (λ q. let f = sym (mul_comm s 2 ∙ two q) in ap (λ (k : ℕ). x / k) f ∙ sym (div-div-eq-div-mul x s 2) ∙ ap (λ (k : ℕ). k / 2) e ∙ div-div-eq-div-mul x' s 2
    ∙ ap (λ (k : ℕ). x' / k) (sym f))
    (λ q. rw (one (omega arith)) at e)

module _ (x y x' y' : ℕ) where
  same_bit : (m t : ℕ) → Together x y x' y' t → is_split m t x' y' ≡ is_split m t x y
  unfolding is_split
  same_bit m t e = ap (λ (k : ℕ). not (eqb t 0) && has_bit m k) (ap₂ (λ (v u : ℕ). v * 4 + u) (sym e.1) (sym e.0))

  not_least : (m t : ℕ) → is_split m t x y ≡ true → 0 < t
  unfolding is_split
  not_least m zero e = absurd (false≢true e)
  not_least m (suc t) e = omega arith

  -- in one part, so in one transform
  above : (m t : ℕ) → t < 19 → is_split m t x y ≡ true → Together x y x' y' (Split_Tx_Size t) → Together x y x' y' t
  above m t h e g =
      let n = not_least m t e in
      let r = (tx-rule t h).split in (
        coarser (Tx_Wide t) (Tx_High t) (Tx_Wide (Split_Tx_Size t)) x x' (λ q. r.width q n) r.wide-stays g.0,
        coarser (Tx_High t) (Tx_Wide t) (Tx_High (Split_Tx_Size t)) y y' (λ q. r.height q n) r.high-stays g.1,
      )

  together : (ms : List ℕ) (t : ℕ) → t < 19 → Together x y x' y' (leaf ms t x y) → Together x y x' y' t
  together [] t h e = e
  together (m ∷ ms) t h e = go (is_split m t x y) refl (together ms (Split_Tx_Size t) (tx-rule t h).split.code) e
    where
      go : (b : Bool) → is_split m t x y ≡ b → (Together x y x' y' (leaf ms (Split_Tx_Size t) x y) → Together x y x' y' (Split_Tx_Size t))
          → Together x y x' y' (cond b (leaf ms (Split_Tx_Size t) x y) t) → Together x y x' y' t
      go true p k e = above m t h p (k e)
      go false p k e = e

  leaf-same : (ms : List ℕ) (t : ℕ) → t < 19 → Together x y x' y' (leaf ms t x y) → leaf ms t x' y' ≡ leaf ms t x y
  leaf-same [] t h e = refl
  leaf-same (m ∷ ms) t h e =
      go (is_split m t x y) refl (same_bit m t (together (m ∷ ms) t h e)) (leaf-same ms (Split_Tx_Size t) (tx-rule t h).split.code) e
    where
      go : (b : Bool) → is_split m t x y ≡ b → is_split m t x' y' ≡ is_split m t x y
          → (Together x y x' y' (leaf ms (Split_Tx_Size t) x y) → leaf ms (Split_Tx_Size t) x' y' ≡ leaf ms (Split_Tx_Size t) x y)
          → Together x y x' y' (cond b (leaf ms (Split_Tx_Size t) x y) t)
          → cond (is_split m t x' y') (leaf ms (Split_Tx_Size t) x' y') t ≡ cond b (leaf ms (Split_Tx_Size t) x y) t
      go true p q k e = rw (q ∙ p) (k e)
      go false p q k e = rw (q ∙ p) refl

  pub tx_at-same : (ms : List ℕ) (t : ℕ) → t < 19 → Together x y x' y' (tx_at ms t x y) → tx_at ms t x' y' ≡ tx_at ms t x y
  unfolding tx_at
  tx_at-same ms = leaf-same (get_or ms 0 0 ∷ get_or ms 1 0 ∷ [])
