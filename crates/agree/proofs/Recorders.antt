-- The blocks that the recorders take are seen blocks: a part of a transform is no larger than the transform.
use mathlib.Core.Path.{◌≡◌, refl, sym, ap, ◌∙◌}
use mathlib.Core.Bool.{Bool, true, false, cond, not, ◌&&◌, ◌||◌, or-true, or-false}
use mathlib.Core.Logic.{by_cases}
use mathlib.Core.List.{List, [], ◌∷◌}
use Prim.Native.Nat.{ℕ, ◌*◌, ◌≤◌, ◌<◌}
use native.Mathlib.Decide.{ℕ_discrete, dec_le}
use native.Mathlib.Omega.{arith}
use lib.ListN.{get_or}
use borrow.Author.Tests.{ne_eqb}
use Rattle.standard.specs.Sizes.{Tx_Wide, Tx_High, Split_Tx_Size}
use Rattle.standard.specs.Edge.{Frame}
use Rattle.units.specs.Sizes.{luma_class, chroma_class}
use Rattle.units.proofs.Rules.{tx-rule}
use Rattle.decomp.specs.Split.{leaf, is_split, tx_at}
use Rattle.mask_edges.specs.Recording.{block_of, intra_block, inter_block, chroma_block}
use Rattle.agree.specs.Legal.{Coded, class_of, Shows, Sized}

-- ---- parts

record Part (s t : ℕ) : Type 0 where
  pub code : s < 19
  pub width : Tx_Wide s ≤ Tx_Wide t
  pub height : Tx_High s ≤ Tx_High t

whole : (t : ℕ) → t < 19 → Part t t
whole t h = record { code = h; width = omega arith; height = omega arith }

-- the side is halved, or stays; 4x4 stays
side : (own other part t : ℕ) → (other ≤ own → 0 < t → 2 * part ≡ own) → (own < other → part ≡ own) → (t ≡ 0 → part ≡ own) → part ≤ own
side own other part t two one least =
    by_cases (ℕ_discrete t 0) (λ e. omega (arith, least e))
    (λ n. by_cases (dec_le other own) (λ q. omega (arith, two q (omega arith))) (λ q. omega (arith, one (omega arith))))

half : (t : ℕ) → t < 19 → Part (Split_Tx_Size t) t
half t h =
    let r = (tx-rule t h).split in
    record {
      code = r.code;
      width = side (Tx_Wide t) (Tx_High t) (Tx_Wide (Split_Tx_Size t)) t r.width r.wide-stays (λ e. ap Tx_Wide (r.least e ∙ sym e));
      height = side (Tx_High t) (Tx_Wide t) (Tx_High (Split_Tx_Size t)) t r.height r.high-stays (λ e. ap Tx_High (r.least e ∙ sym e));
    }

leaf-part : (ms : List ℕ) (t : ℕ) → t < 19 → (x y : ℕ) → Part (leaf ms t x y) t
leaf-part [] t h x y = whole t h
leaf-part (m ∷ ms) t h x y = let p = half t h in go p (leaf-part ms (Split_Tx_Size t) p.code x y) (is_split m t x y)
  where
    go : {s : ℕ} → Part (Split_Tx_Size t) t → Part s (Split_Tx_Size t) → (b : Bool) → Part (cond b s t) t
    go p q true = record { code = q.code; width = omega arith; height = omega arith }
    go p q false = whole t h

-- ---- the three blocks

module _ (D : Frame) (plane : ℕ) (C : Coded) (by4 bx4 w4 h4 t : ℕ) (tx : ℕ → ℕ → ℕ) (a l : List ℕ) (part : (x y : ℕ) → Part (tx x y) t) where
  shows : (class : ℕ → ℕ) (inner : Bool) → Sized D plane C w4 h4 t tx → ((n : ℕ) → class n ≡ class_of plane n) → inner ≡ (not C.Skip || C.is_intra)
      → Shows D plane C (block_of class inner tx by4 bx4 w4 h4 a l)
  shows class inner s e f =
      record {
        wide-seen = s.wide-seen;
        high-seen = s.high-seen;
        tx = s.known;
        code = λ x y _ _. (part x y).code;
        fits = λ x y _ _. (omega (arith, (part x y).width, s.fits.0), omega (arith, (part x y).height, s.fits.1));
        class = e;
        inner = f;
      }

pub intra-shows : (D : Frame) (C : Coded) (by4 bx4 w4 h4 t : ℕ) (a l : List ℕ) → Sized D 0 C w4 h4 t (λ _ _. t) → C.is_intra ≡ true
    → Shows D 0 C (intra_block by4 bx4 w4 h4 t a l)
intra-shows D C by4 bx4 w4 h4 t a l s e =
    shows D 0 C by4 bx4 w4 h4 t (λ _ _. t) a l (λ _ _. whole t s.code) luma_class true s (λ n. refl) (rw e (sym (or-true (not C.Skip))))

pub inter-shows : (D : Frame) (C : Coded) (by4 bx4 w4 h4 t : ℕ) (tx-masks a l : List ℕ) → Sized D 0 C w4 h4 t (tx_at tx-masks t) → C.is_intra ≡ false
    → Shows D 0 C (inter_block by4 bx4 w4 h4 C.Skip t tx-masks a l)
unfolding tx_at
inter-shows D C by4 bx4 w4 h4 t ms a l s e =
    shows D 0 C by4 bx4 w4 h4 t (tx_at ms t) a l (leaf-part (get_or ms 0 0 ∷ get_or ms 1 0 ∷ []) t s.code) luma_class (not C.Skip) s (λ n. refl)
    (rw e (sym (or-false (not C.Skip))))

pub chroma-shows : (D : Frame) (plane : ℕ) (C : Coded) (by4 bx4 w4 h4 t : ℕ) (a l : List ℕ) → 0 < plane → Sized D plane C w4 h4 t (λ _ _. t)
    → Shows D plane C (chroma_block by4 bx4 w4 h4 (C.Skip && not C.is_intra) t a l)
chroma-shows D plane C by4 bx4 w4 h4 t a l h s =
    shows D plane C by4 bx4 w4 h4 t (λ _ _. t) a l (λ _ _. whole t s.code) chroma_class (not (C.Skip && not C.is_intra)) s
    (λ n. rw (ne_eqb plane 0 (λ e. omega arith)) refl) (counts C.Skip C.is_intra)
  where
    counts : (skip intra : Bool) → not (skip && not intra) ≡ (not skip || intra)
    counts true true = refl
    counts true false = refl
    counts false intra = refl
