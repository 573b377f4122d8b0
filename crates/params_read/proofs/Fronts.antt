-- Lists that a loop fills from the front: what lies behind is as before, and so is the element that comes next.
use mathlib.Core.Bool.{Bool, true, false, cond}
use mathlib.Core.List.{List}
use mathlib.Core.Path.{◌≡◌, sym, ap, ◌∙◌}
use Prim.Native.Nat.{ℕ, ◌+◌, ◌<◌}
use native.Mathlib.Nat.{add-zero}
use lib.IntN.{ℤ}
use lib.ListN.{get_or, drop}
use lib.Seq.{get_or-drop, drop-drop}
use lib.Signed.{mag}
use mir.Syntax.{w8}
use mir.Val.{to_z, of_z}
use Rattle.standard.specs.Header.{su_of}
use Rattle.deltas.proofs.Bias.{seen}
use Rattle.bit_place.proofs.Sevens.{kept}

pub next-same : {A : Type 0} (i : ℕ) (a b : List A) (d : A) → drop i a ≡ drop i b → get_or a i d ≡ get_or b i d
next-same {A} i a b d e =
    ap (λ (n : ℕ). get_or a n d) (sym (add-zero i)) ∙ sym (get_or-drop i a 0 d) ∙ ap (λ (l : List A). get_or l 0 d) e ∙ get_or-drop i b 0 d
    ∙ ap (λ (n : ℕ). get_or b n d) (add-zero i)

pub behind-same : {A : Type 0} (i : ℕ) (a b : List A) → drop i a ≡ drop i b → drop (i + 1) a ≡ drop (i + 1) b
behind-same {A} i a b e = sym (drop-drop 1 i a) ∙ ap (λ (l : List A). drop 1 l) e ∙ drop-drop 1 i b

-- a delta that is stored is read back, sent or not
pub stored : (t : Bool) (v : ℕ) (r x y : ℤ) → v < 128 → mag x < 128 → r ≡ cond t (su_of v) (to_z w8 (of_z w8 x)) → x ≡ y → to_z w8 (of_z w8 r) ≡ cond t (su_of v) y
stored true v r x y h g e q = ap (λ (z : ℤ). to_z w8 (of_z w8 z)) e ∙ kept v h
stored false v r x y h g e q = ap (λ (z : ℤ). to_z w8 (of_z w8 z)) (e ∙ seen x g) ∙ seen x g ∙ q
