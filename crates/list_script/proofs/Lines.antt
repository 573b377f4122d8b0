-- What each answer of the reader is, in terms of what its calls ensure.
-- ---- the fields that there are
use mathlib.Core.Bool.{true, false, cond, or-true}
use mathlib.Core.List.{List}
use mathlib.Core.Path.{◌≡◌, sym, ◌∙◌}
use Prim.Native.Nat.{ℕ, ◌+◌, ◌≤◌, ◌<◌}
use native.Mathlib.Omega.{arith}
use borrow.Author.Tests.{eq-eqb, ne_eqb}
use lib.Dec.{eqb}
use lib.ListN.{length}
use Rattle.list_fields.specs.Fields.{place}
use Rattle.list_fields.specs.Word.{packed}
use Rattle.list_fields.proofs.Cuts.{place_in}
use Rattle.list_script.specs.Names.{block_in, tx_in, frame_word, level_word, block_word, intra_word, no_word}
use Rattle.list_script.specs.Script.{space, Has, at, number_at, no_numbers, no_words, frame_of, level_of, block_of, seven_of, line_of}
use Rattle.list_script.specs.Line.{Line, Frame, Level, Block, Form}

pub has-at : (s : List ℕ) (n k : ℕ) → Has s n → k < n → (place space s k ≤ length s) × (length s + k < 18446744073709551615)
has-at s n k h l = (h.begins k l, omega (arith, h.small))

pub has_of : (s : List ℕ) (n p : ℕ) → length s < 9223372036854775808 → n ≤ 8 → p ≡ place space s n → p ≡ length s + 1 → Has s n
has_of s n p l h e f = record { small = omega arith; begins = λ k g. place_in space s n k (sym e ∙ f) g }

-- ---- words

pub is_none : (a x y : ℕ) → a ≡ packed no_word → x ≡ cond (eqb a (packed no_word)) x y
is_none a x y e = simp (eq-eqb a (packed no_word) e)

pub is-given : (a x y : ℕ) → (a ≡ packed no_word → ⊥) → y ≡ cond (eqb a (packed no_word)) x y
is-given a x y e = simp (ne_eqb a (packed no_word) e)

-- ---- lines

pub frame-form : (s : List ℕ) → no_numbers s 6 ≡ true → Form ≡ frame_of s
unfolding frame_of
frame-form s e = simp e

pub frame-line : (s : List ℕ) (a b c d e f : ℕ) → no_numbers s 6 ≡ false → a ≡ number_at s 1 → b ≡ number_at s 2 → c ≡ number_at s 3 → d ≡ number_at s 4
    → e ≡ number_at s 5 → f ≡ number_at s 6 → Frame a b c d e f ≡ frame_of s
unfolding frame_of
frame-line s a b c d e f n p₁ p₂ p₃ p₄ p₅ p₆ = rw (p₁, p₂, p₃, p₄, p₅, p₆) (simp n)

pub level-other : (s : List ℕ) (w : ℕ) → w ≡ packed (at s 0) → (w ≡ packed level_word → ⊥) → Form ≡ level_of s
unfolding level_of
level-other s w p q = simp (ne_eqb (packed (at s 0)) (packed level_word) (λ e. q (p ∙ e)))

pub level-form : (s : List ℕ) → no_numbers s 4 ≡ true → Form ≡ level_of s
unfolding level_of
level-form s e = simp (e, or-true)

pub level-line : (s : List ℕ) (w a b c d : ℕ) → w ≡ packed (at s 0) → w ≡ packed level_word → no_numbers s 4 ≡ false
    → a ≡ number_at s 1 → b ≡ number_at s 2 → c ≡ number_at s 3 → d ≡ number_at s 4 → Level a b c d ≡ level_of s
unfolding level_of
level-line s w a b c d p q n p₁ p₂ p₃ p₄ =
    rw (p₁, p₂, p₃, p₄) (simp (eq-eqb (packed (at s 0)) (packed level_word) (sym p ∙ q), n))

pub block-form : (s : List ℕ) → no_numbers s 2 ≡ true → Form ≡ block_of s
unfolding block_of
block-form s e = simp e

pub block-empty : (s : List ℕ) → no_numbers s 2 ≡ false → no_words s ≡ true → Form ≡ block_of s
unfolding block_of
block-empty s e f = simp (e, f)

pub block-other : (s : List ℕ) (w : ℕ) → no_numbers s 2 ≡ false → no_words s ≡ false → w ≡ packed (at s 6) → (w ≡ packed intra_word → ⊥) → Form ≡ block_of s
unfolding block_of
block-other s w e f p q = simp (e, f, ne_eqb (packed (at s 6)) (packed intra_word) (λ z. q (p ∙ z)))

pub block-line : (s : List ℕ) (w v₃ v₄ v₅ a b c d e f : ℕ) → no_numbers s 2 ≡ false → no_words s ≡ false → w ≡ packed (at s 6) → w ≡ packed intra_word
    → v₃ ≡ packed (at s 3) → v₄ ≡ packed (at s 4) → v₅ ≡ packed (at s 5)
    → a ≡ number_at s 1 → b ≡ number_at s 2 → c ≡ block_in v₃ → d ≡ tx_in v₄
    → e ≡ cond (eqb v₅ (packed no_word)) 0 1 → f ≡ cond (eqb v₅ (packed no_word)) 0 (tx_in v₅) → Block a b c d e f ≡ block_of s
unfolding block_of
block-line s w v₃ v₄ v₅ a b c d e f n m p q q₃ q₄ q₅ p₁ p₂ p₃ p₄ p₅ p₆ =
    rw (p₁, p₂, p₃, p₄, p₅, p₆, q₃, q₄, q₅) (simp (n, m, eq-eqb (packed (at s 6)) (packed intra_word) (sym p ∙ q)))

pub seven-frame : (s : List ℕ) (w : ℕ) (l : Line) → w ≡ packed (at s 0) → w ≡ packed frame_word → l ≡ frame_of s → l ≡ seven_of s
unfolding seven_of
seven-frame s w l p q e = e ∙ simp (eq-eqb (packed (at s 0)) (packed frame_word) (sym p ∙ q))

pub seven-block : (s : List ℕ) (w : ℕ) (l : Line) → w ≡ packed (at s 0) → (w ≡ packed frame_word → ⊥) → w ≡ packed block_word → l ≡ block_of s → l ≡ seven_of s
unfolding seven_of
seven-block s w l p q r e =
    e ∙ simp (ne_eqb (packed (at s 0)) (packed frame_word) (λ z. q (p ∙ z)), eq-eqb (packed (at s 0)) (packed block_word) (sym p ∙ r))

pub seven-form : (s : List ℕ) (w : ℕ) → w ≡ packed (at s 0) → (w ≡ packed frame_word → ⊥) → (w ≡ packed block_word → ⊥) → Form ≡ seven_of s
unfolding seven_of
seven-form s w p q r =
    simp (ne_eqb (packed (at s 0)) (packed frame_word) (λ z. q (p ∙ z)), ne_eqb (packed (at s 0)) (packed block_word) (λ z. r (p ∙ z)))

pub line-five : (s : List ℕ) (p : ℕ) (l : Line) → p ≡ place space s 5 → p ≡ length s + 1 → l ≡ level_of s → l ≡ line_of s
unfolding line_of
line-five s p l e f g = g ∙ simp (eq-eqb (place space s 5) (length s + 1) (sym e ∙ f))

pub line-seven : (s : List ℕ) (p q : ℕ) (l : Line) → p ≡ place space s 5 → (p ≡ length s + 1 → ⊥) → q ≡ place space s 7 → q ≡ length s + 1 → l ≡ seven_of s → l ≡ line_of s
unfolding line_of
line-seven s p q l e f g h i =
    i ∙ simp (ne_eqb (place space s 5) (length s + 1) (λ z. f (e ∙ z)), eq-eqb (place space s 7) (length s + 1) (sym g ∙ h))

pub line-form : (s : List ℕ) (p q : ℕ) → p ≡ place space s 5 → (p ≡ length s + 1 → ⊥) → q ≡ place space s 7 → (q ≡ length s + 1 → ⊥) → Form ≡ line_of s
unfolding line_of
line-form s p q e f g h =
    simp (ne_eqb (place space s 5) (length s + 1) (λ z. f (e ∙ z)), ne_eqb (place space s 7) (length s + 1) (λ z. h (g ∙ z)))
