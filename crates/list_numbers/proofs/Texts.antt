-- Two texts of refused lines are the same only for the same line and number: digits end at the first byte that is none, and a number is the value of its digits.
use mathlib.Core.Bool.{true, false, false≢true}
use mathlib.Core.List.{List, [], ◌∷◌, ◌++◌, append_assoc}
use mathlib.Core.Logic.{by_cases}
use mathlib.Core.Path.{◌≡◌, refl, sym, ap, ◌∙◌}
use Prim.Native.Nat.{ℕ, zero, suc, ◌+◌, ◌/◌, ◌%◌, ◌≤◌, ◌<◌}
use native.Mathlib.Decide.{dec_lt}
use native.Mathlib.Omega.{arith}
use borrow.Author.Tests.{le-leb}
use lib.ListN.{get_or, drop}
use Rattle.loops.proofs.Bools.{both_true}
use Rattle.list_decimal.specs.Decimal.{is_digit, digits, value, decimal}
use Rattle.list_decimal.proofs.Numerals.{decimal-one, decimal-more, value-append}
use Rattle.list_text.specs.Text.{tab, end, refused, field_text, refused_text, form_text}
use Rattle.list_edges.specs.Listed.{Held, list_text}

-- ---- the digits of a number

digits_more : (s : List ℕ) (b : ℕ) → digits s ≡ true → is_digit b ≡ true → digits (s ++ (b ∷ [])) ≡ true
digits_more [] b h g = rw g refl
digits_more (c ∷ s) b h g = let d = both_true (is_digit c) (digits s) h in rw (d.0, digits_more s b d.1 g) refl

is_digit_lem : (n : ℕ) → n < 10 → is_digit (48 + n) ≡ true
is_digit_lem n h = rw (le-leb 48 (48 + n) (omega arith), le-leb (48 + n) 57 (omega arith)) refl

value_of : (k n : ℕ) → n ≤ k → (value 0 (decimal n) ≡ n) × (digits (decimal n) ≡ true)
value_of zero n h = let e = decimal-one n (omega arith) in rw e (omega arith, rw (is_digit_lem n (omega arith)) refl)
value_of (suc k) n h =
    by_cases (dec_lt n 10)
    (λ l. rw (decimal-one n l) (omega arith, rw (is_digit_lem n l) refl))
    (λ l.
    let v = value_of k (n / 10) (omega arith) in
    rw (decimal-more n (omega arith), value-append 0 (decimal (n / 10)) ((48 + n % 10) ∷ []), v.0)
    (omega arith, digits_more (decimal (n / 10)) (48 + n % 10) v.1 (is_digit_lem (n % 10) (omega arith))))

decimal-digits : (n : ℕ) → digits (decimal n) ≡ true
decimal-digits n = (value_of n n (omega arith)).1

decimal-same : (n m : ℕ) → decimal n ≡ decimal m → n ≡ m
decimal-same n m e = sym (value_of n n (omega arith)).0 ∙ ap (value 0) e ∙ (value_of m m (omega arith)).0

-- ---- digits, and then a byte that is none

first_byte : (b c : ℕ) (s t : List ℕ) → b ∷ s ≡ c ∷ t → b ≡ c
first_byte b c s t e = ap (λ (l : List ℕ). get_or l 0 0) e

next-bytes : (b c : ℕ) (s t : List ℕ) → b ∷ s ≡ c ∷ t → s ≡ t
next-bytes b c s t e = ap (drop 1) e

no_digit : (b c : ℕ) → is_digit b ≡ true → is_digit c ≡ false → ¬ (b ≡ c)
no_digit b c h g e = false≢true (sym g ∙ ap is_digit (sym e) ∙ h)

parts : (d : ℕ) (a b x y : List ℕ) → is_digit d ≡ false → digits a ≡ true → digits b ≡ true → a ++ (d ∷ x) ≡ b ++ (d ∷ y) → (a ≡ b) × (x ≡ y)
parts d [] [] x y n p q e = (refl, next-bytes d d x y e)
parts d [] (c ∷ b) x y n p q e = absurd (no_digit c d (both_true (is_digit c) (digits b) q).0 n (sym (first_byte d c x (b ++ (d ∷ y)) e)))
parts d (c ∷ a) [] x y n p q e = absurd (no_digit c d (both_true (is_digit c) (digits a) p).0 n (first_byte c d (a ++ (d ∷ x)) y e))
parts d (c ∷ a) (f ∷ b) x y n p q e =
    let r = parts d a b x y n (both_true (is_digit c) (digits a) p).1 (both_true (is_digit f) (digits b) q).1 (next-bytes c f (a ++ (d ∷ x)) (b ++ (d ∷ y)) e) in
    (ap (λ (g : ℕ). g ∷ a) (first_byte c f (a ++ (d ∷ x)) (b ++ (d ∷ y)) e) ∙ ap (λ (g : List ℕ). f ∷ g) r.0, r.1)

fields-same : (d n m : ℕ) (x y : List ℕ) → is_digit d ≡ false → field_text n d ++ x ≡ field_text m d ++ y → (n ≡ m) × (x ≡ y)
unfolding field_text
fields-same d n m x y h e =
    let r = parts d (decimal n) (decimal m) x y h (decimal-digits n) (decimal-digits m)
    (sym (append_assoc (decimal n) (d ∷ []) x) ∙ e ∙ append_assoc (decimal m) (d ∷ []) y)
    in
    (decimal-same n m r.0, r.1)

-- ---- the texts

lines_same : (l m : ℕ) (x y : List ℕ) → refused ++ (field_text l tab ++ x) ≡ refused ++ (field_text m tab ++ y) → (l ≡ m) × (x ≡ y)
lines_same l m x y e = fields-same tab l m x y refl (ap (drop 8) e)

pub refused-same : (l n k m : ℕ) → refused_text l n ≡ refused_text k m → (l ≡ k) × (n ≡ m)
unfolding refused_text
refused-same l n k m e =
    let r = lines_same l k (field_text n end) (field_text m end) e in
    (r.0, (fields-same end n m [] [] refl (ap (λ (t : List ℕ). t ++ []) r.1)).0)

pub form-same : (l k : ℕ) → form_text l ≡ form_text k → l ≡ k
unfolding form_text
form-same l k e = (lines_same l k _ _ e).0

no_number : (s t : List ℕ) → digits s ≡ true → ¬ (102 ∷ t ≡ s ++ (end ∷ []))
no_number [] t h e = let z = first_byte 102 end t [] e in omega arith
no_number (b ∷ s) t h e = no_digit b 102 (both_true (is_digit b) (digits s) h).0 refl (sym (first_byte 102 b t (s ++ (end ∷ [])) e))

pub form-refused : (l k n : ℕ) → ¬ (form_text l ≡ refused_text k n)
unfolding form_text refused_text field_text
form-refused l k n e = no_number (decimal n) (111 ∷ 114 ∷ 109 ∷ end ∷ []) (decimal-digits n) (lines_same l k _ (field_text n end) e).1

pub list-refused : (s : Held) (l n : ℕ) → ¬ (list_text s ≡ refused_text l n)
unfolding list_text refused_text
list-refused s l n e = let z = ap (λ (t : List ℕ). get_or t 0 0) e in omega arith

pub list-form : (s : Held) (l : ℕ) → ¬ (list_text s ≡ form_text l)
unfolding list_text form_text
list-form s l e = let z = ap (λ (t : List ℕ). get_or t 0 0) e in omega arith
