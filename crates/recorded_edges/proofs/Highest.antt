-- The highest class of a unit once one more bit is set, by recursion on the classes; and the width of a class grows with it.
use mathlib.Core.Path.{◌≡◌, refl, sym, ap, ap₂, ◌∙◌}
use mathlib.Core.Bool.{Bool, true, false, cond, ◌||◌, or-false, or-true, false≢true}
use mathlib.Core.Logic.{by_cases}
use mathlib.Core.Option.{Option, some, none}
use Prim.Native.Nat.{ℕ, zero, suc, ◌≤◌, ◌<◌, max}
use native.Mathlib.Decide.{ℕ_discrete, dec_le}
use native.Mathlib.Omega.{arith}
use lib.Dec.{eqb}
use borrow.Author.Tests.{eq-eqb, ne_eqb}
use Rattle.edges.specs.Edges.{highest}
use Rattle.walk.specs.Walk.{luma_len, chroma_len, len_of, width_of}
use Rattle.recorded_edges.specs.Held.{stands, width_in, greater}

-- ---- the highest class

pub highest-same : (n : ℕ) (f g : ℕ → Bool) → ((c : ℕ) → c < n → g c ≡ f c) → highest n g ≡ highest n f
highest-same zero f g h = refl
highest-same (suc n) f g h = ap₂ (λ (x : Bool) (o : Option ℕ). cond x (some n) o) (h n (omega arith)) (highest-same n f g (λ c l. h c (omega arith)))

-- where none is set, no bit is
pub none-set : (n : ℕ) (f : ℕ → Bool) → highest n f ≡ none → (c : ℕ) → c < n → f c ≡ false
none-set zero f e c l = absurd (omega arith)
none-set (suc n) f e c l = go (λ r z. none-set n f r c (omega arith)) (f n) refl e
  where
    go : (highest n f ≡ none → ¬ (c ≡ n) → f c ≡ false) → (b : Bool) → f n ≡ b → cond b (some n) (highest n f) ≡ none → f c ≡ false
    go rest true q r = absurd (false≢true (sym (ap stands r)))
    go rest false q r = by_cases (ℕ_discrete c n) (λ z. ap f z ∙ q) (rest r)

-- k, or the greater of the two
abbrev pub raised : ℕ → Option ℕ → Option ℕ
raised k none = some k
raised k (some c) = some (max k c)

highest-low : (n : ℕ) (f : ℕ → Bool) (k : ℕ) → n ≤ suc k → raised k (highest n f) ≡ some k
highest-low zero f k h = refl
highest-low (suc n) f k h = go (highest-low n f k (omega arith)) (f n)
  where
    go : raised k (highest n f) ≡ some k → (b : Bool) → raised k (cond b (some n) (highest n f)) ≡ some k
    go rest true = ap some (omega arith)
    go rest false = rest

pub highest-raised : (n : ℕ) (f g : ℕ → Bool) (k : ℕ) → k < n → ((c : ℕ) → c < n → g c ≡ (f c || eqb k c)) → highest n g ≡ raised k (highest n f)
highest-raised zero f g k l h = absurd (omega arith)
highest-raised (suc n) f g k l h =
    by_cases (ℕ_discrete k n)
    (λ e. ap (λ (x : Bool). cond x (some n) (highest n g)) (h n (omega arith) ∙ ap (λ (x : Bool). f n || x) (eq-eqb k n e) ∙ or-true (f n))
    ∙ ap some (sym e) ∙ sym (highest-low (suc n) f k (omega arith)))
    (λ e. ap₂ (λ (x : Bool) (o : Option ℕ). cond x (some n) o)
    (h n (omega arith) ∙ ap (λ (x : Bool). f n || x) (ne_eqb k n e) ∙ or-false (f n))
    (highest-raised n f g k (omega arith) (λ c q. h c (omega arith)))
    ∙ go (f n))
  where
    go : (b : Bool) → cond b (some n) (raised k (highest n f)) ≡ raised k (cond b (some n) (highest n f))
    go true = ap some (omega arith)
    go false = refl

pub raised-stands : (k : ℕ) (o : Option ℕ) → stands (raised k o) ≡ true
raised-stands k none = refl
raised-stands k (some c) = refl

-- ---- the width of a class

luma-grows : (a b : ℕ) → a ≤ b → luma_len a ≤ luma_len b
luma-grows zero zero h = omega arith
luma-grows zero (suc zero) h = omega arith
luma-grows zero (suc (suc b)) h = omega arith
luma-grows (suc zero) zero h = absurd (omega arith)
luma-grows (suc zero) (suc zero) h = omega arith
luma-grows (suc zero) (suc (suc b)) h = omega arith
luma-grows (suc (suc a)) zero h = absurd (omega arith)
luma-grows (suc (suc a)) (suc zero) h = absurd (omega arith)
luma-grows (suc (suc a)) (suc (suc b)) h = omega arith

chroma-grows : (a b : ℕ) → a ≤ b → chroma_len a ≤ chroma_len b
chroma-grows zero zero h = omega arith
chroma-grows zero (suc b) h = omega arith
chroma-grows (suc a) zero h = absurd (omega arith)
chroma-grows (suc a) (suc b) h = omega arith

width-grows : (luma : Bool) (a b : ℕ) → a ≤ b → len_of luma a ≤ len_of luma b
width-grows true = luma-grows
width-grows false = chroma-grows

width-max : (plane a b : ℕ) → width_of plane (max a b) ≡ max (width_of plane a) (width_of plane b)
width-max plane a b =
    by_cases (dec_le a b)
    (λ h. let z : max a b ≡ b = omega arith in
    let g = width-grows (eqb plane 0) a b h in
    ap (width_of plane) z ∙ sym (right (width_of plane a) (width_of plane b) g))
    (λ h. let z : max a b ≡ a = omega arith in
    let g = width-grows (eqb plane 0) b a (omega arith) in
    ap (width_of plane) z ∙ sym (left (width_of plane a) (width_of plane b) g))
  where
    right : (x y : ℕ) → x ≤ y → max x y ≡ y
    right x y h = omega arith

    left : (x y : ℕ) → y ≤ x → max x y ≡ x
    left x y h = omega arith

-- so the class that is raised has the greater width
pub width-raised : (plane k w : ℕ) (o : Option ℕ) → width_of plane k ≡ w → width_in plane (raised k o) ≡ greater (some w) (width_in plane o)
width-raised plane k w none e = ap some e
width-raised plane k w (some c) e = ap some (width-max plane k c ∙ ap (λ (x : ℕ). max x (width_of plane c)) e)
