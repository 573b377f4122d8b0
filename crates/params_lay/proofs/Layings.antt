-- Laying the fields: how many bits each takes, and where the next one begins.
use mathlib.Core.List.{List, [], ◌∷◌, ◌++◌}
use mathlib.Core.Path.{◌≡◌, refl, sym, ap, ◌∙◌}
use Prim.Native.Nat.{ℕ, zero, suc, ◌+◌, ◌*◌, ◌<◌, ◌≤◌}
use native.Mathlib.Omega.{arith}
use lib.IntN.{ℤ}
use native.Mathlib.Numerals.{add-one}
use lib.ListN.{length, get_or, take, drop, length-append}
use Rattle.std.proofs.Math.Seq.{drop-cons}
use Rattle.std.proofs.lemmas.List.{get_or-take, length-take-le, length-drop}
use Rattle.standard.specs.Header.{Bit}
use Rattle.standard.specs.declared.Params.{Params}
use Rattle.deltas.specs.Deltas.{delta}
use Rattle.bit_place.specs.Place.{digits, laid}
use Rattle.bit_place.specs.Seven.{seven_of}
use Rattle.bit_place.proofs.Places.{length_digits, laid-append}
use Rattle.params_read.specs.Reads.{chroma_bits}
use Rattle.params_lay.specs.Print.{levels_digits, switch_digits, delta_digits, deltas_digits, printed}

pub laid_then : (xs ys : List Bit) (p q : ℕ) (l : List ℕ) → q ≡ p + length xs → laid (xs ++ ys) p l ≡ laid ys q (laid xs p l)
laid_then xs ys p q l e = laid-append xs ys p l ∙ ap (λ (n : ℕ). laid ys n (laid xs p l)) (sym e)

-- one list of bits behind another
pub laid-step : (xs ys : List Bit) (p q : ℕ) (l m n : List ℕ) → m ≡ laid xs p l → q ≡ p + length xs → n ≡ laid ys q m → n ≡ laid (xs ++ ys) p l
laid-step xs ys p q l m n e h g = g ∙ ap (laid ys q) e ∙ sym (laid_then xs ys p q l h)

-- ---- levels and switches

long-then : (xs ys : List Bit) (m n : ℕ) → length xs ≡ m → length ys ≡ n → length (xs ++ ys) ≡ m + n
long-then xs ys m n e h = length-append xs ys ∙ rw (e, h) refl

module _ (n x y z : ℕ) where
  pub long-one : length (digits 6 x) ≡ 6
  long-one = length_digits 6 x

  pub long-two : length (digits 6 x ++ digits 6 y) ≡ 12
  long-two = long-then (digits 6 x) (digits 6 y) 6 6 long-one (length_digits 6 y)

  pub long-three : length (digits 6 x ++ digits 6 y ++ digits n z) ≡ 12 + n
  long-three = long-then (digits 6 x ++ digits 6 y) (digits n z) 12 n long-two (length_digits n z)

  pub long-switch : length (digits 3 x ++ digits 1 y) ≡ 4
  long-switch = long-then (digits 3 x) (digits 1 y) 3 1 (length_digits 3 x) (length_digits 1 y)

pub length-levels : (n : ℕ) (l : List ℕ) → length (levels_digits n l) ≡ 12 + 2 * chroma_bits n l
length-levels n l =
    let c = chroma_bits n l in
    let e : 12 + c + c ≡ 12 + 2 * c = omega arith in
    long-then (digits 6 (get_or l 0 0) ++ digits 6 (get_or l 1 0) ++ digits c (get_or l 2 0)) (digits c (get_or l 3 0)) (12 + c) c
    (long-three c (get_or l 0 0) (get_or l 1 0) (get_or l 2 0)) (length_digits c (get_or l 3 0)) ∙ e

pub length-switches : (s e u : ℕ) → length (switch_digits s e u) ≡ 4 + e
length-switches s e u = long-then (digits 3 s ++ digits 1 e) (digits e u) 4 e (long-switch 0 s e 0) (length_digits e u)

-- ---- deltas

pub deltas-none : (us : List ℕ) (ds : List ℤ) → deltas_digits us ds 0 ≡ []
unfolding deltas_digits
deltas-none us ds = refl

pub deltas-more : (us : List ℕ) (ds : List ℤ) (i : ℕ) → deltas_digits us ds (suc i) ≡ deltas_digits us ds i ++ delta_digits (get_or us i 0) (delta ds i)
unfolding deltas_digits
deltas-more us ds i = refl

length-delta : (u : ℕ) (d : ℤ) → length (delta_digits u d) ≡ 1 + 7 * u
length-delta u d =
    length-append (digits 1 u) (digits (7 * u) (seven_of d)) ∙ rw (length_digits 1 u, length_digits (7 * u) (seven_of d)) refl

pub length_more : (us : List ℕ) (ds : List ℤ) (i : ℕ) → length (deltas_digits us ds (suc i)) ≡ length (deltas_digits us ds i) + (1 + 7 * get_or us i 0)
length_more us ds i =
    ap (length {A = Bit}) (deltas-more us ds i)
    ∙ length-append (deltas_digits us ds i) (delta_digits (get_or us i 0) (delta ds i))
    ∙ ap (λ (n : ℕ). length (deltas_digits us ds i) + n) (length-delta (get_or us i 0) (delta ds i))

pub length-upto : (us : List ℕ) (ds : List ℤ) (i k : ℕ) → length (deltas_digits us ds i) ≤ length (deltas_digits us ds (i + k))
length-upto us ds i zero = let e : i + 0 ≡ i = omega arith in rw e (omega arith)
length-upto us ds i (suc k) =
    let e : i + suc k ≡ suc (i + k) = omega arith in
    rw (e, length_more us ds (i + k)) (omega (arith, length-upto us ds i k))

pub length-few : (us : List ℕ) (ds : List ℤ) (n : ℕ) → ((i : ℕ) → i < n → get_or us i 0 < 2) → length (deltas_digits us ds n) ≤ 8 * n
length-few us ds zero h = rw (deltas-none us ds) (omega arith)
length-few us ds (suc n) h = rw (length_more us ds n) (omega (arith, h n (omega arith), length-few us ds n (λ i g. h i (omega arith))))

-- one update bit and its delta, at the place behind those before
pub laid-delta : (us : List ℕ) (ds : List ℤ) (i p k : ℕ) (l : List ℕ) → k ≡ p + length (deltas_digits us ds i)
    → laid (deltas_digits us ds (suc i)) p l
    ≡ laid (digits (7 * get_or us i 0) (seven_of (delta ds i))) (k + 1) (laid (digits 1 (get_or us i 0)) k (laid (deltas_digits us ds i) p l))
laid-delta us ds i p k l e =
    ap (λ (bs : List Bit). laid bs p l) (deltas-more us ds i)
    ∙ laid_then (deltas_digits us ds i) (delta_digits (get_or us i 0) (delta ds i)) p k l e
    ∙ laid_then (digits 1 (get_or us i 0)) (digits (7 * get_or us i 0) (seven_of (delta ds i))) k (k + 1) (laid (deltas_digits us ds i) p l)
    (rw (length_digits 1 (get_or us i 0)) refl)

-- the first of what is left of the first n
pub next-item : {X : Type 0} → (n i : ℕ) (xs r : List X) (x d : X) → n ≤ length xs → drop i (take n xs) ≡ x ∷ r
    → (i < n) × (get_or xs i d ≡ x) × (drop (i + 1) (take n xs) ≡ r)
next-item {X} n i xs r x d h e =
    let long = length-take-le n xs h in
    let left = sym (length-drop i (take n xs)) ∙ ap (length {A = X}) e in
    let within : i < n = omega (arith, long, left) in
    let within₁ : i < length (take n xs) = omega (arith, long, within) in
    let both = sym (drop-cons (take n xs) i d within₁) ∙ e in
    (within, sym (get_or-take n xs i d within) ∙ ap (λ (l : List X). get_or l 0 d) both, rw (add-one i) (ap (λ (l : List X). drop 1 l) both))

pub none-left : {X : Type 0} → (n i : ℕ) (xs r : List X) → n ≤ length xs → i ≤ n → r ≡ drop i (take n xs) → length r ≡ 0 → i ≡ n
none-left {X} n i xs r h g e none =
    let left = sym (length-drop i (take n xs)) ∙ ap (length {A = X}) (sym e) in
    omega (arith, length-take-le n xs h, left, none, g)

-- ---- all fields

pub length-printed : (n : ℕ) (p : Params)
    → length (printed n p)
    ≡ 12 + 2 * chroma_bits n p.level
    + (4 + p.delta_enabled)
    + length (deltas_digits p.update_ref p.ref_delta (8 * p.delta_update))
    + length (deltas_digits p.update_mode p.mode_delta (2 * p.delta_update))
unfolding printed
length-printed n p =
    let l = levels_digits n p.level in
    let s = switch_digits p.sharpness p.delta_enabled p.delta_update in
    let r = deltas_digits p.update_ref p.ref_delta (8 * p.delta_update) in
    let m = deltas_digits p.update_mode p.mode_delta (2 * p.delta_update) in
    long-then (l ++ s ++ r) m (12 + 2 * chroma_bits n p.level + (4 + p.delta_enabled) + length r) (length m)
    (long-then (l ++ s) r (12 + 2 * chroma_bits n p.level + (4 + p.delta_enabled)) (length r)
    (long-then l s (12 + 2 * chroma_bits n p.level) (4 + p.delta_enabled) (length-levels n p.level) (length-switches p.sharpness p.delta_enabled p.delta_update))
    refl)
    refl
