-- Where fields begin and end: a byte more as a loop reads it, the first field taken off the front, and what joined fields are, by recursion on the count of fields.
-- ---- as the loops go
use mathlib.Core.Bool.{Bool, true, false, not, cond}
use mathlib.Core.List.{List, [], ◌∷◌, ◌++◌}
use mathlib.Core.Logic.{by_cases}
use mathlib.Core.Path.{◌≡◌, refl, sym, ap, ap₂, subst, ◌∙◌}
use Prim.Native.Nat.{ℕ, zero, suc, ◌+◌, ◌-◌, ◌≤◌, ◌<◌}
use native.Mathlib.Decide.{ℕ_discrete, dec_lt}
use native.Mathlib.Nat.{add-suc}
use native.Mathlib.Numerals.{add-one}
use native.Mathlib.Omega.{arith}
use borrow.Author.Tests.{eq-eqb, eqb-true, not-true, lt-ltb, le-ltb}
use lib.Dec.{eqb}
use lib.ListN.{length, get_or, take, drop, length-append, length-drop, drop_of_length-le}
use lib.Seq.{drop-drop, take-length, take-append_seam, drop-append-add, split_at}
use Rattle.std.proofs.lemmas.List.Recursion.{is_position_or_len}
use Rattle.std.proofs.lemmas.List.Sums.{prefix_len-le-length}
use Rattle.std.specs.List.{position, position_or_len}
use Rattle.std.proofs.Common.{Option}
use Rattle.std.specs.Option.{unwrap_or}
use Rattle.loops.specs.Run.{All}
use Rattle.loops.proofs.Bools.{both_true}
use Rattle.list_fields.specs.Fields.{cut, rest, place, field, fields_of, joined, without}

pub cut-end : (d : ℕ) (s : List ℕ) (i : ℕ) → length s ≤ i → cut d (drop i s) ≡ 0
unfolding cut
cut-end d s i h = rw (drop_of_length-le s h) refl

cut-le : (d : ℕ) (s : List ℕ) → cut d s ≤ length s
unfolding cut
cut-le d [] = omega arith
cut-le d (b ∷ s) = go (eqb b d) (cut-le d s)
  where
    go : (e : Bool) → cut d s ≤ length s → cond e 0 (suc (cut d s)) ≤ suc (length s)
    go true h = omega arith
    go false h = omega arith

pub position-or : (p : ℕ → Bool) (s : List ℕ) (r : Option ℕ) → r ≡ position p s → unwrap_or r (length s) ≡ position_or_len p s
position-or p s r e =
    rw e
    (by_cases (dec_lt (position_or_len p s) (length s))
    (λ l. simp (lt-ltb (position_or_len p s) (length s) l))
    (λ l. simp (le-ltb (position_or_len p s) (length s) (omega arith)) (omega (arith, prefix_len-le-length (λ x. not (p x)) s))))

one_more : (n : ℕ) → suc n ≡ 1 + n
one_more n = omega arith

pub cut-position : (d : ℕ) (s : List ℕ) (r : Option ℕ) → r ≡ position (λ b. eqb b d) s → unwrap_or r (length s) ≡ cut d s
unfolding cut
cut-position d s r e = position-or (λ b. eqb b d) s r e ∙ sym (is_position_or_len (cut d) (λ b. eqb b d) refl (λ x xs. ap (cond (eqb x d) 0) (one_more (cut d xs))) s)

pub place_none : (d : ℕ) (s : List ℕ) → 0 ≡ place d s 0
unfolding place
place_none d s = refl

place-more : (d : ℕ) (s : List ℕ) (k : ℕ) → place d s (k + 1) ≡ place d s k + cut d (drop (place d s k) s) + 1
unfolding place
place-more d s k = rw add-one refl

pub place-step : (d : ℕ) (s : List ℕ) (k at e : ℕ) → at ≡ place d s k → e ≡ at + cut d (drop at s) → e + 1 ≡ place d s (k + 1)
place-step d s k at e p q = ap (λ (n : ℕ). n + 1) (q ∙ ap (λ (n : ℕ). n + cut d (drop n s)) p) ∙ sym (place-more d s k)

place-suc : (d : ℕ) (s : List ℕ) (k : ℕ) → place d s (suc k) ≡ place d s k + cut d (drop (place d s k) s) + 1
unfolding place
place-suc d s k = refl

pub place-le : (d : ℕ) (s : List ℕ) (k : ℕ) → place d s k ≤ length s + k
place-le d s zero = omega (arith, place_none d s)
place-le d s (suc k) =
    omega (arith, place-suc d s k, place-le d s k, cut-le d (drop (place d s k) s), length-drop (place d s k) s)

-- ---- the first field off

rest_at : (d : ℕ) (s : List ℕ) (k p : ℕ) → p ≡ cut d s + 1 + k → drop p s ≡ drop k (rest d s)
rest_at d s k p e = rw e (sym (drop-drop k (cut d s + 1) s))

place-front : (d : ℕ) (s : List ℕ) (k : ℕ) → place d s (suc k) ≡ cut d s + 1 + place d (rest d s) k
place-front d s zero =
    let e : cut d (drop (place d s 0) s) ≡ cut d s = rw (← place_none d s) refl in
    omega (arith, place-suc d s 0, place_none d s, place_none d (rest d s))
place-front d s (suc k) =
    let e = place-front d s k in
    let f : cut d (drop (place d s (suc k)) s) ≡ cut d (drop (place d (rest d s) k) (rest d s)) =
    ap (λ (l : List ℕ). cut d l) (rest_at d s (place d (rest d s) k) (place d s (suc k)) e)
    in
    omega (arith, place-suc d s (suc k), place-suc d (rest d s) k)

field-front : (d : ℕ) (s : List ℕ) (k : ℕ) → field d s (suc k) ≡ field d (rest d s) k
unfolding field
field-front d s k =
    ap (λ (l : List ℕ). take (cut d l) l) (rest_at d s (place d (rest d s) k) (place d s (suc k)) (place-front d s k))

fields-front : (d : ℕ) (s : List ℕ) (k n : ℕ) → fields_of d s (suc k) n ≡ fields_of d (rest d s) k n
fields-front d s k zero = refl
fields-front d s k (suc n) =
    ap₂ (λ (f : List ℕ) (fs : List (List ℕ)). f ∷ fs) (field-front d s k) (fields-front d s (suc k) n)

field-first : (d : ℕ) (s : List ℕ) → field d s 0 ≡ take (cut d s) s
unfolding field
field-first d s = rw (← place_none d s) refl

-- ---- joined fields

cut-whole : (d : ℕ) (f : List ℕ) → without d f ≡ true → cut d f ≡ length f
unfolding cut
cut-whole d [] h = refl
cut-whole d (b ∷ f) h =
    let e = both_true (not (eqb b d)) (without d f) h in
    simp (not-true (eqb b d) e.0, cut-whole d f e.1)

cut-joined : (d : ℕ) (f t : List ℕ) → without d f ≡ true → cut d (f ++ (d ∷ t)) ≡ length f
unfolding cut
cut-joined d [] t h = simp (eq-eqb d d refl)
cut-joined d (b ∷ f) t h =
    let e = both_true (not (eqb b d)) (without d f) h in
    simp (not-true (eqb b d) e.0, cut-joined d f t e.1)

rest-joined : (d : ℕ) (f t : List ℕ) → without d f ≡ true → rest d (f ++ (d ∷ t)) ≡ t
rest-joined d f t h = ap (λ (k : ℕ). drop (k + 1) (f ++ (d ∷ t))) (cut-joined d f t h) ∙ drop-append-add f (d ∷ t) 1

pub count : (d : ℕ) (f : List ℕ) (fs : List (List ℕ)) → All (λ g. without d g ≡ true) (f ∷ fs)
    → place d (joined d (f ∷ fs)) (length (f ∷ fs)) ≡ length (joined d (f ∷ fs)) + 1
count d f [] h = omega (arith, place-front d f 0, place_none d (rest d f), cut-whole d f h.0)
count d f (g ∷ fs) h =
    let J = joined d (g ∷ fs) in
    let e : place d (rest d (f ++ (d ∷ J))) (length (g ∷ fs)) ≡ length J + 1 =
    ap (λ (l : List ℕ). place d l (length (g ∷ fs))) (rest-joined d f J h.0) ∙ count d g fs h.1
    in
    omega (arith, place-front d (f ++ (d ∷ J)) (length (g ∷ fs)), cut-joined d f J h.0, length-append f (d ∷ J))

pub found : (d : ℕ) (f : List ℕ) (fs : List (List ℕ)) → All (λ g. without d g ≡ true) (f ∷ fs)
    → (k : ℕ) → k < length (f ∷ fs) → field d (joined d (f ∷ fs)) k ≡ get_or (f ∷ fs) k []
found d f [] h zero l = field-first d f ∙ rw (cut-whole d f h.0) (take-length f)
found d f [] h (suc k) l = absurd (omega arith)
found d f (g ∷ fs) h zero l =
    field-first d (f ++ (d ∷ joined d (g ∷ fs)))
    ∙ ap (λ (k : ℕ). take k (f ++ (d ∷ joined d (g ∷ fs)))) (cut-joined d f (joined d (g ∷ fs)) h.0)
    ∙ take-append_seam f (d ∷ joined d (g ∷ fs))
found d f (g ∷ fs) h (suc k) l =
    field-front d (f ++ (d ∷ joined d (g ∷ fs))) k
    ∙ ap (λ (m : List ℕ). field d m k) (rest-joined d f (joined d (g ∷ fs)) h.0)
    ∙ found d g fs h.1 k (omega arith)

-- ---- the count of fields

rising : (d : ℕ) (s : List ℕ) (n k : ℕ) → place d s n < place d s (n + suc k)
rising d s n zero = rw add-one (omega (arith, place-suc d s n))
rising d s n (suc k) = rw (add-suc n (suc k)) (omega (arith, rising d s n k, place-suc d s (n + suc k)))

less : (d : ℕ) (s : List ℕ) (n m : ℕ) → n < m → place d s n < place d s m
less d s n m h =
    let f : n + suc (m - suc n) ≡ m = omega arith in
    subst (λ (k : ℕ). place d s n < place d s k) f (rising d s n (m - suc n))

apart : (d : ℕ) (s : List ℕ) (n m : ℕ) → n < m → place d s n ≡ place d s m → ⊥
apart d s n m h e = omega (arith, less d s n m h)

pub once : (d : ℕ) (s : List ℕ) (n m : ℕ) → place d s n ≡ length s + 1 → place d s m ≡ length s + 1 → n ≡ m
once d s n m p q =
    by_cases (ℕ_discrete n m)
    (λ e. e)
    (λ e. by_cases (dec_lt n m) (λ l. absurd (apart d s n m l (p ∙ sym q))) (λ l. absurd (apart d s m n (omega arith) (q ∙ sym p))))

-- ---- whatever has so many fields

cut-byte : (d : ℕ) (s : List ℕ) → cut d s < length s → get_or s (cut d s) 0 ≡ d
unfolding cut
cut-byte d [] h = absurd (omega arith)
cut-byte d (b ∷ s) h = go (eqb b d) refl (cut-byte d s) h
  where
    go : (e : Bool) → eqb b d ≡ e → (cut d s < length s → get_or s (cut d s) 0 ≡ d) → cond e 0 (suc (cut d s)) < suc (length s)
        → get_or (b ∷ s) (cond e 0 (suc (cut d s))) 0 ≡ d
    go true e f h = eqb-true b d e
    go false e f h = f (omega arith)

pub whole : (d : ℕ) (n : ℕ) (s : List ℕ) → place d s (suc n) ≡ length s + 1 → s ≡ joined d (fields_of d s 0 (suc n))
whole d zero s h =
    let e : cut d s ≡ length s = omega (arith, place-front d s 0, place_none d (rest d s)) in
    sym (field-first d s ∙ rw e (take-length s))
whole d (suc n) s h =
    let l : cut d s < length s = omega (arith, place-front d s (suc n), place-suc d (rest d s) n) in
    let r : place d (rest d s) (suc n) ≡ length (rest d s) + 1 =
    omega (arith, place-front d s (suc n), length-drop (cut d s + 1) s)
    in
    let i : rest d s ≡ joined d (fields_of d s 1 (suc n)) =
    whole d n (rest d s) r ∙ ap (λ (fs : List (List ℕ)). joined d fs) (sym (fields-front d s 0 (suc n)))
    in
    split_at s (cut d s) 0 l
    ∙ ap (λ (b : ℕ). take (cut d s) s ++ (b ∷ drop (suc (cut d s)) s)) (cut-byte d s l)
    ∙ ap (λ (k : ℕ). take (cut d s) s ++ (d ∷ drop k s)) (sym (add-one (cut d s)))
    ∙ ap₂ (λ (f g : List ℕ). f ++ (d ∷ g)) (sym (field-first d s)) i

cut-without : (d : ℕ) (s : List ℕ) → without d (take (cut d s) s) ≡ true
unfolding cut
cut-without d [] = refl
cut-without d (b ∷ s) = go (eqb b d) refl (cut-without d s)
  where
    go : (e : Bool) → eqb b d ≡ e → without d (take (cut d s) s) ≡ true → without d (take (cond e 0 (suc (cut d s))) (b ∷ s)) ≡ true
    go true e f = refl
    go false e f = simp (e, f)

pub plain : (d : ℕ) (s : List ℕ) (k : ℕ) → without d (field d s k) ≡ true
unfolding field
plain d s k = cut-without d (drop (place d s k) s)

-- ---- a field as a part of the line

pub place_in : (d : ℕ) (s : List ℕ) (n k : ℕ) → place d s n ≡ length s + 1 → k < n → place d s k ≤ length s
place_in d s n k e h = omega (arith, less d s k n h)

pub end-in : (d : ℕ) (s : List ℕ) (at : ℕ) → at ≤ length s → at + cut d (drop at s) ≤ length s
end-in d s at h = omega (arith, cut-le d (drop at s), length-drop at s)

pub field_of : (d : ℕ) (s : List ℕ) (k at e : ℕ) → at ≡ place d s k → e ≡ at + cut d (drop at s) → take (e - at) (drop at s) ≡ field d s k
unfolding field
field_of d s k at e p q =
    let n : e - at ≡ cut d (drop at s) = omega arith in
    ap (λ (m : ℕ). take m (drop at s)) n ∙ ap (λ (a : ℕ). take (cut d (drop a s)) (drop a s)) p
