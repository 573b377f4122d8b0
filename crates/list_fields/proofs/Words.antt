-- A word's number, byte by byte as a loop reads it; it is bounded by its length, so two words of one number have one length, and then the same bytes.
use mathlib.Core.List.{List, [], ◌∷◌}
use mathlib.Core.Logic.{by_cases}
use mathlib.Core.Path.{◌≡◌, refl, sym, ap, ap₂, subst, ◌∙◌}
use Prim.Native.Nat.{ℕ, suc, ◌+◌, ◌*◌, ◌^◌, ◌≤◌, ◌<◌}
use native.Mathlib.Decide.{ℕ_discrete, dec_lt}
use native.Mathlib.Nat.{pow-suc, pow-le-pow_right, add-zero}
use native.Mathlib.Numerals.{add-one}
use native.Mathlib.Omega.{arith}
use borrow.Author.Tests.{lt-ltb, le-ltb}
use lib.ListN.{length, drop}
use lib.Seq.{drop-length}
use Rattle.list_fields.specs.Word.{pack, packed, Bytes}

pub packed-long : (s : List ℕ) → 7 < length s → 0 ≡ packed s
unfolding packed
packed-long s h = simp (lt-ltb 7 (length s) h)

pub packed-done : (s : List ℕ) (i n : ℕ) → length s ≤ 7 → i ≡ length s → pack 1 s ≡ pack n (drop i s) → n ≡ packed s
unfolding packed
packed-done s i n h e p =
    simp (le-ltb 7 (length s) h) (sym (p ∙ ap (λ (k : ℕ). pack n (drop k s)) e ∙ ap (λ (l : List ℕ). pack n l) (drop-length s)))

pub fits : (i n b : ℕ) → i ≤ 6 → n < 256 ^ (i + 1) → b < 256 → n * 256 + b < 18446744073709551616
fits i n b h p q = omega (arith, pow-le-pow_right {n = 256} (omega arith) {i = i + 1} {j = 7} (omega arith))

pub fits_next : (i n b : ℕ) → n < 256 ^ i → b < 256 → n * 256 + b < 256 ^ (i + 1)
fits_next i n b p q = rw add-one (omega (arith, pow-suc 256 i))

-- ---- two words of one number

high : (n i : ℕ) (s : List ℕ) → Bytes s → n < 256 ^ i → pack n s < 256 ^ (i + length s)
high n i [] b h = rw add-zero h
high n i (c ∷ s) b h =
    subst (λ (k : ℕ). pack n (c ∷ s) < 256 ^ k) (omega arith) (high (n * 256 + c) (i + 1) s (λ j. b (suc j)) (fits_next i n c h (b 0)))

low : (n i : ℕ) (s : List ℕ) → 256 ^ i ≤ n → 256 ^ (i + length s) ≤ pack n s
low n i [] h = rw add-zero h
low n i (c ∷ s) h =
    subst (λ (k : ℕ). 256 ^ k ≤ pack n (c ∷ s)) (omega arith) (low (n * 256 + c) (i + 1) s (rw add-one (omega (arith, pow-suc 256 i))))

longer : (s t : List ℕ) → Bytes s → length s < length t → pack 1 s ≡ pack 1 t → ⊥
longer s t b h e =
    let p = high 1 1 s b (omega arith) in
    let q : 256 ^ length t ≤ pack 1 t = subst (λ (k : ℕ). 256 ^ k ≤ pack 1 t) (omega arith) (low 1 0 t (omega arith)) in
    let r : 256 ^ (1 + length s) ≤ 256 ^ length t = pow-le-pow_right {n = 256} (omega arith) {i = 1 + length s} {j = length t} (omega arith) in
    omega arith

alike : (n m : ℕ) (s t : List ℕ) → Bytes s → Bytes t → length s ≡ length t → pack n s ≡ pack m t → (n ≡ m) × (s ≡ t)
alike n m [] [] b c h e = (e, refl)
alike n m [] (y ∷ t) b c h e = absurd (omega arith)
alike n m (x ∷ s) [] b c h e = absurd (omega arith)
alike n m (x ∷ s) (y ∷ t) b c h e =
    let r = alike (n * 256 + x) (m * 256 + y) s t (λ j. b (suc j)) (λ j. c (suc j)) (omega arith) e in
    let p : x < 256 = b 0 in
    let q : y < 256 = c 0 in
    let z : n * 256 + x ≡ m * 256 + y = r.0 in
    let w : x ≡ y = omega arith in
    (omega arith, ap₂ (λ (u : ℕ) (v : List ℕ). u ∷ v) w r.1)

pack-pos : (s : List ℕ) → 1 ≤ pack 1 s
pack-pos s = omega (arith, low 1 0 s (omega arith), pow-le-pow_right {n = 256} (omega arith) {i = 0} {j = 0 + length s} (omega arith))

pub same : (s t : List ℕ) → Bytes s → Bytes t → length t ≤ 7 → packed s ≡ packed t → s ≡ t
unfolding packed
same s t b c h e =
    by_cases (dec_lt 7 (length s))
    (λ l. absurd (omega (arith, simp (lt-ltb 7 (length s) l, le-ltb 7 (length t) h) at e, pack-pos t)))
    (λ l. short (simp (le-ltb 7 (length s) (omega arith), le-ltb 7 (length t) h) at e))
  where
    short : pack 1 s ≡ pack 1 t → s ≡ t
    short e =
        by_cases (ℕ_discrete (length s) (length t))
        (λ l. (alike 1 1 s t b c l e).1)
        (λ l. by_cases (dec_lt (length s) (length t)) (λ m. absurd (longer s t b m e)) (λ m. absurd (longer t s c (omega arith) (sym e))))
