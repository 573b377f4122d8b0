-- A digit more in a numeral, from the front as it is read and at the end as it is written; and a number is read back from its text, by recursion on its tenths.
-- ---- reading
use mathlib.Core.Bool.{Bool, true, false, ◌&&◌, and_assoc}
use mathlib.Core.List.{List, [], ◌∷◌, ◌++◌, append_assoc}
use mathlib.Core.Logic.{by_cases}
use mathlib.Core.Path.{◌≡◌, refl, sym, ap, subst, ◌∙◌}
use Prim.Native.Nat.{ℕ, zero, suc, ◌+◌, ◌-◌, ◌*◌, ◌/◌, ◌%◌, ◌^◌, ◌≤◌, ◌<◌}
use native.Mathlib.Decide.{dec_lt}
use native.Mathlib.Nat.{pow-suc, pow-le-pow_right, add-zero}
use native.Mathlib.Numerals.{add-one}
use native.Mathlib.Omega.{arith}
use borrow.Author.Tests.{lt-ltb, le-ltb, le-leb, leb-true}
use lib.Dec.{leb}
use lib.ListN.{length, get_or, set, take, drop, length-append, length-take}
use lib.Seq.{drop-cons, drop-length, set_at, set_split}
use Rattle.loops.proofs.Bools.{both_true}
use Rattle.list_decimal.specs.Decimal.{is_digit, digits, value, numeral, no_number, number_of, decimal_in, decimal, pasted}
use Rattle.list_decimal.specs.Promises.{Promises}

pub fits : (i n b : ℕ) → i ≤ 8 → n < 10 ^ i → b ≤ 57 → n * 10 + (b - 48) < 1000000000
fits i n b h p q = omega (arith, pow-le-pow_right {n = 10} (omega arith) {i = i} {j = 8} h)

pub fits_next : (i n b : ℕ) → n < 10 ^ i → b ≤ 57 → n * 10 + (b - 48) < 10 ^ (i + 1)
fits_next i n b p q = rw add-one (omega (arith, pow-suc 10 i))

pub number-done : (s : List ℕ) (i n : ℕ) → 1 ≤ length s → length s ≤ 9 → i ≡ length s → digits s ≡ digits (drop i s) → value 0 s ≡ value n (drop i s) → n ≡ number_of s
unfolding number_of
number-done s i n h m e d v =
    let z : drop i s ≡ [] = ap (λ (k : ℕ). drop k s) e ∙ drop-length s in
    let f : digits s ≡ true = d ∙ ap digits z in
    simp (f, le-leb 1 (length s) h, le-leb (length s) 9 m) (sym (v ∙ ap (λ (l : List ℕ). value n l) z))

-- ---- writing

pub decimal-one : (n : ℕ) → n < 10 → decimal n ≡ (48 + n) ∷ []
unfolding decimal
decimal-one zero h = refl
decimal-one (suc n) h = simp (lt-ltb (suc n) 10 h)

enough : (k m n : ℕ) → n ≤ k → n ≤ m → decimal_in k n ≡ decimal_in m n
enough zero zero n h g = refl
enough zero (suc m) n h g = simp (lt-ltb n 10 (omega arith))
enough (suc k) zero n h g = simp (lt-ltb n 10 (omega arith))
enough (suc k) (suc m) n h g =
    by_cases (dec_lt n 10)
    (λ l. simp (lt-ltb n 10 l))
    (λ l. simp (le-ltb n 10 (omega arith), enough k m (n / 10) (omega arith) (omega arith)))

pub decimal-more : (n : ℕ) → 10 ≤ n → decimal n ≡ decimal (n / 10) ++ ((48 + n % 10) ∷ [])
unfolding decimal
decimal-more zero h = absurd (omega arith)
decimal-more (suc n) h = simp (le-ltb (suc n) 10 h, enough n (suc n / 10) (suc n / 10) (omega arith) (omega arith))

pub longer : (n : ℕ) → 10 ≤ n → length (decimal n) ≡ length (decimal (n / 10)) + 1
longer n h = ap length (decimal-more n h) ∙ length-append (decimal (n / 10)) ((48 + n % 10) ∷ [])

paste_more : (l s : List ℕ) (at d : ℕ) → at + length s < length l → set (pasted l at s) (at + length s) d ≡ pasted l at (s ++ (d ∷ []))
paste_more l s at d h =
    let e : suc (at + length s) ≡ at + length (s ++ (d ∷ [])) = simp length-append (omega arith) in
    ap (λ (t : List ℕ). set (take at l ++ (s ++ t)) (at + length s) d) (drop-cons l (at + length s) 0 h)
    ∙ ap (λ (t : List ℕ). set t (at + length s) d) (sym (append_assoc (take at l) s (get_or l (at + length s) 0 ∷ drop (suc (at + length s)) l)))
    ∙ set_at (take at l ++ s) (get_or l (at + length s) 0) (drop (suc (at + length s)) l) d (at + length s) (simp (length-append, length-take) (omega arith))
    ∙ append_assoc (take at l) s (d ∷ drop (suc (at + length s)) l)
    ∙ ap (λ (t : List ℕ). take at l ++ t)
    (sym (append_assoc s (d ∷ []) (drop (suc (at + length s)) l)) ∙ ap (λ (k : ℕ). (s ++ (d ∷ [])) ++ drop k l) e)

pub put_one : (l : List ℕ) (at n : ℕ) → n < 10 → at + length (decimal n) ≤ length l
    → (at + 1 ≡ at + length (decimal n)) × (set l at (48 + n) ≡ pasted l at (decimal n))
put_one l at n h g =
    let e = decimal-one n h in
    let m : at < length l = omega (arith, ap length e) in
    (omega (arith, ap length e), set_split l at (48 + n) m ∙ rw e (ap (λ (k : ℕ). take at l ++ (48 + n) ∷ drop k l) (sym (add-one at))))

pub put-more : (l k : List ℕ) (at n e : ℕ) → 10 ≤ n → at + length (decimal n) ≤ length l → e ≡ at + length (decimal (n / 10)) → k ≡ pasted l at (decimal (n / 10))
    → (e + 1 ≡ at + length (decimal n)) × (set k e (48 + n % 10) ≡ pasted l at (decimal n))
put-more l k at n e h g p q =
    let f = decimal-more n h in
    let m : length (decimal n) ≡ length (decimal (n / 10)) + 1 = longer n h in (
      omega arith,
      ap (λ (x : List ℕ). set x e (48 + n % 10)) q
          ∙ ap (λ (j : ℕ). set (pasted l at (decimal (n / 10))) j (48 + n % 10)) p
          ∙ paste_more l (decimal (n / 10)) at (48 + n % 10) (omega arith)
          ∙ ap (λ (x : List ℕ). pasted l at x) (sym f),
    )

-- ---- back

pub value-append : (n : ℕ) (s t : List ℕ) → value n (s ++ t) ≡ value (value n s) t
value-append n [] t = refl
value-append n (b ∷ s) t = value-append (n * 10 + (b - 48)) s t

digits_append : (s t : List ℕ) → digits (s ++ t) ≡ (digits s && digits t)
digits_append [] t = refl
digits_append (b ∷ s) t = ap (λ (d : Bool). is_digit b && d) (digits_append s t) ∙ sym (and_assoc (is_digit b) (digits s) (digits t))

value_in : (k n : ℕ) → n ≤ k → value 0 (decimal_in k n) ≡ n
value_in zero n h = omega arith
value_in (suc k) n h =
    by_cases (dec_lt n 10)
    (λ l. simp (lt-ltb n 10 l) (omega arith))
    (λ l. simp (le-ltb n 10 (omega arith), value-append, value_in k (n / 10) (omega arith)) (omega arith))

digits_in : (k n : ℕ) → n ≤ k → digits (decimal_in k n) ≡ true
digits_in zero n h = simp (le-leb 48 (48 + n) (omega arith), le-leb (48 + n) 57 (omega arith))
digits_in (suc k) n h =
    by_cases (dec_lt n 10)
    (λ l. simp (lt-ltb n 10 l, le-leb 48 (48 + n) (omega arith), le-leb (48 + n) 57 (omega arith)))
    (λ l.
    simp (le-ltb n 10 (omega arith), digits_append, digits_in k (n / 10) (omega arith), le-leb 48 (48 + n % 10) (omega arith), le-leb (48 + n % 10) 57 (omega arith)))

short : (k n j : ℕ) → n < 10 ^ suc j → (1 ≤ length (decimal_in k n)) × (length (decimal_in k n) ≤ suc j)
short zero n j h = (omega arith, omega arith)
short (suc k) n j h =
    by_cases (dec_lt n 10)
    (λ l. simp (lt-ltb n 10 l) (omega arith, omega arith))
    (λ l. simp (le-ltb n 10 (omega arith), length-append) (more j h (λ i. short k (n / 10) i) (omega arith)))
  where
    more : (j : ℕ) → n < 10 ^ suc j → ((i : ℕ) → n / 10 < 10 ^ suc i → (1 ≤ length (decimal_in k (n / 10))) × (length (decimal_in k (n / 10)) ≤ suc i)) → 10 ≤ n
        → (1 ≤ length (decimal_in k (n / 10)) + 1) × (length (decimal_in k (n / 10)) + 1 ≤ suc j)
    more zero h f g = absurd (omega (arith, pow-suc 10 0))
    more (suc j) h f g = let i = f j (omega (arith, pow-suc 10 (suc j))) in (omega arith, omega arith)

whole : (n : ℕ) → n < 1000000000 → numeral (decimal n) ≡ true
unfolding decimal
whole n h =
    let i = short n n 8 h in
    simp (le-leb 1 (length (decimal_in n n)) i.0, le-leb (length (decimal_in n n)) 9 i.1, digits_in n n (omega arith))

back : (n : ℕ) → n < 1000000000 → number_of (decimal n) ≡ n
unfolding number_of decimal
back n h = simp (whole n h) (value_in n n (omega arith))

value-small : (n i : ℕ) (s : List ℕ) → n < 10 ^ i → digits s ≡ true → value n s < 10 ^ (i + length s)
value-small n i [] h e = rw add-zero h
value-small n i (b ∷ s) h e =
    let d = both_true (is_digit b) (digits s) e in
    let f = both_true (leb 48 b) (leb b 57) d.0 in
    subst (λ (k : ℕ). value n (b ∷ s) < 10 ^ k) (omega arith)
    (value-small (n * 10 + (b - 48)) (i + 1) s (fits_next i n b h (leb-true b 57 f.1)) d.1)

read : (s : List ℕ) → numeral s ≡ true → number_of s ≡ value 0 s
unfolding number_of
read s e = simp e

small : (s : List ℕ) → numeral s ≡ true → number_of s < 1000000000
small s e =
    let d = both_true (leb 1 (length s) && leb (length s) 9) (digits s) e in
    let f = both_true (leb 1 (length s)) (leb (length s) 9) d.0 in
    let v : value 0 s < 10 ^ length s = subst (λ (k : ℕ). value 0 s < 10 ^ k) (omega arith) (value-small 0 0 s (omega arith) d.1) in
    let m : 10 ^ length s ≤ 1000000000 = pow-le-pow_right {n = 10} (omega arith) {i = length s} {j = 9} (leb-true (length s) 9 f.1) in
    rw (read s e) (omega arith)

none : (s : List ℕ) → numeral s ≡ false → no_number ≡ number_of s
unfolding number_of
none s e = simp e

decimal-short : (n j : ℕ) → n < 10 ^ suc j → length (decimal n) ≤ suc j
unfolding decimal
decimal-short n j h = (short n n j h).1

pub promises : Promises
promises = record { back = back; whole = whole; short = decimal-short; read = read; small = small; none = λ s e. sym (none s e) }
