-- What marks do to a set of bits, one by one, joined and in loops: the word of the bit is looked at, and no other word changes.
use mathlib.Core.Path.{◌≡◌, refl, sym, ap, ◌∙◌}
use mathlib.Core.Bool.{Bool, false, ◌&&◌, ◌||◌, not, and-true, and-false, or-false, or_assoc}
use mathlib.Core.Logic.{by_cases}
use mathlib.Core.List.{List}
use Prim.Native.Nat.{ℕ, zero, suc, ◌+◌, ◌-◌, ◌*◌, ◌/◌, ◌%◌, ◌^◌, ◌<◌}
use native.Mathlib.Omega.{arith}
use native.Mathlib.Nat.{le_refl}
use native.Mathlib.Numerals.{add-one}
use native.Mathlib.Decide.{ℕ_discrete, dec_lt}
use lib.Dec.{eqb}
use lib.Bits.{bit_and, bit_or, or_lt}
use lib.Pow.{pow-lt}
use lib.ListN.{length, get_or, set, replicate, length-set}
use lib.Seq.{get_or-set_same, get_or-set_other, set_out, ext_get_or}
use borrow.Author.Tests.{eq-eqb, ne_eqb}
use Rattle.loops.specs.Run.{up_to}
use Rattle.loops.specs.Any.{any_below}
use Rattle.bits.specs.Bit.{has_bit}
use Rattle.bits.specs.Mark.{is_set, mark, unmark, marks, Words, Adds}
use Rattle.bits.proofs.Bits.{has_bit-nil, bit-ext, bit-of-has, has_bit-or, has_bit-pow, has_bit-cleared, has_bit-kept}

-- two lists of 16-bit words with the same bits are the same
pub is_set-ext : (a b : List ℕ) → length a ≡ length b → Words a → Words b → ((x : ℕ) → is_set a x ≡ is_set b x) → a ≡ b
unfolding is_set Words
is_set-ext a b l ha hb h =
    ext_get_or 0 a b l (λ i hi. bit-ext 16 (get_or a i 0) (get_or b i 0) (ha i) (hb i) (λ k hk. bit-of-has _ _ k (at i k hk)))
  where
    at : (i k : ℕ) → k < 16 → has_bit (get_or a i 0) k ≡ has_bit (get_or b i 0) k
    at i k hk =
        let p : (i * 16 + k) / 16 ≡ i = omega arith in
        let q : (i * 16 + k) % 16 ≡ k = omega arith in
        rw (p, q) at (h (i * 16 + k))

-- ---- one bit

-- a word or-ed in
pub is_set-or : (ms : List ℕ) (i w x : ℕ) → i < length ms → is_set (set ms i (bit_or (get_or ms i 0) w)) x ≡ (is_set ms x || (eqb i (x / 16) && has_bit w (x % 16)))
unfolding is_set
is_set-or ms i w x h =
    by_cases (ℕ_discrete i (x / 16))
    (λ p. rw (eq-eqb _ _ p, ← p, get_or-set_same ms i (bit_or (get_or ms i 0) w) 0 h) (has_bit-or (get_or ms i 0) w (x % 16)))
    (λ f. rw (ne_eqb _ _ f, get_or-set_other ms i (x / 16) (bit_or (get_or ms i 0) w) 0 (λ q. f (sym q))) (sym (or-false (has_bit (get_or ms (x / 16) 0) (x % 16)))))

-- a bit is told by its word and its place there
eqb-split : (e x : ℕ) → (eqb (e / 16) (x / 16) && eqb (e % 16) (x % 16)) ≡ eqb e x
eqb-split e x = go (ℕ_discrete (e / 16) (x / 16)) (ℕ_discrete e x)
  where
    go : Dec (e / 16 ≡ x / 16) → Dec (e ≡ x) → (eqb (e / 16) (x / 16) && eqb (e % 16) (x % 16)) ≡ eqb e x
    go (yes p) (yes q) = rw (eq-eqb _ _ p, eq-eqb _ _ q) (eq-eqb _ _ (ap (λ (n : ℕ). n % 16) q))
    go (yes p) (no f) = rw (eq-eqb _ _ p, ne_eqb _ _ f) (ne_eqb (e % 16) (x % 16) (λ q. f (omega arith)))
    go (no f) d = rw (ne_eqb _ _ f) (sym (ne_eqb e x (λ q. f (ap (λ (n : ℕ). n / 16) q))))

pub length-mark : (ms : List ℕ) (e : ℕ) → length (mark ms e) ≡ length ms
unfolding mark
length-mark ms e = length-set ms (e / 16) _

pub is_set-mark : (ms : List ℕ) (e x : ℕ) → e / 16 < length ms → is_set (mark ms e) x ≡ (is_set ms x || eqb e x)
unfolding mark
is_set-mark ms e x h =
    is_set-or ms (e / 16) (2 ^ (e % 16)) x h
    ∙ ap (λ (b : Bool). is_set ms x || (eqb (e / 16) (x / 16) && b)) (has_bit-pow (e % 16) (x % 16))
    ∙ ap (λ (b : Bool). is_set ms x || b) (eqb-split e x)

pub length-unmark : (ms : List ℕ) (e : ℕ) → length (unmark ms e) ≡ length ms
unfolding unmark
length-unmark ms e = length-set ms (e / 16) _

pub is_set-unmark : (ms : List ℕ) (e x : ℕ) → e / 16 < length ms → is_set (unmark ms e) x ≡ (is_set ms x && not (eqb e x))
unfolding unmark is_set
is_set-unmark ms e x h = go (ℕ_discrete e x) (ℕ_discrete (e / 16) (x / 16))
  where
    w : ℕ
    w = bit_and (get_or ms (e / 16) 0) ((2 ^ 16 - 1) - 2 ^ (e % 16))

    go : Dec (e ≡ x) → Dec (e / 16 ≡ x / 16)
        → has_bit (get_or (set ms (e / 16) w) (x / 16) 0) (x % 16) ≡ (has_bit (get_or ms (x / 16) 0) (x % 16) && not (eqb e x))
    go (yes p) q =
        rw (eq-eqb e x p, ← p, get_or-set_same ms (e / 16) w 0 h)
        (has_bit-cleared 16 (get_or ms (e / 16) 0) (e % 16) (omega arith) ∙ sym (and-false (has_bit (get_or ms (e / 16) 0) (e % 16))))
    go (no f) (yes q) =
        rw (ne_eqb e x f, ← q, get_or-set_same ms (e / 16) w 0 h)
        (has_bit-kept 16 (get_or ms (e / 16) 0) (e % 16) (x % 16) (omega arith) (omega arith) (λ z. f (omega arith))
        ∙ sym (and-true (has_bit (get_or ms (e / 16) 0) (x % 16))))
    go (no f) (no q) =
        rw (ne_eqb e x f, get_or-set_other ms (e / 16) (x / 16) w 0 (λ z. q (sym z))) (sym (and-true (has_bit (get_or ms (x / 16) 0) (x % 16))))

-- ---- several: one after the other, and a loop

pub adds-mark : (n e : ℕ) → e / 16 < n → Adds n (λ ms. mark ms e) (eqb e)
adds-mark n e h = record { long = λ ms l. length-mark ms e ∙ l; bits = λ ms l x. is_set-mark ms e x (rw l h) }

pub adds_then : (n : ℕ) (g h : List ℕ → List ℕ) (P Q : ℕ → Bool) → Adds n g P → Adds n h Q → Adds n (λ ms. h (g ms)) (λ x. P x || Q x)
adds_then n g h P Q p q =
    record {
      long = λ ms e. q.long (g ms) (p.long ms e);
      bits = λ ms e x. q.bits (g ms) (p.long ms e) x ∙ ap (λ (b : Bool). b || Q x) (p.bits ms e x) ∙ or_assoc (is_set ms x) (P x) (Q x);
    }

pub adds-up_to : (n k : ℕ) (g : ℕ → List ℕ → List ℕ) (P : ℕ → ℕ → Bool) → ((y : ℕ) → y < k → Adds n (g y) (P y))
    → Adds n (up_to g k) (λ x. any_below k (λ y. P y x))
unfolding any_below
adds-up_to n zero g P h = record { long = λ ms e. e; bits = λ ms e x. sym (or-false (is_set ms x)) }
adds-up_to n (suc k) g P h =
    adds_then n (up_to g k) (g k) (λ x. any_below k (λ y. P y x)) (P k) (adds-up_to n k g P (λ y l. h y (omega arith))) (h k (le_refl (suc k)))

pub adds-marks : (n k : ℕ) (f : ℕ → ℕ) → ((y : ℕ) → y < k → f y / 16 < n) → Adds n (marks k f) (λ x. any_below k (λ y. eqb (f y) x))
unfolding marks
adds-marks n k f h = adds-up_to n k (λ y ms. mark ms (f y)) (λ y. eqb (f y)) (λ y l. adds-mark n (f y) (h y l))

pub marks-none : (f : ℕ → ℕ) (ms : List ℕ) → marks 0 f ms ≡ ms
unfolding marks
marks-none f ms = refl

-- one turn more, as a loop's counter has it
pub marks-more : (n : ℕ) (f : ℕ → ℕ) (ms : List ℕ) → marks (n + 1) f ms ≡ mark (marks n f ms) (f n)
unfolding marks
marks-more n f ms = ap (λ (k : ℕ). marks k f ms) (add-one n)

pub length-marks : (n : ℕ) (f : ℕ → ℕ) (ms : List ℕ) → length (marks n f ms) ≡ length ms
unfolding marks
length-marks zero f ms = refl
length-marks (suc n) f ms = length-mark (marks n f ms) (f n) ∙ length-marks n f ms

-- order-free: a bit is set after iff it was before, or some turn sets it
pub is_set-marks : (n : ℕ) (f : ℕ → ℕ) (ms : List ℕ) → ((y : ℕ) → y < n → f y / 16 < length ms) → (x : ℕ)
    → is_set (marks n f ms) x ≡ (is_set ms x || any_below n (λ y. eqb (f y) x))
is_set-marks n f ms h = (adds-marks (length ms) n f h).bits ms refl

-- ---- words stay words

pub words-or : (ms : List ℕ) (i w : ℕ) → w < 2 ^ 16 → Words ms → Words (set ms i (bit_or (get_or ms i 0) w))
unfolding Words
words-or ms i w hw h j = go (ℕ_discrete j i) (dec_lt i (length ms))
  where
    go : Dec (j ≡ i) → Dec (i < length ms) → get_or (set ms i (bit_or (get_or ms i 0) w)) j 0 < 2 ^ 16
    go (yes p) (yes q) = rw (p, get_or-set_same ms i (bit_or (get_or ms i 0) w) 0 q) (or_lt 16 (get_or ms i 0) w (h i) hw)
    go (yes p) (no q) = rw (set_out ms i (bit_or (get_or ms i 0) w) (omega arith)) (h j)
    go (no p) q = rw (get_or-set_other ms i j (bit_or (get_or ms i 0) w) 0 p) (h j)

pub words-marks : (n : ℕ) (f : ℕ → ℕ) (ms : List ℕ) → Words ms → Words (marks n f ms)
unfolding marks mark
words-marks zero f ms h = h
words-marks (suc n) f ms h =
    words-or (marks n f ms) (f n / 16) (2 ^ (f n % 16)) (pow-lt {i = f n % 16} {j = 16} (omega arith)) (words-marks n f ms h)

-- ---- zeros

pub zero-at : (n i : ℕ) → ◌≡◌ {A = ℕ} (get_or (replicate n 0) i 0) 0
zero-at zero i = refl
zero-at (suc n) zero = refl
zero-at (suc n) (suc i) = zero-at n i

pub none-set : (n e : ℕ) → is_set (replicate n 0) e ≡ false
unfolding is_set
none-set n e = rw (zero-at n (e / 16)) (has_bit-nil (e % 16))
