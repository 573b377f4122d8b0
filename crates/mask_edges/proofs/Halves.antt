-- A run of places or-ed in as two words, each the part of one half, is the run of marks: both have the same bits, and words with the same bits are the same.
use mathlib.Core.Path.{◌≡◌, sym, ap, ◌∙◌}
use mathlib.Core.Bool.{Bool, ◌&&◌, ◌||◌, or_assoc, false≢true}
use mathlib.Core.Logic.{◌⊎◌, inl, inr, by_cases}
use mathlib.Core.List.{List}
use Prim.Native.Nat.{ℕ, ◌+◌, ◌-◌, ◌*◌, ◌/◌, ◌%◌, ◌^◌, ◌≤◌, ◌<◌}
use native.Mathlib.Omega.{arith}
use native.Mathlib.Nat.{mod-lt}
use native.Mathlib.Decide.{dec_lt}
use lib.Dec.{eqb}
use lib.Bits.{bit_or}
use lib.Pow.{pow_pos, pow_mono, split}
use lib.ListN.{length, get_or, set, length-set}
use Rattle.loops.specs.Any.{any_below, Below}
use Rattle.loops.specs.Exactly.{Reflects}
use Rattle.loops.proofs.Reflected.{reflects-ltb, reflects-leb, reflects-eqb, reflects-as, reflects-and, reflects-or, reflects-any, reflects-same}
use Rattle.bits.specs.Bit.{bit, has_bit}
use Rattle.bits.specs.Mark.{is_set, marks, Words}
use Rattle.bits.proofs.Bits.{bit-small, bit-low, bit_high, has_bit-0, has-of-bit, has_bit-run}
use Rattle.bits.proofs.Marks.{is_set-ext, is_set-or, is_set-marks, length-marks, words-or, words-marks}
use Rattle.mask_edges.proofs.Words.{low_half, high_half}

-- ---- the bits of the two words

has-low : (w h j : ℕ) {P : Type 0} → Reflects (has_bit w j) P → Reflects (has_bit (w % 2 ^ h) j) ((j < h) × P)
has-low w h j r =
    by_cases (dec_lt j h)
    (λ p. rw (has-of-bit (w % 2 ^ h) w j j (sym (bit-low (w / 2 ^ h) (w % 2 ^ h) h j (mod-lt w (pow_pos h)) p) ∙ ap (λ (x : ℕ). bit x j) (split w h)))
    (reflects-as (record { only = λ q. (p, q); always = λ q. q.1 }) r))
    (λ p. rw (has_bit-0 (w % 2 ^ h) j (bit-small (w % 2 ^ h) j (omega (arith, mod-lt w (pow_pos h), pow_mono {i = h} {j = j} (omega arith)))))
    (record { yes = λ e. absurd (false≢true e); no = λ e q. p q.0 }))

has-high : (w h j : ℕ) → has_bit (w / 2 ^ h) j ≡ has_bit w (h + j)
has-high w h j =
    has-of-bit (w / 2 ^ h) w j (h + j)
    (sym (bit_high (w / 2 ^ h) (w % 2 ^ h) h j (mod-lt w (pow_pos h))) ∙ ap (λ (x : ℕ). bit x (h + j)) (split w h))

run-bit : (n k j : ℕ) → Reflects (has_bit (2 ^ (n + k) - 2 ^ k) j) ((k ≤ j) × (j < k + n))
run-bit n k j = rw (has_bit-run n k j) (reflects-and (reflects-leb k j) (reflects-ltb j (k + n)))

module _ (n k h at lo hi : ℕ) (f : ℕ → ℕ) (hk : k + n ≤ 2 * h) (low : h ≤ 16) (el : lo ≡ (2 ^ (n + k) - 2 ^ k) % 2 ^ h)
    (eh : hi ≡ (2 ^ (n + k) - 2 ^ k) / 2 ^ h)
    (ef : (v : ℕ) → f v ≡ 16 * (at + (k + v) / h) + (k + v) % h) where
  -- bit x is of the run: in the first word, in the second, and as a mark
  First : ℕ → Type 0
  First x = (at ≡ x / 16) × ((x % 16 < h) × ((k ≤ x % 16) × (x % 16 < k + n)))

  Second : ℕ → Type 0
  Second x = (at + 1 ≡ x / 16) × ((k ≤ h + x % 16) × (h + x % 16 < k + n))

  Mark : ℕ → Type 0
  Mark x = Below n (λ v. f v ≡ x)

  first : (x : ℕ) → Reflects (eqb at (x / 16) && has_bit lo (x % 16)) (First x)
  unfolding First
  first x = reflects-and (reflects-eqb at (x / 16)) (rw el (has-low (2 ^ (n + k) - 2 ^ k) h (x % 16) (run-bit n k (x % 16))))

  second : (x : ℕ) → Reflects (eqb (at + 1) (x / 16) && has_bit hi (x % 16)) (Second x)
  unfolding Second
  second x = reflects-and (reflects-eqb (at + 1) (x / 16)) (rw (eh, has-high (2 ^ (n + k) - 2 ^ k) h (x % 16)) (run-bit n k (h + x % 16)))

  marked : (x : ℕ) → First x ⊎ Second x → Mark x
  unfolding First Second Mark
  marked x (inl q) =
      let l = low_half h (x % 16) q.1.0 in
      let e : k + (x % 16 - k) ≡ x % 16 = omega arith in
      (x % 16 - k, omega arith, ef (x % 16 - k) ∙ rw (e, l.0, l.1) (omega arith))
  marked x (inr q) =
      let l = high_half h (h + x % 16) (omega arith) (omega arith) in
      let e : k + (h + x % 16 - k) ≡ h + x % 16 = omega arith in
      (h + x % 16 - k, omega arith, ef (h + x % 16 - k) ∙ rw (e, l.0, l.1) (omega arith))

  written : (x : ℕ) → Mark x → First x ⊎ Second x
  unfolding First Second Mark
  written x (v, l, e) =
      by_cases (dec_lt (k + v) h)
      (λ q. let d = low_half h (k + v) q in
      let g : 16 * (at + 0) + (k + v) ≡ x = rw (d.0, d.1) at (sym (ef v) ∙ e) in inl (omega arith))
      (λ q. let d = high_half h (k + v) (omega arith) (omega arith) in
      let g : 16 * (at + 1) + (k + v - h) ≡ x = rw (d.0, d.1) at (sym (ef v) ∙ e) in inr (omega arith))

  both : (x : ℕ) → ((eqb at (x / 16) && has_bit lo (x % 16)) || (eqb (at + 1) (x / 16) && has_bit hi (x % 16))) ≡ any_below n (λ v. eqb (f v) x)
  unfolding Mark
  both x =
      reflects-same (reflects-or (first x) (second x)) (reflects-any n (λ v. eqb (f v) x) (λ v. f v ≡ x) (λ v l. reflects-eqb (f v) x)) (marked x) (written x)

-- ---- the words stay words

pub run-top : (n k h : ℕ) → k + n ≤ 2 * h → 2 ^ (n + k) - 2 ^ k < 2 ^ (h + h)
run-top n k h l = omega (arith, pow_pos (h + h), pow_mono {i = n + k} {j = h + h} (omega arith), pow_pos k)

-- ---- the run

pub halves-marks : (ms : List ℕ) (n k h at lo hi : ℕ) (f : ℕ → ℕ) → Words ms → k + n ≤ 2 * h → h ≤ 16 → at + 1 < length ms → lo < 2 ^ 16 → hi < 2 ^ 16
    → lo ≡ (2 ^ (n + k) - 2 ^ k) % 2 ^ h → hi ≡ (2 ^ (n + k) - 2 ^ k) / 2 ^ h → ((v : ℕ) → f v ≡ 16 * (at + (k + v) / h) + (k + v) % h)
    → ((v : ℕ) → v < n → f v / 16 < length ms) → {m m' : List ℕ} → m ≡ set ms at (bit_or (get_or ms at 0) lo)
    → m' ≡ set m (at + 1) (bit_or (get_or m (at + 1) 0) hi) → m' ≡ marks n f ms
halves-marks ms n k h at lo hi f hw hk low hl ll lh el eh ef hf e e' =
    e' ∙ rw e
    (is_set-ext (set m (at + 1) (bit_or (get_or m (at + 1) 0) hi)) (marks n f ms) (simp length-set (sym (length-marks n f ms)))
    (words-or m (at + 1) hi lh (words-or ms at lo ll hw)) (words-marks n f ms hw)
    (λ x. is_set-or m (at + 1) hi x (rw (length-set ms at (bit_or (get_or ms at 0) lo)) hl)
    ∙ ap (λ (b : Bool). b || (eqb (at + 1) (x / 16) && has_bit hi (x % 16))) (is_set-or ms at lo x (omega arith))
    ∙ or_assoc (is_set ms x) (eqb at (x / 16) && has_bit lo (x % 16)) (eqb (at + 1) (x / 16) && has_bit hi (x % 16))
    ∙ ap (λ (b : Bool). is_set ms x || b) (both n k h at lo hi f hk low el eh ef x) ∙ sym (is_set-marks n f ms hf x)))
  where
    m : List ℕ
    m = set ms at (bit_or (get_or ms at 0) lo)
