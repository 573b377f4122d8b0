-- Numbers of n bits: what f(n) reads is what `digits` prints, and the same of su(1+6).
use mathlib.Core.Bool.{true, false}
use mathlib.Core.Logic.{by_cases}
use mathlib.Core.List.{List, [], ◌∷◌, ◌++◌}
use mathlib.Core.Option.{some}
use mathlib.Core.Path.{◌≡◌, refl, sym, ap, ◌∙◌}
use Prim.Native.Nat.{ℕ, zero, suc, ◌+◌, ◌-◌, ◌*◌, ◌/◌, ◌%◌, ◌^◌, ◌<◌}
use native.Mathlib.Nat.{pow-suc, div-one, mod-lt}
use native.Mathlib.Decide.{dec_lt}
use native.Mathlib.Omega.{arith}
use borrow.Author.Tests.{le-ltb, ltb-false}
use lib.Seq.{append_snoc}
use lib.IntN.{ℤ, pos, negsuc}
use Rattle.loops.proofs.Bools.{or_off}
use Rattle.bits.specs.Bit.{has_bit}
use Rattle.bits.proofs.Bits.{bit-suc, has-of-bit}
use Rattle.standard.specs.Header.{Bit, worth, one_bit, f, su_of, su7}
use Rattle.deltas.specs.Deltas.{outside}
use Rattle.bit_place.specs.Place.{digits}
use Rattle.bit_place.specs.Seven.{seven_of}
use Rattle.bit_place.proofs.Places.{worth-bit, worth-small, digits-none, even, odd}
use Rattle.bit_place.proofs.Sevens.{small, large, seven-pos, seven-neg}
use Rattle.round_trips.proofs.Steps.{said, left, goes_on, came, one-bit-said}

-- ---- digits from the last on

digits_last : (n v : ℕ) → digits (suc n) v ≡ digits n (v / 2) ++ (has_bit v 0 ∷ [])
unfolding digits
digits_last zero v = refl
digits_last (suc n) v = rw (has-of-bit v (v / 2) (suc n) n (bit-suc v n)) (ap (λ (l : List Bit). has_bit (v / 2) n ∷ l) (digits_last n v))

last-worth : (v : ℕ) → 2 * (v / 2) + worth (has_bit v 0) ≡ v
last-worth v = let w : worth (has_bit v 0) ≡ v % 2 = worth-bit v 0 ∙ ap (λ (x : ℕ). x % 2) (div-one v) in omega (arith, w)

odd-worth : (v x : ℕ) (b : Bit) → 2 * x + worth b ≡ v → has_bit v 0 ≡ b
odd-worth v x true e = odd v (omega (arith, e))
odd-worth v x false e = even v (omega (arith, e))

-- ---- f(n)

pub prints : (n v : ℕ) (rest : List Bit) → v < 2 ^ n → f n (digits n v ++ rest) ≡ some (v, rest)
unfolding f
prints zero v rest h = let z : v ≡ 0 = omega arith in rw (digits-none v, z) refl
prints (suc n) v rest h =
    ap (f (suc n)) (ap (λ (l : List Bit). l ++ rest) (digits_last n v) ∙ append_snoc (digits n (v / 2)) (has_bit v 0) rest)
    ∙ goes_on (f n) _ (digits n (v / 2) ++ has_bit v 0 ∷ rest) (has_bit v 0 ∷ rest) (v / 2) (prints n (v / 2) (has_bit v 0 ∷ rest) half)
    ∙ goes_on one_bit _ (has_bit v 0 ∷ rest) rest (has_bit v 0) refl
    ∙ ap (λ (x : ℕ). some (x, rest)) (last-worth v)
  where
    half : v / 2 < 2 ^ n
    half = let h₁ : v < 2 ^ n * 2 = rw (pow-suc 2 n) at h in omega (arith, h₁)

pub record Number (n v : ℕ) (bs rest : List Bit) : Type 0 where
  pub small : v < 2 ^ n
  pub shown : bs ≡ digits n v ++ rest

pub reads : (n v : ℕ) (bs rest : List Bit) → f n bs ≡ some (v, rest) → Number n v bs rest
unfolding f
reads zero v bs rest h = let z : 0 ≡ v = said h in record { small = omega (arith, z); shown = rw (digits-none v) (left h) }
reads (suc n) v bs rest h =
    let c = came (f n) _ bs rest v h in
    let d = came one_bit _ c.mid rest v c.by-second in
    let e = one-bit-said c.mid d.mid d.first d.by_first in
    let v-is : 2 * c.first + worth d.first ≡ v = said d.by-second in
    let low = reads n c.first bs c.mid c.by_first in
    let half : v / 2 ≡ c.first = omega (arith, v-is, worth-small d.first) in
    let last : has_bit v 0 ≡ d.first = odd-worth v c.first d.first v-is in record {
      small = rw (pow-suc 2 n) (omega (arith, v-is, low.small, worth-small d.first));
      shown = low.shown ∙ ap (λ (l : List Bit). digits n c.first ++ l) (e ∙ ap (λ (l : List Bit). d.first ∷ l) (left d.by-second))
          ∙ sym (ap (λ (l : List Bit). l ++ rest) (digits_last n v) ∙ append_snoc (digits n (v / 2)) (has_bit v 0) rest ∙ rw (half, last) refl);
    }

-- ---- su(1+6)

su-in : (v : ℕ) → v < 128 → outside 64 (su_of v) ≡ false
unfolding outside
su-in v h =
    by_cases (dec_lt v 64) (λ l. rw (small v l) (le-ltb 63 v (omega arith))) (λ g. rw (large v (omega arith) h, le-ltb 63 (127 - v) (omega arith)) refl)

seven-su : (v : ℕ) → v < 128 → seven_of (su_of v) ≡ v
seven-su v h =
    by_cases (dec_lt v 64) (λ l. rw (small v l) (seven-pos v h))
    (λ g. rw (large v (omega arith) h) (seven-neg (127 - v) (omega arith) ∙ omega arith))

su-seven : (d : ℤ) → outside 64 d ≡ false → su_of (seven_of d) ≡ d
unfolding outside
su-seven (pos m) h =
    let le = ltb-false 63 m h in
    rw (seven-pos m (omega (arith, le))) (small m (omega (arith, le)))
su-seven (negsuc m) h =
    let le = ltb-false 63 m (or_off _ false h).0 in
    let back : 127 - (127 - m) ≡ m = omega (arith, le) in
    rw (seven-neg m (omega (arith, le))) (large (127 - m) (omega (arith, le)) (omega arith) ∙ ap negsuc back)

seven-small : (d : ℤ) → seven_of d < 128
unfolding seven_of
seven-small d = mod-lt _ (omega arith)

pub su-prints : (d : ℤ) (rest : List Bit) → outside 64 d ≡ false → su7 (digits 7 (seven_of d) ++ rest) ≡ some (d, rest)
unfolding su7
su-prints d rest h =
    goes_on (f 7) _ (digits 7 (seven_of d) ++ rest) rest (seven_of d) (prints 7 (seven_of d) rest (seven-small d)) ∙ ap (λ (z : ℤ). some (z, rest)) (su-seven d h)

pub record Signed (d : ℤ) (bs rest : List Bit) : Type 0 where
  pub within : outside 64 d ≡ false
  pub shown : bs ≡ digits 7 (seven_of d) ++ rest

signed : (d : ℤ) (v : ℕ) (bs mid rest : List Bit) → su_of v ≡ d → mid ≡ rest → Number 7 v bs mid → Signed d bs rest
signed d v bs mid rest e m n = record {
  within = ap (outside 64) (sym e) ∙ su-in v n.small;
  shown = n.shown ∙ ap (λ (l : List Bit). digits 7 v ++ l) m ∙ ap (λ (w : ℕ). digits 7 w ++ rest) (sym (seven-su v n.small) ∙ ap seven_of e);
}

pub su-reads : (d : ℤ) (bs rest : List Bit) → su7 bs ≡ some (d, rest) → Signed d bs rest
unfolding su7
su-reads d bs rest h =
    let c = came (f 7) _ bs rest d h in signed d c.first bs c.mid rest (said c.by-second) (left c.by-second) (reads 7 c.first bs c.mid c.by_first)
