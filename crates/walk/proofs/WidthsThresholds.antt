-- What the leaves answer: a test of one bit is a class, each class of luma and of chroma has a width, and thresholds are equal field by field.
use Rattle.std.proofs.Common.{◌≡◌, ℕ, zero, suc, ◌^◌, Bool, true, false, ◌≢◌, refl, ap, ◌∙◌}
use lib.Bits.{bit_and}
use Rattle.bits.specs.Bit.{has_bit}
use Rattle.bits.proofs.Bits.{test-set, test-clear}
use Rattle.standard.specs.declared.Bounds.{Bounds}
use Rattle.line.specs.Width.{Width, four, six, eight, sixteen}
use Rattle.walk.specs.Walk.{luma_len, chroma_len, len_of}

module _ (m xy n : ℕ) (h : xy ≡ 2 ^ n) where
  pub has : bit_and m xy ≢ 0 → has_bit m n ≡ true
  has t = test-set m n (λ e. t (ap (bit_and m) h ∙ e))

  pub lacks : bit_and m xy ≡ 0 → has_bit m n ≡ false
  lacks t = test-clear m n (rw h at t)

pub width : (luma : Bool) (c : ℕ) → Width (len_of luma c)
width true zero = four
width true (suc zero) = eight
width true (suc (suc c)) = sixteen
width false zero = four
width false (suc c) = six

module _ (luma : Bool) (c : ℕ) where
  pub len-4 : c ≡ 0 → 4 ≡ len_of luma c
  len-4 e = rw e (go luma)
    where
      go : (b : Bool) → 4 ≡ len_of b 0
      go true = refl
      go false = refl

  pub len-6 : c ≢ 0 → luma ≡ false → 6 ≡ len_of luma c
  len-6 n e = rw e (go c n)
    where
      go : (c : ℕ) → c ≢ 0 → 6 ≡ chroma_len c
      go zero n = absurd (n refl)
      go (suc c) n = refl

  pub len-16 : c ≢ 0 → c ≢ 1 → luma ≡ true → 16 ≡ len_of luma c
  len-16 n o e = rw e (go c n o)
    where
      go : (c : ℕ) → c ≢ 0 → c ≢ 1 → 16 ≡ luma_len c
      go zero n o = absurd (n refl)
      go (suc zero) n o = absurd (o refl)
      go (suc (suc c)) n o = refl

pub by-fields : (r t : Bounds) → r.e ≡ t.e → r.i ≡ t.i → r.h ≡ t.h → r.f ≡ t.f → r.half ≡ t.half → r ≡ t
by-fields r t e i h f half = λ j. record { e = e j; i = i j; h = h j; f = f j; half = half j }
