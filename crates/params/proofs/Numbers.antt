-- The numbers that `read` and `write` answer: the bits of a place are as many as the room, and the reader takes its count of them or runs out.
use mathlib.Core.Bool.{true, false}
use mathlib.Core.List.{List}
use mathlib.Core.Path.{◌≡◌, refl, ap, ◌∙◌}
use mathlib.Core.Option.{some}
use Prim.Native.Nat.{ℕ, zero, suc, ◌+◌, ◌-◌, ◌*◌}
use native.Mathlib.Omega.{arith}
use borrow.Author.Tests.{lt-ltb, le-ltb, leb-true, leb-false}
use lib.Dec.{leb}
use lib.IntN.{ℤ}
use lib.ListN.{length}
use Rattle.standard.specs.Header.{Bit, Given, is_off, off, sent, parse}
use Rattle.standard.specs.declared.Params.{Params}
use Rattle.bit_place.specs.Place.{bit_at, places, bits_from, laid}
use Rattle.params_read.specs.Reads.{Reads}
use Rattle.params_lay.specs.Print.{printed, OneBits}
use Rattle.params_unfit.specs.Unfit.{unfit}
use Rattle.params_unfit.proofs.Fits.{Fit}
use Rattle.params.specs.Calls.{ParamsAnswer, no_params, read_of, write_number, WriteAnswer}

abbrev answer : ℕ → ℕ → Params → ParamsAnswer
answer r c p = record { number = r; count = c; params = p }

pub length-places : (s : ℕ → Bit) (p n : ℕ) → length (places s p n) ≡ n
length-places s p zero = refl
length-places s p (suc n) = ap suc (length-places s (suc p) n)

pub read_off : (g : Given) (bytes : List ℕ) (at : ℕ) → is_off g ≡ true → read_of g bytes at ≡ answer 0 0 off
unfolding read_of parse
read_off g bytes at e =
    let n = length (bits_from bytes at) in
    let z : n - n ≡ 0 = omega arith in
    rw (e, z) refl

module _ (g : Given) (bytes : List ℕ) (at c : ℕ) (p : Params) (e : is_off g ≡ false) (r : Reads (sent g) p (bit_at bytes) at c) where
  pub read-on : leb c (8 * length bytes - at) ≡ true → read_of g bytes at ≡ answer 0 c p
  unfolding read_of parse
  read-on h =
      let n = 8 * length bytes - at in
      let le = leb-true c n h in
      let q : n ≡ c + (n - c) = omega arith in
      let got : sent g (bits_from bytes at) ≡ some (p, places (bit_at bytes) (at + c) (n - c)) = ap (λ (m : ℕ). sent g (places (bit_at bytes) at m)) q ∙ r.enough (n - c) in
      let z : n - (n - c) ≡ c = omega arith in
      rw (e, got, length-places (bit_at bytes) at n, length-places (bit_at bytes) (at + c) (n - c), z) refl

  pub read_short : leb c (8 * length bytes - at) ≡ false → read_of g bytes at ≡ answer 23 0 no_params
  unfolding read_of parse
  read_short h = rw (e, r.short (8 * length bytes - at) (leb-false c _ h)) refl

-- ---- writing

pub fit-bits : (planes : ℕ) (refs modes : List ℤ) (p : Params) → Fit planes refs modes p → OneBits p
fit-bits planes refs modes p f = record {
  enabled = omega (arith, f.enabled);
  update = omega (arith, f.enabled, f.update);
  refs = λ i h. omega (arith, (f.ref i h).most, f.enabled, f.update);
  modes = λ i h. omega (arith, (f.mode i h).most, f.enabled, f.update);
}

module _ (g : Given) (p : Params) (at : ℕ) (before : List ℕ) where
  pub write-unfit : unfit g p ≡ true → WriteAnswer g p at 24 0 before before
  unfolding write_number
  write-unfit u = record { code = rw u refl; count = refl; stored = refl }

  pub write-off : unfit g p ≡ false → is_off g ≡ true → WriteAnswer g p at 0 0 before before
  unfolding write_number
  write-off u o = record { code = rw (u, o, le-ltb (8 * length before - at) 0 (omega arith)) refl; count = rw o refl; stored = rw o refl }

  pub write-short : unfit g p ≡ false → is_off g ≡ false → (n : ℕ) → n ≡ length (printed g.planes p) → leb n (8 * length before - at) ≡ false
      → WriteAnswer g p at 23 0 before before
  unfolding write_number
  write-short u o n e h =
      let lt = leb-false n _ h in
      record { code = rw (u, o, lt-ltb (8 * length before - at) (length (printed g.planes p)) (omega (arith, lt, e))) refl; count = refl; stored = refl }

  pub write_done : unfit g p ≡ false → is_off g ≡ false → (n : ℕ) → n ≡ length (printed g.planes p) → leb n (8 * length before - at) ≡ true → (after : List ℕ)
      → after ≡ laid (printed g.planes p) at before → WriteAnswer g p at 0 n before after
  unfolding write_number
  write_done u o n e h after s =
      let le = leb-true n _ h in record {
        code = rw (u, o, le-ltb (8 * length before - at) (length (printed g.planes p)) (omega (arith, le, e))) refl;
        count = rw o e;
        stored = rw o s;
      }
