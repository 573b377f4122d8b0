-- What a reader takes of a stream of bits.
--   chroma_bits n l     the bits of a chroma level, with n planes and the levels l
--   Reads P a s p c     at place p of the stream s the reader P says a and takes c bits; with fewer it runs out
use Rattle.std.specs.Prelude.{cond, List, ◌≡◌, ℕ, ◌+◌, ◌<◌, get_or}
use Rattle.std.proofs.Math.Option.{some, none}
use Rattle.standard.specs.Header.{Bit, Reader, has_chroma}
use Rattle.bit_place.specs.Place.{places}

abbrev pub chroma_bits : ℕ → List ℕ → ℕ
chroma_bits planes l = cond (has_chroma planes (get_or l 0 0) (get_or l 1 0)) 6 0

pub record Reads {A : Type 0} (P : Reader A) (a : A) (s : ℕ → Bit) (p c : ℕ) : Type 0 where
  pub enough : (n : ℕ) → P (places s p (c + n)) ≡ some (a, places s (p + c) n)
  pub short : (n : ℕ) → n < c → P (places s p n) ≡ none
