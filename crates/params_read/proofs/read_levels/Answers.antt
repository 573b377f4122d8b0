-- `read_levels` meets its contract: each number is that of its piece.
use mathlib.Core.Path.{◌≡◌, refl, ap, ◌∙◌}
use mathlib.Core.Bool.{cond}
use Prim.Native.Nat.{ℕ, ◌+◌, ◌*◌}
use native.Mathlib.Nat.{add-zero}
use Rattle.standard.specs.Header.{has_chroma}
use Rattle.bit_place.specs.Place.{bit_at, number_at}
use Rattle.params_read.proofs.Readers.{reads_as, reads-levels}
use Rattle.params_read.proofs.read_levels.Goals as goal

pub returns : goal.returns
returns c =
    let a = c.args in
    let s = bit_at a.bytes.now in
    let l0 : c.number-columns.result ≡ number_at s a.at 6 = c.number-columns.ensures.0 ∙ ap (λ (q : ℕ). number_at s q 6) (add-zero a.at) in
    let l1 = c.number-rows.ensures.0 in
    let bits = c.chroma_bits-n.ensures.0 in
    let e : c.chroma_bits-n.result ≡ cond (has_chroma a.planes (number_at s a.at 6) (number_at s (a.at + 6) 6)) 6 0 = rw (← l0, ← l1) bits in
    reads_as (rw (l0, l1, c.number-u.ensures.0, c.number-v.ensures.0) refl) (ap (λ (n : ℕ). 12 + 2 * n) bits)
    (reads-levels a.planes s a.at c.chroma_bits-n.result e)
