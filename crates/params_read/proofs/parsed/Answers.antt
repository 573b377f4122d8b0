-- `parsed` meets its contract: the pieces follow one another, each at the place where the one before ends.
use mathlib.Core.Bool.{false}
use mathlib.Core.Path.{refl, sym, ap}
use Prim.Native.Nat.{ℕ, ◌+◌, ◌*◌}
use native.Mathlib.Omega.{arith}
use Rattle.standard.specs.Header.{given}
use Rattle.bit_place.specs.Place.{bit_at}
use Rattle.params_read.proofs.Readers.{reads_as, one_bit_lem, reads-sent}
use Rattle.params_read.proofs.parsed.Goals as goal

pub read_deltas-m-requires : goal.read_deltas-m-requires
read_deltas-m-requires c =
    let e = c.number-delta_enabled in
    let u = c.number-delta_update in (
      omega arith,
      (
        omega arith,
        (
          omega (arith, c.chroma_bits.ensures.1, e.ensures.1),
          one_bit_lem e.result u.result e.ensures.1 (rw c.from-enabled.ensures at u.ensures.1),
          omega arith,
        ),
      ),
    )

pub read_deltas-end-requires : goal.read_deltas-end-requires
read_deltas-end-requires c =
    let e = c.number-delta_enabled in
    let u = c.number-delta_update in (
      omega arith,
      (
        omega arith,
        (
          omega (arith, c.chroma_bits.ensures.1, e.ensures.1, c.read_deltas-m.ensures.1),
          one_bit_lem e.result u.result e.ensures.1 (rw c.from-enabled.ensures at u.ensures.1),
          omega arith,
        ),
      ),
    )

pub returns : goal.returns
returns c =
    let a = c.args in
    let n = c.chroma_bits in
    let lev = c.read_levels-level in
    let e = c.number-delta_enabled in
    let refs = c.read_deltas-m.ensures in
    let modes = c.read_deltas-end.ensures in (
      omega (arith, n.ensures.1, e.ensures.1, refs.1, modes.1),
      reads-sent (given a.planes false false a.refs a.modes) (bit_at a.bytes.now) a.at (12 + 2 * n.result) e.result c.number-delta_update.result
          (12 + 2 * n.result + 4 + c.from-enabled.result) c.read_deltas-m.result.0 c.read_deltas-end.result.0 lev.result
          c.number-sharpness.result _ _
          (reads_as refl (ap (λ (m : ℕ). 12 + 2 * m) (sym n.ensures.0)) lev.ensures) c.number-sharpness.ensures.0 e.ensures.0 (rw c.from-enabled.ensures at c.number-delta_update.ensures.0) (ap (λ (m : ℕ). 12 + 2 * n.result + 4 + m) c.from-enabled.ensures)
          refs.0 refs.2 modes.0 modes.2,
    )
