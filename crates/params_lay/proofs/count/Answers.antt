-- `count` meets its contract: the fields' bits added up.
use mathlib.Core.Path.{◌≡◌}
use native.Mathlib.Omega.{arith}
use borrow.Author.Rules.{rules}
use lib.ListN.{length}
use Rattle.params_lay.proofs.Layings.{length-printed}
use borrow.Author.Rules.{rules}
use Rattle.params_lay.proofs.count.Goals as goal

pub delta_bits-requires : goal.delta_bits-requires
delta_bits-requires c =
    let one = c.requires in
    let long : length c.args.p.update_ref ≡ 8 = search rules in
    (omega (arith, one.update, c.from-u.ensures), omega (arith, one.update, c.from-u.ensures, long), λ i h. one.refs i (omega (arith, h, one.update, c.from-u.ensures)))

pub delta_bits-requires-2 : goal.delta_bits-requires-2
delta_bits-requires-2 c =
    let one = c.requires in
    let long : length c.args.p.update_mode ≡ 2 = search rules in
    (omega (arith, one.update, c.from-u.ensures), omega (arith, one.update, c.from-u.ensures, long), λ i h. one.modes i (omega (arith, h, one.update, c.from-u.ensures)))

pub returns : goal.returns
returns c =
    let p = c.args.p in
    let one = c.requires in
    let bits = c.chroma_bits.ensures in
    let r = c.delta_bits.ensures in
    let m = c.delta_bits-2.ensures in
    let all = length-printed c.args.planes p in
    (omega (arith, all, bits.0, rw c.from-u.ensures at (r.0 p.ref_delta), rw c.from-u.ensures at (m.0 p.mode_delta), c.from.ensures), omega (arith, bits.1, one.enabled, one.update, r.1, m.1, c.from-u.ensures, c.from.ensures))
