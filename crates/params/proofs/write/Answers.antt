-- `write` meets its contract: what is unfit is refused before the room is looked at, and nothing is stored until both are known.
use mathlib.Core.Bool.{false}
use mathlib.Core.Path.{◌≡◌, sym, ◌∙◌}
use Prim.Native.Nat.{◌-◌, ◌*◌}
use native.Mathlib.Omega.{arith}
use borrow.Author.Tests.{leb-true}
use lib.ListN.{length}
use Rattle.params.specs.Calls.{given_by}
use Rattle.loops.proofs.Bools.{no, yes}
use Rattle.params_unfit.specs.Unfit.{unfit_as}
use Rattle.params_unfit.proofs.Fits.{fit_on}
use Rattle.params_lay.proofs.Layings.{length-printed}
use Rattle.params.proofs.Numbers.{fit-bits, write-unfit, write-off, write-short, write_done}
use Rattle.params.proofs.write.Goals as goal

pub returns-then-unfit : goal.returns-then-unfit
returns-then-unfit c =
    let a = c.args in
    write-unfit (given_by a.header) a.params a.at a.bytes.now (rw c.is_off-off.ensures at (sym c.unfit.ensures ∙ c.if-unfit.true))

pub returns-then-off : goal.returns-then-off
returns-then-off c =
    let a = c.args in
    write-off (given_by a.header) a.params a.at a.bytes.now (rw c.is_off-off.ensures at (sym c.unfit.ensures ∙ c.if-unfit.false)) (sym c.is_off-off.ensures ∙ c.if-off.true)

pub count-n-requires : goal.count-n-requires
count-n-requires c =
    let a = c.args in
    let u : unfit_as false a.header.planes a.header.refs a.header.modes a.params ≡ false = rw c.if-off.false at (sym c.unfit.ensures ∙ c.if-unfit.false) in
    fit-bits a.header.planes a.header.refs a.header.modes a.params (fit_on a.header.planes a.header.refs a.header.modes a.params u)

pub returns-then-not-has_room : goal.returns-then-not-has_room
returns-then-not-has_room c =
    let a = c.args in
    write-short (given_by a.header) a.params a.at a.bytes.now (rw c.is_off-off.ensures at (sym c.unfit.ensures ∙ c.if-unfit.false)) (sym c.is_off-off.ensures ∙ c.if-off.false) c.count-n.result
    c.count-n.ensures.0
    (no c.has_room.ensures c.if-not-has_room.true)

pub lay-requires : goal.lay-requires
lay-requires c =
    let a = c.args in
    let u : unfit_as false a.header.planes a.header.refs a.header.modes a.params ≡ false = rw c.if-off.false at (sym
    c.unfit.ensures ∙ c.if-unfit.false) in
    let n = c.count-n in
    let le = leb-true n.result (8 * length a.bytes.now - a.at) (yes c.has_room.ensures c.if-not-has_room.false) in
    (fit-bits a.header.planes a.header.refs a.header.modes a.params (fit_on a.header.planes a.header.refs a.header.modes a.params u), omega (arith, le, n.ensures.0, length-printed a.header.planes a.params))

pub returns : goal.returns
returns c =
    let a = c.args in
    write_done (given_by a.header) a.params a.at a.bytes.now (rw c.is_off-off.ensures at (sym c.unfit.ensures ∙ c.if-unfit.false)) (sym c.is_off-off.ensures ∙ c.if-off.false)
    c.count-n.result c.count-n.ensures.0
    (yes c.has_room.ensures c.if-not-has_room.false) _ c.lay.ensures
