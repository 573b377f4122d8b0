-- `read` meets its contract: with no bits to read it answers the defaults, and else it compares the count with the room.
use mathlib.Core.Path.{sym, ◌∙◌}
use Rattle.params.specs.Calls.{given_by}
use Rattle.loops.proofs.Bools.{no, yes}
use Rattle.standard.specs.Header.{sent}
use Rattle.params.proofs.Numbers.{read_off, read-on, read_short}
use Rattle.params.proofs.read.Goals as goal

pub returns-then-is_off : goal.returns-then-is_off
returns-then-is_off c =
    let a = c.args in
    rw c.defaults.ensures (sym (read_off (given_by a.header) a.bytes.now a.at (sym c.is_off.ensures ∙ c.if-is_off.true)))

pub returns-then-not-has_room : goal.returns-then-not-has_room
unfolding sent
returns-then-not-has_room c =
    let a = c.args in
    let p = c.parsed-taken in
    sym (read_short (given_by a.header) a.bytes.now a.at p.result.count p.result.params
    (sym c.is_off.ensures ∙ c.if-is_off.false) p.ensures.1
    (no c.has_room.ensures c.if-not-has_room.true))

pub returns : goal.returns
unfolding sent
returns c =
    let a = c.args in
    let p = c.parsed-taken in
    sym (read-on (given_by a.header) a.bytes.now a.at p.result.count p.result.params
    (sym c.is_off.ensures ∙ c.if-is_off.false) p.ensures.1
    (yes c.has_room.ensures c.if-not-has_room.false))
