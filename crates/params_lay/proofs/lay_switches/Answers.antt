-- `lay_switches` meets its contract: each is laid behind those before.
use mathlib.Core.List.{◌++◌}
use mathlib.Core.Path.{sym}
use Prim.Native.Nat.{◌+◌}
use native.Mathlib.Nat.{add_assoc}
use Rattle.bit_place.specs.Place.{digits}
use Rattle.bit_place.proofs.Places.{length_digits}
use Rattle.params_lay.proofs.Layings.{laid-step, long-switch}
use Rattle.params_lay.proofs.lay_switches.Goals as goal

pub returns : goal.returns
returns c =
    let a = c.args in
    let w = a.bytes.now in
    let two = laid-step (digits 3 a.sharpness) (digits 1 a.enabled) (a.at + a.k) (a.at + (a.k + 3)) w c.put.new.bytes
    c.put-2.new.bytes c.put.ensures
    (rw (length_digits 3 a.sharpness) (sym (add_assoc a.at a.k 3))) c.put-2.ensures in
    laid-step (digits 3 a.sharpness ++ digits 1 a.enabled) (digits a.enabled a.update) (a.at + a.k) (a.at + (a.k + 4)) w
    c.put-2.new.bytes c.put-3.new.bytes two
    (rw (long-switch 0 a.sharpness a.enabled 0) (sym (add_assoc a.at a.k 4))) (rw c.from.ensures at c.put-3.ensures)
