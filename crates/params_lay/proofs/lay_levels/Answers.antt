-- `lay_levels` meets its contract: each level is laid behind those before.
use mathlib.Core.Path.{refl, ap, ◌∙◌}
use mathlib.Core.List.{◌++◌}
use Prim.Native.Nat.{ℕ, ◌+◌}
use native.Mathlib.Nat.{add-zero}
use lib.ListN.{get_or}
use Rattle.bit_place.specs.Place.{digits, laid}
use Rattle.params_lay.proofs.Layings.{laid-step, long-one, long-two, long-three}
use Rattle.params_lay.proofs.lay_levels.Goals as goal

pub returns : goal.returns
returns c =
    let first = c.put in
    let a = c.args in
    let w = a.bytes.now in
    let x = get_or a.level 0 0 in
    let y = get_or a.level 1 0 in
    let z = get_or a.level 2 0 in
    let one = first.ensures ∙ ap (λ (q : ℕ). laid (digits 6 x) q w) (add-zero a.at) in
    let two = laid-step (digits 6 x) (digits 6 y) a.at (a.at + 6) w first.new.bytes c.put-2.new.bytes one (rw (long-one a.n x y z) refl) c.put-2.ensures in
    let three = laid-step (digits 6 x ++ digits 6 y) (digits a.n z) a.at (a.at + 12) w c.put-2.new.bytes c.put-3.new.bytes two
    (rw (long-two a.n x y z) refl) c.put-3.ensures in
    laid-step (digits 6 x ++ digits 6 y ++ digits a.n z) (digits a.n (get_or a.level 3 0)) a.at (a.at + (12 + a.n)) w
    c.put-3.new.bytes c.put-4.new.bytes three
    (rw (long-three a.n x y z) refl) c.put-4.ensures
