-- `delta_bits` meets its contract: the invariant says that the bits of the first i are counted.
use mathlib.Core.Path.{◌≡◌, refl}
use native.Mathlib.Omega.{arith}
use native.Mathlib.Numerals.{add-one}
use Prim.Native.Nat.{◌<◌}
use Rattle.std.proofs.lemmas.List.{get_or-take, length-take-le}
use Rattle.params_lay.proofs.Layings.{deltas-none, length_more}
use Rattle.params_lay.proofs.delta_bits.Goals as goal

pub loop-u-init : goal.loop-u-init
loop-u-init c = (omega arith, λ ds. rw (deltas-none c.args.update.now ds) refl)

pub loop-u-preserved : goal.loop-u-preserved
loop-u-preserved c =
    let l = c.loop-u in
    let i = l.u-index in
    let us = c.args.update.now in
    let long = length-take-le c.args.n us c.requires.1 in
    let within : i < c.args.n = omega (arith, long) in
    let h = c.requires.2 i within in
    let e = get_or-take c.args.n us i 0 within in
    (omega (arith, h, e), λ ds. rw (add-one i, length_more us ds i) (omega (arith, e, l.invariant.1 ds)))

pub returns : goal.returns
returns c =
    let l = c.loop-u in
    let long = length-take-le c.args.n c.args.update.now c.requires.1 in
    let e : l.u-index ≡ c.args.n = omega (arith, long) in
    (λ ds. rw (← e) (l.invariant.1 ds), omega arith)
