-- `lay_deltas` meets its contract: the invariant says that those before are laid.
use mathlib.Core.List.{[], ◌∷◌, ◌++◌}
use mathlib.Core.Path.{◌≡◌, refl, sym, ap, ◌∙◌}
use Prim.Native.Nat.{◌+◌, ◌-◌, ◌*◌, ◌≤◌}
use native.Mathlib.Omega.{arith}
use native.Mathlib.Numerals.{add-one}
use lib.IntN.{pos}
use lib.ListN.{length, get_or, length-append}
use Rattle.std.proofs.Common.{rules, ⊎_elim}
use Rattle.deltas.specs.Deltas.{delta}
use Rattle.deltas.proofs.Bias.{seen}
use Rattle.bit_place.specs.Seven.{seven_of}
use Rattle.bit_place.proofs.Places.{length-laid}
use Rattle.bit_place.specs.Place.{digits, laid}
use Rattle.params_lay.specs.Print.{deltas_digits}
use Rattle.params_lay.proofs.Layings.{deltas-none, length_more, length-upto, laid-delta, next-item, none-left}
use Rattle.params_lay.proofs.lay_deltas.Goals as goal

pub loop-u-init : goal.loop-u-init
loop-u-init c =
    let a = c.args in
    let none = deltas-none a.update.now a.deltas.now in
    (rw none (omega arith), omega arith, rw none refl, search rules, search rules, omega arith)

pub put-requires : goal.put-requires
put-requires c =
    let l = c.loop-u in
    let a = c.args in
    let us = a.update.now in
    let ds = a.deltas.now in
    let i = length l.yielded in
    let u = next-item a.n i us _ _ 0 c.requires.2 (sym l.invariant.3 ∙ c.in-Some.ensures.steps.0) in
    let h = c.requires.4 i u.0 in
    let e : i + 1 + (a.n - (i + 1)) ≡ a.n = omega (arith, u.0) in
    let all : length (deltas_digits us ds (i + 1)) ≤ length (deltas_digits us ds a.n) = rw e at (length-upto us ds (i + 1) (a.n - (i + 1))) in
    let more : length (deltas_digits us ds (i + 1)) ≡ length (deltas_digits us ds i) + (1 + 7 * get_or us i 0) = rw (add-one i) (length_more us ds i) in
    (omega (arith, u.0, l.invariant.1), omega arith, omega (arith, all, more, l.invariant.0, l.auto.bytes, c.requires.5))

pub put-requires-in-loop-u : goal.put-requires-in-loop-u
put-requires-in-loop-u c =
    let l = c.loop-u in
    let a = c.args in
    let us = a.update.now in
    let ds = a.deltas.now in
    let i = length l.yielded in
    let u = next-item a.n i us _ _ 0 c.requires.2 (sym l.invariant.3 ∙ c.in-Some.ensures.steps.0) in
    let h = c.requires.4 i u.0 in
    let e : i + 1 + (a.n - (i + 1)) ≡ a.n = omega (arith, u.0) in
    let all : length (deltas_digits us ds (i + 1)) ≤ length (deltas_digits us ds a.n) = rw e at (length-upto us ds (i + 1) (a.n - (i + 1))) in
    let more : length (deltas_digits us ds (i + 1)) ≡ length (deltas_digits us ds i) + (1 + 7 * get_or us i 0) = rw (add-one i) (length_more us ds i) in
    let kept : length c.put.new.bytes ≡ length l.bytes = rw c.put.ensures (length-laid (digits 1 c.in-Some.field-0-0.now) (a.at + l.k) l.bytes) in (
      omega (arith, u.0, l.invariant.1),
      omega (arith, h, u.1, c.from-bits.ensures),
      omega (arith, u.1, c.from-bits.ensures, all, more, kept, l.invariant.0, l.auto.bytes, c.requires.5),
    )

pub loop-u-preserved : goal.loop-u-preserved
loop-u-preserved c =
    let l = c.loop-u in
    let a = c.args in
    let us = a.update.now in
    let ds = a.deltas.now in
    let i = length l.yielded in
    let u = next-item a.n i us _ _ 0 c.requires.2 (sym l.invariant.3 ∙ c.in-Some.ensures.steps.0) in
    let d = next-item a.n i ds _ _ (pos 0) c.requires.3 (sym l.invariant.4 ∙ c.in-Some.ensures.steps.1) in
    let h = c.requires.4 i u.0 in
    let on : length (l.yielded ++ (c.in-Some.field-0-0, c.in-Some.field-0-1) ∷ []) ≡ i + 1 = length-append l.yielded _ in
    let more : length (deltas_digits us ds (i + 1)) ≡ length (deltas_digits us ds i) + (1 + 7 * get_or us i 0) = rw (add-one i) (length_more us ds i) in
    let q : a.at + l.k ≡ a.at + a.from + length (deltas_digits us ds i) = omega (arith, l.invariant.0) in
    let q₁ : a.at + (l.k + 1) ≡ a.at + l.k + 1 = omega arith in
    let s : c.seven.result ≡ seven_of (delta ds i) = c.seven.ensures ∙ ap seven_of (seen _ (search rules) ∙ sym d.1) in
    let laid₁ : c.put-in-loop-u.new.bytes ≡ laid (deltas_digits us ds (i + 1)) (a.at + a.from) a.bytes.now =
    rw (c.put-in-loop-u.ensures, c.put.ensures, c.from-bits.ensures, ← u.1, q₁, s, l.invariant.2, add-one i) (sym (laid-delta us ds i
    (a.at + a.from) (a.at + l.k) a.bytes.now q)) in
    rw on (
      omega (arith, more, l.invariant.0, c.from-bits.ensures, u.1),
      omega (arith, h, l.invariant.1, c.from-bits.ensures, u.1),
      laid₁,
      sym u.2,
      sym d.2,
      omega (arith, u.0),
    )

pub returns : goal.returns
returns c =
    let l = c.loop-u in
    let a = c.args in
    let s = c.in-None.ensures.steps in
    let e : length l.yielded ≡ a.n =
    ⊎_elim (λ x. none-left a.n _ a.update.now _ c.requires.2 l.invariant.5 l.invariant.3 x.1.0) (λ x. none-left a.n _ a.deltas.now _ c.requires.3 l.invariant.5 l.invariant.4 x.1.0) s in
    (rw (← e) l.invariant.0, rw (← e) l.invariant.2)
