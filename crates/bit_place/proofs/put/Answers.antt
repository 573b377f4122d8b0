-- `put` meets its contract: the invariant says that laying the digits that are left still gives the whole.
use mathlib.Core.Path.{◌≡◌, refl, sym, ap, ◌∙◌}
use mathlib.Core.List.{List, []}
use Prim.Native.Nat.{suc, ◌+◌, ◌-◌}
use native.Mathlib.Omega.{arith}
use Rattle.standard.specs.Header.{Bit}
use Rattle.bit_place.specs.Place.{digits, laid}
use Rattle.bit_place.proofs.Places.{shifted, digits-none, digits_more, length-put}
use Rattle.bit_place.proofs.put.Goals as goal

pub loop-i-init : goal.loop-i-init
loop-i-init c =
    let a = c.args in
    let e : a.at + a.k + 0 ≡ a.at + a.k = omega arith in
    let m : a.n - 0 ≡ a.n = omega arith in
    (refl, rw (e, m) refl)

pub loop-i-preserved : goal.loop-i-preserved
loop-i-preserved c =
    let put = c.put_bit in
    let l = c.loop-i in
    let a = c.args in
    let e : a.at + (a.k + l.i) ≡ a.at + a.k + l.i = omega arith in
    let f : a.at + a.k + (l.i + 1) ≡ suc (a.at + a.k + l.i) = omega arith in
    let m : a.n - (l.i + 1) ≡ a.n - 1 - l.i = omega arith in
    let g : a.n - l.i - 1 ≡ a.n - 1 - l.i = omega arith in
    let more : digits (a.n - l.i) a.v ≡ _ = digits_more (a.n - l.i) a.v (omega arith) in (
      rw put.ensures (length-put l.bytes _ _ ∙ l.invariant.0),
      rw (put.ensures, e, f, m, shifted a.v (a.n - 1 - l.i))
          (ap (λ (bs : List Bit). laid bs (a.at + a.k + l.i) l.bytes) (sym (rw g at more)) ∙ l.invariant.1),
    )

pub returns : goal.returns
returns c =
    let l = c.loop-i in
    let a = c.args in
    let e : a.n - l.i ≡ 0 = omega arith in
    let none : [] ≡ digits (a.n - l.i) a.v = rw e (sym (digits-none a.v)) in
    ap (λ (bs : List Bit). laid bs (a.at + a.k + l.i) l.bytes) none ∙ l.invariant.1
