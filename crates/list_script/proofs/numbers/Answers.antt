-- A field that is no number is found at its place; else all are stored.
use Rattle.std.proofs.Common.{arith, ◌≡◌, ◌+◌, ◌<◌, ◌≢◌, ◌∙◌, ap, sym, false, eqb, get_or-set_other, get_or-set_same, below_more, length, length-set, refl}
use Rattle.std.proofs.lemmas.List.{length-replicate}
use mathlib.Core.Bool.{false≢true}
use Rattle.loops.proofs.Anys.{any_none, any-true, any-on}
use Rattle.list_decimal.specs.Decimal.{numeral, number_of, no_number}
use Rattle.list_script.specs.Script.{at, no_numbers, number_at}
use Rattle.list_script.proofs.NumeralsRead.{numeral-none, numeral-some, tabulated}
use Rattle.list_script.proofs.numbers.Goals as goal

pub loop-k-init : goal.loop-k-init
loop-k-init g c = record { whole = length-replicate _ _; numbers = any_none _; stored = λ j h. absurd (omega arith) }

pub returns-in_err-n-clause-none : goal.returns-in_err-n-clause-none
unfolding no_numbers
returns-in_err-n-clause-none g c =
    let e : numeral (at c.args.s.now (c.loop-k.k + 1)) ≡ false = ap numeral (sym c.field_at.ensures) ∙ c.in_err-n.ensures.none.0 refl in
    (λ z. any-true _ _ c.loop-k.k (omega arith) (numeral-none (at c.args.s.now (c.loop-k.k + 1)) e), λ z. rw c.from_residual.ensures refl)

pub loop-k-preserved : goal.loop-k-preserved
loop-k-preserved g c =
    let e : eqb (number_at c.args.s.now (c.loop-k.k + 1)) no_number ≡ false =
    numeral-some _ (λ z. false≢true (sym (c.in_ok-n.ensures.none.1 (ap numeral c.field_at.ensures ∙ z)))) in
    record {
      whole = simp length-set c.loop-k.invariant.whole;
      numbers = any-on _ _ c.loop-k.invariant.numbers e;
      stored =
          below_more _ _
          (λ j h. let ne : j ≢ c.loop-k.k = omega arith in rw get_or-set_other (c.loop-k.invariant.stored j h))
          (let lt : c.loop-k.k < length c.loop-k.n-items = omega (arith, c.loop-k.invariant.whole) in rw get_or-set_same (c.in_ok-n.ensures.some ∙ ap number_of c.field_at.ensures));
    }

pub returns-clause-none : goal.returns-clause-none
unfolding no_numbers
returns-clause-none g c =
    let n : c.loop-k.k ≡ g.row.N = omega arith in
    let e : no_numbers c.args.s.now g.row.N ≡ false = rw (← n) c.loop-k.invariant.numbers in
    (λ z. absurd (false≢true (sym z)), λ z. absurd (false≢true (sym e ∙ z)))

pub returns-clause-some : goal.returns-clause-some
returns-clause-some g c =
    tabulated g.row.N _ c.loop-k.n-items c.loop-k.invariant.whole (λ j h. c.loop-k.invariant.stored j (omega arith))
