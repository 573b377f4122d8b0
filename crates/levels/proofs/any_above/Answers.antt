-- `any_above` meets its contract: the library's test of some level, by place.
use mathlib.Core.Path.{sym, ap, ◌∙◌}
use Prim.Native.Nat.{ℕ}
use borrow.Author.Rules.{rules}
use borrow.Author.Tests.{tests}
use lib.Dec.{ltb}
use lib.ListN.{get_or}
use Rattle.loops.specs.Any.{any_below}
use Rattle.std.proofs.lemmas.Iterator.{YieldsList-from_slice}
use Rattle.std.proofs.lemmas.Iterator.Search.{any_from_yields_List}
use Rattle.deltas.proofs.Anys.{any-by-place}
use Rattle.levels.proofs.any_above.Goals as goal

pub returns : goal.returns
returns c =
    any_from_yields_List (ltb 63) _ _ _ c.any.ensures.ran (YieldsList-from_slice c.args.base.now cc) (λ x b q k. search (rules, tests))
    ∙ sym (any-by-place (ltb 63) 0 c.args.base.now)
    ∙ ap (λ (n : ℕ). any_below n (λ k. ltb 63 (get_or c.args.base.now k 0))) c.told-base
