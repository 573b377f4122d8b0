-- `any_outside` meets its contract: the library's test of some element, by place.
use mathlib.Core.Path.{sym, ◌∙◌}
use borrow.Author.Rules.{rules}
use borrow.Author.Tests.{tests}
use lib.IntN.{pos}
use Rattle.std.proofs.lemmas.Iterator.{YieldsList-from_slice}
use Rattle.std.proofs.lemmas.Iterator.Search.{any_from_yields_List}
use Rattle.deltas.specs.Deltas.{outside}
use Rattle.deltas.proofs.Anys.{any-by-place}
use Rattle.deltas.proofs.any_outside.Goals as goal

pub returns : goal.returns
returns c =
    any_from_yields_List (outside c.args.low) _ _ _ c.any.ensures.ran (YieldsList-from_slice c.args.deltas.now cc) (λ x b q k. search (rules, tests))
    ∙ sym (any-by-place (outside c.args.low) (pos 0) c.args.deltas.now)
