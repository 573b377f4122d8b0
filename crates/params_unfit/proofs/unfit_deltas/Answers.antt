-- `unfit_deltas` meets its contract: the library's test of some three that stand side by side, by place.
use mathlib.Core.Path.{◌∙◌}
use borrow.Author.Rules.{rules}
use borrow.Author.Tests.{tests}
use Rattle.std.proofs.lemmas.Iterator.{YieldsList-from_slice, YieldsList-from_zip}
use Rattle.std.proofs.lemmas.Iterator.Search.{any_from_yields_List}
use Rattle.params_unfit.specs.Unfit.{unfit_delta, unfit_deltas}
use Rattle.params_unfit.proofs.Beside.{any-beside}
use Rattle.params_unfit.proofs.unfit_deltas.Goals as goal

pub returns : goal.returns
unfolding unfit_deltas
returns g c =
    let a = c.args in
    any_from_yields_List (λ t. unfit_delta a.most t.0.0 t.0.1 t.1) c.any.new.self _ _ c.any.ensures.ran
    (YieldsList-from_zip (YieldsList-from_zip (YieldsList-from_slice a.update.now cc) (YieldsList-from_slice a.before.now cc)) (YieldsList-from_slice a.deltas.now cc))
    (λ x b q k. search (rules, tests))
    ∙ any-beside (unfit_delta a.most) g.row.N a.update.now a.before.now a.deltas.now c.told-update c.told-before c.told-deltas
