-- `context_bad` meets its contract: where the context is long enough, `any` asks the first n values.
use Rattle.std.proofs.Common.{rules, tests, arith, ltb, ◌≡◌, length, take, false, ◌∙◌}
use Rattle.std.proofs.lemmas.Iterator.{YieldsList-from_slice}
use Rattle.std.proofs.lemmas.Iterator.Search.{any_from_yields_List}
use Rattle.block.proofs.Contexts.{any-among}
use Rattle.block.proofs.faults.context_bad.Goals as goal

pub returns-else-ctx-n : goal.returns-else-ctx-n
returns-else-ctx-n c =
    let ctx = c.args.ctx.now in
    let asked = any_from_yields_List (ltb c.args.most) _ _ c.any.result c.any.ensures.ran (YieldsList-from_slice (take c.args.n ctx) cc) (λ x b q k. search (rules, tests)) in
    let short : ltb (length ctx) c.args.n ≡ false = search (rules, tests) in
    rw short (asked ∙ any-among (ltb c.args.most) c.args.n ctx (omega arith))
