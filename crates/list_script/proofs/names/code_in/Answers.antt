-- The first place of the name is the least code that has it.
use Rattle.std.proofs.Common.{rules, tests, ◌≡◌, ◌==◌, ◌∙◌, sym, length}
use Rattle.std.proofs.lemmas.Iterator.{YieldsList-from_slice}
use Rattle.std.proofs.lemmas.Iterator.Search.{position_from_yields_List}
use Rattle.std.specs.List.{position}
use Rattle.list_fields.proofs.Cuts.{position-or}
use Rattle.list_script.proofs.Tables.{first-position}
use Rattle.list_script.proofs.names.code_in.Goals as goal

pub returns : goal.returns
returns g c =
    let e : c.position.result ≡ position (λ n. n == c.args.w) c.args.names.now =
    position_from_yields_List (λ n. n == c.args.w) _ _ c.position.result c.position.ensures.ran (YieldsList-from_slice c.args.names.now cc) (λ x b q k. search (rules, tests))
    in
    let n : length c.args.names.now ≡ g.row.N = cc in
    c.unwrap_or.ensures ∙ rw (← n) (position-or (λ n. n == c.args.w) c.args.names.now _ e ∙ sym (first-position c.args.names.now c.args.w))
