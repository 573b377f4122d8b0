-- The table has the name of each code.
use Rattle.std.proofs.Common.{◌∙◌, ap, eqb}
use Rattle.list_script.proofs.Tables.{first-same, block-named}
use Rattle.list_script.proofs.names.block_code.Goals as goal

pub returns : goal.returns
returns c = c.code_in.ensures ∙ first-same 22 _ _ (λ k h. ap (λ n. eqb n c.args.w) (block-named k h))
