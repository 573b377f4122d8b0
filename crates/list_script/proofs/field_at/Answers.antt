-- The part from the start to the end of the field is the field.
use Rattle.std.proofs.Common.{arith}
use Rattle.list_fields.proofs.Cuts.{end-in, field_of}
use Rattle.list_script.proofs.field_at.Goals as goal

pub slice_bounds-result-end : goal.slice_bounds-result-end
slice_bounds-result-end c =
    omega (arith, end-in 32 c.args.s.now c.start_of-start.result (omega (arith, c.requires.0)), c.end_of.ensures)

pub returns : goal.returns
returns c = field_of 32 c.args.s.now c.args.k _ _ c.start_of-start.ensures c.end_of.ensures
