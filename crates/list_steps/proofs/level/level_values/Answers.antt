-- A base above 63 is number 2; of the others `levels` gives number and bytes, the first 64 of which are copied.
use Rattle.std.proofs.Common.{◌≡◌, ◌∙◌, arith, ap, length, length-take-le, take, sym}
use Rattle.list_steps.proofs.Values.{above, first, long}
use Rattle.list_steps.proofs.level.level_values.Goals as goal

long_values : (c : goal.After-all-2-1) → length (take 64 c.levels.new.values) ≡ 64
long_values c = length-take-le 64 _ (omega (arith, ap length c.in_ok-levels.ensures.stored ∙ long 0 _ _ _ _ _ (omega arith)))

pub returns-then-l-clause-number : goal.returns-then-l-clause-number
returns-then-l-clause-number c = above c.args.layout _ _ _ _ c.if-l.true

pub slice_bounds-copy_from_slice-end-2 : goal.slice_bounds-copy_from_slice-end-2
slice_bounds-copy_from_slice-end-2 c = sym (long_values c)

pub copy_from_slice-requires : goal.copy_from_slice-requires
copy_from_slice-requires c = sym (long_values c)

pub returns-clause-values : goal.returns-clause-values
returns-clause-values c = c.copy_from_slice.ensures.after ∙ ap (take 64) c.in_ok-levels.ensures.stored ∙ first 0 _ _ _ _ _
