-- Each turn goes to the next field.
use Rattle.std.proofs.Common.{◌≡◌}
use Rattle.list_fields.specs.Fields.{place}
use Rattle.list_fields.proofs.start_of.Given as goal

abbrev pub invariant-loop : goal.invariant-loop
invariant-loop l = l.at ≡ place l.d l.s l.counter
