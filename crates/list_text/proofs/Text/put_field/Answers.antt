-- The byte stands after the number.
use native.Mathlib.Omega.{arith}
use Rattle.list_text.proofs.Puts.{field-long, field_put}
use Rattle.list_text.proofs.Text.put_field.Goals as goal

pub put_number-e-requires : goal.put_number-e-requires
put_number-e-requires c = omega (arith, c.requires, field-long c.args.n c.args.b)

pub bounds-self-e : goal.bounds-self-e
bounds-self-e c =
    omega (
      arith,
      c.requires,
      c.put_number-e.ensures.0,
      field-long c.args.n c.args.b,
    )

pub returns : goal.returns
returns c =
    field_put _ _ _ _ _ _ (omega (arith, c.requires)) c.put_number-e.ensures.0 c.put_number-e.ensures.1
    c.put_number-e.auto.out
