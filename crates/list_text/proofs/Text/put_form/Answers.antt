-- The word, then the number, then `form`.
use native.Mathlib.Omega.{arith}
use Rattle.list_text.proofs.Puts.{form-long, form-put}
use Rattle.list_text.proofs.Text.put_form.Goals as goal

pub put_bytes-requires : goal.put_bytes-requires
put_bytes-requires c = omega (arith, c.requires, form-long c.args.line)

pub put_field-requires : goal.put_field-requires
put_field-requires c =
    omega (
      arith,
      c.requires,
      form-long c.args.line,
      c.put_bytes.ensures.next,
    )

pub put_bytes-requires-2 : goal.put_bytes-requires-2
put_bytes-requires-2 c =
    omega (arith, c.requires, form-long c.args.line, c.put_bytes.ensures.next, c.put_field.ensures.next)

pub returns : goal.returns
returns c =
    form-put _ _ _ (omega (arith, c.requires)) c.put_bytes.ensures c.put_field.ensures c.put_bytes-2.ensures
