-- The word, then two numbers.
use native.Mathlib.Omega.{arith}
use Rattle.list_text.proofs.Puts.{refused-long, refused-put}
use Rattle.list_text.proofs.Text.put_refused.Goals as goal

pub put_bytes-requires : goal.put_bytes-requires
put_bytes-requires c = omega (arith, c.requires, refused-long c.args.line c.args.number)

pub put_field-requires : goal.put_field-requires
put_field-requires c =
    omega (
      arith,
      c.requires,
      refused-long c.args.line c.args.number,
      c.put_bytes.ensures.next,
    )

pub put_field-requires-2 : goal.put_field-requires-2
put_field-requires-2 c =
    omega (
      arith,
      c.requires,
      refused-long c.args.line c.args.number,
      c.put_bytes.ensures.next,
      c.put_field.ensures.next,
    )

pub returns : goal.returns
returns c =
    refused-put _ _ _ _ (omega (arith, c.requires)) c.put_bytes.ensures c.put_field.ensures c.put_field-2.ensures
