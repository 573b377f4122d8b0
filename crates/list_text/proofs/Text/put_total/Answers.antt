-- The word, then the number.
use native.Mathlib.Omega.{arith}
use Rattle.list_text.proofs.Puts.{total-long, total-put}
use Rattle.list_text.proofs.Text.put_total.Goals as goal

pub put_bytes-requires : goal.put_bytes-requires
put_bytes-requires c = omega (arith, c.requires, total-long c.args.n)

pub put_field-requires : goal.put_field-requires
put_field-requires c =
    omega (
      arith,
      c.requires,
      total-long c.args.n,
      c.put_bytes.ensures.next,
    )

pub returns : goal.returns
returns c =
    total-put _ _ _ (omega (arith, c.requires)) c.put_bytes.ensures c.put_field.ensures
