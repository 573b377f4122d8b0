-- Six fields, one after another.
use native.Mathlib.Omega.{arith}
use Rattle.list_text.proofs.Puts.{edge-long, edge-put}
use Rattle.list_text.proofs.Text.put_edge.Goals as goal

pub put_field-requires : goal.put_field-requires
put_field-requires c =
    omega (
      arith,
      c.requires,
      edge-long c.args.edge.plane c.args.edge.pass c.args.edge.x c.args.edge.y c.args.edge.class c.args.edge.level,
    )

pub put_field-requires-2 : goal.put_field-requires-2
put_field-requires-2 c =
    omega (
      arith,
      c.requires,
      edge-long c.args.edge.plane c.args.edge.pass c.args.edge.x c.args.edge.y c.args.edge.class c.args.edge.level,
      c.put_field.ensures.next,
    )

pub put_field-requires-3 : goal.put_field-requires-3
put_field-requires-3 c =
    omega (
      arith,
      c.requires,
      edge-long c.args.edge.plane c.args.edge.pass c.args.edge.x c.args.edge.y c.args.edge.class c.args.edge.level,
      c.put_field.ensures.next,
      c.put_field-2.ensures.next,
    )

pub put_field-requires-4 : goal.put_field-requires-4
put_field-requires-4 c =
    omega (
      arith,
      c.requires,
      edge-long c.args.edge.plane c.args.edge.pass c.args.edge.x c.args.edge.y c.args.edge.class c.args.edge.level,
      c.put_field.ensures.next,
      c.put_field-2.ensures.next,
      c.put_field-3.ensures.next,
    )

pub put_field-requires-5 : goal.put_field-requires-5
put_field-requires-5 c =
    omega (
      arith,
      c.requires,
      edge-long c.args.edge.plane c.args.edge.pass c.args.edge.x c.args.edge.y c.args.edge.class c.args.edge.level,
      c.put_field.ensures.next,
      c.put_field-2.ensures.next,
      c.put_field-3.ensures.next,
      c.put_field-4.ensures.next,
    )

pub put_field-requires-6 : goal.put_field-requires-6
put_field-requires-6 c =
    omega (
      arith,
      c.requires,
      edge-long c.args.edge.plane c.args.edge.pass c.args.edge.x c.args.edge.y c.args.edge.class c.args.edge.level,
      c.put_field.ensures.next,
      c.put_field-2.ensures.next,
      c.put_field-3.ensures.next,
      c.put_field-4.ensures.next,
      c.put_field-5.ensures.next,
    )

pub returns : goal.returns
returns c =
    edge-put _ _ _ _ _ _ _ _ (omega (arith, c.requires)) c.put_field.ensures c.put_field-2.ensures c.put_field-3.ensures c.put_field-4.ensures
    c.put_field-5.ensures c.put_field-6.ensures
