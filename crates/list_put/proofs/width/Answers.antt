-- The plane's units, from the frame's.
use native.Mathlib.Omega.{arith}
use Rattle.list_put.proofs.Units.{proper, hor-is, wide_is}
use Rattle.list_put.proofs.width.Goals as goal

pub chroma_units-requires : goal.chroma_units-requires
chroma_units-requires c = (omega arith, omega (arith, hor-is c.args.p c.plane_ss_hor.ensures, (proper c.args.p).ss-hor-le))

pub returns : goal.returns
returns c = wide_is c.args.p _ _ (hor-is c.args.p c.plane_ss_hor.ensures) c.chroma_units.ensures
