-- The plane's units, from the frame's.
use native.Mathlib.Omega.{arith}
use Rattle.list_put.proofs.Units.{proper, ver-is, high_is}
use Rattle.list_put.proofs.height.Goals as goal

pub chroma_units-requires : goal.chroma_units-requires
chroma_units-requires c = (omega arith, omega (arith, ver-is c.args.p c.plane_ss_ver.ensures, (proper c.args.p).ss-ver-le))

pub returns : goal.returns
returns c = high_is c.args.p _ _ (ver-is c.args.p c.plane_ss_ver.ensures) c.chroma_units.ensures
