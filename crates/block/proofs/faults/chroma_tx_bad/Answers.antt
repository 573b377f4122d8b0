-- `chroma_tx_bad` meets its contract: the chroma transform's code is in its range where there is a chroma pair.
use native.Mathlib.Omega.{arith}
use Rattle.units.proofs.Places.{ss-hor-le, ss-ver-le}
use Rattle.units.proofs.Rules.{block-rule}
use Rattle.block.proofs.faults.chroma_tx_bad.Goals as goal

pub chroma_units-cw-requires : goal.chroma_units-cw-requires
chroma_units-cw-requires c =
    (omega (arith, c.requires.2, (block-rule c.args.b.size c.requires.0).width.at_most), rw c.ss_hor.ensures (ss-hor-le c.args.b.layout))

pub chroma_units-ch-requires : goal.chroma_units-ch-requires
chroma_units-ch-requires c =
    (omega (arith, c.requires.3, (block-rule c.args.b.size c.requires.0).height.at_most), rw c.ss_ver.ensures (ss-ver-le c.args.b.layout))
