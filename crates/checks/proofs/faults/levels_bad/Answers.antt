-- `levels_bad` meets its contract: outside the frame nothing, inside it luma, and chroma where it is filtered.
use Rattle.loops.proofs.Bools.{no, yes}
use Rattle.checks.proofs.Planes.{levels-out, levels-luma, levels-all}
use Rattle.checks.proofs.faults.levels_bad.Goals as goal

pub returns-then-not-inside : goal.returns-then-not-inside
returns-then-not-inside c = levels-out c.args.c _ (no c.inside.ensures c.if-not-inside.true)

pub returns-then-not-chroma_on : goal.returns-then-not-chroma_on
returns-then-not-chroma_on c =
    levels-luma c.args.c _
    (yes c.inside.ensures c.if-not-inside.false) (no c.chroma_on.ensures c.if-not-chroma_on.true)
    c.luma_high-luma.ensures

pub returns : goal.returns
returns c =
    levels-all c.args.c _
    (yes c.inside.ensures c.if-not-inside.false)
    (yes c.chroma_on.ensures c.if-not-chroma_on.false)
    c.luma_high-luma.ensures c.chroma_high.ensures
