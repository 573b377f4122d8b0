-- `correct` meets its contract: a start that is not refused has all that the work asks.
use mathlib.Core.Bool.{false}
use mathlib.Core.Path.{sym, subst}
use lib.ListN.{length}
use Rattle.correct.proofs.AcceptedStart.{ready-luma, ready-chroma}
use Rattle.correct.specs.Answer.{start_of, Ready}
use Rattle.correct.proofs.correct.Goals as goal

pub correct_plane-requires : goal.correct_plane-requires
correct_plane-requires c =
    let a = c.args in
    ready-luma (start_of a.rowwise a.width a.height a.layout a.superblock a.row a.start) _ a.context.now a.context_uv.now
    (sym c.in_ok-check.ensures)

pub correct_plane-requires-2 : goal.correct_plane-requires-2
correct_plane-requires-2 c =
    let a = c.args in
    let t = start_of a.rowwise a.width a.height a.layout a.superblock a.row a.start in
    subst (λ n. Ready t false n (length a.context_uv.now)) (sym c.correct_plane.auto.masks)
    (ready-chroma t _ a.context.now a.context_uv.now
    (sym c.in_ok-check.ensures))
