-- `found` of a call whose row lies in the frame meets its contract: the tests give what `found` of the call requires.
use lib.ListN.{length}
use Rattle.checks.proofs.TestsPassed.{shaped, roomy}
use Rattle.checks.proofs.faults.InsideCall.found.Goals as goal

pub found-requires : goal.found-requires
found-requires c =
    let i = c.args.self in
    let s = i.roomy in
    let a = s.shaped.call in
    (shaped a s.shaped.shaped, i.in_frame, (length s.levels.now, roomy a (length s.levels.now) (length s.masks.now) s.roomy))
