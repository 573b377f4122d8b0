-- `levels_bad` of a call whose lengths were tested meets its contract: the tests give what `levels_bad` of the call requires.
use lib.ListN.{length}
use Rattle.checks.proofs.TestsPassed.{shaped, roomy}
use Rattle.checks.proofs.faults.RoomyCall.levels_bad.Goals as goal

pub levels_bad-requires : goal.levels_bad-requires
levels_bad-requires c =
    let s = c.args.self in
    let a = s.shaped.call in
    (shaped a s.shaped.shaped, (length s.masks.now, roomy a (length s.levels.now) (length s.masks.now) s.roomy))
