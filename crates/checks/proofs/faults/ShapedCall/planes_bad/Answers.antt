-- `planes_bad` of a call whose depth and shape were tested meets its contract: the tests give what `planes_bad` of the call requires.
use Rattle.checks.proofs.TestsPassed.{deep, shaped}
use Rattle.checks.proofs.faults.ShapedCall.planes_bad.Goals as goal

pub planes_bad-requires : goal.planes_bad-requires
planes_bad-requires g c =
    let s = c.args.self in
    (shaped s.call s.shaped, deep s.call s.deep)
