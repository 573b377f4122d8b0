-- The lines of the visible luma units lie in the level bytes, and are filled with the two values of luma.
use native.Mathlib.Omega.{arith}
use Rattle.record.proofs.Rooms.{luma-seen, luma-lines}
use Rattle.record.proofs.level_bytes.luma_levels.Goals as goal

pub luma_level_at-at-requires : goal.luma_level_at-at-requires
luma_level_at-at-requires c =
    let p = c.requires in
    let s = luma-seen c.args.b p.0.fits p.1 in
    (omega arith, omega (arith, luma-lines c.args.b p.0.fits p.1 c.args.level_stride _ p.2 p.3 0 s.1))

pub fill_levels-requires-clause-lines : goal.fill_levels-requires-clause-lines
fill_levels-requires-clause-lines c =
    let p = c.requires in
    rw (c.luma_level_at-at.ensures, p.4, p.5)
    (luma-lines c.args.b p.0.fits p.1 c.args.level_stride _ p.2 p.3)
