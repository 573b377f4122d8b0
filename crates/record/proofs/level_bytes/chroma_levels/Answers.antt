-- The lines of the visible chroma units lie in the level bytes, and are filled with the two values of chroma.
use native.Mathlib.Omega.{arith}
use Rattle.record.proofs.Rooms.{chroma-seen, chroma-lines}
use Rattle.record.proofs.level_bytes.chroma_levels.Goals as goal

pub chroma_level_at-at-requires : goal.chroma_level_at-at-requires
chroma_level_at-at-requires c =
    let p = c.requires in
    let s = chroma-seen c.args.b p.0.fits p.1 in (
      omega arith,
      omega arith,
      rw (c.chroma_unit-cx.ensures, c.chroma_unit-cy.ensures, c.ss_hor.ensures, c.ss_ver.ensures)
          (omega (arith, chroma-lines c.args.b p.0.fits p.1 c.args.level_stride _ p.2 p.3 0 s.1)),
    )

pub fill_levels-requires-clause-lines : goal.fill_levels-requires-clause-lines
fill_levels-requires-clause-lines c =
    let p = c.requires in
    rw (c.chroma_level_at-at.ensures, c.chroma_unit-cx.ensures, c.chroma_unit-cy.ensures, c.ss_hor.ensures, c.ss_ver.ensures, p.4, p.5)
    (chroma-lines c.args.b p.0.fits p.1 c.args.level_stride _ p.2 p.3)
