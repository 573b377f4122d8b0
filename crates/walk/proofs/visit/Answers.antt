-- A place is visited: the piece's own answer, at the thresholds of the depth.
use Rattle.std.proofs.Common.{◌≡◌, ℕ, ◌^◌, ◌≤◌, refl, arith, pow_mono}
use mathlib.Core.Logic.{by_cases}
use native.Mathlib.Decide.{dec_lt}
use Rattle.walk.proofs.Visits.{top, half_pos, half-low, visit-none, visit-some, flat-is, half_is}
use Rattle.walk.proofs.visit.Goals as goal

pub returns-then-l-eq0 : goal.returns-then-l-eq0
returns-then-l-eq0 g c = visit-none _ _ _ _ _ _ _ _ _ c.if-l-eq0.true

eight : (depth top : ℕ) → 8 ≤ depth → 2 ^ depth ≤ top → top ≡ 256 → depth ≡ 8
eight depth top h k e =
    by_cases (dec_lt 8 depth) (λ g. absurd (omega (arith, pow_mono {i = 9} {j = depth} g))) (λ g. omega arith)

pub known-requires : goal.known-requires
known-requires g c = let p = c.requires in eight c.args.depth g.P.Pixel.top p.4 p.6

pub piece-requires : goal.piece-requires
piece-requires g c =
    let p = c.requires in
    let d = c.args.depth in
    let t = c.known.ensures in
    let h = rw t at (half_is _ _ _ _ _ c.thresholds_of.ensures) in
    let f = rw t at (flat-is _ _ _ _ _ c.thresholds_of.ensures) in (
      p.0,
      p.2,
      p.3,
      rw h (record { some = half_pos d; most = half-low d p.5 }),
      rw (h, top d p.4) p.6,
      λ e. let z = eight d g.P.Pixel.top p.4 p.6 e in rw (h, f, z) (refl, refl),
      rw (h, top d p.4) p.7,
    )

pub returns : goal.returns
returns g c =
    visit-some _ _ _ _ _ (rw c.known.ensures at c.thresholds_of.ensures) _ _ _ _ _ _ c.if-l-eq0.false c.piece.ensures
