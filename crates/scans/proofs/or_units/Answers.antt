-- `or_units` meets its contract: the words passed are or-ed together.
use mathlib.Core.Path.{◌≡◌, refl, ap, ◌∙◌}
use mathlib.Core.List.{[]}
use Prim.Native.Nat.{ℕ, ◌+◌, ◌*◌, ◌<◌}
use native.Mathlib.Omega.{arith}
use lib.ListN.{get_or}
use Rattle.bits.proofs.Words.{or-none, or-more}
use Rattle.scans.specs.Or.{four_at}
use Rattle.scans.proofs.Chunks.{line-length, unit-byte}
use Rattle.scans.proofs.or_units.Goals as goal

pub loop-unit-init : goal.loop-unit-init
loop-unit-init c = or-none _

pub loop-unit-preserved : goal.loop-unit-preserved
unfolding four_at
loop-unit-preserved c =
    let a = c.args in
    let x = c.loop-unit.unit-index in
    let n = line-length a.levels.now a.at a.w c.requires in
    let l : x < a.w = omega (arith, c.loop-unit-test.true, c.as_chunks.ensures.front_len) in
    let b : (j : ℕ) → j < 4 → get_or (get_or c.as_chunks.result.0.now x []) j 0 ≡ get_or a.levels.now (a.at + 4 * x + j) 0 =
    λ j q. ap (λ (u : _). get_or (get_or u x []) j 0) c.as_chunks.ensures.front ∙ unit-byte a.levels.now a.at a.w c.requires x j l q in
    let z : get_or a.levels.now (a.at + 4 * x + 0) 0 ≡ get_or a.levels.now (a.at + 4 * x) 0 = ap (λ (i : ℕ). get_or a.levels.now i 0) (omega arith) in
    or-more x (λ x. four_at a.levels.now (a.at + 4 * x)) _ _ _ c.loop-unit.invariant
    (omega (arith, c.from_le_bytes-acc.ensures, b 0 (omega arith), b 1 (omega arith), b 2 (omega arith), b 3 (omega arith))) refl
