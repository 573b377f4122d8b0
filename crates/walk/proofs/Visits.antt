-- One place of a walk: it is a piece with the thresholds of its level, or nothing at level 0.
use Rattle.std.proofs.Common.{◌≡◌, ℕ, ◌+◌, ◌-◌, ◌*◌, ◌^◌, ◌<◌, ◌≤◌, ◌≢◌, List, ap, arith, pow_pos, pow_mono, pow-add, eq-eqb, ne_eqb}
use Rattle.standard.specs.declared.Bounds.{Bounds}
use Rattle.plane.specs.Line.{piece_at}
use Rattle.line.specs.Rule.{rule}
use Rattle.walk.specs.Walk.{thresholds, visit}

-- ---- the range of a depth

pub top : (depth : ℕ) → 8 ≤ depth → 2 * (128 * 2 ^ (depth - 8)) ≡ 2 ^ depth
top depth h =
    let e : 8 + (depth - 8) ≡ depth = omega arith in omega (arith, pow-add 2 8 (depth - 8), ap (λ (n : ℕ). 2 ^ n) e)

pub half_pos : (depth : ℕ) → 0 < 128 * 2 ^ (depth - 8)
half_pos depth = omega (arith, pow_pos (depth - 8))

pub half-low : (depth : ℕ) → depth ≤ 12 → 128 * 2 ^ (depth - 8) ≤ 2048
half-low depth h = omega (arith, pow_mono {i = depth - 8} {j = 4} (omega arith))

-- ---- the thresholds of a level

module _ (depth : ℕ) (e i : List ℕ) (lvl : ℕ) (t : Bounds) (et : t ≡ thresholds depth e i lvl) where
  pub flat-is : t.f ≡ 2 ^ (depth - 8)
  unfolding thresholds
  flat-is = ap (λ (t : Bounds). t.f) et

  pub half_is : t.half ≡ 128 * 2 ^ (depth - 8)
  unfolding thresholds
  half_is = ap (λ (t : Bounds). t.half) et

  pub visit-some : (line_step sample-step len q : ℕ) (s s' : List ℕ) → lvl ≢ 0 → s' ≡ piece_at line_step sample-step (rule len t) q s → s' ≡ visit depth e i line_step sample-step len lvl q s
  unfolding visit
  visit-some line_step sample-step len q s s' n p = rw (ne_eqb lvl 0 n, ← et) p

pub visit-none : (depth : ℕ) (e i : List ℕ) (line_step sample-step len lvl q : ℕ) (s : List ℕ) → lvl ≡ 0 → s ≡ visit depth e i line_step sample-step len lvl q s
unfolding visit
visit-none depth e i line_step sample-step len lvl q s z = rw (eq-eqb lvl 0 z)
