-- Transforms side by side along a line: where one starts, the next starts at its end, since the units of one transform all have its side.
use mathlib.Core.Path.{◌≡◌, sym, ap, ◌∙◌}
use mathlib.Core.Logic.{by_cases}
use Prim.Native.Nat.{ℕ, ◌+◌, ◌-◌, ◌*◌, ◌/◌, ◌%◌, ◌≤◌, ◌<◌}
use native.Mathlib.Decide.{ℕ_discrete}
use native.Mathlib.Nat.{add-mul, one-mul, zero-add, mod-add-div', div-eq_of_lt-le, add-mod_right, mod-lt, zero-mod}
use native.Mathlib.Omega.{arith}
use Rattle.mask_edges.specs.Folds.{Reach, first, more}

pub record Tiles (side : ℕ → ℕ) : Type 0 where
  pub low : (u : ℕ) → 0 < side u
  pub same : (u w : ℕ) → u / side u ≡ w / side u → side w ≡ side u

-- s units from a multiple of s on
quotient : (s u w : ℕ) → u % s ≡ 0 → u ≤ w → w < u + s → w / s ≡ u / s
quotient s u w e p q =
    let d = mod-add-div' u s in
    div-eq_of_lt-le {k = u / s} s (omega arith) (omega (arith, add-mul (u / s) 1 s, one-mul s))

-- and the unit before one that is none
earlier : (s z : ℕ) → 0 < s → (z % s ≡ 0 → ⊥) → (z - 1) / s ≡ z / s
earlier s z l f =
    let d = mod-add-div' z s in
    let m = mod-lt z l in
    div-eq_of_lt-le {k = z / s} s (omega arith) (omega (arith, add-mul (z / s) 1 s, one-mul s))

module _ (side : ℕ → ℕ) (T : Tiles side) where
  -- the units of the transform that starts at u
  pub within : (u w : ℕ) → u % side u ≡ 0 → u ≤ w → w < u + side u → side w ≡ side u
  within u w e p q = T.same u w (sym (quotient (side u) u w e p q))

  -- where one ends another starts
  pub next : (u : ℕ) → u % side u ≡ 0 → (u + side u) % side (u + side u) ≡ 0
  next u e =
      let z = u + side u in
      let l = T.low u in
      by_cases (ℕ_discrete (z % side z) 0) (λ q. q)
      (λ q. let before = T.same z (z - 1) (sym (earlier (side z) z (T.low z) q)) in
      let own = within u (z - 1) e (omega arith) (omega arith) in
      ap (λ (k : ℕ). z % k) (sym before ∙ own) ∙ add-mod_right u (side u) ∙ e)

  -- no other starts in between
  pub none : (u w : ℕ) → u % side u ≡ 0 → u < w → w < u + side u → w % side w ≡ 0 → ⊥
  none u w e p q g =
      let h : w % side u ≡ 0 = ap (λ (k : ℕ). w % k) (sym (within u w e (omega arith) q)) ∙ g in
      omega (arith, mod-add-div' u (side u), mod-add-div' w (side u), ap (λ (k : ℕ). k * side u) (quotient (side u) u w e (omega arith) q))

  -- steps from 0, each the side of the transform that starts there, reach starts
  module _ (across : ℕ) (step : ℕ → ℕ) (h : (u : ℕ) → u < across → u % side u ≡ 0 → step u ≡ side u) (l : 0 < across) where
    pub reached : {x : ℕ} → Reach step x → x < across → x % side x ≡ 0
    reached first q =
        let e = h 0 l (zero-mod (side 0)) in rw (e, ← zero-add (side 0)) (next 0 (zero-mod (side 0)))
    reached (more {x} r) q =
        let g = reached r (omega arith) in rw (h x (omega arith) g) (next x g)
