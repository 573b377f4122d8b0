-- Seven bits as a signed number that fits an i8, and the way back.
use mathlib.Core.Path.{◌≡◌, refl, sym, ap, subst, ◌∙◌}
use mathlib.Core.Bool.{Bool, true, false}
use Prim.Native.Nat.{ℕ, suc, ◌+◌, ◌-◌, ◌%◌, ◌<◌, ◌≤◌}
use native.Mathlib.Omega.{arith}
use borrow.Author.Tests.{lt-ltb, le-ltb, ltb-true, ltb-false}
use lib.Dec.{ltb}
use lib.IntN.{ℤ, pos, negsuc, nat_abs, sub_ℕ, ◌+ℤ◌}
use mir.Syntax.{w8}
use mir.Val.{to_z, of_z, SFits}
use mir.ValLaws.{to_z-of_z}
use Rattle.loops.proofs.Ints.{is_pos, is-neg, sub-plus}
use Rattle.standard.specs.Header.{su_of}
use Rattle.bit_place.specs.Seven.{seven_of}

pub small : (v : ℕ) → v < 64 → su_of v ≡ pos v
small v h = simp (lt-ltb v 64 h)

pub large : (v : ℕ) → 64 ≤ v → v < 128 → su_of v ≡ negsuc (127 - v)
large v l h = simp (le-ltb v 64 l) (is-neg v 128 (127 - v) (omega arith))

-- a number of seven bits fits an i8, so what is stored is read back
pub kept : (v : ℕ) → v < 128 → to_z w8 (of_z w8 (su_of v)) ≡ su_of v
kept v h = go (ltb v 64) refl
  where
    go : (t : Bool) → ltb v 64 ≡ t → to_z w8 (of_z w8 (su_of v)) ≡ su_of v
    go true e = to_z-of_z w8 (su_of v) (subst (SFits w8) (sym (small v (ltb-true v 64 e))) (record { sfits = omega (arith, ltb-true v 64 e) }))
    go false e = to_z-of_z w8 (su_of v) (subst (SFits w8) (sym (large v (ltb-false v 64 e) h)) (record { sfits = omega arith }))

-- d is b - 128
pub seven-biased : (d : ℤ) (b : ℕ) → sub_ℕ b 128 ≡ d → seven_of d ≡ b % 128
unfolding seven_of
seven-biased d b e =
    ap (λ (z : ℤ). nat_abs (z +ℤ pos 128) % 128) (sym e)
    ∙ ap (λ (z : ℤ). nat_abs z % 128) (sub-plus b 128 128 ∙ is_pos (b + 128) 128 b (omega arith))

pub seven-pos : (m : ℕ) → m < 128 → seven_of (pos m) ≡ m
unfolding seven_of
seven-pos m h = omega arith

pub seven-neg : (m : ℕ) → m < 128 → seven_of (negsuc m) ≡ 127 - m
unfolding seven_of
seven-neg m h = let e : negsuc m +ℤ pos 128 ≡ pos (127 - m) = is_pos 128 (suc m) (127 - m) (omega arith) in rw e (omega arith)
