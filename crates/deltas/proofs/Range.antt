-- The range test of a delta reflects the fact: a comparison of integers is true exactly when they stand so.
use mathlib.Core.Path.{sym, subst}
use Prim.Native.Nat.{ℕ}
use lib.Dec.{T}
use lib.IntN.{ℤ, pos, neg_ℤ}
use lib.Signed.{lt_z, ◌<ℤ◌}
use Rattle.loops.specs.Exactly.{Reflects}
use Rattle.loops.proofs.Reflected.{reflects-or}
use Rattle.deltas.specs.Deltas.{outside, Outside}

reflects-lt_z : (a b : ℤ) → Reflects (lt_z a b) (a <ℤ b)
reflects-lt_z a b = record { yes = λ e. record { lt = subst T (sym e) tt }; no = λ e h. subst T e h.lt }

pub reflects-outside : (n : ℕ) (d : ℤ) → Reflects (outside n d) (Outside n d)
unfolding outside
reflects-outside n d = reflects-or (reflects-lt_z d (neg_ℤ (pos n))) (reflects-lt_z (pos 63) d)
