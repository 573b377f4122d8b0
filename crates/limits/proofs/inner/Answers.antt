-- `inner` meets its contract: the standard's limit in the Rust's form, by the two laws of Formula.
use mathlib.Core.Path.{sym, ap, ◌∙◌}
use Prim.Native.Nat.{ℕ}
use native.Mathlib.Omega.{arith}
use Rattle.standard.specs.Strength.{limit}
use Rattle.limits.proofs.Formula.{limit-none, limit-sharp}
use Rattle.limits.proofs.inner.Goals as goal

pub returns-then-sharp-eq0 : goal.returns-then-sharp-eq0
returns-then-sharp-eq0 c =
    let a = c.args in
    (c.max.ensures ∙ sym (ap (λ (s : ℕ). limit s a.level) c.if-sharp-eq0.true ∙ limit-none a.level), omega arith)

pub returns : goal.returns
returns c =
    let a = c.args in
    (c.max-2.ensures ∙ rw c.min.ensures (sym (limit-sharp a.sharp a.level (omega arith) (omega arith))), omega arith)
