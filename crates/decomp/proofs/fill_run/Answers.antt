-- The part that is filled is the run.
use Rattle.std.proofs.Common.{rules, arith, ◌≡◌, ◌+◌, ◌-◌, ℕ, ap, ◌∙◌}
use lib.ListN.{replicate}
use borrow.Rule.Slice.PartMut.{mid_len}
use Rattle.decomp.proofs.Fills.{run-filled}
use Rattle.decomp.proofs.fill_run.Goals as goal

pub returns : goal.returns
returns c =
    let a = c.args in
    let k : a.at + a.n - a.at ≡ a.n = omega arith in
    let long = mid_len a.at (a.at + a.n) a.txa.now (omega arith) ∙ k in
    run-filled a.at a.n a.v _ _ (omega arith) (c.fill.ensures.after (λ y p. search rules) ∙ ap (λ (n : ℕ). replicate n a.v) long)
