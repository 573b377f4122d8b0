-- The two words are the halves of the run.
use Rattle.mask_edges.proofs.Halves.{run-top, halves-marks}
use Rattle.mask_edges.proofs.Words.{bit_word, bit_in_lem}
use Rattle.mask_edges.specs.Folds.{bit_in}
use Rattle.bits.specs.Mark.{Words}
use Rattle.plane.specs.Line.{pass_of}
use mathlib.Core.Path.{ap, ◌∙◌}
use Prim.Native.Nat.{ℕ, ◌+◌, ◌/◌, ◌%◌, ◌^◌}
use native.Mathlib.Nat.{lt_of_lt_of_le}
use native.Mathlib.Omega.{arith}
use Rattle.mask_edges.proofs.edge.set_edges.Goals as goal

pub high_half-hi-requires : goal.high_half-hi-requires
high_half-hi-requires c =
    let h = c.requires.0 in
    (h.half.1, rw c.run_word-w.ensures (run-top c.args.p.along c.args.p.place c.args.p.half h.place))

pub returns : goal.returns
unfolding Words
returns c =
    let a = c.args in
    let h = c.requires.0 in
    let w = c.edge_word-at.ensures in
    let r = c.run_word-w.ensures in
    halves-marks a.masks.now a.p.along a.p.place a.p.half c.edge_word-at.result c.low_half-lo.result c.high_half-hi.result
    (bit_in a.p a.u a.class) (λ i. omega (arith, c.slice_known-1.given i)) h.place h.half.1 (omega (arith, w.1, h.words)) (omega arith)
    (omega arith)
    (c.low_half-lo.ensures ∙ ap (λ (v : ℕ). v % 2 ^ a.p.half) r) (c.high_half-hi.ensures ∙ ap (λ (v : ℕ). v / 2 ^ a.p.half) r)
    (λ v. bit_word (pass_of a.p.rowwise) (a.p.unit + a.u) a.class a.p.luma a.p.half _ (a.p.place + v) w.0)
    (λ v l. lt_of_lt_of_le (bit_in_lem a.p.luma a.p.half (pass_of a.p.rowwise) (a.p.unit + a.u) a.class (a.p.place + v)
    (omega (arith, h.unit, c.requires.2)) c.requires.1
    h.half.1 (omega (arith, h.place))) h.words)
    c.set_half.ensures c.set_half-2.ensures
