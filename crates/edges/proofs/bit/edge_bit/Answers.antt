-- A unit is a record and a unit in it, pass by pass.
use native.Mathlib.Omega.{arith}
use Rattle.edges.specs.Edges.{grid_of}
use Rattle.plane.specs.Line.{pass_of}
use Rattle.edges.proofs.EdgeBits.{lies, edge-small, row-edge, column-edge}
use Rattle.edges.proofs.bit.edge_bit.Goals as goal

pub nonzero_div-along : goal.nonzero_div-along
nonzero_div-along c = let a = c.args in omega (arith, lies a.ss_hor a.ss_ver a.w4.0 a.across a.along c.requires)

pub nonzero_div-across : goal.nonzero_div-across
nonzero_div-across c = let a = c.args in omega (arith, lies a.ss_hor a.ss_ver a.w4.0 a.across a.along c.requires)

pub nonzero_rem-across : goal.nonzero_rem-across
nonzero_rem-across c = let a = c.args in omega (arith, lies a.ss_hor a.ss_ver a.w4.0 a.across a.along c.requires)

pub nonzero_rem-along : goal.nonzero_rem-along
nonzero_rem-along c = let a = c.args in omega (arith, lies a.ss_hor a.ss_ver a.w4.0 a.across a.along c.requires)

pub bit_in-requires : goal.bit_in-requires
bit_in-requires c =
    let a = c.args in
    let p = lies a.ss_hor a.ss_ver a.w4.0 a.across a.along c.requires in
    (c.requires.hor-le, omega (arith, p.across-down), p.along-right.rest)

pub returns-then-rowwise : goal.returns-then-rowwise
returns-then-rowwise c h4 =
    let a = c.args in
    row-edge (grid_of a.luma a.ss_hor a.ss_ver a.w4.0 h4) a.rowwise a.across a.along _ _ c.if-rowwise.true c.record_bit.ensures c.bit_in.ensures

pub overflow_add-result : goal.overflow_add-result
overflow_add-result c =
    let a = c.args in
    let g = grid_of a.luma a.ss_hor a.ss_ver a.w4.0 0 in
    omega (
      arith,
      row-edge g a.rowwise a.across a.along _ _ c.if-rowwise.true c.record_bit.ensures c.bit_in.ensures,
      edge-small g (pass_of a.rowwise) a.across a.along c.requires,
    )

pub nonzero_div-across-2 : goal.nonzero_div-across-2
nonzero_div-across-2 c = let a = c.args in omega (arith, lies a.ss_hor a.ss_ver a.w4.0 a.across a.along c.requires)

pub nonzero_div-along-2 : goal.nonzero_div-along-2
nonzero_div-along-2 c = let a = c.args in omega (arith, lies a.ss_hor a.ss_ver a.w4.0 a.across a.along c.requires)

pub nonzero_rem-across-2 : goal.nonzero_rem-across-2
nonzero_rem-across-2 c = let a = c.args in omega (arith, lies a.ss_hor a.ss_ver a.w4.0 a.across a.along c.requires)

pub nonzero_rem-along-2 : goal.nonzero_rem-along-2
nonzero_rem-along-2 c = let a = c.args in omega (arith, lies a.ss_hor a.ss_ver a.w4.0 a.across a.along c.requires)

pub bit_in-requires-2 : goal.bit_in-requires-2
bit_in-requires-2 c =
    let a = c.args in
    let p = lies a.ss_hor a.ss_ver a.w4.0 a.across a.along c.requires in
    (c.requires.ver-le, omega (arith, p.across-right), p.along-down.rest)

pub returns : goal.returns
returns c h4 =
    let a = c.args in
    column-edge (grid_of a.luma a.ss_hor a.ss_ver a.w4.0 h4) a.rowwise a.across a.along _ _ c.if-rowwise.false c.record_bit-2.ensures c.bit_in-2.ensures

pub overflow_add-result-2 : goal.overflow_add-result-2
overflow_add-result-2 c =
    let a = c.args in
    let g = grid_of a.luma a.ss_hor a.ss_ver a.w4.0 0 in
    omega (
      arith,
      column-edge g a.rowwise a.across a.along _ _ c.if-rowwise.false c.record_bit-2.ensures c.bit_in-2.ensures,
      edge-small g (pass_of a.rowwise) a.across a.along c.requires,
    )
