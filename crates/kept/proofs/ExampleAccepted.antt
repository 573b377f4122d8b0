-- The example's calls that filter answer 0: number 11 is not given by the theorem, and the rest is computed.
use mathlib.Core.Bool.{Bool, false, not, ◌||◌}
use mathlib.Core.Logic.{inl}
use mathlib.Core.Path.{◌≡◌, refl, ap, ap₂}
use Prim.Native.Nat.{ℕ, zero, suc}
use native.Mathlib.Omega.{arith}
use lib.Dec.{ltb}
use lib.ListN.{length, get_or, length-replicate}
use Rattle.loops.specs.Any.{any_below}
use Rattle.loops.proofs.Anys.{any_false}
use Rattle.bits.specs.Bit.{has_bit}
use Rattle.bits.specs.Mark.{is_set, mark, marks}
use Rattle.standard.specs.Sizes.{Num_4x4_Blocks_Wide, Num_4x4_Blocks_High, Tx_Wide, Tx_High}
use Rattle.plane.specs.Line.{Pass, columns, rows}
use Rattle.units.specs.Memory.{plane_ok, level_at}
use Rattle.units.specs.Sizes.{log2}
use Rattle.scans.specs.Scan.{levels_high, samples_high}
use Rattle.gap.specs.Numbers.{outside, bad_half, half_bit}
use Rattle.mask_edges.specs.Folds.{stores, grid_masks, grid_pass, block_edge, step_edges, edge_bit}
use Rattle.block.specs.Block.{bw4, bh4, cbw4, cbh4}
use Rattle.record.specs.Record.{fill_levels, fill_row, in_record}
use Rattle.checks.specs.Call.{grid_of, Shaped}
use Rattle.frames.specs.Calls.{call_at, answer, Accepted}
use Rattle.checks.specs.Tests.{levels_bad, plane_bad, number}
use Rattle.kept.specs.Holds.{HoldsEdges}
use Rattle.kept.specs.Example.{decoded, head, zeros, samples}
use Rattle.kept.proofs.GapOfHeld.{eleven}
use Rattle.kept.proofs.ExampleCalls.{after, frame}

levels-long : length after.levels ≡ 32
unfolding fill_levels fill_row level_at Num_4x4_Blocks_Wide Num_4x4_Blocks_High bw4 bh4 cbw4 cbh4
levels-long = refl

masks-long : length after.masks ≡ 640
unfolding Num_4x4_Blocks_Wide Num_4x4_Blocks_High Tx_Wide Tx_High bw4 bh4 cbw4 cbh4 in_record grid_masks grid_pass block_edge step_edges marks mark stores log2 edge_bit
masks-long = refl

-- number 12
out : (d : Pass) → (outside (grid_of head 0) after.masks d 16 0 ≡ false) × (outside (grid_of head 1) after.masks d 16 0 ≡ false)
unfolding outside bad_half half_bit is_set has_bit any_below Num_4x4_Blocks_Wide Num_4x4_Blocks_High Tx_Wide Tx_High bw4 bh4 cbw4 cbh4 in_record grid_masks grid_pass block_edge
    step_edges marks mark stores log2 edge_bit
out columns = (refl, refl)
out rows = (refl, refl)

-- number 8
levels-good : (d : Pass) → levels_bad (call_at frame d 0) after.levels ≡ false
unfolding levels_bad levels_high any_below fill_levels fill_row level_at Num_4x4_Blocks_Wide Num_4x4_Blocks_High bw4 bh4 cbw4 cbh4
levels-good columns = refl
levels-good rows = refl

-- number 9
zero-at : (n i : ℕ) → ◌≡◌ {A = ℕ} (get_or (zeros n) i 0) 0
unfolding zeros
zero-at zero i = refl
zero-at (suc n) zero = refl
zero-at (suc n) (suc i) = zero-at n i

black : (n i : ℕ) → ltb 255 (get_or (zeros n) i 0) ≡ false
black n i = ap (λ (v : ℕ). ltb 255 v) (zero-at n i)

low : (n level-stride width sb above k : ℕ) → samples_high (zeros n) level-stride 255 width sb above k ≡ false
unfolding samples_high
low n level-stride width sb above k = any_false _ _ (λ y _. any_false width _ (λ x _. black n _))

long : (n : ℕ) → length (zeros n) ≡ n
unfolding zeros
long n = length-replicate {A = ℕ} n 0

luma-good : (d : Pass) → plane_bad (call_at frame d 0) 0 (zeros 16384) ≡ false
unfolding plane_bad
luma-good columns = ap₂ (λ (n : ℕ) (b : Bool). not (plane_ok n 128 128 128) || b) (long 16384) (low 16384 128 128 16 0 0)
luma-good rows = ap₂ (λ (n : ℕ) (b : Bool). not (plane_ok n 128 128 128) || b) (long 16384) (low 16384 128 128 16 8 0)

chroma-good : (d : Pass) → plane_bad (call_at frame d 0) 1 (zeros 4096) ≡ false
unfolding plane_bad
chroma-good columns = ap₂ (λ (n : ℕ) (b : Bool). not (plane_ok n 64 64 64) || b) (long 4096) (low 4096 64 64 8 0 0)
chroma-good rows = ap₂ (λ (n : ℕ) (b : Bool). not (plane_ok n 64 64 64) || b) (long 4096) (low 4096 64 64 8 8 0)

module _ (L : HoldsEdges frame decoded 0) (C : HoldsEdges frame decoded 1) where
  shaped : Shaped head
  shaped = record { width = omega arith; height = omega arith; size = inl refl }

  done : (d : Pass) → answer frame d 0 samples ≡ 0
  unfolding number plane_bad
  done columns =
      rw (
        levels-long,
        masks-long,
        levels-good columns,
        luma-good columns,
        chroma-good columns,
        eleven frame decoded shaped 0 L columns 0,
        eleven frame decoded shaped 1 C columns 0,
        (out columns).0,
        (out columns).1,
      ) refl
  done rows =
      rw (levels-long, masks-long, levels-good rows, luma-good rows, chroma-good rows, eleven frame decoded shaped 0 L rows 0, eleven frame decoded shaped 1 C rows 0, (out rows).0, (out rows).1) refl

  pub accepted : Accepted frame samples
  accepted = record { some = omega arith; all = λ d k h. let e : k ≡ 0 = omega arith in rw e (done d) }
