-- The room that a unit's edge has in the masks, and one unit more of a line, from the laws of `edges`.
use mathlib.Core.Path.{◌≡◌, refl, sym, ap, ◌∙◌}
use mathlib.Core.Bool.{Bool, true, false, cond}
use mathlib.Core.List.{List}
use Prim.Native.Nat.{ℕ, ◌+◌, ◌*◌, ◌≤◌, ◌<◌}
use native.Mathlib.Omega.{arith}
use lib.ListN.{get_or}
use Rattle.loops.proofs.Products.{prod-le}
use Rattle.loops.proofs.Runs.{up_to-again}
use Rattle.plane.specs.Line.{Pass, other, pass_of}
use Rattle.units.specs.Frame.{records, frame_records}
use Rattle.edges.specs.Edges.{Grid, units_of, edge_bit}
use Rattle.edges.proofs.Bits.{class-apart}
use Rattle.edges.proofs.EdgeBits.{class-bit-in}
use Rattle.correct.specs.declared.TileEdge.{TileEdge}
use Rattle.correct.specs.Correct.{corrected, correct_line, grid_in, Room, Fits}

-- ---- a unit of the frame

records-le : (w h : ℕ) → w ≤ 4096 → h ≤ 4096 → frame_records w h ≤ 16384
records-le w h p q = prod-le (records w) (records h) 128 128 (omega arith) (omega arith)

module _ (l : TileEdge) (masks context : ℕ) (f : Fits l masks context) (i : ℕ) (h : i < l.n) where
  along-in : l.first + i < units_of (grid_in l) (other (pass_of l.rowwise))
  along-in = omega (arith, f.end-in)

  bit-lt : (c : ℕ) → c < cond l.luma 4 2
      → edge_bit (grid_in l) (pass_of l.rowwise) (l.across, l.first + i) 0 + 32 * c < 10240 * frame_records l.w4.0 l.h4.0
  bit-lt c k = class-bit-in (grid_in l) f.proper (pass_of l.rowwise) (l.across, l.first + i) c f.across-in along-in k

  some-class : (b : Bool) → 1 < cond b 4 2
  some-class true = omega arith
  some-class false = omega arith

  pub room : (e len : ℕ) → e ≡ edge_bit (grid_in l) (pass_of l.rowwise) (l.across, l.first + i) 0 → len ≡ masks → Room l.luma e len
  room e len p q =
      record {
        two = omega (arith, bit-lt 1 (some-class l.luma), f.long);
        four = λ t. let z : 3 < cond l.luma 4 2 = rw t (omega arith) in omega (arith, bit-lt 3 z, f.long);
        in-usize = omega (arith, bit-lt 1 (some-class l.luma), records-le l.w4.0 l.h4.0 f.width f.height);
      }

-- ---- one unit more

module _ (G : Grid) (d : Pass) (u first : ℕ) (context : List ℕ) where
  pub line-none : (ms : List ℕ) → ms ≡ correct_line G d u first 0 context ms
  unfolding correct_line
  line-none ms = refl

  pub line-more : (i e : ℕ) (ms₀ ms m : List ℕ) → ms ≡ correct_line G d u first i context ms₀ → e ≡ edge_bit G d (u, first + i) 0
      → m ≡ corrected G.luma (λ c. e + 32 * c) (get_or context i 0) ms → m ≡ correct_line G d u first (i + 1) context ms₀
  unfolding correct_line
  line-more i e ms₀ ms m p q r =
      up_to-again (λ i. corrected G.luma (edge_bit G d (u, first + i)) (get_or context i 0)) i ms₀ p
      (r ∙ (λ t. corrected G.luma (bits t) (get_or context i 0) ms))
    where
      bits : (λ (c : ℕ). e + 32 * c) ≡ edge_bit G d (u, first + i)
      bits = λ t c. (ap (λ (x : ℕ). x + 32 * c) q ∙ sym (class-apart G d (u, first + i) c)) t
