-- The bit of a unit's edge is that of its record and of the unit in it, pass by pass; and of a unit of the frame it lies in the masks.
use mathlib.Core.Path.{◌≡◌, refl}
use mathlib.Core.Bool.{Bool, true, false, cond}
use Prim.Native.Nat.{ℕ, ◌+◌, ◌*◌, ◌/◌, ◌%◌, ◌^◌, ◌≤◌, ◌<◌}
use native.Mathlib.Omega.{arith}
use Rattle.loops.proofs.Products.{prod-le}
use Rattle.loops.proofs.Tables.{each_at}
use Rattle.plane.specs.Line.{Pass, columns, rows, Piece, other, pass_of}
use Rattle.units.specs.Frame.{records, frame_records}
use Rattle.units.specs.Masks.{half_units, luma_bit, chroma_bit}
use Rattle.units.proofs.Places.{chroma-units-le, luma-bit-in, chroma-bit-in}
use Rattle.edges.specs.Edges.{Grid, Proper, units_of, side, record_at, bit_in, edge_bit}
use Rattle.edges.proofs.Bits.{class-apart, edge-bit-in}
use Rattle.edges.specs.Bit.{Near}

pub record Sides (ss u : ℕ) : Type 0 where
  pub some : 0 < 32 / 2 ^ ss
  pub few : 32 / 2 ^ ss ≤ 32
  pub fewer : u / (32 / 2 ^ ss) ≤ u
  pub rest : u % (32 / 2 ^ ss) < 32 / 2 ^ ss
  pub halves : 32 / 2 ^ ss ≤ 2 * half_units ss

pub sides : (ss u : ℕ) → ss ≤ 1 → Sides ss u
sides ss u h =
    each_at 2 (λ s. Sides s u) (
      record { some = omega arith; few = omega arith; fewer = omega arith; rest = omega arith; halves = omega arith },
      (record { some = omega arith; few = omega arith; fewer = omega arith; rest = omega arith; halves = omega arith }, tt),
    ) ss (omega arith)

-- both places of a unit, to the right and down, whichever the pass
pub record Lies (ss-hor ss-ver across along : ℕ) : Type 0 where
  pub across-right : Sides ss-hor across
  pub across-down : Sides ss-ver across
  pub along-right : Sides ss-hor along
  pub along-down : Sides ss-ver along

pub lies : (ss-hor ss-ver w4 across along : ℕ) → Near ss-hor ss-ver w4 across along → Lies ss-hor ss-ver across along
lies ss-hor ss-ver w4 across along n =
    record {
      across-right = sides ss-hor across n.hor-le;
      across-down = sides ss-ver across n.ver-le;
      along-right = sides ss-hor along n.hor-le;
      along-down = sides ss-ver along n.ver-le;
    }

bit-small : (luma : Bool) (ss pass unit place : ℕ) → ss ≤ 1 → pass < 2 → unit < 32 → place < 32 / 2 ^ ss
    → cond luma (luma_bit pass unit 0 place) (chroma_bit ss pass unit 0 place) < 10240
bit-small true ss pass unit place a b c d =
    let s = sides ss 0 a in omega (arith, luma-bit-in pass unit 0 place b c (omega arith) (omega arith))
bit-small false ss pass unit place a b c d =
    let s = sides ss 0 a in omega (arith, chroma-bit-in ss pass unit 0 place a b c (omega arith) (omega arith))

record-small : (w4 right down : ℕ) → w4 ≤ 4096 → right ≤ 4096 → down ≤ 4096 → 10240 * (down * records w4 + right) ≤ 5410652160
record-small w4 right down w r d = omega (arith, prod-le down (records w4) 4096 128 d (omega arith))

pub edge-small : (G : Grid) (d : Pass) (u v : ℕ) → Near G.ss-hor G.ss-ver G.w4 u v → edge_bit G d (u, v) 0 < 1099511627776
unfolding edge_bit
edge-small G d u v n = go d
  where
    p : Lies G.ss-hor G.ss-ver u v
    p = lies G.ss-hor G.ss-ver G.w4 u v n

    go : (d : Pass) → 10240 * record_at G d (u / side G d) (v / side G (other d)) + bit_in G d (u % side G d) 0 (v % side G (other d)) < 1099511627776
    go columns =
        omega (
          arith,
          record-small G.w4 (u / side G columns) (v / side G rows) n.width (omega (arith, p.across-right, n.across-le)) (omega (arith, p.along-down, n.along-le)),
          bit-small G.luma G.ss-ver 0 (u % side G columns) (v % side G rows) n.ver-le (omega arith) (omega (arith, p.across-right)) p.along-down.rest,
        )
    go rows =
        omega (
          arith,
          record-small G.w4 (v / side G columns) (u / side G rows) n.width (omega (arith, p.along-right, n.along-le)) (omega (arith, p.across-down, n.across-le)),
          bit-small G.luma G.ss-hor 1 (u % side G rows) (v % side G columns) n.hor-le (omega arith) (omega (arith, p.across-down)) p.along-right.rest,
        )

module _ (G : Grid) (b : Bool) (u v x y : ℕ) where
  pub row-edge : b ≡ true → x ≡ 10240 * (u / (32 / 2 ^ G.ss-ver) * records G.w4 + v / (32 / 2 ^ G.ss-hor))
      → y ≡ cond G.luma (luma_bit 1 (u % (32 / 2 ^ G.ss-ver)) 0 (v % (32 / 2 ^ G.ss-hor))) (chroma_bit G.ss-hor 1 (u % (32 / 2 ^ G.ss-ver)) 0 (v % (32 / 2 ^ G.ss-hor)))
      → x + y ≡ edge_bit G (pass_of b) (u, v) 0
  unfolding edge_bit
  row-edge e p q = rw (e, p, q) refl

  pub column-edge : b ≡ false → x ≡ 10240 * (v / (32 / 2 ^ G.ss-ver) * records G.w4 + u / (32 / 2 ^ G.ss-hor))
      → y ≡ cond G.luma (luma_bit 0 (u % (32 / 2 ^ G.ss-hor)) 0 (v % (32 / 2 ^ G.ss-ver))) (chroma_bit G.ss-ver 0 (u % (32 / 2 ^ G.ss-hor)) 0 (v % (32 / 2 ^ G.ss-ver)))
      → x + y ≡ edge_bit G (pass_of b) (u, v) 0
  unfolding edge_bit
  column-edge e p q = rw (e, p, q) refl

-- ---- a unit of the frame

units-le : (G : Grid) → Proper G → G.w4 ≤ 4096 → G.h4 ≤ 4096 → (d : Pass) → units_of G d ≤ 4096
units-le G P w h columns = omega (arith, chroma-units-le G.w4 G.ss-hor P.ss-hor-le)
units-le G P w h rows = omega (arith, chroma-units-le G.h4 G.ss-ver P.ss-ver-le)

pub unit-near : (G : Grid) → Proper G → G.w4 ≤ 4096 → G.h4 ≤ 4096 → (d : Pass) (p : Piece) → p.0 < units_of G d → p.1 < units_of G (other d)
    → Near G.ss-hor G.ss-ver G.w4 p.0 p.1
unit-near G P w h d p x y =
    record {
      hor-le = P.ss-hor-le;
      ver-le = P.ss-ver-le;
      width = w;
      across-le = omega (arith, units-le G P w h d);
      along-le = omega (arith, units-le G P w h (other d));
    }

-- the bits of its classes lie in the masks
pub class-bit-in : (G : Grid) → Proper G → (d : Pass) (p : Piece) (c : ℕ) → p.0 < units_of G d → p.1 < units_of G (other d) → c < cond G.luma 4 2
    → edge_bit G d p 0 + 32 * c < 10240 * frame_records G.w4 G.h4
class-bit-in G P d p c x y h = omega (arith, class-apart G d p c, edge-bit-in G P d p c x y h)
