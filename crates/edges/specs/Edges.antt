-- The edges of one plane of units, as the masks of a frame hold them.
--   Grid                       a plane of units: luma or chroma, its subsampling, and the frame in luma units
--   grid_of                    of these numbers
--   luma_grid, chroma_grid     luma, and chroma: U and V share their masks
--   Proper                     a subsampling is 0 or 1, and 0 in luma
--   ss_of                      the subsampling of the direction across a pass: to the right in columns, down in rows
--   units_of, side             the units of the frame in that direction, and those of a 128x128 record
--   half                       the units along the pass that a half of a mask's bits holds
--   record_at                  a record of the frame, by its numbers across the pass and along it
--   classes                    how many classes there are
--   word_in, bit_in            the word of a half, and the bit of an edge, in its record
--   edge_bit                   the bit of an edge in the masks
--   in_frame                   a unit of the frame
--   highest                    the highest class below n that is set
--   edge                       the edge at a unit: the highest class whose bit is set; none outside the frame
-- A unit is (across, along), as a `Piece` is.
use Rattle.std.specs.Prelude.{◌≡◌, Bool, true, false, ◌&&◌, cond, List, ℕ, zero, suc, ◌+◌, ◌*◌, ◌/◌, ◌%◌, ◌^◌, ◌≤◌, ltb}
use Rattle.std.proofs.Math.Option.{Option, some, none}
use Rattle.bits.specs.Mark.{is_set}
use Rattle.plane.specs.Line.{Pass, columns, rows, Piece, other, pass_no}
use Rattle.plane.specs.Plane.{right, down}
use Rattle.units.specs.Frame.{records}
use Rattle.units.specs.Masks.{word_of, half_units, luma_bit, chroma_bit}
use Rattle.units.specs.Units.{chroma_units}

pub record Grid : Type 0 where
  pub luma : Bool
  pub ss-hor : ℕ
  pub ss-ver : ℕ
  pub w4 : ℕ
  pub h4 : ℕ

abbrev pub grid_of : Bool → ℕ → ℕ → ℕ → ℕ → Grid
grid_of luma ss-hor ss-ver w4 h4 = record { luma = luma; ss-hor = ss-hor; ss-ver = ss-ver; w4 = w4; h4 = h4 }

abbrev pub luma_grid : ℕ → ℕ → Grid
luma_grid w4 h4 = grid_of true 0 0 w4 h4

abbrev pub chroma_grid : ℕ → ℕ → ℕ → ℕ → Grid
chroma_grid ss-hor ss-ver w4 h4 = grid_of false ss-hor ss-ver w4 h4

pub record Proper (G : Grid) : Type 0 where
  pub ss-hor-le : G.ss-hor ≤ 1
  pub ss-ver-le : G.ss-ver ≤ 1
  pub luma-x : G.luma ≡ true → G.ss-hor ≡ 0
  pub luma-y : G.luma ≡ true → G.ss-ver ≡ 0

abbrev pub ss_of : Grid → Pass → ℕ
ss_of G columns = G.ss-hor
ss_of G rows = G.ss-ver

abbrev pub units_of : Grid → Pass → ℕ
units_of G columns = chroma_units G.ss-hor G.w4
units_of G rows = chroma_units G.ss-ver G.h4

abbrev pub side : Grid → Pass → ℕ
side G d = 32 / 2 ^ ss_of G d

abbrev pub half : Grid → Pass → ℕ
half G d = half_units (ss_of G (other d))

abbrev pub record_at : Grid → Pass → ℕ → ℕ → ℕ
record_at G d a l = down d (a, l) * records G.w4 + right d (a, l)

abbrev pub classes : Grid → ℕ
classes G = cond G.luma 3 2

abbrev pub word_in : Grid → Pass → ℕ → ℕ → ℕ → ℕ
word_in G d unit class h = word_of G.luma d unit class h

abbrev pub bit_in : Grid → Pass → ℕ → ℕ → ℕ → ℕ
bit_in G d unit class place =
    cond G.luma (luma_bit (pass_no d) unit class place) (chroma_bit (ss_of G (other d)) (pass_no d) unit class place)

unfoldable pub edge_bit : Grid → Pass → Piece → ℕ → ℕ
edge_bit G d p class =
    10240 * record_at G d (p.0 / side G d) (p.1 / side G (other d)) + bit_in G d (p.0 % side G d) class (p.1 % side G (other d))

abbrev pub in_frame : Grid → Pass → Piece → Bool
in_frame G d p = ltb p.0 (units_of G d) && ltb p.1 (units_of G (other d))

abbrev pub highest : ℕ → (ℕ → Bool) → Option ℕ
highest zero set = none
highest (suc c) set = cond (set c) (some c) (highest c set)

unfoldable pub edge : Grid → List ℕ → Pass → Piece → Option ℕ
edge G ms d p = cond (in_frame G d p) (highest (classes G) (λ c. is_set ms (edge_bit G d p c))) none
