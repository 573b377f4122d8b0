-- The numbers that the code forms of the frame fit, and the masks hold what they name: products of bounds, and records within the frame's.
use mathlib.Core.Path.{◌≡◌, sym, ap, ◌∙◌}
use mathlib.Core.Bool.{Bool, true, false}
use mathlib.Core.List.{List}
use Prim.Native.Nat.{ℕ, ◌+◌, ◌-◌, ◌*◌, ◌/◌, ◌^◌, ◌≤◌, ◌<◌, min}
use native.Mathlib.Nat.{add-mul, mul_comm, mul-le-mul_right, zero-mul, zero-add}
use native.Mathlib.Omega.{arith}
use Rattle.loops.proofs.Products.{prod-le}
use Rattle.plane.specs.Line.{Pass, columns, rows}
use Rattle.units.specs.Frame.{records}
use Rattle.units.specs.Masks.{unit_words, pass_start, record_row}
use Rattle.units.proofs.Places.{pass-in}
use Rattle.gap.specs.declared.track.Track.{Track}
use Rattle.gap.specs.Fits.{MasksFit}
use Rattle.gap.specs.Track.{class_word, start_t, part_t, track, column_words, row_words}
use Rattle.gap.proofs.StoredWords.{fewer-units}
use Rattle.gap.proofs.Shapes.{halves, RowLines, row-lines, RowHalves, row-halves}
use Rattle.gap.proofs.Walks.{part-track}

-- ---- bounds

-- columns are not the last in a record
columns-in : (luma : Bool) → pass_start luma columns + unit_words luma * 32 < 640
columns-in true = omega arith
columns-in false = omega arith

-- ---- records

module _ (len w4 h4 sb4 k : ℕ) (f : MasksFit len w4 h4 sb4 k) where
  pub lines_of : (ss : ℕ) → ss ≤ 1 → RowLines ss h4 sb4 k
  lines_of ss h = row-lines ss h4 sb4 k h f.size f.down

  pub halves_of : RowHalves h4 sb4 k
  halves_of = row-halves h4 sb4 k f.size f.down

  -- the record row of superblock row k
  pub masks-in : 640 * ((record_row sb4 k + 1) * records w4) ≤ len
  masks-in =
      omega (arith, f.long, mul-le-mul_right (records w4) halves_of.down, mul_comm (records w4) (records h4), add-mul (record_row sb4 k) 1 (records w4))

  -- record rec of it
  pub record-in : (rec : ℕ) → rec < records w4 → 640 * (record_row sb4 k * records w4 + rec) + 640 ≤ len
  record-in rec l = omega (arith, masks-in, add-mul (record_row sb4 k) 1 (records w4))

-- a record's number, as the code makes it
module _ (q R l records : ℕ) (el : l ≡ q) (eg : records ≡ R) where
  pub records-small : q < 128 → R ≤ 128 → l * records ≤ 16256
  records-small a b = prod-le l records 127 128 (omega arith) (omega arith)

  -- where a pass starts there
  pub record-place : (luma : Bool) (d : Pass) (rec at : ℕ) → at ≡ 640 * (l * records + rec) + pass_start luma d → at ≡ 640 * (q * R + rec) + pass_start luma d
  record-place luma d rec at e = e ∙ (λ i. 640 * (el i * eg i + rec) + pass_start luma d)

  pub columns-fit : (luma : Bool) (len at first : ℕ) → 640 * ((q + 1) * R) ≤ len → at ≡ 640 * (l * records) + pass_start luma columns → first < 2
      → at + first + 640 * records + unit_words luma * 32 ≤ len + 640
  columns-fit luma len at first h e f = rw (e, el, eg) (omega (arith, add-mul q 1 R, columns-in luma))

  pub rows_fit : (luma : Bool) (len rec at m : ℕ) → 640 * (q * R + rec) + 640 ≤ len → at ≡ 640 * (l * records + rec) + pass_start luma rows → m ≤ 32
      → at + unit_words luma * m ≤ len
  rows_fit luma len rec at m h e lm = fewer-units luma at m 32 len lm (rw (e, el, eg) (omega (arith, pass-in luma rows)))

-- ---- the walks

module _ (ms : List ℕ) (luma : Bool) (hs base ss width : ℕ) (h : ss ≤ 1) where
  pub columns-none : (t : Track) → t ≡ start_t → t ≡ track (column_words ms luma hs base (32 / 2 ^ ss)) width (0 * (32 / 2 ^ ss))
  unfolding track
  columns-none t e = e ∙ ap (track (column_words ms luma hs base (32 / 2 ^ ss)) width) (sym (zero-mul (32 / 2 ^ ss)))

  column-word : (rec i c : ℕ) → i < 32 / 2 ^ ss
      → class_word ms luma hs (base + 640 * rec) (0 + i) c ≡ column_words ms luma hs base (32 / 2 ^ ss) (rec * (32 / 2 ^ ss) + i) c
  unfolding column_words
  column-word rec i c l =
      let k = halves ss h in
      let a = sym (k.of-record rec i l) in
      let b = zero-add i ∙ sym (k.in-record rec i l) in
      (λ t. class_word ms luma hs (base + 640 * a t) (b t) c)

  pub columns-more : (rec n : ℕ) (t r : Track) → n ≡ min (32 / 2 ^ ss) (width - rec * (32 / 2 ^ ss))
      → t ≡ track (column_words ms luma hs base (32 / 2 ^ ss)) width (rec * (32 / 2 ^ ss)) → r ≡ part_t ms luma hs (base + 640 * rec) 0 n (32 / 2 ^ ss) t
      → r ≡ track (column_words ms luma hs base (32 / 2 ^ ss)) width ((rec + 1) * (32 / 2 ^ ss))
  columns-more rec n t r en et er =
      part-track (column_words ms luma hs base (32 / 2 ^ ss)) width ms luma hs (base + 640 * rec) 0 (rec * (32 / 2 ^ ss)) n (32 / 2 ^ ss) t r en
      (column-word rec) et er
      ∙ ap (track (column_words ms luma hs base (32 / 2 ^ ss)) width) (omega (arith, add-mul rec 1 (32 / 2 ^ ss)))

pub rows_walked : (ms : List ℕ) (luma : Bool) (at from n sb : ℕ) (t r : Track) → n ≤ sb → t ≡ start_t → r ≡ part_t ms luma 2 at from n sb t
    → r ≡ track (row_words ms luma at from) n sb
unfolding track row_words
rows_walked ms luma at from n sb t r l et er =
    part-track (row_words ms luma at from) n ms luma 2 at from 0 n sb t r (omega arith)
    (λ i c _. ap (λ (k : ℕ). class_word ms luma 2 at (from + k) c) (sym (zero-add i))) et er
    ∙ ap (track (row_words ms luma at from) n) (zero-add sb)
