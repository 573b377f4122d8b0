-- The geometry of masks: records of 640 words in raster order, and the lines of units that superblock row k has there.
--   luma_word, chroma_word            the place of a word in its record: pass 0 is columns, 1 rows, and `unit` is the edge's place across the pass there
--   word_of luma d unit class half    the same in luma and in chroma
--   unit_words luma                   the words of a unit: two halves for each class
--   pass_start luma d                 those before the first unit of a pass
--   in_record side n rec              the units of record `rec` of a row, `side` a record, of a plane that has n
--   record_row sb4 k                  the record row of superblock row k; sb4 is the side of a superblock in luma units
--   first_line, first_half            its first line and its first half there
--   row_units ss h4 sb4 k             its lines in the frame
--   half_units ss                     the units that a half holds, ss being that of the direction along the pass
--   two_halves lo hi h                the joined word of two halves that hold h units each
--   luma_bit, chroma_bit              the bit of an edge, as one number: bit e % 16 of the record's word e / 16; `place` is the one along the pass
use Rattle.std.specs.Prelude.{Bool, cond, ℕ, ◌+◌, ◌-◌, ◌*◌, ◌/◌, ◌%◌, ◌^◌, min}
use Rattle.std.specs.Int.Bits.{bit_or}
use Rattle.plane.specs.Line.{Pass, pass_no}
use Rattle.units.specs.Units.{chroma_unit, chroma_units}

abbrev pub luma_word : ℕ → ℕ → ℕ → ℕ → ℕ
luma_word pass unit class half = ((pass * 32 + unit) * 3 + class) * 2 + half

abbrev pub chroma_word : ℕ → ℕ → ℕ → ℕ → ℕ
chroma_word pass unit class half = 384 + (((pass * 32 + unit) * 2 + class) * 2 + half)

abbrev pub word_of : Bool → Pass → ℕ → ℕ → ℕ → ℕ
word_of luma d unit class half = cond luma (luma_word (pass_no d) unit class half) (chroma_word (pass_no d) unit class half)

abbrev pub unit_words : Bool → ℕ
unit_words luma = cond luma 6 4

abbrev pub pass_start : Bool → Pass → ℕ
pass_start luma d = cond luma (192 * pass_no d) (384 + 128 * pass_no d)

abbrev pub in_record : ℕ → ℕ → ℕ → ℕ
in_record side n rec = min side (n - rec * side)

abbrev pub record_row : ℕ → ℕ → ℕ
record_row sb4 k = k * sb4 / 32

abbrev pub first_line : ℕ → ℕ → ℕ → ℕ
first_line ss sb4 k = k * sb4 % 32 / 2 ^ ss

abbrev pub first_half : ℕ → ℕ → ℕ
first_half sb4 k = k * sb4 % 32 / 16

abbrev pub row_units : ℕ → ℕ → ℕ → ℕ → ℕ
row_units ss h4 sb4 k = min (chroma_unit ss sb4) (chroma_units ss h4 - k * chroma_unit ss sb4)

abbrev pub half_units : ℕ → ℕ
half_units ss = 16 / 2 ^ ss

abbrev pub two_halves : ℕ → ℕ → ℕ → ℕ
two_halves lo hi h = bit_or lo (hi * 2 ^ h)

unfoldable pub luma_bit : ℕ → ℕ → ℕ → ℕ → ℕ
luma_bit pass unit class place = 16 * luma_word pass unit class (place / 16) + place % 16

unfoldable pub chroma_bit : ℕ → ℕ → ℕ → ℕ → ℕ → ℕ
chroma_bit ss pass unit class place = 16 * chroma_word pass unit class (place / half_units ss) + place % half_units ss
