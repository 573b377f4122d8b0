-- The lines of units of superblock row k, as the code counts them: in the bits of a mask's two halves, of which each holds h lines.
--   bit_of                         the bit of line y, counted from the word's first half
--   line_bit, line_word            bit q is that of one of the first n lines; the word of those bits
--   row_lines                      the bits of the row's lines in the frame, from its first half on
--   record_lines                   those of the lines of record rec
use Rattle.std.specs.Prelude.{Bool, ◌&&◌, ℕ, ◌+◌, ◌-◌, ◌*◌, ◌/◌, ◌%◌, ◌^◌, min, ltb}
use Rattle.units.specs.Masks.{in_record, row_units, two_halves, half_units}
use Rattle.units.specs.Units.{chroma_units}

unfoldable pub bit_of : ℕ → ℕ → ℕ
bit_of h y = 16 * (y / h) + y % h

unfoldable pub line_bit : ℕ → ℕ → ℕ → Bool
line_bit h n q = ltb (q % 16) h && ltb (q / 16 * h + q % 16) n

unfoldable pub line_word : ℕ → ℕ → ℕ
line_word h n = two_halves (2 ^ min n h - 1) (2 ^ (n - h) - 1) 16

abbrev pub row_lines : ℕ → ℕ → ℕ → ℕ → ℕ
row_lines ss h4 sb4 k = line_word (half_units ss) (row_units ss h4 sb4 k)

abbrev pub record_lines : ℕ → ℕ → ℕ → ℕ
record_lines ss w4 rec = line_word (half_units ss) (in_record (32 / 2 ^ ss) (chroma_units ss w4) rec)
