-- What the walk along the units of a line keeps, for 32 lines at once: bit q of a word is line q.
--   word_at              the word of the half at place i, or of the two halves from there on
--   class_word           the word of class c at unit i, where the first half of unit 0 stands at `at`; there is no class 2 in chroma
--   clash_w              `clashes` of words
--   start_t, step_t      the state before the first unit; and one unit further, whose classes have the words x, y, b, and z past the frame
--   unit_t, unit_at_t    the same of a unit in the frame or past it; and of the unit stored at i
--   run_t, part_t        m units side by side; and `end` of them, n in the frame
--   close_t              the lines that break the gap rule, the end being a mark of each
--   cut, past, track     the state after u units of a line, n of which lie in the frame
--   column_words         the words of a line along the records from `base` on, `side` units a record
--   column_track         the state at the end of the record row of superblock row k, of the row's own halves
--   row_words            the words of a line in one record, from unit `from` on
--   row_track            the state at the end of superblock row k in record rec
--   Answers              numbers 11 and 12 of a state, whose words have 32 bits: `live` has those of the lines in the frame
use Rattle.std.specs.Prelude.{◌≡◌, Bool, true, false, not, cond, List, ℕ, zero, suc, ◌+◌, ◌-◌, ◌*◌, ◌/◌, ◌%◌, ◌^◌, ◌<◌, eqb, ltb, get_or}
use Rattle.std.specs.Int.Bits.{bit_and, bit_or}
use Rattle.loops.specs.Run.{up_to}
use Rattle.plane.specs.Line.{columns, rows}
use Rattle.units.specs.Frame.{records}
use Rattle.units.specs.Masks.{unit_words, pass_start, record_row, first_line, first_half, row_units, two_halves}
use Rattle.units.specs.Units.{chroma_unit, chroma_units}
use Rattle.gap.specs.declared.Both.{Both}
use Rattle.gap.specs.declared.track.Track.{Track}

unfoldable pub word_at : List ℕ → ℕ → ℕ → ℕ
word_at ms halves i = two_halves (get_or ms i 0) (cond (eqb halves 2) (get_or ms (i + 1) 0) 0) 16

unfoldable pub class_word : List ℕ → Bool → ℕ → ℕ → ℕ → ℕ → ℕ
class_word ms luma halves at i c =
    cond (ltb c (cond luma 3 2)) (word_at ms halves (at + unit_words luma * i + 2 * c)) 0

unfoldable pub clash_w : ℕ → ℕ → ℕ → ℕ → ℕ → ℕ → ℕ → ℕ → ℕ → ℕ
clash_w m a b m1 m2 m3 a1 b2 b3 = bit_or (bit_or (bit_and m (bit_or (bit_or a1 b2) b3)) (bit_and m1 a)) (bit_and (bit_or m2 m3) b)

unfoldable pub start_t : Track
start_t = record { first = 4294967295; m1 = 0; m2 = 0; m3 = 0; a1 = 0; b1 = 0; b2 = 0; b3 = 0; bad = 0; all = 0; past = 0 }

unfoldable pub step_t : Track → ℕ → ℕ → ℕ → ℕ → Track
step_t s x y b z =
    record {
      first = 0;
      m1 = bit_or s.first (bit_or x (bit_or y b));
      m2 = s.m1;
      m3 = s.m2;
      a1 = bit_or y b;
      b1 = b;
      b2 = s.b1;
      b3 = s.b2;
      bad = bit_or s.bad (clash_w (bit_or s.first (bit_or x (bit_or y b))) (bit_or y b) b s.m1 s.m2 s.m3 s.a1 s.b2 s.b3);
      all = bit_or s.all (bit_or x (bit_or y b));
      past = bit_or s.past z;
    }

unfoldable pub unit_t : Bool → Track → ℕ → ℕ → ℕ → Track
unit_t true s x y b = step_t s x y b 0
unit_t false s x y b = step_t s 0 0 0 (bit_or x (bit_or y b))

unfoldable pub unit_at_t : List ℕ → Bool → ℕ → Bool → ℕ → ℕ → Track → Track
unit_at_t ms luma halves inside at i s =
    unit_t inside s (class_word ms luma halves at i 0) (class_word ms luma halves at i 1) (class_word ms luma halves at i 2)

unfoldable pub run_t : List ℕ → Bool → ℕ → Bool → ℕ → ℕ → ℕ → Track → Track
run_t ms luma halves inside at from m = up_to (λ i. unit_at_t ms luma halves inside at (from + i)) m

unfoldable pub part_t : List ℕ → Bool → ℕ → ℕ → ℕ → ℕ → ℕ → Track → Track
part_t ms luma halves at from n end s = run_t ms luma halves false at (from + n) (end - n) (run_t ms luma halves true at from n s)

unfoldable pub close_t : Track → ℕ
close_t s = bit_or s.bad (clash_w 4294967295 0 0 s.m1 s.m2 s.m3 s.a1 s.b2 s.b3)

-- the words of a line: unit, class
module _ (words : ℕ → ℕ → ℕ) (n : ℕ) where
  unfoldable pub cut : ℕ → ℕ → ℕ
  cut c u = cond (ltb u n) (words u c) 0

  unfoldable pub past : ℕ → ℕ
  past u = cond (ltb u n) 0 (bit_or (words u 0) (bit_or (words u 1) (words u 2)))

  unfoldable pub track : ℕ → Track
  track zero = start_t
  track (suc u) = step_t (track u) (cut 0 u) (cut 1 u) (cut 2 u) (past u)

unfoldable pub column_words : List ℕ → Bool → ℕ → ℕ → ℕ → ℕ → ℕ → ℕ
column_words ms luma halves base side u c = class_word ms luma halves (base + 640 * (u / side)) (u % side) c

unfoldable pub row_words : List ℕ → Bool → ℕ → ℕ → ℕ → ℕ → ℕ
row_words ms luma at from u c = class_word ms luma 2 at (from + u) c

abbrev pub column_track : List ℕ → Bool → ℕ → ℕ → ℕ → ℕ → Track
column_track ms luma ss w4 sb4 k =
    track (column_words ms luma (sb4 / 16) (640 * (record_row sb4 k * records w4) + pass_start luma columns + first_half sb4 k) (32 / 2 ^ ss)) (chroma_units ss w4)
    (records w4 * (32 / 2 ^ ss))

abbrev pub row_track : List ℕ → Bool → ℕ → ℕ → ℕ → ℕ → ℕ → ℕ → Track
row_track ms luma ss w4 h4 sb4 k rec =
    track (row_words ms luma (640 * (record_row sb4 k * records w4 + rec) + pass_start luma rows) (first_line ss sb4 k)) (row_units ss h4 sb4 k)
    (chroma_unit ss sb4)

pub record Answers (t : Track) (live : ℕ) (r : Both) : Type 0 where
  pub eleven : r.gap ≡ not (eqb (bit_and live (close_t t)) 0)
  pub twelve : r.out ≡ not (eqb (bit_or (bit_and t.all ((2 ^ 32 - 1) - live)) t.past) 0)
  pub word : t.past < 2 ^ 32
