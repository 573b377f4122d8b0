-- The column pass: the walk along all records answers numbers 11 and 12; the row's halves lie in one record row, and the words have them.
use mathlib.Core.Path.{◌≡◌, refl, sym, ap, ◌∙◌}
use mathlib.Core.Bool.{Bool, true, false, ◌&&◌, cond}
use mathlib.Core.List.{List}
use mathlib.Core.Logic.{by_cases}
use mathlib.Core.Option.{none}
use Prim.Native.Nat.{ℕ, ◌+◌, ◌-◌, ◌*◌, ◌/◌, ◌%◌, ◌≤◌, ◌<◌, min}
use native.Mathlib.Nat.{add-mul}
use native.Mathlib.Decide.{dec_lt}
use native.Mathlib.Omega.{arith}
use lib.Dec.{ltb}
use lib.ListN.{get_or}
use borrow.Author.Tests.{lt-ltb, le-ltb}
use Rattle.loops.specs.Any.{any_below}
use Rattle.bits.specs.Bit.{has_bit}
use Rattle.bits.specs.Mark.{is_set}
use Rattle.plane.specs.Line.{columns, rows}
use Rattle.units.specs.Frame.{records}
use Rattle.units.specs.Masks.{unit_words, pass_start, record_row, first_half, row_units}
use Rattle.units.proofs.Places.{word_at}
use Rattle.gap.specs.declared.Both.{Both}
use Rattle.gap.specs.declared.track.Track.{Track}
use Rattle.edges.specs.Edges.{Grid, units_of, side, half, classes, word_in, edge_bit, highest, edge, Proper}
use Rattle.gap.specs.Line.{line_broken}
use Rattle.gap.specs.Lines.{line_word}
use Rattle.gap.specs.Numbers.{sb_units, stored_units, gap, half_bit, outside, Found}
use Rattle.gap.specs.Track.{column_words, track, Answers}
use Rattle.gap.proofs.WalkNumbers.{lines-gap, halves-out}
use Rattle.gap.proofs.Masks.{class-bit}
use Rattle.gap.proofs.Shapes.{RowLines, RowHalves, units-stored}

module _ (G : Grid) (p : Proper G) (ms : List ℕ) (small : (j : ℕ) → get_or ms j 0 < 65536) (sb4 k : ℕ)
    (at : RowLines G.ss-ver G.h4 sb4 k) (ah : RowHalves G.h4 sb4 k) where
  -- the record row, the row's first half in it, its halves and its lines, and those in the frame
  abbrev l : ℕ
  l = record_row sb4 k

  abbrev first : ℕ
  first = first_half sb4 k

  abbrev n : ℕ
  n = sb4 / 16

  abbrev sb : ℕ
  sb = sb_units G sb4

  abbrev m : ℕ
  m = row_units G.ss-ver G.h4 sb4 k

  abbrev words : ℕ → ℕ → ℕ
  words = column_words ms G.luma n (640 * (l * records G.w4) + pass_start G.luma columns + first) (side G columns)

  reads : (u c q : ℕ) → u < stored_units G → c < 3 → q < 32
      → has_bit (words u c) q ≡ (ltb c (classes G) && (ltb (q / 16) n && is_set ms (half_bit G columns u c (k * n + q / 16) (q % 16))))
  unfolding column_words half_bit
  reads u c q lu lc lq =
      class-bit ms small n ah.some (omega (arith, ah.two)) G.luma
      (640 * (l * records G.w4) + pass_start G.luma columns + first + 640 * (u / side G columns)) (u % side G columns) c q lc lq
      ∙ ap (λ (x : Bool). ltb c (classes G) && x)
      (by_cases (dec_lt (q / 16) n) (λ i. ap (λ (x : ℕ). ltb (q / 16) n && is_set ms x) (own i)) (λ i. rw (le-ltb (q / 16) n (omega arith)) refl))
    where
      sum : (r rec t o s c q : ℕ)
          → 16 * (640 * r + o + s + 640 * rec + t + 2 * c) + q ≡ 10240 * (r + rec) + (16 * (o + t + 2 * c + (s + q / 16)) + q % 16)
      sum r rec t o s c q = omega arith

      own : q / 16 < n
          → 16 * (640 * (l * records G.w4) + pass_start G.luma columns + first + 640 * (u / side G columns) + unit_words G.luma * (u % side G columns) + 2 * c) + q
          ≡ 10240 * ((k * n + q / 16) / 2 * records G.w4 + u / side G columns)
          + (16 * word_in G columns (u % side G columns) c ((k * n + q / 16) % 2) + q % 16)
      own i =
          let a : l ≡ (k * n + q / 16) / 2 = omega (arith, ah.half_no, ah.two) in
          let b : first + q / 16 ≡ (k * n + q / 16) % 2 = omega (arith, ah.half_no, ah.two) in
          sum (l * records G.w4) (u / side G columns) (unit_words G.luma * (u % side G columns)) (pass_start G.luma columns) first c q
          ∙ ap (λ (x : ℕ). 10240 * (l * records G.w4 + u / side G columns) + (16 * x + q % 16))
          (sym (word_at G.luma columns (u % side G columns) c (first + q / 16)))
          ∙ (λ i. 10240 * (a i * records G.w4 + u / side G columns) + (16 * word_in G columns (u % side G columns) c (b i) + q % 16))

  line-edge : (y u : ℕ) → y < m
      → cond (ltb u (units_of G columns)) (highest (classes G) (λ c. is_set ms (edge_bit G columns (u, k * sb + y) c))) none
      ≡ edge G ms columns (u, k * sb + y)
  unfolding edge
  line-edge y u b =
      ap (λ (t : Bool). cond t (highest (classes G) (λ c. is_set ms (edge_bit G columns (u, k * sb + y) c))) none)
      (keep (ltb u (units_of G columns))
      ∙ ap (λ (t : Bool). ltb u (units_of G columns) && t) (sym (lt-ltb (k * sb + y) (units_of G rows) (omega arith))))
    where
      keep : (x : Bool) → x ≡ (x && true)
      keep true = refl
      keep false = refl

  module _ (t : Track) (live : ℕ) (r : Both) (et : t ≡ track words (units_of G columns) (stored_units G)) (el : live ≡ line_word (half G columns) m)
      (ans : Answers t live r) where
    abbrev ends : units_of G columns ≤ stored_units G
    ends = units-stored G.ss-hor G.w4 p.ss-hor-le

    in_halves : m ≡ min (n * half G columns) (units_of G rows - k * sb)
    in_halves = ap (λ (x : ℕ). min x (units_of G rows - k * sb)) (sym at.many)

    eleven : r.gap ≡ gap G ms columns sb4 k
    unfolding gap
    eleven =
        let e : m ≡ min (units_of G rows) ((k + 1) * sb) - k * sb = omega (arith, add-mul k 1 sb) in
        lines-gap G p ms columns (k * n) n words (λ u. u) (units_of G columns) (stored_units G) (omega (arith, ah.two)) ends reads t live (k * sb) m r et
        el ans at.from in_halves (λ y u. edge G ms columns (u, k * sb + y)) line-edge
        ∙ ap (λ (j : ℕ). any_below j (λ i. line_broken (λ u. edge G ms columns (u, k * sb + i)) (stored_units G))) e

    twelve : r.out ≡ outside G ms columns sb4 k
    unfolding outside
    twelve =
        halves-out G p ms columns (k * n) n words (λ u. u) (units_of G columns) (stored_units G) (omega (arith, ah.two)) ends reads t live (k * sb) m r et
        el ans at.from in_halves (λ u _. refl)

    pub columns-found : Found G ms columns sb4 k r
    columns-found = record { eleven = eleven; twelve = twelve }
