-- The row pass: the walk in one record answers numbers 11 and 12 of the lines in it, and record after record of all.
use mathlib.Core.Path.{◌≡◌, refl, sym, ap, ap₂, ◌∙◌}
use mathlib.Core.Bool.{Bool, false, ◌&&◌, ◌||◌, cond}
use mathlib.Core.List.{List}
use mathlib.Core.Logic.{by_cases}
use mathlib.Core.Option.{none}
use Prim.Native.Nat.{ℕ, ◌+◌, ◌-◌, ◌*◌, ◌/◌, ◌%◌, ◌≤◌, ◌<◌, min}
use native.Mathlib.Nat.{add-mul, zero-mul}
use native.Mathlib.Decide.{dec_lt}
use native.Mathlib.Omega.{arith}
use lib.Dec.{ltb}
use lib.ListN.{get_or}
use borrow.Author.Tests.{lt-ltb, le-ltb, ltb-true}
use Rattle.loops.specs.Any.{any_below}
use Rattle.loops.proofs.Anys.{any_none, any-nil, any_same, any-or, any-split}
use Rattle.bits.specs.Bit.{has_bit}
use Rattle.bits.specs.Mark.{is_set}
use Rattle.plane.specs.Line.{columns, rows}
use Rattle.units.specs.Frame.{records}
use Rattle.units.specs.Masks.{unit_words, pass_start, in_record, record_row, first_line, row_units}
use Rattle.units.proofs.Places.{word_at}
use Rattle.gap.specs.declared.Both.{Both}
use Rattle.gap.specs.declared.track.Track.{Track}
use Rattle.edges.specs.Edges.{Grid, units_of, side, half, classes, word_in, edge_bit, highest, edge, Proper}
use Rattle.gap.specs.Line.{line_broken}
use Rattle.gap.specs.Lines.{line_word}
use Rattle.gap.specs.Numbers.{sb_units, part, gap, half_bit, bad_half, outside, Found, RecordFound}
use Rattle.gap.specs.Track.{row_words, track, Answers}
use Rattle.gap.proofs.WalkNumbers.{lines-gap, halves-out}
use Rattle.gap.proofs.Masks.{along, class-bit}
use Rattle.gap.proofs.LineBits.{iff}
use Rattle.gap.proofs.Shapes.{RowLines, units-stored, record-starts}

-- ---- one record

module _ (G : Grid) (p : Proper G) (ms : List ℕ) (small : (j : ℕ) → get_or ms j 0 < 65536) (sb4 k rec : ℕ)
    (at : RowLines G.ss-ver G.h4 sb4 k) where
  -- the record row, the row's first line in it, its lines and those in the frame, and the units of the record
  abbrev l : ℕ
  l = record_row sb4 k

  abbrev first : ℕ
  first = first_line G.ss-ver sb4 k

  abbrev sb : ℕ
  sb = sb_units G sb4

  abbrev n : ℕ
  n = row_units G.ss-ver G.h4 sb4 k

  abbrev m : ℕ
  m = in_record (side G columns) (units_of G columns) rec

  abbrev words : ℕ → ℕ → ℕ
  words = row_words ms G.luma (640 * (l * records G.w4 + rec) + pass_start G.luma rows) first

  reads : (u c q : ℕ) → u < sb → c < 3 → q < 32
      → has_bit (words u c) q ≡ (ltb c (classes G) && (ltb (q / 16) 2 && is_set ms (half_bit G rows (k * sb + u) c (rec * 2 + q / 16) (q % 16))))
  unfolding row_words half_bit
  reads u c q lu lc lq =
      let a : (rec * 2 + q / 16) / 2 ≡ rec = omega arith in
      let b : (rec * 2 + q / 16) % 2 ≡ q / 16 = omega arith in
      let y : k * sb + u ≡ l * side G rows + (first + u) = omega (arith, at.lines) in
      let i : first + u < side G rows = omega (arith, at.room) in
      let e : (k * sb + u) / side G rows ≡ l = ap (λ (v : ℕ). v / side G rows) y ∙ (along G p columns).of-record l (first + u) i in
      let f : (k * sb + u) % side G rows ≡ first + u = ap (λ (v : ℕ). v % side G rows) y ∙ (along G p columns).in-record l (first + u) i in
      class-bit ms small 2 (omega arith) (omega arith) G.luma (640 * (l * records G.w4 + rec) + pass_start G.luma rows) (first + u) c q lc lq
      ∙ ap (λ (x : ℕ). ltb c (classes G) && (ltb (q / 16) 2 && is_set ms x))
      (sum (l * records G.w4) rec (unit_words G.luma * (first + u)) (pass_start G.luma rows) c q
      ∙ ap (λ (x : ℕ). 10240 * (l * records G.w4 + rec) + (16 * x + q % 16)) (sym (word_at G.luma rows (first + u) c (q / 16)))
      ∙ (λ t. 10240 * (sym e t * records G.w4 + sym a t) + (16 * word_in G rows (sym f t) c (sym b t) + q % 16)))
    where
      sum : (r rec t o c q : ℕ) → 16 * (640 * (r + rec) + o + t + 2 * c) + q ≡ 10240 * (r + rec) + (16 * (o + t + 2 * c + q / 16) + q % 16)
      sum r rec t o c q = omega arith

  line-edge : (y u : ℕ) → y < m
      → cond (ltb u n) (highest (classes G) (λ c. is_set ms (edge_bit G rows (k * sb + u, rec * side G columns + y) c))) none
      ≡ part (k * sb) sb (λ v. edge G ms rows (v, rec * side G columns + y)) u
  unfolding part edge
  line-edge y u b =
      by_cases (dec_lt u n)
      (λ i. rw (
        lt-ltb u n i,
        lt-ltb u sb (omega arith),
        lt-ltb (k * sb + u) (units_of G rows) (omega arith),
        lt-ltb (rec * side G columns + y) (units_of G columns) (omega arith),
      ) refl)
      (λ i. rw (le-ltb u n (omega arith))
      (by_cases (dec_lt u sb) (λ j. rw (lt-ltb u sb j, le-ltb (k * sb + u) (units_of G rows) (omega arith)) refl)
      (λ j. rw (le-ltb u sb (omega arith)) refl)))

  module _ (t : Track) (live : ℕ) (r : Both) (et : t ≡ track words n sb) (el : live ≡ line_word (half G rows) m) (ans : Answers t live r) where
    from : rec * 2 * half G rows ≡ rec * side G columns
    from = omega (arith, (along G p rows).half_at rec 0 0)

    in_halves : m ≡ min (2 * half G rows) (units_of G columns - rec * side G columns)
    in_halves = ap (λ (x : ℕ). min x (units_of G columns - rec * side G columns)) (along G p rows).two

    inside : (u : ℕ) → u < sb → ltb u n ≡ ltb (k * sb + u) (units_of G rows)
    inside u l =
        iff (ltb u n) (ltb (k * sb + u) (units_of G rows)) (λ y. lt-ltb (k * sb + u) (units_of G rows) (omega (arith, ltb-true u n y)))
        (λ y. lt-ltb u n (omega (arith, ltb-true (k * sb + u) (units_of G rows) y)))

    eleven : r.gap ≡ any_below m (λ i. line_broken (part (k * sb) sb (λ y. edge G ms rows (y, rec * side G columns + i))) sb)
    eleven =
        lines-gap G p ms rows (rec * 2) 2 words (λ u. k * sb + u) n sb (omega arith) (omega arith) reads t live (rec * side G columns) m r et el ans from
        in_halves (λ y. part (k * sb) sb (λ v. edge G ms rows (v, rec * side G columns + y))) line-edge

    twelve : r.out ≡ any_below sb (λ i. any_below 2 (λ j. bad_half G ms rows (k * sb + i) (rec * 2 + j)))
    twelve =
        halves-out G p ms rows (rec * 2) 2 words (λ u. k * sb + u) n sb (omega arith) (omega arith) reads t live (rec * side G columns) m r et el ans from
        in_halves inside

    pub record-found : RecordFound G ms sb4 k rec r
    record-found = record { eleven = eleven; twelve = twelve }

-- ---- record after record

module _ (G : Grid) (ms : List ℕ) (sb4 k : ℕ) where
  abbrev broken : ℕ → Bool
  broken x = line_broken (part (k * sb_units G sb4) (sb_units G sb4) (λ y. edge G ms rows (y, x))) (sb_units G sb4)

  abbrev bad : ℕ → ℕ → Bool
  bad i j = bad_half G ms rows (k * sb_units G sb4 + i) j

  -- those of rec records
  unfoldable pub gap_up_to : ℕ → Bool
  gap_up_to rec = any_below (min (units_of G columns) (rec * side G columns)) broken

  unfoldable pub out_up_to : ℕ → Bool
  out_up_to rec = any_below (sb_units G sb4) (λ i. any_below (rec * 2) (bad i))

  pub gap-none : false ≡ gap_up_to 0
  unfolding gap_up_to
  gap-none = let e : 0 ≡ min (units_of G columns) (0 * side G columns) = omega (arith, zero-mul (side G columns)) in
      sym (any_none broken) ∙ ap (λ (n : ℕ). any_below n broken) e

  pub out_none : false ≡ out_up_to 0
  unfolding out_up_to
  out_none = sym (any-nil (sb_units G sb4)) ∙ any_same (sb_units G sb4) _ _ (λ i _. sym (any_none (bad i)))

  module _ (rec : ℕ) (r : Both) (a : Bool) (f : RecordFound G ms sb4 k rec r) where
    pub gap_more : G.ss-hor ≤ 1 → rec < records G.w4 → a ≡ gap_up_to rec → (a || r.gap) ≡ gap_up_to (rec + 1)
    unfolding gap_up_to
    gap_more h l e =
        let s = record-starts G.ss-hor G.w4 rec h l in
        let x : min (units_of G columns) (rec * side G columns) ≡ rec * side G columns = omega arith in
        let y : rec * side G columns + in_record (side G columns) (units_of G columns) rec ≡ min (units_of G columns) ((rec + 1) * side G columns) =
        omega (arith, add-mul rec 1 (side G columns)) in
        ap₂ ◌||◌ (e ∙ ap (λ (n : ℕ). any_below n broken) x) f.eleven
        ∙ sym (any-split (rec * side G columns) (in_record (side G columns) (units_of G columns) rec) broken)
        ∙ ap (λ (n : ℕ). any_below n broken) y

    pub out-more : a ≡ out_up_to rec → (a || r.out) ≡ out_up_to (rec + 1)
    unfolding out_up_to
    out-more e =
        ap₂ ◌||◌ e f.twelve
        ∙ sym (any-or (sb_units G sb4) (λ i. any_below (rec * 2) (bad i)) (λ i. any_below 2 (λ j. bad i (rec * 2 + j))))
        ∙ any_same (sb_units G sb4) _ _ (λ i _. sym (any-split (rec * 2) 2 (bad i)) ∙ ap (λ (n : ℕ). any_below n (bad i)) (sym (add-mul rec 1 2)))

  pub rows-found : (r : Both) → G.ss-hor ≤ 1 → r.gap ≡ gap_up_to (records G.w4) → r.out ≡ out_up_to (records G.w4) → Found G ms rows sb4 k r
  unfolding gap_up_to out_up_to gap outside
  rows-found r h eg eo =
      let u = units-stored G.ss-hor G.w4 h in
      let e : min (units_of G columns) (records G.w4 * side G columns) ≡ units_of G columns = omega arith in
      record { eleven = eg ∙ ap (λ (n : ℕ). any_below n broken) e; twelve = eo }
