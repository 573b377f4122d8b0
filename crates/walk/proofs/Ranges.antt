-- A walk keeps every sample of the list in the depth's range: a piece does, and by induction on the places so does each visit.
use Rattle.std.proofs.Common.{◌≡◌, ℕ, zero, suc, ◌+◌, ◌*◌, ◌^◌, ◌<◌, ◌≤◌, Bool, true, false, cond, eqb, ltb, List, get_or, refl}
use Rattle.bits.specs.Bit.{has_bit}
use Rattle.bits.specs.Walk.{visits}
use Rattle.plane.specs.Line.{piece_at}
use Rattle.line.specs.Rule.{rule}
use Rattle.line.specs.Width.{Width, reads}
use Rattle.piece.specs.Samples.{index, PieceUnder}
use Rattle.piece.proofs.Ranges.{piece-below}
use Rattle.walk.specs.declared.UnitLine.{UnitLine}
use Rattle.walk.specs.Walk.{thresholds, highest, set_in, len_at, level_at, index_at, visit, visit_at}
use Rattle.walk.specs.Ready.{Walkable, InRange}
use Rattle.walk.proofs.WidthsThresholds.{width}
use Rattle.walk.proofs.Visits.{top, half_pos}

pub visit-below : (depth : ℕ) (e i : List ℕ) (line_step sample-step : ℕ) {len : ℕ} (lvl q : ℕ) (s : List ℕ) → 8 ≤ depth → Width len → reads len * sample-step ≤ q
    → PieceUnder (2 ^ depth) (reads len) line_step sample-step q s → (j : ℕ) → get_or s j 0 < 2 ^ depth → get_or (visit depth e i line_step sample-step len lvl q s) j 0 < 2 ^ depth
unfolding visit thresholds
visit-below depth e i line_step sample-step {len} lvl q s d w low b j h = go (eqb lvl 0)
  where
    some : get_or (piece_at line_step sample-step (rule len (thresholds depth e i lvl)) q s) j 0 < 2 ^ depth
    some =
        let t = top depth d in
        rw (← t) (piece-below w (thresholds depth e i lvl) (half_pos depth) sample-step line_step q s low (rw (← t) at b) j (rw (← t) at h))

    go : (z : Bool) → get_or (cond z s (piece_at line_step sample-step (rule len (thresholds depth e i lvl)) q s)) j 0 < 2 ^ depth
    go true = h
    go false = some

carried : (m n line_step sample-step q : ℕ) (s t : List ℕ) → ((j : ℕ) → get_or s j 0 < m → get_or t j 0 < m) → PieceUnder m n line_step sample-step q s → PieceUnder m n line_step sample-step q t
carried m n line_step sample-step q s t f b =
    record { line = λ i h. record { under = λ k w. f (index (q + i * line_step) sample-step k) ((b.line i h).under k w) } }

module _ (depth : ℕ) (e i levels : List ℕ) (u : UnitLine) (s : List ℕ) (d : 8 ≤ depth) {size : ℕ} (ok : Walkable levels u size) (b : InRange (2 ^ depth) u s) where
  one_more : (k : ℕ) (t : List ℕ) → ((j : ℕ) → get_or s j 0 < 2 ^ depth → get_or t j 0 < 2 ^ depth) → (z : Bool) → has_bit (set_in u) k ≡ z
      → (j : ℕ) → get_or s j 0 < 2 ^ depth → get_or (cond z (visit_at depth e i levels u k t) t) j 0 < 2 ^ depth
  one_more k t f true z j h =
      visit-below depth e i u.line_step u.sample_step (level_at levels u k) (index_at u k) t d (width (ltb 2 u.classes) (highest u.m1 u.m2 k)) (ok.ready k z).from
      (carried (2 ^ depth) (reads (len_at u k)) u.line_step u.sample_step (index_at u k) s t f (b.piece k z)) j (f j h)
  one_more k t f false z j h = f j h

  pub visits-below : (k j : ℕ) → get_or s j 0 < 2 ^ depth → get_or (visits k (set_in u) (visit_at depth e i levels u) s) j 0 < 2 ^ depth
  unfolding visits
  visits-below zero j h = h
  visits-below (suc k) j h = one_more k (visits k (set_in u) (visit_at depth e i levels u) s) (visits-below k) (has_bit (set_in u) k) refl j h

  -- the piece that comes after k places
  pub next-below : (k : ℕ) → has_bit (set_in u) k ≡ true
      → PieceUnder (2 ^ depth) (reads (len_at u k)) u.line_step u.sample_step (index_at u k) (visits k (set_in u) (visit_at depth e i levels u) s)
  next-below k z = carried (2 ^ depth) (reads (len_at u k)) u.line_step u.sample_step (index_at u k) s _ (visits-below k) (b.piece k z)
