-- The promises of a walk: each visit keeps the length, as a store does, and an entry of a limit table is what it tabulates; the rest is proved
-- in Places and Ranges.
use Rattle.std.proofs.Common.{◌≡◌, ℕ, ◌+◌, ◌-◌, ◌*◌, ◌^◌, Bool, true, false, cond, eqb, List, length, refl, ap, arith}
use Rattle.loops.proofs.Runs.{up_to-part}
use Rattle.loops.proofs.Tables.{get_d_tabulate}
use Rattle.bits.specs.Bit.{has_bit}
use Rattle.bits.specs.Walk.{visits}
use Rattle.standard.specs.Strength.{limit, blimit, thresh, bounds}
use Rattle.plane.specs.Line.{Rule, changed, line_at, piece_at}
use Rattle.plane.proofs.Lines.{put_keeps}
use Rattle.line.specs.Rule.{rule}
use Rattle.walk.specs.declared.UnitLine.{UnitLine}
use Rattle.walk.specs.Walk.{thresholds, set_in, len_at, level_at, index_at, visit, visit_at, walked}
use Rattle.walk.specs.Promises.{Promises}
use Rattle.walk.proofs.WidthsThresholds.{by-fields}
use Rattle.walk.proofs.Places.{visits-run, only, every, rises}
use Rattle.walk.proofs.Ranges.{visits-below}

line-keeps : (sample-step : ℕ) (r : Rule) (q : ℕ) (s : List ℕ) → length (line_at sample-step r q s) ≡ length s
unfolding line_at changed
line-keeps sample-step r q s = put_keeps sample-step _ _ s

piece-keeps : (line_step sample-step : ℕ) (r : Rule) (q : ℕ) (s : List ℕ) → length (piece_at line_step sample-step r q s) ≡ length s
unfolding piece_at
piece-keeps line_step sample-step r q s = up_to-part length (λ k. line_at sample-step r (q + k * line_step)) (λ k n. n) (λ k. line-keeps sample-step r (q + k * line_step)) 4 s

visit-keeps : (depth : ℕ) (e i : List ℕ) (line_step sample-step len lvl q : ℕ) (s : List ℕ) → length (visit depth e i line_step sample-step len lvl q s) ≡ length s
unfolding visit
visit-keeps depth e i line_step sample-step len lvl q s = go (eqb lvl 0)
  where
    go : (b : Bool) → length (cond b s (piece_at line_step sample-step (rule len (thresholds depth e i lvl)) q s)) ≡ length s
    go true = refl
    go false = piece-keeps line_step sample-step (rule len (thresholds depth e i lvl)) q s

pub walked_keeps : (depth : ℕ) (e i levels : List ℕ) (u : UnitLine) (s : List ℕ) → length (walked depth e i levels u s) ≡ length s
unfolding walked visits
walked_keeps depth e i levels u s =
    up_to-part length (λ k t. cond (has_bit (set_in u) k) (visit_at depth e i levels u k t) t) (λ k n. n) (λ k t. go k t (has_bit (set_in u) k)) 32 s
  where
    go : (k : ℕ) (t : List ℕ) (b : Bool) → length (cond b (visit_at depth e i levels u k t) t) ≡ length t
    go k t true = visit-keeps depth e i u.line_step u.sample_step (len_at u k) (level_at levels u k) (index_at u k) t
    go k t false = refl

pub promises : Promises
unfolding walked thresholds bounds thresh
promises =
    record {
      visited = λ depth e i levels u s. visits-run (set_in u) (visit_at depth e i levels u) 32 s;
      set = λ m n. record { only = only m 32 n; always = λ x. every m 32 n x.0 x.1 };
      rising = λ m. rises m 32;
      standard =
          λ depth s lvl h. by-fields _ _ (ap (λ (x : ℕ). x * 2 ^ (depth - 8)) (get_d_tabulate (blimit s) 64 lvl (omega arith)))
          (ap (λ (x : ℕ). x * 2 ^ (depth - 8)) (get_d_tabulate (limit s) 64 lvl (omega arith))) refl refl refl;
      keeps = walked_keeps;
      range = λ depth e i levels u s d ok b. visits-below depth e i levels u s d ok b 32;
    }
