-- The promises, proved: a call at its own moment is lent the frame's samples and what it looks at of the frame's level bytes and masks, so it does what the frame's call does;
-- all of them do, one after another, and demand 3 of the frame is demand 3 of them.
use mathlib.Core.Path.{◌≡◌, refl, sym, ap, ◌∙◌}
use mathlib.Core.List.{List, [], ◌∷◌}
use Prim.Native.Nat.{ℕ, ◌≤◌, ◌<◌}
use native.Mathlib.Omega.{arith}
use Rattle.loops.specs.Exactly.{Exactly}
use Rattle.loops.specs.Run.{up_to, run, All}
use Rattle.loops.proofs.Runs.{up_to-same, up_to-holds}
use Rattle.plane.specs.Line.{Pass, columns, rows}
use Rattle.plane.specs.Three.{Three}
use Rattle.apply.specs.Apply.{FilterAnswer}
use Rattle.frames.specs.Calls.{Frame, call_at, lent_of, answer, after, sb_rows, Accepted, BoundariesKept}
use Rattle.frames.proofs.Theorems as frames
use Rattle.own_row.specs.Turns.{Moment, frame_at, OwnRows, turn, TurnsTaken}
use Rattle.own_row.specs.Promises.{Turned, Promises}
use Rattle.own_row.proofs.Numbers.{number_same}
use Rattle.own_row.proofs.Rows.{row, others, tables}
use Rattle.own_row.proofs.Elsewhere.{elsewhere, later-level, later_edge, own-rows}

-- what a call of a frame answers and leaves is what its contract says
is-answer : (f : Frame) (d : Pass) (k : ℕ) (s : Three (List ℕ)) → FilterAnswer (call_at f d k) f.limits (lent_of f s) (answer f d k s) (after f d k s)
unfolding after
is-answer f d k s = record { code = refl; planes = refl }

-- no call changes another's number
stay : (f : Frame) (d e : Pass) (j k : ℕ) (s : Three (List ℕ)) → answer f d j (after f e k s) ≡ answer f d j s
stay = (frames.promises).answers_stay

module _ (f : Frame) (g : Pass → ℕ → Moment) (o : OwnRows f g) where
  call : (d : Pass) (k : ℕ) → k < sb_rows f → (s : Three (List ℕ))
      → (answer (frame_at f (g d k)) d k s ≡ answer f d k s) × (after (frame_at f (g d k)) d k s ≡ after f d k s)
  call d k h s =
      tables (call_at f d k) f.limits (lent_of (frame_at f (g d k)) s) (lent_of f s) _ _ _ _ refl (o d k h) (is-answer (frame_at f (g d k)) d k s) (is-answer f d k s)

  calls : (l : List (Pass × ℕ)) → All (λ c. c.1 < sb_rows f) l → (s : Three (List ℕ))
      → run (λ c. after (frame_at f (g c.0 c.1)) c.0 c.1) l s ≡ run (λ c. after f c.0 c.1) l s
  calls [] h s = refl
  calls (c ∷ l) h s = rw (call c.0 c.1 h.0 s).1 (calls l h.1 (after f c.0 c.1 s))

  one-turn : (k : ℕ) → k < sb_rows f → (s : Three (List ℕ)) → turn f g k s ≡ after f rows k (after f columns k s)
  one-turn k h s = rw (call columns k h s).1 (call rows k h (after f columns k s)).1

  turns : (s : Three (List ℕ)) → up_to (turn f g) (sb_rows f) s ≡ up_to (λ k t. after f rows k (after f columns k t)) (sb_rows f) s
  turns = up_to-same _ _ (sb_rows f) one-turn

  -- the calls before do not change a number
  module _ (s : Three (List ℕ)) where
    answer-stays : (d : Pass) (k n : ℕ) → n ≤ sb_rows f → answer f d k (up_to (turn f g) n s) ≡ answer f d k s
    answer-stays d k n h =
        up_to-holds (λ x. answer f d k x ≡ answer f d k s) (turn f g) n
        (λ i l x e. rw (one-turn i (omega arith) x) (stay f d rows k i (after f columns i x) ∙ stay f d columns k i x ∙ e)) s refl

    columns-answer : (k : ℕ) → k < sb_rows f → answer (frame_at f (g columns k)) columns k (up_to (turn f g) k s) ≡ answer f columns k s
    columns-answer k h = (call columns k h (up_to (turn f g) k s)).0 ∙ answer-stays columns k k (omega arith)

    rows-answer : (k : ℕ) → k < sb_rows f
        → answer (frame_at f (g rows k)) rows k (after (frame_at f (g columns k)) columns k (up_to (turn f g) k s)) ≡ answer f rows k s
    rows-answer k h =
        let x = up_to (turn f g) k s in
        (call rows k h (after (frame_at f (g columns k)) columns k x)).0
        ∙ ap (answer f rows k) (call columns k h x).1
        ∙ stay f rows columns k k x
        ∙ answer-stays rows k k (omega arith)

    answered : TurnsTaken f g s → (d : Pass) (k : ℕ) → k < sb_rows f → answer f d k s ≡ 0
    answered t columns k h = sym (columns-answer k h) ∙ t.columns-done k h
    answered t rows k h = sym (rows-answer k h) ∙ t.rows-done k h

    accepted : Exactly (TurnsTaken f g s) (Accepted f s)
    accepted =
        record {
          only = λ t. record { some = t.some; all = answered t };
          always = λ a.
              record {
                some = a.some;
                columns-done = λ k h. columns-answer k h ∙ a.all columns k h;
                rows-done = λ k h. rows-answer k h ∙ a.all rows k h;
              };
        }

    demand : TurnsTaken f g s → BoundariesKept f → Turned f g s
    demand t b =
        let y = (frames.promises).demand f s (accepted.only t) b in
        record {
          accepted = accepted.only t;
          demand = y;
          in-turn = λ l m L M. turns s ∙ y.in-turn l m L M;
          standard = turns s ∙ y.standard;
        }

pub promises : Promises
promises =
    record {
      number = number_same;
      row = row;
      others = others;
      tables = tables;
      call = call;
      calls = calls;
      turns = turns;
      accepted = λ f g s o. accepted f g o s;
      demand = λ f g s o. demand f g o s;
      elsewhere = elsewhere;
      later-level = later-level;
      later_edge = later_edge;
      own-rows = own-rows;
    }
