-- A small frame meets the hypotheses, and each pass and the order of the two change its samples: its calls answer 0, so by demand 3 of its planes they do what its
-- edges do in turn, and what these do is computed in `example_frame`.
use mathlib.Core.Path.{◌≡◌, refl, ap, ◌∙◌}
use mathlib.Core.Bool.{true, false}
use mathlib.Core.List.{List}
use Prim.Native.Nat.{ℕ, ◌<◌}
use native.Mathlib.Omega.{arith}
use Rattle.loops.specs.Run.{run}
use Rattle.loops.proofs.Tables.{each_at}
use Rattle.plane.specs.Line.{Pass, columns, rows}
use Rattle.plane.specs.Plane.{act}
use Rattle.plane.specs.Three.{Three}
use Rattle.order.specs.Demand3.{Demand3}
use Rattle.limits.specs.Limits.{limits_of}
use Rattle.filter.specs.Filter.{sweep_of}
use Rattle.filter.proofs.Sweeps as filter
use Rattle.example_frame.specs.Data.{head, masks, levels, limits, samples_of, plane_of}
use Rattle.example_frame.proofs.Numbers as numbers
use Rattle.example_frame.proofs.Edges.{everywhere, drawn, Column, a-column, Above, above, pieces_of, orders}
use Rattle.example_frame.proofs.Samples as samples
use Rattle.example_frame.proofs.Samples.{sweep}
use Rattle.frames.specs.Whole.{BoundariesKeep}
use Rattle.frames.specs.Calls.{Frame, answer, after, planes, sb_rows, Accepted, BoundariesKept}
use Rattle.frames.specs.Witness.{InEach, pass, Differ, Witness}
use Rattle.frames.proofs.NumbersKept.{sweep_call, after-done, answers_stay}
use Rattle.frames.proofs.Planes.{sound-luma, sound-u, sound-v}

abbrev pub frame : Frame
frame = record { head = head; limits = limits; levels = levels; masks = masks; words = numbers.words }

abbrev pub start : Three (List ℕ)
start = record { luma = samples_of 0; u = samples_of 1; v = samples_of 2 }

-- ---- the hypotheses

pub accepted : Accepted frame start
accepted = record { some = omega arith; all = all }
  where
    all : (d : Pass) (k : ℕ) → k < sb_rows frame → answer frame d k start ≡ 0
    all columns k h = numbers.accepted false k h
    all rows k h = numbers.accepted true k h

keeps : (n : ℕ) → n < 3 → BoundariesKeep (plane_of n)
keeps n h = record { keeps = each_at 3 Above above n h }

pub kept : BoundariesKept frame
kept = record { luma = keeps 0 (omega arith); u = keeps 1 (omega arith); v = keeps 2 (omega arith) }

-- ---- its edges

in-each : (n : ℕ) → n < 3 → InEach frame (plane_of n)
in-each = everywhere Column a-column

-- ---- its samples

demand-of : (n : ℕ) → n < 3 → Demand3 (plane_of n)
demand-of =
    each_at 3 (λ n. Demand3 (plane_of n))
    ((sound-v frame start accepted kept).demand, ((sound-u frame start accepted kept).demand, ((sound-luma frame start accepted kept).demand, tt)))

module _ (n : ℕ) (h : n < 3) where
  row_is : (d : Pass) (k : ℕ) → k < 2 → (l : List ℕ) → sweep_of (plane_of n) d k l ≡ run (act (plane_of n) d) (pieces_of n d k) l
  row_is columns k g l =
      (filter.promises).columns-are (plane_of n) k l ∙ (demand-of n h).one-row-columns k (pieces_of n columns k) (orders n h columns k g) l
  row_is rows k g l = (filter.promises).rows_are (plane_of n) k l ∙ (demand-of n h).one-row-rows k (pieces_of n rows k) (orders n h rows k g) l

  sweep-is : (d : Pass) (l : List ℕ) → sweep_of (plane_of n) d 1 (sweep_of (plane_of n) d 0 l) ≡ sweep n d l
  sweep-is d l =
      row_is d 1 (omega arith) (sweep_of (plane_of n) d 0 l) ∙ ap (run (act (plane_of n) d) (pieces_of n d 1)) (row_is d 0 (omega arith) l)

abbrev swept : Pass → Three (List ℕ) → Three (List ℕ)
swept d s = record { luma = sweep 0 d s.luma; u = sweep 1 d s.u; v = sweep 2 d s.v }

pass-is : (d : Pass) (s : Three (List ℕ)) → Accepted frame s → pass frame d s ≡ swept d s
pass-is d s a =
    after-done frame 1 (after frame d 0 s) d (answers_stay frame d d 1 0 s ∙ a.all d 1 (omega arith))
    ∙ ap (sweep_call (planes frame) d 1) (after-done frame 0 s d (a.all d 0 (omega arith)))
    ∙ (λ q. record {
      luma = sweep-is 0 (omega arith) d s.luma q;
      u = sweep-is 1 (omega arith) d s.u q;
      v = sweep-is 2 (omega arith) d s.v q;
    })

stays : (d : Pass) (s : Three (List ℕ)) → Accepted frame s → Accepted frame (pass frame d s)
stays d s a =
    record {
      some = a.some;
      all = λ e k h. answers_stay frame e d k 1 (after frame d 0 s) ∙ answers_stay frame e d k 0 s ∙ a.all e k h;
    }

both-are : (d e : Pass) → pass frame e (pass frame d start) ≡ swept e (swept d start)
both-are d e = pass-is e (pass frame d start) (stays d start accepted) ∙ ap (swept e) (pass-is d start accepted)

-- of what the edges do in turn
each-plane : (f g : ℕ → List ℕ) → ((n : ℕ) → n < 3 → ¬ (f n ≡ g n)) → Differ (record { luma = f 0; u = f 1; v = f 2 }) (record { luma = g 0; u = g 1; v = g 2 })
each-plane f g h = record { luma = h 0 (omega arith); u = h 1 (omega arith); v = h 2 (omega arith) }

columns-change : Differ (pass frame columns start) start
columns-change = rw (pass-is columns start accepted) (each-plane (λ n. sweep n columns (samples_of n)) samples_of samples.columns-change)

rows-change : Differ (pass frame rows (pass frame columns start)) (pass frame columns start)
rows-change =
    rw (both-are columns rows, pass-is columns start accepted)
    (each-plane (λ n. sweep n rows (sweep n columns (samples_of n))) (λ n. sweep n columns (samples_of n)) samples.rows-change)

pub order-counts : Differ (pass frame columns (pass frame rows start)) (pass frame rows (pass frame columns start))
order-counts =
    rw (both-are rows columns, both-are columns rows)
    (each-plane (λ n. sweep n columns (sweep n rows (samples_of n))) (λ n. sweep n rows (sweep n columns (samples_of n))) samples.order-counts)

sharpness : (limits_of 3).number ≡ 0
unfolding limits_of
sharpness = refl

pub witness : Witness frame start
witness =
    let d = drawn rows in
    record {
      accepted = accepted;
      kept = kept;
      two-rows = refl;
      sharp = 3;
      sharpness = sharpness;
      table = refl;
      luma-wide = record { column = 0; on = d.1.1.0.0.0; above = d.1.1.0.1.0.0 };
      luma-narrow = record { column = 1; on = d.1.1.0.0.1.0; above = d.1.1.0.1.0.1.0 };
      luma-below = d.1.1.0.0.1.1.0;
      u-wide = record { column = 0; on = d.1.0.0.0; above = d.1.0.1.0.0 };
      u-narrow = record { column = 1; on = d.1.0.0.1.0; above = d.1.0.1.0.1.0 };
      v-wide = record { column = 0; on = d.0.0.0; above = d.0.1.0.0 };
      v-narrow = record { column = 1; on = d.0.0.1.0; above = d.0.1.0.1.0 };
      luma-columns = in-each 0 (omega arith);
      u-columns = in-each 1 (omega arith);
      v-columns = in-each 2 (omega arith);
      columns-change = columns-change;
      rows-change = rows-change;
    }
