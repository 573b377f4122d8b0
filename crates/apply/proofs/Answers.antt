-- What the parts of a call leave is its answer: the pass over the three planes, where one that is not filtered has no edges and stays.
use mathlib.Core.Path.{◌≡◌, refl, sym, ◌∙◌}
use mathlib.Core.Bool.{Bool, true, false, cond}
use mathlib.Core.List.{List}
use Prim.Native.Nat.{ℕ, ◌+◌, ◌*◌}
use native.Mathlib.Omega.{arith}
use borrow.Author.Tests.{ne_eqb}
use Rattle.loops.specs.Run.{up_to}
use Rattle.loops.proofs.Runs.{up_to-idle}
use Rattle.plane.specs.Line.{Pass, columns, rows, Piece, pass_of}
use Rattle.plane.specs.Plane.{Plane, act, cols_of, rows_of}
use Rattle.plane.specs.Three.{Three, cols_call, rows_call}
use Rattle.plane.proofs.Pieces.{idle, inner-none}
use Rattle.filter.specs.Filter.{Tables, plane_of, sweep_of}
use Rattle.filter.proofs.Sweeps.{promises}
use Rattle.checks.specs.declared.Call.{Call}
use Rattle.checks.specs.Call.{Lent, chroma_on}
use Rattle.checks.specs.Tests.{number}
use Rattle.apply.specs.Apply.{component_of, Limits, tables_of, shown, three, three_of, swept, swept_if, FilterAnswer}

-- ---- a plane with no edges stays

module _ (P : Plane) where
  none_done : (d : Pass) (p : Piece) (s : List ℕ) → act (shown false P) d p s ≡ s
  none_done d p s = idle (shown false P) d p (inner-none p.0) s

  -- one unit of a record, in each pass
  abbrev column-unit : ℕ → ℕ → ℕ → ℕ → List ℕ → List ℕ
  column-unit k rec x y = act (shown false P) columns (rec * P.record_units + x, k * P.sb + y)

  abbrev row-unit : ℕ → ℕ → ℕ → ℕ → List ℕ → List ℕ
  row-unit k rec y x = act (shown false P) rows (k * P.sb + y, rec * P.record_units + x)

  cols-none : (k : ℕ) (s : List ℕ) → cols_of (shown false P) k s ≡ s
  unfolding cols_of
  cols-none k =
      up_to-idle (λ rec. up_to (λ x. up_to (column-unit k rec x) P.sb) P.record_units) 0 P.records
      (λ rec _. up_to-idle (λ x. up_to (column-unit k rec x) P.sb) 0 P.record_units
      (λ x _. up_to-idle (column-unit k rec x) 0 P.sb (λ y _. none_done columns (rec * P.record_units + x, k * P.sb + y)) (omega arith))
      (omega arith)) (omega arith)

  rows_none : (k : ℕ) (s : List ℕ) → rows_of (shown false P) k s ≡ s
  unfolding rows_of
  rows_none k =
      up_to-idle (λ rec. up_to (λ y. up_to (row-unit k rec y) P.record_units) P.sb) 0 P.records
      (λ rec _. up_to-idle (λ y. up_to (row-unit k rec y) P.record_units) 0 P.sb
      (λ y _. up_to-idle (row-unit k rec y) 0 P.record_units (λ x _. none_done rows (k * P.sb + y, rec * P.record_units + x)) (omega arith))
      (omega arith)) (omega arith)

  pub shown-cols : (on : Bool) (k : ℕ) (s : List ℕ) → cols_of (shown on P) k s ≡ cond on (cols_of P k s) s
  shown-cols true k s = refl
  shown-cols false k s = cols-none k s

  pub shown-rows : (on : Bool) (k : ℕ) (s : List ℕ) → rows_of (shown on P) k s ≡ cond on (rows_of P k s) s
  shown-rows true k s = refl
  shown-rows false k s = rows_none k s

-- ---- the pass

module _ (c : Call) (t : Tables) where
  abbrev P : ℕ → Plane
  P plane = plane_of (component_of c plane) t

  one : (b : Bool) (plane : ℕ) (s : List ℕ) → sweep_of (P plane) (pass_of b) c.row s ≡ cond b (rows_of (P plane) c.row s) (cols_of (P plane) c.row s)
  one true plane s = promises.rows_are (P plane) c.row s
  one false plane s = promises.columns-are (P plane) c.row s

  whole : (b : Bool) (x y z : List ℕ)
      → three (sweep_of (P 0) (pass_of b) c.row x) (cond (chroma_on c) (sweep_of (P 1) (pass_of b) c.row y) y) (cond (chroma_on c) (sweep_of (P 2) (pass_of b) c.row z) z)
      ≡ cond b rows_call cols_call (record { luma = P 0; u = shown (chroma_on c) (P 1); v = shown (chroma_on c) (P 2) }) c.row (three x y z)
  unfolding rows_call cols_call
  whole true x y z =
      (λ q. three (one true 0 x q) (cond (chroma_on c) (one true 1 y q) y) (cond (chroma_on c) (one true 2 z q) z))
      ∙ (λ q. three (rows_of (P 0) c.row x) (sym (shown-rows (P 1) (chroma_on c) c.row y) q) (sym (shown-rows (P 2) (chroma_on c) c.row z) q))
  whole false x y z =
      (λ q. three (one false 0 x q) (cond (chroma_on c) (one false 1 y q) y) (cond (chroma_on c) (one false 2 z q) z))
      ∙ (λ q. three (cols_of (P 0) c.row x) (sym (shown-cols (P 1) (chroma_on c) c.row y) q) (sym (shown-cols (P 2) (chroma_on c) c.row z) q))

module _ (c : Call) (l : Limits) (m : Lent) where
  -- a refusal
  pub refusal : (r : ℕ) → ¬ (r ≡ 0) → r ≡ number c m → FilterAnswer c l m r (three_of m)
  refusal r n e = record { code = e; planes = rw (ne_eqb r 0 n) refl }

  -- and the work
  pub work : (x y z : List ℕ) → number c m ≡ 0 → x ≡ swept c (tables_of c l m) 0 m.luma → y ≡ swept_if c (tables_of c l m) 1 m.u
      → z ≡ swept_if c (tables_of c l m) 2 m.v → FilterAnswer c l m 0 (three x y z)
  unfolding swept
  work x y z e f g h = record { code = sym e; planes = (λ q. three (f q) (g q) (h q)) ∙ whole c (tables_of c l m) c.rowwise m.luma m.u m.v }

-- of a call that is the same
pub of-call : {c c' : Call} {l : Limits} {m : Lent} {r : ℕ} {after : Three (List ℕ)} → c ≡ c' → FilterAnswer c l m r after → FilterAnswer c' l m r after
of-call e a = rw e at a
