-- What document 01 promises of `correct_column` and `correct_row`, as theorems on their contract alone.
--   HasPlane          luma, and chroma unless the layout is 4:0:0
--   CorrectedUnit     a unit that is corrected
--   bit_at            the bit of class c at a unit
--   new_class         the lesser of its old class and its context's
--   Promised          of one answer
--   Promises          of all
use Rattle.std.specs.Prelude.{Bool, true, cond, List, ◌⊎◌, ◌≡◌, ℕ, ◌-◌, ◌<◌, ◌≤◌, min, eqb, length, get_or}
use Rattle.std.proofs.Math.Option.{some}
use Rattle.loops.specs.Exactly.{Exactly}
use Rattle.bits.specs.Mark.{is_set}
use Rattle.plane.specs.Line.{Piece, pass_of}
use Rattle.edges.specs.Edges.{classes, edge_bit, edge}
use Rattle.correct.specs.declared.Start.{Start}
use Rattle.correct.specs.Start.{grid_at, begin, across, first, end}
use Rattle.correct.specs.Correct.{old_class}
use Rattle.correct.specs.Faults.{ShapeFault, ContextsFault, LengthFault, OutsideFault}
use Rattle.correct.specs.Answer.{CorrectAnswer}

abbrev pub HasPlane : Start → Bool → Type 0
HasPlane t luma = (luma ≡ true) ⊎ (¬ (t.layout ≡ 400))

pub record CorrectedUnit (t : Start) (luma : Bool) (p : Piece) : Type 0 where
  pub plane : HasPlane t luma
  pub at : p.0 ≡ across t luma
  pub from : first t luma ≤ p.1
  pub to : p.1 < end t luma

abbrev pub bit_at : Start → Bool → Piece → ℕ → ℕ
bit_at t luma p = edge_bit (grid_at t luma) (pass_of t.rowwise) p

abbrev pub new_class : Start → Bool → List ℕ → List ℕ → List ℕ → Piece → ℕ
new_class t luma context context-uv ms p =
    min (old_class luma (λ c. is_set ms (bit_at t luma p c))) (get_or (cond luma context context-uv) (p.1 - first t luma) 0)

pub record Promised (t : Start) (context context-uv : List ℕ) (r : ℕ) (before after : List ℕ) : Type 0 where
  -- the numbers, exactly when; of several the lowest
  pub four : Exactly (r ≡ 4) (ShapeFault t)
  pub six : Exactly (r ≡ 6) (ContextsFault t context context-uv × (¬ ShapeFault t))
  pub seven : Exactly (r ≡ 7) (LengthFault t (length before) × (¬ ContextsFault t context context-uv) × (¬ ShapeFault t))
  pub ten : Exactly (r ≡ 10)
      (OutsideFault t × (¬ LengthFault t (length before)) × (¬ ContextsFault t context context-uv) × (¬ ShapeFault t))
  pub zero : Exactly (r ≡ 0)
      ((¬ OutsideFault t) × (¬ LengthFault t (length before)) × (¬ ContextsFault t context context-uv) × (¬ ShapeFault t))
  -- a refusal stores nothing, and neither does a tile that begins at unit 0 of the frame
  pub refused : ¬ (r ≡ 0) → after ≡ before
  pub at-unit-0 : begin t ≡ 0 → after ≡ before
  pub long : length after ≡ length before
  -- of each corrected unit one bit is set, that of its new class
  pub bits : r ≡ 0 → 0 < begin t → (luma : Bool) (p : Piece) → CorrectedUnit t luma p → (c : ℕ) → c < classes (grid_at t luma)
      → is_set after (bit_at t luma p c) ≡ eqb c (new_class t luma context context-uv before p)
  pub edges : r ≡ 0 → 0 < begin t → (luma : Bool) (p : Piece) → CorrectedUnit t luma p
      → edge (grid_at t luma) after (pass_of t.rowwise) p ≡ some (new_class t luma context context-uv before p)
  -- every other bit stays
  pub others : (x : ℕ) → ((luma : Bool) (p : Piece) (c : ℕ) → CorrectedUnit t luma p → c < classes (grid_at t luma) → ¬ (bit_at t luma p c ≡ x))
      → is_set after x ≡ is_set before x

pub record Promises : Type 0 where
  -- uniqueness: two answers that the contract admits are equal
  pub unique : (t : Start) (context context-uv : List ℕ) (r q : ℕ) (before m n : List ℕ)
      → CorrectAnswer t context context-uv r before m → CorrectAnswer t context context-uv q before n → (r ≡ q) × (m ≡ n)
  pub each : (t : Start) (context context-uv : List ℕ) (r : ℕ) (before after : List ℕ)
      → CorrectAnswer t context context-uv r before after → Promised t context context-uv r before after
