-- A level byte recorded from the values of a segment is what `levels` left for it, and that is the standard's.
use Prim.Native.Nat.{ℕ, ◌+◌, ◌*◌, ◌<◌}
use native.Mathlib.Decide.{dec_lt}
use native.Mathlib.Omega.{arith}
use mathlib.Core.Bool.{Bool, true, false}
use mathlib.Core.List.{List}
use mathlib.Core.Logic.{inl, inr, by_cases, ⊎_elim}
use mathlib.Core.Path.{◌≡◌, refl, ap, ◌∙◌}
use lib.ListN.{get_or}
use mir.Val.{bool_byte}
use Rattle.units.specs.Memory.{level_at}
use Rattle.levels.specs.Levels.{LevelsIn, LevelsAnswer}
use Rattle.levels.specs.Promises.{Place, byte}
use Rattle.levels.proofs.Answers as levels
use Rattle.block.specs.declared.Block.{Block}
use Rattle.block.specs.Block.{Lent}
use Rattle.block.specs.Faults.{BlockFault, reference, reference-above}
use Rattle.record.specs.Record.{intra_of, inter_of, RecordAnswer}
use Rattle.record.specs.Recorded.{Seen, luma, chroma}
use Rattle.record.proofs.Answers as recording
use Rattle.loops.specs.Flag.{on}
use Rattle.standard_planes.specs.Level.{Segment, Referred, Level}

-- ---- the block of a call

pub intra : (width height layout x y size tx chroma uvtx : ℕ) → Referred (intra_of width height layout x y size tx chroma uvtx)
intra _ _ _ _ _ _ _ _ _ = record { reference = inr refl; mode = omega arith }

pub inter : (width height layout x y size tx chroma uvtx skip reference mode : ℕ)
    → Referred (inter_of width height layout x y size tx chroma uvtx skip reference mode)
inter _ _ _ _ _ _ _ _ _ _ _ mode = record { reference = inl refl; mode = flag (on mode) }
  where
    flag : (b : Bool) → bool_byte b < 2
    flag true = omega arith
    flag false = omega arith

-- ---- its level bytes

area-lt : {b : Block} {x y area : ℕ} → Seen b x y area → area < 4
area-lt (luma h s) = omega arith
area-lt (chroma h s) = omega (arith, h.1)

-- number 5 refuses a reference above 7
reference-lt : (b : Block) → Referred b → ¬ BlockFault b → b.reference < 8
reference-lt b r n =
    by_cases (dec_lt 7 b.reference)
    (λ h. ⊎_elim (λ i. absurd (n (reference (reference-above i h)))) (λ z. omega arith) r.reference)
    (λ h. omega arith)

pub level-is : (layout : ℕ) (x : LevelsIn) (old all : List ℕ) → LevelsAnswer layout x 0 old all
    → (s : ℕ) (values : List ℕ) → Segment x s all values
    → (b : Block) (stride : ℕ) (tm : List ℕ) (before after : Lent) → Referred b → RecordAnswer b stride values tm 0 before after
    → (x4 y4 area : ℕ) → Seen b x4 y4 area → Level x s area b.reference b.mode (get_or after.levels (level_at stride x4 y4 area) 0)
level-is layout x old all a s values g b stride tm before after r c x4 y4 area seen =
    let l = (levels.promises).each layout x 0 old all a in
    let w = (recording.promises).each b stride values tm 0 before after c in
    let k = area-lt seen in
    let q = reference-lt b r (w.zero.only refl).2 in
    let p : Place x s area b.reference b.mode =
    record { segment = g.below; in_use = g.in_use; area = k; reference = q; mode = r.mode } in
    let e : get_or after.levels (level_at stride x4 y4 area) 0 ≡ byte all s area b.reference b.mode =
    (w.accepted refl).levels.stored x4 y4 area seen
    ∙ g.its ((area * 8 + b.reference) * 2 + b.mode) (omega (arith, r.mode))
    ∙ ap (λ (i : ℕ). get_or all i 0) (omega arith) in
    record {
      no-luma = λ y z. e ∙ l.no-luma refl y z s area b.reference b.mode p;
      no-chroma = λ h z. e ∙ l.no-chroma refl s area b.reference b.mode p h z;
      standard = λ h z. e ∙ l.value refl h s area b.reference b.mode p z;
    }
