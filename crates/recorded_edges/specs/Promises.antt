-- What the calls that record and correct leave in the frame's masks is what the standard filters: of each plane, pass and unit.
--   AddsEdges    of an accepted call of `record_intra` or `record_inter`, whose block the standard's frame holds
--   Promises     the promises, one a field
use Rattle.std.specs.Prelude.{Bool, true, cond, ◌||◌, List, ◌≡◌, ℕ, ◌-◌, ◌<◌, get_or}
use Rattle.std.proofs.Math.Option.{none}
use Rattle.plane.specs.Line.{Pass, Piece, pass_no, other, pass_of}
use Rattle.standard.specs.Edge.{Frame}
use Rattle.edges.specs.Edges.{in_frame, edge}
use Rattle.block.specs.declared.Block.{Block}
use Rattle.block.specs.Block.{Lent}
use Rattle.record.specs.Record.{RecordAnswer}
use Rattle.correct.specs.declared.Start.{Start}
use Rattle.correct.specs.Start.{grid_at, begin, first}
use Rattle.correct.specs.Answer.{CorrectAnswer}
use Rattle.correct.specs.Promises.{CorrectedUnit}
use Rattle.agree.specs.Legal.{Coded, Tells}
use Rattle.agree.specs.Promises.{start}
use Rattle.covering.specs.Standard.{transform_at, applies_at}
use Rattle.recorded_edges.specs.Example.{Beside, TileStart, InChroma}
use Rattle.recorded_edges.specs.Held.{place_in, block_grid, SeenIn, lent_context, HoldsBlock, ContextTells, standard_edge, stands, width_in, greater, Stays}

pub record AddsEdges (D : Frame) (plane : ℕ) (luma : Bool) (b : Block) (before after : Lent) : Type 0 where
  -- at a visible unit there is an edge exactly where apply_filter holds or one was before
  pub there : (d : Pass) (p : Piece) → SeenIn luma b d p
      → stands (edge (block_grid luma b) after.masks d p) ≡ (applies_at D plane d p.1 p.0 || stands (edge (block_grid luma b) before.masks d p))
  -- its size is 7.14.3's, or the greater of it and the one before
  pub size : (d : Pass) (p : Piece) → SeenIn luma b d p → ContextTells D plane luma b before d p
      → width_in plane (edge (block_grid luma b) after.masks d p) ≡ greater (standard_edge D plane d p) (width_in plane (edge (block_grid luma b) before.masks d p))

pub record Promises : Type 0 where
  pub recorded : (D : Frame) (plane : ℕ) (C : Coded) (luma : Bool) (b : Block) (level-stride : ℕ) (values tm : List ℕ) (before after : Lent)
      → RecordAnswer b level-stride values tm 0 before after → HoldsBlock D plane C luma b tm → AddsEdges D plane luma b before after
  -- at every other unit nothing changes, whatever the frame
  pub others : (luma : Bool) (b : Block) (level-stride : ℕ) (values tm : List ℕ) (before after : Lent) → RecordAnswer b level-stride values tm 0 before after
      → (d : Pass) (p : Piece) → ¬ SeenIn luma b d p
      → (edge (block_grid luma b) after.masks d p ≡ edge (block_grid luma b) before.masks d p)
      × (in_frame (block_grid luma b) d p ≡ true → Stays (block_grid luma b) d p before.masks after.masks)
  -- at a tile's start, where contexts hold the highest class, the correction whose context holds the class of the transform before gives the standard's edge;
  -- between the two calls the unit's bits stay
  pub corrected : (D : Frame) (plane : ℕ) (C : Coded) (luma : Bool) (b : Block) (level-stride : ℕ) (values tm : List ℕ) (before after : Lent)
      → RecordAnswer b level-stride values tm 0 before after → HoldsBlock D plane C luma b tm
      → (r : Start) (context context-uv masks masks' : List ℕ) → CorrectAnswer r context context-uv 0 masks masks' → 0 < begin r → grid_at r luma ≡ block_grid luma b
      → (p : Piece) → CorrectedUnit r luma p → SeenIn luma b (pass_of r.rowwise) p → p.0 ≡ place_in luma b (pass_of r.rowwise)
      → edge (block_grid luma b) before.masks (pass_of r.rowwise) p ≡ none
      → get_or (lent_context luma (pass_of r.rowwise) before) (p.1 - place_in luma b (other (pass_of r.rowwise))) 0 ≡ start plane
      → Stays (block_grid luma b) (pass_of r.rowwise) p after.masks masks
      → Tells plane (pass_no (pass_of r.rowwise)) (transform_at D plane (pass_of r.rowwise) p.1 (p.0 - 1)) (get_or (cond luma context context-uv) (p.1 - first r luma) 0)
      → width_in plane (edge (block_grid luma b) masks' (pass_of r.rowwise) p) ≡ standard_edge D plane (pass_of r.rowwise) p
  -- blocks that meet the hypotheses, and the edges that they leave
  pub beside : Beside
  pub tile-start : TileStart
  pub in-chroma : InChroma
