-- The edge at a visible unit after an accepted call is the standard's or the wider one before; a tile's start becomes the standard's with its correction; and every
-- other unit keeps its bits.
use mathlib.Core.Path.{◌≡◌, refl, sym, ap, ap₂, subst, ◌∙◌}
use mathlib.Core.Bool.{Bool, true, false, cond, ◌&&◌, ◌||◌, or-false, and-eq-true_iff}
use mathlib.Core.List.{List}
use mathlib.Core.Option.{Option, some, none}
use Prim.Native.Nat.{ℕ, ◌-◌, ◌/◌, ◌%◌, ◌<◌, min}
use native.Mathlib.Nat.{zero-mod}
use native.Mathlib.Omega.{arith}
use lib.Dec.{eqb, ltb}
use lib.ListN.{get_or}
use borrow.Author.Tests.{lt-ltb, ltb-true}
use Rattle.bits.specs.Mark.{is_set}
use Rattle.plane.specs.Line.{Pass, columns, rows, Piece, pass_no, other, pass_of}
use Rattle.standard.specs.Edge.{Frame, edge_size}
use Rattle.standard.specs.FilterSize.{filter_len}
use Rattle.edges.specs.Edges.{Grid, units_of, classes, in_frame, highest, edge_bit, edge}
use Rattle.mask_edges.specs.Recording.{Sweep, is_edge, class_at}
use Rattle.mask_edges.specs.Recording as recording
use Rattle.block.specs.declared.Block.{Block}
use Rattle.block.specs.Block.{Lent}
use Rattle.record.specs.Record.{RecordAnswer}
use Rattle.correct.specs.declared.Start.{Start}
use Rattle.correct.specs.Start.{grid_at, begin, first}
use Rattle.correct.specs.Answer.{CorrectAnswer}
use Rattle.correct.specs.Promises.{CorrectedUnit}
use Rattle.correct.proofs.AnswerLaws as told
use Rattle.agree.specs.Legal.{Coded, Tells}
use Rattle.agree.specs.Promises.{start, Agrees}
use Rattle.covering.specs.Standard.{transform_at, visited_row, visited_col, applies_at}
use Rattle.drawn.specs.Owner.{StandsIn, Owns, sweep_in}
use Rattle.drawn.proofs.CorrectedStart.{new-class}
use Rattle.walk.specs.Walk.{width_of}
use Rattle.recorded_edges.specs.Held.{place_in, block_grid, SeenIn, lent_context, HoldsBlock, ContextTells, standard_edge, stands, width_in, greater, Stays}
use Rattle.recorded_edges.specs.Promises.{Promises}
use Rattle.recorded_edges.proofs.Highest.{highest-same, none-set, raised, highest-raised, raised-stands, width-raised}
use Rattle.recorded_edges.proofs.Views.{block_in, owned, its-at, own-bit, other-bit}
use Rattle.recorded_edges.proofs.Agreed.{agrees, context-is, tells}
use Rattle.recorded_edges.proofs.Examples.{beside, tile-start, in-chroma}

-- ---- the edge of a unit of the frame

edge-inside : (G : Grid) (ms : List ℕ) (d : Pass) (p : Piece) → p.0 < units_of G d → p.1 < units_of G (other d)
    → edge G ms d p ≡ highest (classes G) (λ c. is_set ms (edge_bit G d p c))
unfolding edge
edge-inside G ms d p px py = rw (lt-ltb p.0 (units_of G d) px, lt-ltb p.1 (units_of G (other d)) py) refl

edge-outside : (G : Grid) (ms : List ℕ) (d : Pass) (p : Piece) → in_frame G d p ≡ false → edge G ms d p ≡ none
unfolding edge
edge-outside G ms d p e = rw e refl

inside : (G : Grid) (d : Pass) (p : Piece) → in_frame G d p ≡ true → (p.0 < units_of G d) × (p.1 < units_of G (other d))
inside G d p e =
    let a = (and-eq-true_iff (ltb p.0 (units_of G d)) (ltb p.1 (units_of G (other d)))).0 e in
    (ltb-true p.0 (units_of G d) a.0, ltb-true p.1 (units_of G (other d)) a.1)

-- ---- an accepted call

module _ (b : Block) (level-stride : ℕ) (values tm : List ℕ) (before after : Lent) (R : RecordAnswer b level-stride values tm 0 before after) where
  -- at every other unit nothing changes
  stays : (luma : Bool) (d : Pass) (p : Piece) → ¬ SeenIn luma b d p → in_frame (block_grid luma b) d p ≡ true
      → Stays (block_grid luma b) d p before.masks after.masks
  stays luma d p n e =
      let i = inside (block_grid luma b) d p e in
      other-bit b level-stride values tm before after R luma d p n i.0 i.1

  edge_stays : (luma : Bool) (d : Pass) (p : Piece) → ¬ SeenIn luma b d p
      → edge (block_grid luma b) after.masks d p ≡ edge (block_grid luma b) before.masks d p
  edge_stays luma d p n = go (in_frame (block_grid luma b) d p) refl
    where
      go : (e : Bool) → in_frame (block_grid luma b) d p ≡ e → edge (block_grid luma b) after.masks d p ≡ edge (block_grid luma b) before.masks d p
      go false e = edge-outside (block_grid luma b) after.masks d p e ∙ sym (edge-outside (block_grid luma b) before.masks d p e)
      go true e =
          let i = inside (block_grid luma b) d p e in
          edge-inside (block_grid luma b) after.masks d p i.0 i.1
          ∙ highest-same (classes (block_grid luma b)) (λ c. is_set before.masks (edge_bit (block_grid luma b) d p c)) (λ c. is_set after.masks (edge_bit (block_grid luma b) d p c))
          (stays luma d p n e)
          ∙ sym (edge-inside (block_grid luma b) before.masks d p i.0 i.1)

  -- a visible unit: its edge in the block, of class k, is added
  module _ (luma : Bool) (d : Pass) (p : Piece) (s : SeenIn luma b d p) where
    abbrev G : Grid
    G = block_grid luma b

    abbrev S : Sweep
    S = sweep_in d (block_in luma b tm before)

    abbrev u : ℕ
    u = p.0 - place_in luma b d

    abbrev v : ℕ
    v = p.1 - place_in luma b (other d)

    abbrev k : ℕ
    k = class_at S u v

    A : StandsIn G (b.x.0 / 32) (b.y.0 / 32) (block_in luma b tm before)
    A = its-at b level-stride values tm before after R luma d p s

    within : (p.0 < units_of G d) × (p.1 < units_of G (other d))
    within = go d (owned b level-stride values tm before after R luma d p s)
      where
        go : (d : Pass) → Owns G (b.x.0 / 32) (b.y.0 / 32) (block_in luma b tm before) d p → (p.0 < units_of G d) × (p.1 < units_of G (other d))
        go columns o = (omega (arith, A.right-in, o.across), omega (arith, A.down-in, o.along))
        go rows o = (omega (arith, A.down-in, o.across), omega (arith, A.right-in, o.along))

    low : k < classes G
    low = go d
      where
        go : (d : Pass) → class_at (sweep_in d (block_in luma b tm before)) u v < classes G
        go columns = omega (arith, A.low ((recording.columns (block_in luma b tm before)).side u v))
        go rows = omega (arith, A.low ((recording.rows (block_in luma b tm before)).side u v))

    edge-now : edge G after.masks d p ≡ cond (is_edge S u v) (raised k (edge G before.masks d p)) (edge G before.masks d p)
    edge-now =
        edge-inside G after.masks d p within.0 within.1 ∙ go (is_edge S u v) refl
        ∙ ap (λ (o : Option ℕ). cond (is_edge S u v) (raised k o) o) (sym (edge-inside G before.masks d p within.0 within.1))
      where
        old : ℕ → Bool
        old c = is_set before.masks (edge_bit G d p c)

        go : (e : Bool) → is_edge S u v ≡ e
            → highest (classes G) (λ c. is_set after.masks (edge_bit G d p c)) ≡ cond e (raised k (highest (classes G) old)) (highest (classes G) old)
        go true e =
            highest-raised (classes G) old (λ c. is_set after.masks (edge_bit G d p c)) k low
            (λ c h. own-bit b level-stride values tm before after R luma d p s c h ∙ ap (λ (x : Bool). old c || (x && eqb k c)) e)
        go false e =
            highest-same (classes G) old (λ c. is_set after.masks (edge_bit G d p c))
            (λ c h. own-bit b level-stride values tm before after R luma d p s c h ∙ ap (λ (x : Bool). old c || (x && eqb k c)) e ∙ or-false (old c))

    module _ (D : Frame) (plane : ℕ) (C : Coded) (H : HoldsBlock D plane C luma b tm) where
      abbrev size : ℕ
      size = filter_len plane (edge_size D plane (pass_no d) (visited_row D plane d p.1 p.0) (visited_col D plane d p.1 p.0))

      agreed : Agrees D plane (pass_no d) (visited_row D plane d p.1 p.0) (visited_col D plane d p.1 p.0) S u v (transform_at D plane d p.1 (place_in luma b d - 1))
      agreed = agrees D plane C luma b level-stride values tm before after R H d p s

      now : edge G after.masks d p ≡ cond (applies_at D plane d p.1 p.0) (raised k (edge G before.masks d p)) (edge G before.masks d p)
      now = edge-now ∙ ap (λ (x : Bool). cond x (raised k (edge G before.masks d p)) (edge G before.masks d p)) agreed.edge

      there : stands (edge G after.masks d p) ≡ (applies_at D plane d p.1 p.0 || stands (edge G before.masks d p))
      there = ap stands now ∙ go (applies_at D plane d p.1 p.0)
        where
          go : (e : Bool) → stands (cond e (raised k (edge G before.masks d p)) (edge G before.masks d p)) ≡ (e || stands (edge G before.masks d p))
          go true = raised-stands k (edge G before.masks d p)
          go false = refl

      sized : ContextTells D plane luma b before d p → width_in plane (edge G after.masks d p) ≡ greater (standard_edge D plane d p) (width_in plane (edge G before.masks d p))
      sized t = ap (width_in plane) now ∙ go (applies_at D plane d p.1 p.0)
        where
          width : width_of plane k ≡ size
          width = agreed.width (tells D plane C luma b level-stride values tm before after R H d p s t)

          go : (e : Bool) → width_in plane (cond e (raised k (edge G before.masks d p)) (edge G before.masks d p))
              ≡ greater (cond e (some size) none) (width_in plane (edge G before.masks d p))
          go true = width-raised plane k size (edge G before.masks d p) width
          go false = refl

      -- ---- a tile's start

      module _ (at : p.0 ≡ place_in luma b d) (clear : edge G before.masks d p ≡ none)
          (high : get_or (lent_context luma d before) (p.1 - place_in luma b (other d)) 0 ≡ start plane) where
        at-0 : u ≡ 0
        at-0 = omega arith

        is-edge : is_edge S u v ≡ true
        is-edge = ap (λ (x : ℕ). is_edge S x v) at-0 ∙ go (S.side 0 v)
          where
            go : (n : ℕ) → (eqb (0 % n) 0 && (eqb 0 0 || S.inner)) ≡ true
            go n = rw (zero-mod n) refl

        alone : (c : ℕ) → c < classes G → is_set after.masks (edge_bit G d p c) ≡ eqb k c
        alone c h =
            own-bit b level-stride values tm before after R luma d p s c h
            ∙ ap₂ (λ (x y : Bool). x || (y && eqb k c))
            (none-set (classes G) (λ c. is_set before.masks (edge_bit G d p c)) (sym (edge-inside G before.masks d p within.0 within.1) ∙ clear) c h) is-edge

        kept-class : (c : ℕ) → Tells plane (pass_no d) (transform_at D plane d p.1 (p.0 - 1)) c → width_of plane (min k c) ≡ size
        kept-class c t =
            agreed.corrected at-0 (context-is D plane C luma b level-stride values tm before after R H d v ∙ high) c
            (subst (λ (x : ℕ). Tells plane (pass_no d) (transform_at D plane d p.1 (x - 1)) c) at t)

        whole : some size ≡ standard_edge D plane d p
        whole = sym (ap (λ (x : Bool). cond x (some size) none) (sym agreed.edge ∙ is-edge))

corrected : (D : Frame) (plane : ℕ) (C : Coded) (luma : Bool) (b : Block) (level-stride : ℕ) (values tm : List ℕ) (before after : Lent)
    → RecordAnswer b level-stride values tm 0 before after → HoldsBlock D plane C luma b tm
    → (r : Start) (context context-uv masks masks' : List ℕ) → CorrectAnswer r context context-uv 0 masks masks' → 0 < begin r → grid_at r luma ≡ block_grid luma b
    → (p : Piece) → CorrectedUnit r luma p → SeenIn luma b (pass_of r.rowwise) p → p.0 ≡ place_in luma b (pass_of r.rowwise)
    → edge (block_grid luma b) before.masks (pass_of r.rowwise) p ≡ none
    → get_or (lent_context luma (pass_of r.rowwise) before) (p.1 - place_in luma b (other (pass_of r.rowwise))) 0 ≡ start plane
    → Stays (block_grid luma b) (pass_of r.rowwise) p after.masks masks
    → Tells plane (pass_no (pass_of r.rowwise)) (transform_at D plane (pass_of r.rowwise) p.1 (p.0 - 1)) (get_or (cond luma context context-uv) (p.1 - first r luma) 0)
    → width_in plane (edge (block_grid luma b) masks' (pass_of r.rowwise) p) ≡ standard_edge D plane (pass_of r.rowwise) p
corrected D plane C luma b level-stride values tm before after R H r context context-uv masks masks' A begins E p unit s at clear high kept t =
    ap (λ (G : Grid). width_in plane (edge G masks' d p)) (sym E)
    ∙ ap (width_in plane)
    (((told.promises).each r context context-uv 0 masks masks' A).edges refl begins luma p unit
    ∙ ap some (new-class r context context-uv masks masks' A begins luma p c
    (subst (λ (G : Grid). c < classes G) (sym E) (low b level-stride values tm before after R luma d p s))
    (subst (λ (G : Grid). (i : ℕ) → i < classes G → is_set masks (edge_bit G d p i) ≡ eqb c i) (sym E)
    (λ i h. kept i h ∙ alone b level-stride values tm before after R luma d p s D plane C H at clear high i h))))
    ∙ ap some (kept-class b level-stride values tm before after R luma d p s D plane C H at clear high (get_or (cond luma context context-uv) (p.1 - first r luma) 0) t)
    ∙ whole b level-stride values tm before after R luma d p s D plane C H at clear high
  where
    d : Pass
    d = pass_of r.rowwise

    c : ℕ
    c = k b level-stride values tm before after R luma (pass_of r.rowwise) p s

pub promises : Promises
promises =
    record {
      recorded = λ D plane C luma b level-stride values tm before after R H. record {
        there = λ d p s. there b level-stride values tm before after R luma d p s D plane C H;
        size = λ d p s. sized b level-stride values tm before after R luma d p s D plane C H;
      };
      others = λ luma b level-stride values tm before after R d p n.
          (edge_stays b level-stride values tm before after R luma d p n, stays b level-stride values tm before after R luma d p n);
      corrected = corrected;
      beside = beside;
      tile-start = tile-start;
      in-chroma = in-chroma;
    }
