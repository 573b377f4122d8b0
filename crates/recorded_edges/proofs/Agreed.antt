-- A visible unit of a held block, where 7.14.1 visits it: what `agree` says of the block's own units, counted from the frame's corner.
use mathlib.Core.Path.{◌≡◌, refl, sym, ap, subst, ◌∙◌}
use mathlib.Core.Bool.{Bool, true, false}
use mathlib.Core.List.{List}
use Prim.Native.Nat.{ℕ, ◌+◌, ◌-◌, ◌*◌, ◌^◌, ◌≤◌, ◌<◌}
use native.Mathlib.Omega.{arith}
use lib.ListN.{get_or}
use Rattle.plane.specs.Line.{Pass, columns, rows, Piece, pass_no, other}
use Rattle.standard.specs.Edge.{Frame}
use Rattle.mask_edges.specs.Recording as recording
use Rattle.block.specs.declared.Block.{Block}
use Rattle.block.specs.Block.{Lent}
use Rattle.record.specs.Record.{RecordAnswer}
use Rattle.agree.specs.Legal.{Coded, left, top, Shows, Tells}
use Rattle.agree.specs.Promises.{Agrees}
use Rattle.agree.proofs.Theorems as agree
use Rattle.covering.specs.Standard.{transform_at, visited_row, visited_col}
use Rattle.drawn.specs.Owner.{sweep_in}
use Rattle.drawn.proofs.Calls.{luma-shape}
use Rattle.recorded_edges.specs.Held.{place_in, SeenIn, lent_context, HoldsBlock, ContextTells}
use Rattle.recorded_edges.proofs.Views.{block_in, given, some-unit, owned, place_is}
use Rattle.recorded_edges.proofs.Shown.{left_is, top-is, shows}

module _ (D : Frame) (plane : ℕ) (C : Coded) (luma : Bool) (b : Block) (level-stride : ℕ) (values tm : List ℕ) (before after : Lent)
    (R : RecordAnswer b level-stride values tm 0 before after) (H : HoldsBlock D plane C luma b tm) where
  abbrev B : recording.Block
  B = block_in luma b tm before

  abbrev X : ℕ
  X = place_in luma b columns

  abbrev Y : ℕ
  Y = place_in luma b rows

  owns : (d : Pass) (p : Piece) → SeenIn luma b d p
      → ((place_in luma b d ≤ p.0) × (p.0 < place_in luma b d + (sweep_in d B).across))
      × ((place_in luma b (other d) ≤ p.1) × (p.1 < place_in luma b (other d) + (sweep_in d B).along))
  owns d p s =
      let o = owned b level-stride values tm before after R luma d p s in
      (rw (place_is b level-stride values tm before after R luma d) at o.across, rw (place_is b level-stride values tm before after R luma (other d)) at o.along)

  shown : (d : Pass) (p : Piece) → SeenIn luma b d p → Shows D plane C B
  shown d p s =
      let u = some-unit b level-stride values tm before after R luma d p (owned b level-stride values tm before after R luma d p s) in
      shows D C b level-stride values tm before after R plane luma H (given b level-stride values tm before after R luma d p s) u.0 u.1

  pub agrees : (d : Pass) (p : Piece) → SeenIn luma b d p
      → Agrees D plane (pass_no d) (visited_row D plane d p.1 p.0) (visited_col D plane d p.1 p.0) (sweep_in d B) (p.0 - place_in luma b d)
      (p.1 - place_in luma b (other d))
      (transform_at D plane d p.1 (place_in luma b d - 1))
  agrees columns p s =
      let o = owns columns p s in
      let x = p.0 - X in
      let y = p.1 - Y in
      let zx : left D plane C + x ≡ p.0 = ap (λ (k : ℕ). k + x) (left_is D plane C luma b tm H) ∙ omega (arith, o.0) in
      let zy : top D plane C + y ≡ p.1 = ap (λ (k : ℕ). k + y) (top-is D plane C luma b tm H) ∙ omega (arith, o.1) in
      subst (λ (l : ℕ). Agrees D plane 0 (p.1 * 2 ^ D.sy plane) (p.0 * 2 ^ D.sx plane) (recording.columns B) x y (D.TxSizes plane p.1 (l - 1)))
      (left_is D plane C luma b tm H)
      (subst (λ (c : ℕ). Agrees D plane 0 (p.1 * 2 ^ D.sy plane) (c * 2 ^ D.sx plane) (recording.columns B) x y (D.TxSizes plane p.1 (left D plane C - 1))) zx
      (subst (λ (r : ℕ). Agrees D plane 0 (r * 2 ^ D.sy plane) ((left D plane C + x) * 2 ^ D.sx plane) (recording.columns B) x y (D.TxSizes plane r (left D plane C - 1))) zy
      ((agree.promises).agrees D plane C B H.legal (shown columns p s) x y (omega (arith, o.0)) (omega (arith, o.1))).0))
  agrees rows p s =
      let o = owns rows p s in
      let y = p.0 - Y in
      let x = p.1 - X in
      let zx : left D plane C + x ≡ p.1 = ap (λ (k : ℕ). k + x) (left_is D plane C luma b tm H) ∙ omega (arith, o.1) in
      let zy : top D plane C + y ≡ p.0 = ap (λ (k : ℕ). k + y) (top-is D plane C luma b tm H) ∙ omega (arith, o.0) in
      subst (λ (t : ℕ). Agrees D plane 1 (p.0 * 2 ^ D.sy plane) (p.1 * 2 ^ D.sx plane) (recording.rows B) y x (D.TxSizes plane (t - 1) p.1))
      (top-is D plane C luma b tm H)
      (subst (λ (r : ℕ). Agrees D plane 1 (r * 2 ^ D.sy plane) (p.1 * 2 ^ D.sx plane) (recording.rows B) y x (D.TxSizes plane (top D plane C - 1) p.1)) zy
      (subst (λ (c : ℕ). Agrees D plane 1 ((top D plane C + y) * 2 ^ D.sy plane) (c * 2 ^ D.sx plane) (recording.rows B) y x (D.TxSizes plane (top D plane C - 1) c)) zx
      ((agree.promises).agrees D plane C B H.legal (shown rows p s) x y (omega (arith, o.1)) (omega (arith, o.0))).1))

  pub context-is : (d : Pass) (v : ℕ) → (sweep_in d B).context v ≡ get_or (lent_context luma d before) v 0
  context-is d v = go luma d
    where
      go : (k : Bool) (d : Pass) → (sweep_in d (block_in k b tm before)).context v ≡ get_or (lent_context k d before) v 0
      go true columns = (luma-shape b tm before).left_is v
      go true rows = (luma-shape b tm before).above-is v
      go false columns = refl
      go false rows = refl

  -- at the block's own edge the unit before is the one that the context tells of
  pub at-border : (d : Pass) (p : Piece) → SeenIn luma b d p → p.0 - place_in luma b d ≡ 0 → p.0 ≡ place_in luma b d
  at-border d p s z = omega (arith, (owns d p s).0)

  pub tells : (d : Pass) (p : Piece) → SeenIn luma b d p → ContextTells D plane luma b before d p → p.0 - place_in luma b d ≡ 0
      → Tells plane (pass_no d) (transform_at D plane d p.1 (place_in luma b d - 1)) ((sweep_in d B).context (p.1 - place_in luma b (other d)))
  tells d p s t z =
      let e = at-border d p s z in
      subst (λ (k : ℕ). Tells plane (pass_no d) (transform_at D plane d p.1 (k - 1)) ((sweep_in d B).context (p.1 - place_in luma b (other d)))) e
      (subst (Tells plane (pass_no d) (transform_at D plane d p.1 (p.0 - 1))) (sym (context-is d (p.1 - place_in luma b (other d)))) (t e))
