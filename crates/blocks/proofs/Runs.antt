-- A list of calls is a run of the blocks that a plane sees, and their parts are what it shows of the covering: once for a plane whose calls draw or change nothing.
use mathlib.Core.Bool.{Bool, true, false, cond}
use mathlib.Core.List.{List, [], ◌∷◌, Memᴰ}
use mathlib.Core.Path.{◌≡◌, refl, sym, ap, ap₂, ◌∙◌, subst}
use Prim.Native.Nat.{ℕ, ◌≤◌, ◌<◌}
use Rattle.loops.specs.Run.{All}
use Rattle.loops.proofs.ReadApart.{all-at}
use Rattle.standard.specs.Edge.{Frame}
use Rattle.plane.specs.Line.{Pass, columns, other}
use Rattle.edges.specs.Edges.{Grid}
use Rattle.block.specs.declared.Block.{Block}
use Rattle.block.specs.Block.{Lent}
use Rattle.agree.specs.Legal.{class_of}
use Rattle.covering.specs.Front.{Part, CoversUnit, InOrder, Tiled, Begins}
use Rattle.covering.specs.Cover.{part_of, sees, parts_of}
use Rattle.covering.specs.Standard.{Lies}
use Rattle.covering.proofs.Theorems as covering
use Rattle.drawn.specs.Calls.{RecordCall, Records}
use Rattle.drawn.specs.Run as run
use Rattle.drawn.specs.Run.{State, context_in, SeenBlock, part_in, parts_in, DrawsBlock, Unchanged, Run, InTile}
use Rattle.drawn.proofs.Tiles.{whose}
use Rattle.blocks.specs.Laid.{Calls, done, call, TileArea, axis_of, tile_in, block_part, block_parts, Laid, TileDrawn}

module _ (D : Frame) (plane level-stride : ℕ) (G : Grid) (A : TileArea) (sx sy : ℕ) (state_of : Lent → State) (seen_of : RecordCall → Lent → SeenBlock) (sees_it : Block → Bool)
    (Ok : RecordCall → Type 0) (Long : Lent → Type 0)
    (draws : (q : RecordCall) (m n : Lent) → Records level-stride q m n → Ok q → Long m → sees_it q.block ≡ true → DrawsBlock D plane G (seen_of q m) (state_of m) (state_of n))
    (same : (q : RecordCall) (m n : Lent) → Records level-stride q m n → Ok q → sees_it q.block ≡ false → Unchanged G (state_of m) (state_of n))
    (stays : (q : RecordCall) (m n : Lent) → Records level-stride q m n → Ok q → Long m → Long n)
    (sees-is : (q : RecordCall) → Ok q → (d : Pass) → sees (axis_of A sx sy d) (axis_of A sx sy (other d)) (block_part d q.block) ≡ sees_it q.block)
    (part-is : (q : RecordCall) (m : Lent) → Ok q → (d : Pass) → part_in G d (seen_of q m) ≡ part_of (axis_of A sx sy d) (axis_of A sx sy (other d)) (block_part d q.block))
    (lies : (q : RecordCall) (m n : Lent) → Records level-stride q m n → Ok q → sees_it q.block ≡ true → (x y : ℕ) → CoversUnit (part_in G columns (seen_of q m)) x y
    → Lies D plane x y) where
  -- what the plane shows
  abbrev shown : Pass → RecordCall → Part
  shown d q = part_of (axis_of A sx sy d) (axis_of A sx sy (other d)) (block_part d q.block)

  abbrev all_shown : Pass → List RecordCall → List Part
  all_shown d l = parts_of (axis_of A sx sy d) (axis_of A sx sy (other d)) (block_parts d l)

  record Ran (l : List RecordCall) (m n : Lent) : Type 0 where
    blocks : List SeenBlock
    run : Run D plane G blocks (state_of m) (state_of n)
    parts : (d : Pass) → parts_in G d blocks ≡ all_shown d l
    lie : (b : SeenBlock) → Memᴰ b blocks → (x y : ℕ) → CoversUnit (part_in G columns b) x y → Lies D plane x y

  ran : (l : List RecordCall) (m n : Lent) → Calls level-stride l m n → All Ok l → Long m → Ran l m n
  ran l m n (done _) o h = record { blocks = []; run = run.done _; parts = λ d. refl; lie = λ b h. absurd (all-at (λ (q : SeenBlock). ⊥) [] tt h) }
  ran (q ∷ l) m n (call _ _ _ now _ R r) o h = go (ran l now n r o.1 (stays q m now R o.0 h)) (sees_it q.block) refl
    where
      go : Ran l now n → (b : Bool) → sees_it q.block ≡ b → Ran (q ∷ l) m n
      go t true e =
          record {
            blocks = seen_of q m ∷ t.blocks;
            run = run.drawn _ _ _ (state_of now) _ (draws q m now R o.0 h e) t.run;
            parts = λ d. ap₂ (λ (p : Part) (k : List Part). p ∷ k) (part-is q m o.0 d) (t.parts d)
                ∙ sym (ap (λ (b : Bool). cond b (shown d q ∷ all_shown d l) (all_shown d l)) (sees-is q o.0 d ∙ e));
            lie = λ b. elim [
              | Memᴰ.head f ↦ λ x y v. lies q m now R o.0 e x y
                  (subst (λ (c : SeenBlock). CoversUnit (part_in G columns c) x y) f v)
              | Memᴰ.tail k ↦ t.lie b k
            ];
          }
      go t false e =
          record {
            blocks = t.blocks;
            run = run.passed _ _ (state_of now) _ (same q m now R o.0 e) t.run;
            parts = λ d. t.parts d
                ∙ sym (ap (λ (b : Bool). cond b (shown d q ∷ all_shown d l) (all_shown d l)) (sees-is q o.0 d ∙ e));
            lie = t.lie;
          }

  pub in-tile : (l : List RecordCall) (m n : Lent) (start : ℕ) → Calls level-stride l m n → All Ok l → Laid A sx sy l → Long m → ((k : ℕ) → class_of plane k ≤ start)
      → ((d : Pass) → Begins start (tile_in A sx sy d) (context_in d (state_of m)))
      → TileDrawn D plane G A sx sy (state_of m) (state_of n) start
  in-tile l m n start c o L h most begins = record { blocks = t.blocks; in-tile = inside; lies = found }
    where
      t : Ran l m n
      t = ran l m n c o h

      inside : (d : Pass) → InTile D plane G d (tile_in A sx sy d) t.blocks (state_of m) (state_of n) start
      inside d =
          let s = (covering.promises).seen (axis_of A sx sy d) (axis_of A sx sy (other d)) (L.sound d) (L.sound (other d)) (block_parts d l) (L.covering d) in
          record {
            run = t.run;
            most = most;
            begins = begins d;
            order = subst InOrder (sym (t.parts d)) s.0;
            tiled = subst (Tiled (tile_in A sx sy d)) (sym (t.parts d)) s.1;
          }

      found : (x y : ℕ) → (tile_in A sx sy columns).x0 ≤ x → x < (tile_in A sx sy columns).x1 → (tile_in A sx sy columns).y0 ≤ y → y < (tile_in A sx sy columns).y1 → Lies D plane x y
      found x y a b c d =
          let f = (inside columns).tiled.every x y a b c d in
          let r = whose G columns t.blocks f.0 f.1 in
          t.lie r.0 r.1 x y (subst (λ (p : Part). CoversUnit p x y) r.2 f.2)
