-- A tile's blocks lie in it, so they draw no unit of another: what a tile draws at its units is what all leave there.
use mathlib.Core.Bool.{Bool, true, ◌&&◌, ◌||◌}
use mathlib.Core.List.{List, [], ◌∷◌, Memᴰ}
use mathlib.Core.Path.{◌≡◌, refl, sym, ap, ◌∙◌, subst}
use Prim.Native.Nat.{ℕ, ◌-◌, ◌<◌}
use native.Mathlib.Nat.{zero-mod}
use native.Mathlib.Omega.{arith}
use lib.Dec.{eqb}
use Rattle.loops.specs.Run.{All}
use Rattle.loops.proofs.ReadApart.{all-at}
use Rattle.bits.specs.Mark.{is_set}
use Rattle.standard.specs.Edge.{Frame}
use Rattle.plane.specs.Line.{Pass, Piece, other}
use Rattle.edges.specs.Edges.{Grid, units_of, classes, edge_bit}
use Rattle.mask_edges.specs.Recording.{is_edge}
use Rattle.covering.specs.Front.{Part, CoversUnit, Tile, PartWithin}
use Rattle.covering.specs.Standard.{applies_at}
use Rattle.drawn.specs.Owner.{Owns, sweep_in}
use Rattle.drawn.specs.Run as run
use Rattle.drawn.specs.Run.{State, SeenBlock, part_in, parts_in, DrawsBlock, Run, InTile, drawn_class}
use Rattle.drawn.proofs.Runs.{nobody, edge-drawn}
use Rattle.drawn.proofs.Tiles.{whose, tile-bit}
use Rattle.tiles.specs.Tiles.{turned, In, TilesApart, AllApart, TilesRecorded, done, tile}

-- what holds of all parts holds of a block's
part_at : (G : Grid) (d : Pass) (Q : Part → Type 0) (l : List SeenBlock) → All Q (parts_in G d l) → (b : SeenBlock) → Memᴰ b l → Q (part_in G d b)
part_at G d Q [] a b m = elim m [ ]
part_at G d Q (x ∷ l) a b (Memᴰ.head e) = subst (λ (y : SeenBlock). Q (part_in G d y)) (sym e) a.0
part_at G d Q (x ∷ l) a b (Memᴰ.tail m) = part_at G d Q l a.1 b m

module _ (D : Frame) (plane : ℕ) (G : Grid) (start : ℕ) where
  -- every block of a run is drawn in it
  draws-of : (l : List SeenBlock) (s t : State) → Run D plane G l s t → (b : SeenBlock) → Memᴰ b l → (u v : State) × DrawsBlock D plane G b u v
  draws-of l s t (run.done _) b m = absurd (all-at (λ (q : SeenBlock). ⊥) [] tt m)
  draws-of l s t (run.passed _ _ u _ k r) b m = draws-of l u t r b m
  draws-of (q ∷ l) s t (run.drawn _ _ _ u _ w r) b (Memᴰ.head e) = (s, u, subst (λ (y : SeenBlock). DrawsBlock D plane G y s u) (sym e) w)
  draws-of (q ∷ l) s t (run.drawn _ _ _ u _ w r) b (Memᴰ.tail m) = draws-of l u t r b m

  module _ (d : Pass) (p : Piece) where
    owner-in : (T : Tile) (l : List SeenBlock) → All (PartWithin (turned d T)) (parts_in G d l) → (b : SeenBlock) → Memᴰ b l → Owns G b.rx b.ry b.B d p → In T d p
    owner-in T l a b m o =
        let w = part_at G d (PartWithin (turned d T)) l a b m in
        record {
          across = omega (arith, w.left, w.right, o.across.0, o.across.1);
          along = omega (arith, w.top, w.bottom, o.along.0, o.along.1);
        }

    pub start-applies : (ts : List Tile) (m n : List ℕ) → TilesRecorded D plane G start ts m n → (T : Tile) → Memᴰ T ts → In T d p → p.0 ≡ (turned d T).x0
        → applies_at D plane d p.1 p.0 ≡ true
    start-applies ts m n (done _) T h i e = absurd (all-at (λ (q : Tile). ⊥) [] tt h)
    start-applies (R ∷ ts) m n (tile _ _ l s t _ I r) T (Memᴰ.tail h) i e = start-applies ts t.masks n r T h i e
    start-applies (R ∷ ts) m n (tile _ _ l s t _ I r) T (Memᴰ.head h) i e = here (subst (λ (Q : Tile). In Q d p) h i) (e ∙ ap (λ (Q : Tile). (turned d Q).x0) h)
      where
        here : In R d p → p.0 ≡ (turned d R).x0 → applies_at D plane d p.1 p.0 ≡ true
        here i e =
            let f = (I d).tiled.every p.0 p.1 i.across.0 i.across.1 i.along.0 i.along.1 in
            let r = whose G d l f.0 f.1 in
            let v : CoversUnit (part_in G d r.0) p.0 p.1 = subst (λ (q : Part). CoversUnit q p.0 p.1) r.2 f.2 in
            let w = part_at G d (PartWithin (turned d R)) l (I d).tiled.within r.0 r.1 in
            let k = draws-of l s t (I d).run r.0 r.1 in
            let z : p.0 - (part_in G d r.0).at ≡ 0 = omega (arith, v.first, w.left) in
            sym (edge-drawn D plane G r.0 k.0 k.1 k.2 d p (record { across = (v.first, v.last); along = (v.line.first, v.line.last) }))
            ∙ ap (λ (u : ℕ). is_edge (sweep_in d r.0.B) u (p.1 - (part_in G d r.0).from)) z
            ∙ ap (λ (u : ℕ). eqb u 0 && true) (zero-mod ((sweep_in d r.0.B).side 0 (p.1 - (part_in G d r.0).from)))

    module _ (c : ℕ) (px : p.0 < units_of G d) (py : p.1 < units_of G (other d)) (hc : c < classes G) where
      abbrev e : ℕ
      e = edge_bit G d p c

      tile-stays : (T : Tile) (l : List SeenBlock) (s t : State) → InTile D plane G d (turned d T) l s t start → ¬ In T d p → is_set t.masks e ≡ is_set s.masks e
      tile-stays T l s t I n = nobody D plane G d p c px py hc l s t I.run (λ b m o. n (owner-in T l I.tiled.within b m o))

      tiles-stay : (ts : List Tile) (m n : List ℕ) → TilesRecorded D plane G start ts m n → ((T : Tile) → Memᴰ T ts → ¬ In T d p) → is_set n e ≡ is_set m e
      tiles-stay ts m n (done _) h = refl
      tiles-stay (T ∷ ts) m n (tile _ _ l s t _ I r) h =
          tiles-stay ts t.masks n r (λ R k. h R (Memᴰ.tail k)) ∙ tile-stays T l s t (I d) (h T (Memᴰ.head refl))

      pub tiles-bit : (ts : List Tile) (m n : List ℕ) → TilesRecorded D plane G start ts m n → AllApart ts → (T : Tile) → Memᴰ T ts → In T d p
          → is_set n e ≡ (is_set m e || (applies_at D plane d p.1 p.0 && eqb (drawn_class D plane (turned d T) d p) c))
      tiles-bit ts m n (done _) a T h i = absurd (all-at (λ (q : Tile). ⊥) [] tt h)
      tiles-bit (R ∷ ts) m n (tile _ _ l s t _ I r) a T (Memᴰ.head h) i =
          tiles-stay ts t.masks n r (λ Q k j. all-at (TilesApart R) ts a.0 k d p (subst (λ (Q : Tile). In Q d p) h i) j)
          ∙ tile-bit D plane G d (turned d R) l s t start (I d) p px py in-r.across in-r.along c hc
          ∙ ap (λ (Q : Tile). is_set s.masks e || (applies_at D plane d p.1 p.0 && eqb (drawn_class D plane (turned d Q) d p) c)) (sym h)
        where
          in-r : In R d p
          in-r = subst (λ (Q : Tile). In Q d p) h i
      tiles-bit (R ∷ ts) m n (tile _ _ l s t _ I r) a T (Memᴰ.tail h) i =
          tiles-bit ts t.masks n r a.1 T h i
          ∙ ap (λ (b : Bool). b || (applies_at D plane d p.1 p.0 && eqb (drawn_class D plane (turned d T) d p) c))
          (tile-stays R l s t (I d) (λ j. all-at (TilesApart R) ts a.0 h d p j i))
