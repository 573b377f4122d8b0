-- Demand 3 of one plane, and how far a sample sees: the code's loops and the standard's are runs of lists that have each edge piece once, and such runs agree, since the pieces read apart.
use Prim.Native.Nat.{ℕ, zero, suc, ◌+◌, ◌-◌, ◌*◌, ◌/◌, ◌%◌, ◌≤◌, ◌<◌}
use native.Mathlib.Omega.{arith}
use native.Mathlib.Nat.{div-add-mod', mod-lt, div-lt_iff_lt-mul}
use mathlib.Core.Path.{◌≡◌, refl, sym, ap, ◌∙◌, subst}
use mathlib.Core.Option.{Option, some, none}
use mathlib.Core.List.{List, [], ◌∷◌, Memᴰ}
use lib.ListN.{length, get_or}
use lib.Arith.{digits_div}
use Rattle.loops.specs.Run.{run, All, Distinct, Once, up_to, cat}
use Rattle.loops.proofs.Runs.{run_past, rows-in-turn}
use Rattle.loops.proofs.ReadApart.{run-once, run-sees, run-keeps, all-at, all_of}
use Rattle.loops.proofs.Loops.{loop-run, mem-cat, all_cat, distinct-cat}
use Rattle.plane.specs.Line.{Pass, columns, rows, Piece, line_of, place_of}
use Rattle.plane.specs.Plane.{luma, chroma, Plane, class, IsPiece, rule_of, act, cols_of, rows_of, unit, raster_of, right, down, Kept, Anywhere, InRow}
use Rattle.plane.proofs.Gaps.{before-end}
use Rattle.plane.proofs.Pieces.{Fair, inner-some, rule_at, Writes, Reads, gap, edge_of, local, reads-piece, writes-piece, apart, past}
use Rattle.order.specs.Demand3.{Order, OrderIn, Demand3, Sees}
use Rattle.order.proofs.Parts.{divided, cut}

module _ (P : Plane) (k : Kept P) (f : Fair P.widths) where
  same : (d : Pass) (Area : Piece → Type 0) (l m : List Piece) → Once Area (IsPiece P d) l → Once Area (IsPiece P d) m → (s : List ℕ)
      → run (act P d) l s ≡ run (act P d) m s
  same d Area = run-once (act P d) (line_of d P.stride) (Writes P d) (Reads P d) (local P k f d) (apart P k f d) Area (IsPiece P d) (writes-piece P k f d)

  -- ---- the columns of a superblock row commute with the rows of an earlier one

  module _ (lc lr : ℕ → List Piece) (oc : (j : ℕ) → All (InRow P columns j) (lc j)) (or : (j : ℕ) → All (InRow P rows j) (lr j)) where
    past-rows : (j i : ℕ) → j < i → (s : List ℕ)
        → run (act P columns) (lc i) (run (act P rows) (lr j) s) ≡ run (act P rows) (lr j) (run (act P columns) (lc i) s)
    past-rows j i h s =
        sym (run_past (act P columns) (run (act P rows) (lr j)) (lc i)
        (all_of _ (lc i) (λ p a t. sym (run_past (act P rows) (act P columns p) (lr j)
        (all_of _ (lr j) (λ q b t'. past P k f j i h p q (all-at _ (lc i) (oc i) a) (all-at _ (lr j) (or j) b) t')) t))) s)

-- ---- the code's order: its lists

module _ (P : Plane) (i : ℕ) where
  abbrev cols_list : List Piece
  cols_list = cat (λ rec. cat (λ x. cat (λ y. (rec * P.record_units + x, i * P.sb + y) ∷ []) P.sb) P.record_units) P.records

  abbrev rows_list : List Piece
  rows_list = cat (λ rec. cat (λ y. cat (λ x. (i * P.sb + y, rec * P.record_units + x) ∷ []) P.record_units) P.sb) P.records

  cols-run : (s : List ℕ) → cols_of P i s ≡ run (act P columns) cols_list s
  unfolding cols_of
  cols-run = loop-run _ _ _ (λ rec. loop-run _ _ _ (λ x. loop-run _ _ _ (λ y s. refl) P.sb) P.record_units) P.records

  rows_run : (s : List ℕ) → rows_of P i s ≡ run (act P rows) rows_list s
  unfolding rows_of
  rows_run = loop-run _ _ _ (λ rec. loop-run _ _ _ (λ y. loop-run _ _ _ (λ x s. refl) P.record_units) P.sb) P.records

  cols-only : All (InRow P columns i) cols_list
  cols-only =
      all_cat _ _ P.records (λ rec _. all_cat _ _ P.record_units (λ x _. all_cat _ _ P.sb (λ y h. (record { from = omega arith; to = omega arith }, tt))))

  rows-only : All (InRow P rows i) rows_list
  rows-only =
      all_cat _ _ P.records (λ rec _. all_cat _ _ P.sb (λ y h. all_cat _ _ P.record_units (λ x _. (record { from = omega arith; to = omega arith }, tt))))

  cols-distinct : Distinct cols_list
  cols-distinct =
      distinct-cat _ (λ p. p.0 / P.record_units) P.records
      (λ rec _. all_cat _ _ P.record_units (λ x h. all_cat _ _ P.sb (λ y _. (digits_div rec h, tt))))
      (λ rec. distinct-cat _ (λ p. p.0 - rec * P.record_units) P.record_units (λ x _. all_cat _ _ P.sb (λ y _. (omega arith, tt)))
      (λ x. distinct-cat _ (λ p. p.1 - i * P.sb) P.sb (λ y _. (omega arith, tt)) (λ y. (tt, tt))))

  rows-distinct : Distinct rows_list
  rows-distinct =
      distinct-cat _ (λ p. p.1 / P.record_units) P.records
      (λ rec _. all_cat _ _ P.sb (λ y _. all_cat _ _ P.record_units (λ x h. (digits_div rec h, tt))))
      (λ rec. distinct-cat _ (λ p. p.0 - i * P.sb) P.sb (λ y _. all_cat _ _ P.record_units (λ x _. (omega arith, tt)))
      (λ y. distinct-cat _ (λ p. p.1 - rec * P.record_units) P.record_units (λ x _. (omega arith, tt)) (λ x. (tt, tt))))

pair : {a b c d : ℕ} → a ≡ c → b ≡ d → ◌≡◌ {A = Piece} (a, b) (c, d)
pair e f = λ j. (e j, f j)

module _ (P : Plane) (k : Kept P) where
  record_of : (d : Pass) (p : Piece) → IsPiece P d p → right d p / P.record_units < P.records
  record_of d p e = (div-lt_iff_lt-mul k.some-record).1 (k.from-left d p e.cls (inner-some p.0 _ _ e.is).1)

  cols-once : (i : ℕ) → OrderIn P columns i (cols_list P i)
  cols-once i = record { only = cols-only P i; every = every; once = cols-distinct P i }
    where
      every : (p : Piece) → InRow P columns i p → IsPiece P columns p → Memᴰ p (cols_list P i)
      every p a e =
          mem-cat _ (p.0 / P.record_units) P.records (record_of columns p e)
          (mem-cat _ (p.0 % P.record_units) P.record_units (mod-lt p.0 k.some-record)
          (mem-cat _ (p.1 - i * P.sb) P.sb (omega (arith, a.from, a.to))
          (Memᴰ.head (pair (sym (div-add-mod' p.0 P.record_units)) (omega (arith, a.from))))))

  rows-once : (i : ℕ) → OrderIn P rows i (rows_list P i)
  rows-once i = record { only = rows-only P i; every = every; once = rows-distinct P i }
    where
      every : (p : Piece) → InRow P rows i p → IsPiece P rows p → Memᴰ p (rows_list P i)
      every p a e =
          mem-cat _ (p.1 / P.record_units) P.records (record_of rows p e)
          (mem-cat _ (p.0 - i * P.sb) P.sb (omega (arith, a.from, a.to))
          (mem-cat _ (p.1 % P.record_units) P.record_units (mod-lt p.1 k.some-record)
          (Memᴰ.head (pair (omega (arith, a.from)) (sym (div-add-mod' p.1 P.record_units))))))

  -- ---- superblock rows one after another are the whole frame

  pub row_of : (d : Pass) (p : Piece) → InRow P d (down d p / P.sb) p
  row_of d p =
      record {
        from = omega (arith, div-add-mod' (down d p) P.sb);
        to = omega (arith, div-add-mod' (down d p) P.sb, mod-lt (down d p) k.some-sb);
      }

  row_is : (d : Pass) (j : ℕ) (p : Piece) → InRow P d j p → down d p / P.sb ≡ j
  row_is d j p a = ap (λ x. x / P.sb) (split a.from) ∙ digits_div j (omega (arith, a.from, a.to))
    where
      split : j * P.sb ≤ down d p → down d p ≡ j * P.sb + (down d p - j * P.sb)
      split h = omega arith

  whole : (d : Pass) (l : ℕ → List Piece) → ((i : ℕ) → OrderIn P d i (l i)) → Order P d (cat l P.sbs)
  whole d l o =
      record {
        only = all_of Anywhere (cat l P.sbs) (λ p m. tt);
        every = λ p _ e.
            mem-cat l (down d p / P.sb) P.sbs ((div-lt_iff_lt-mul k.some-sb).1 (k.from-top d p e.cls (inner-some p.0 _ _ e.is).1))
            ((o (down d p / P.sb)).every p (row_of d p) e);
        once = distinct-cat l (λ p. down d p / P.sb) P.sbs (λ j _. all_of _ (l j) (λ p m. row_is d j p (all-at _ (l j) (o j).only m))) (λ j. (o j).once);
      }

-- ---- the standard's order

module _ (P : Plane) (d : Pass) where
  abbrev raster_list : List Piece
  raster_list = cat (λ y. cat (λ x. unit d x y ∷ []) (P.records * P.record_units)) (P.sbs * P.sb)

  raster-run : (s : List ℕ) → raster_of P d s ≡ run (act P d) raster_list s
  unfolding raster_of
  raster-run = loop-run _ _ _ (λ y. loop-run _ _ _ (λ x s. refl) (P.records * P.record_units)) (P.sbs * P.sb)

unit-down : (d : Pass) (x y : ℕ) → down d (unit d x y) ≡ y
unit-down columns x y = refl
unit-down rows x y = refl

unit-right : (d : Pass) (x y : ℕ) → right d (unit d x y) ≡ x
unit-right columns x y = refl
unit-right rows x y = refl

unit-is : (d : Pass) (p : Piece) → p ≡ unit d (right d p) (down d p)
unit-is columns p = refl
unit-is rows p = refl

raster-order : (P : Plane) (k : Kept P) (d : Pass) → Order P d (raster_list P d)
raster-order P k d =
    record {
      only = all_of Anywhere (raster_list P d) (λ p m. tt);
      every = λ p _ e.
          let g = (inner-some p.0 (P.edge d p) e.cls e.is).1 in
          mem-cat _ (down d p) (P.sbs * P.sb) (k.from-top d p e.cls g)
          (mem-cat _ (right d p) (P.records * P.record_units) (k.from-left d p e.cls g) (Memᴰ.head (unit-is d p)));
      once = distinct-cat _ (down d) (P.sbs * P.sb) (λ y _. all_cat _ _ (P.records * P.record_units) (λ x _. (unit-down d x y, tt)))
          (λ y. distinct-cat _ (right d) (P.records * P.record_units) (λ x _. (unit-right d x y, tt)) (λ x. (tt, tt)));
    }

module _ (P : Plane) (k : Kept P) (f : Fair P.widths) where
  past-calls : (j i : ℕ) → j < i → (s : List ℕ) → cols_of P i (rows_of P j s) ≡ rows_of P j (cols_of P i s)
  past-calls j i h s =
      cols-run P i (rows_of P j s)
      ∙ ap (run (act P columns) (cols_list P i)) (rows_run P j s)
      ∙ past-rows P k f (cols_list P) (rows_list P) (cols-only P) (rows-only P) j i h s
      ∙ ap (run (act P rows) (rows_list P j)) (sym (cols-run P i s))
      ∙ sym (rows_run P j (cols_of P i s))

  calls-in-turn : (l m : List Piece) → Order P columns l → Order P rows m → (s : List ℕ)
      → up_to (λ j t. rows_of P j (cols_of P j t)) P.sbs s ≡ run (act P rows) m (run (act P columns) l s)
  calls-in-turn l m L M s =
      rows-in-turn (cols_of P) (rows_of P) past-calls P.sbs s
      ∙ loop-run (act P rows) (rows_of P) (rows_list P) (rows_run P) P.sbs _
      ∙ ap (run (act P rows) (cat (rows_list P) P.sbs))
      (loop-run (act P columns) (cols_of P) (cols_list P) (cols-run P) P.sbs s
      ∙ same P k f columns Anywhere (cat (cols_list P) P.sbs) l (whole P k columns (cols_list P) (cols-once P k)) L s)
      ∙ same P k f rows Anywhere (cat (rows_list P) P.sbs) m (whole P k rows (rows_list P) (rows-once P k)) M _

  pub demand3 : Demand3 P
  demand3 =
      record {
        an-order = λ d. (raster_list P d, raster-order P k d);
        any_order = λ d. same P k f d Anywhere;
        any-parts = λ d. divided P d (local P k f d) (apart P k f d);
        two-parts = λ d m n M. subst (Order P d) (cut m n) M;
        one-row-columns = λ i l L s. cols-run P i s ∙ same P k f columns (InRow P columns i) (cols_list P i) l (cols-once P k i) L s;
        one-row-rows = λ i l L s. rows_run P i s ∙ same P k f rows (InRow P rows i) (rows_list P i) l (rows-once P k i) L s;
        rows-in-turn = calls-in-turn;
        standard-order = λ s.
            calls-in-turn (raster_list P columns) (raster_list P rows) (raster-order P k columns) (raster-order P k rows) s
            ∙ sym (raster-run P rows (raster_of P columns s) ∙ ap (run (act P rows) (raster_list P rows)) (raster-run P columns s));
        standard-any = λ d l L s. raster-run P d s ∙ same P k f d Anywhere (raster_list P d) l (raster-order P k d) L s;
      }

  -- ---- how far a sample sees

  module _ (n : ℕ) (far : (c : ℕ) → P.widths.reads c + P.widths.writes c ≤ n + 1) where
    near : (d : Pass) (p : Piece) → (rule_at P d p).reads + (rule_at P d p).writes ≤ n + 1
    near d p = go (class P d p)
      where
        go : (o : Option ℕ) → (rule_of P d p o).reads + (rule_of P d p o).writes ≤ n + 1
        go (some c) = far c
        go none = omega arith

    abbrev Stored : ℕ → Type 0
    Stored i = i % P.stride < 4 * (P.records * P.record_units)

    -- what a piece reads is stored, if its line is
    stays : (d : Pass) (p : Piece) (j i : ℕ) → Reads P d p j → line_of d P.stride j ≡ line_of d P.stride i → Stored i → Stored j
    stays columns p j i r c h =
        let x = reads-piece P columns p j r in
        let e = (edge_of P k f columns p x.0 x.1).1 in
        omega (
          arith,
          r.right,
          ap (λ o. (rule_of P columns p o).reads) x.1,
          before-end P.widths.reads f.reach _ _ _ (gap P k f columns p.1) p.0 x.0 e (k.from-left columns p x.0 e),
        )
    stays rows p j i r c h = omega arith

    -- one pass: along the line, n samples each way
    pass-sees : (d : Pass) (l : List Piece) → Order P d l → (s t : List ℕ) → length s ≡ length t → (i : ℕ) → Stored i
        → ((j : ℕ) → line_of d P.stride j ≡ line_of d P.stride i → place_of d P.stride j ≤ place_of d P.stride i + n
        → place_of d P.stride i ≤ place_of d P.stride j + n → Stored j → get_or s j 0 ≡ get_or t j 0)
        → get_or (run (act P d) l s) i 0 ≡ get_or (run (act P d) l t) i 0
    pass-sees d l o s t e i g h =
        run-sees (act P d) (line_of d P.stride) (Writes P d) (Reads P d) (local P k f d) (apart P k f d) l o.once s t e i
        (h i refl (omega arith) (omega arith) g)
        (λ p j w r c. h j c (omega (arith, near d p, w.left, r.right)) (omega (arith, near d p, w.right, r.left)) (stays d p j i r c g))

    pub sees : Sees P n
    sees =
        record {
          sees = λ s t e i g h.
              ap (λ x. get_or x i 0) (turn s)
              ∙ pass-sees rows lr or (run (act P columns) lc s) (run (act P columns) lc t) (keeps s ∙ e ∙ sym (keeps t)) i g
              (λ j c a b g'. pass-sees columns lc oc s t e j g' (λ m c' a' b' g''. h m (record {
                stored = g'';
                lower = omega arith;
                upper = omega arith;
                righter = omega arith;
                lefter = omega arith;
              })))
              ∙ ap (λ x. get_or x i 0) (sym (turn t));
        }
      where
        lc : List Piece
        lc = raster_list P columns

        lr : List Piece
        lr = raster_list P rows

        oc : Order P columns lc
        oc = raster-order P k columns

        or : Order P rows lr
        or = raster-order P k rows

        turn : (s : List ℕ) → up_to (λ j u. rows_of P j (cols_of P j u)) P.sbs s ≡ run (act P rows) lr (run (act P columns) lc s)
        turn s = calls-in-turn lc lr oc or s

        keeps : (s : List ℕ) → length (run (act P columns) lc s) ≡ length s
        keeps = run-keeps (act P columns) (line_of columns P.stride) (Writes P columns) (Reads P columns) (local P k f columns) lc

-- ---- luma and chroma: the widest class sees farthest

pub far-luma : (n : ℕ) → luma.reads 2 + luma.writes 2 ≤ n + 1 → (c : ℕ) → luma.reads c + luma.writes c ≤ n + 1
far-luma n h zero = omega arith
far-luma n h (suc zero) = omega arith
far-luma n h (suc (suc c)) = omega arith

pub far-chroma : (n : ℕ) → chroma.reads 1 + chroma.writes 1 ≤ n + 1 → (c : ℕ) → chroma.reads c + chroma.writes c ≤ n + 1
far-chroma n h zero = omega arith
far-chroma n h (suc c) = omega arith
