-- A plane that keeps the rule, so that the promises are not empty: 128 by 64 samples, one edge of class 1 at column 4 in each of 16 lines of
-- units, none in the row pass; its marks are 4 units apart or more. Its edge pieces are shared by two workers.
use Prim.Native.Nat.{ℕ, ◌+◌, ◌-◌, ◌*◌, ◌≤◌, ◌<◌}
use native.Mathlib.Omega.{arith}
use mathlib.Core.Path.{◌≡◌, refl}
use mathlib.Core.Logic.{◌⊎◌, inl, inr, ⊎_elim}
use mathlib.Core.Bool.{Bool, true, false}
use mathlib.Core.Option.{Option, some, none}
use mathlib.Core.List.Memᴰ
use mathlib.Core.List.{List, [], ◌∷◌}
use lib.Dec.{T, eqb, eqb→eq, ltb, ltb→lt}
use lib.ListN.{length-replicate, replicate, take, drop}
use Rattle.loops.specs.Run.{cat}
use Rattle.loops.proofs.ReadApart.{all_of}
use Rattle.loops.proofs.Loops.{mem-cat, distinct-cat}
use Rattle.plane.specs.Line.{Pass, columns, rows, Piece}
use Rattle.plane.specs.Gap.{Mark, an-edge, the-start, the_end, a-boundary, Allowed, GapRule}
use Rattle.plane.proofs.Gaps.{close-gap}
use Rattle.plane.specs.Plane.{Plane, luma, Kept, Boundary, end, Anywhere}
use Rattle.plane.proofs.Pieces.{inner-some}
use Rattle.order.specs.Parts.{flat, part, here, there, Interleaving, done, next, MayWrite}
use Rattle.order.specs.Demand3.{Order, Demand3}
use Rattle.order.proofs.Theorems.{promises}

abbrev when : Bool → Bool → Option ℕ
when true true = some 1
when true false = none
when false b = none

abbrev edge : Pass → Piece → Option ℕ
edge columns p = when (eqb p.0 4) (ltb p.1 16)
edge rows p = none

abbrev plane : Plane
plane =
    record {
      stride = 128;
      record_units = 32;
      records = 1;
      sb = 16;
      sbs = 1;
      height = 32;
      widths = luma;
      edge = edge;
      rule = λ d c p l. record { side = luma.writes c; samples = replicate (2 * luma.writes c) 7 };
    }

when-some : (a b : Bool) (c : ℕ) → when a b ≡ some c → T a × T b
when-some true true c e = (tt, tt)
when-some true false c e = absurd (let z : ◌≡◌ {A = ℕ} 0 1 = cc in omega arith)
when-some false b c e = absurd (let z : ◌≡◌ {A = ℕ} 0 1 = cc in omega arith)

edge_at : (p : Piece) (c : ℕ) → edge columns p ≡ some c → (p.0 ≡ 4) × (p.1 < 16)
edge_at p c e = let h = when-some (eqb p.0 4) (ltb p.1 16) c e in (eqb→eq p.0 4 h.0, ltb→lt p.1 16 h.1)

no_edge : (p : Piece) (c : ℕ) → edge rows p ≡ some c → ⊥
no_edge p c e = let z : ◌≡◌ {A = ℕ} 0 1 = cc in omega arith

-- the marks of a line of the column pass: 0, 4 and 32
mark-at : (v u : ℕ) → Mark (λ x. edge columns (x, v)) (Boundary plane columns) 32 u → (u ≡ 4) ⊎ ((u ≡ 0) ⊎ (u ≡ 32))
mark-at v u (an-edge c e) = inl (edge_at (u, v) c e).0
mark-at v u (the-start e) = inr (inl e)
mark-at v u (the_end e) = inr (inr e)
mark-at v u (a-boundary e) = absurd e

far : (a b c : ℕ) → a < b → (a ≡ 4) ⊎ ((a ≡ 0) ⊎ (a ≡ 32)) → (b ≡ 4) ⊎ ((b ≡ 0) ⊎ (b ≡ 32)) → Allowed (b - a) c
far a b c h x y =
    let go : 4 ≤ b - a = ⊎_elim
    (λ p. ⊎_elim (λ q. omega arith) (λ z. ⊎_elim (λ q. omega arith) (λ q. omega arith) z) y)
    (λ w. ⊎_elim (λ p. ⊎_elim (λ q. omega arith) (λ z. ⊎_elim (λ q. omega arith) (λ q. omega arith) z) y)
    (λ p. ⊎_elim (λ q. omega arith) (λ z. ⊎_elim (λ q. omega arith) (λ q. omega arith) z) y) w) x in
    record { one = λ e. absurd (omega arith); few = λ e. absurd (omega arith) }

gap : (d : Pass) (v : ℕ) → GapRule (λ u. edge d (u, v)) (Boundary plane d) (end plane d)
gap columns v =
    close-gap _ _ _ (record {
      left = λ a b mb h c e. far a b c h (mark-at v a (an-edge c e)) (mark-at v b mb);
      right = λ a b ma h c e. far a b c h (mark-at v a ma) (mark-at v b (an-edge c e));
    })
gap rows v =
    close-gap _ _ _ (record { left = λ a b mb h c e. absurd (no_edge (a, v) c e); right = λ a b ma h c e. absurd (no_edge (b, v) c e) })

kept : Kept plane
kept =
    record {
      gap = gap;
      from-left = elim [ columns ↦ λ p c e. omega (arith, edge_at p c e) | rows ↦ λ p c e. absurd (no_edge p c e) ];
      from-top = elim [ columns ↦ λ p c e. omega (arith, edge_at p c e) | rows ↦ λ p c e. absurd (no_edge p c e) ];
      stored = omega arith;
      some-sb = omega arith;
      some-record = omega arith;
      gives = λ d c p l. record { even = length-replicate _ 7; few = omega arith };
    }

pub one-plane : Demand3 plane
one-plane = promises.order-luma plane refl kept

-- ---- two workers: the upper eight edge pieces and the lower eight, both of which write, and an interleaving in which they take turns

abbrev line : ℕ → List Piece
line v = (4, v) ∷ []

abbrev lines : List Piece
lines = cat line 16

order : Order plane columns lines
order =
    record {
      only = all_of Anywhere lines (λ p m. tt);
      every = λ p _ e.
          let h = edge_at p e.cls (inner-some p.0 _ _ e.is).1 in
          mem-cat line p.1 16 h.1 (Memᴰ.head (λ j. (h.0 j, p.1)));
      once = distinct-cat line (λ p. p.1) 16 (λ v _. (refl, tt)) (λ v. (tt, tt));
    }

abbrev pub halves : List (List Piece)
halves = take 8 lines ∷ drop 8 lines ∷ []

pub division : Order plane columns (flat halves)
division = one-plane.two-parts columns lines 8 order

pub upper-writes : MayWrite plane columns (part halves 0) 16
upper-writes =
    record {
      piece = (4, 0);
      its = Memᴰ.head refl;
      writes = record { cls = 1; is = refl; near = record { from = omega arith; below = omega arith; left = omega arith; right = omega arith } };
    }

pub lower-writes : MayWrite plane columns (part halves 1) (32 * 128 + 16)
lower-writes =
    record {
      piece = (4, 8);
      its = Memᴰ.head refl;
      writes = record { cls = 1; is = refl; near = record { from = omega arith; below = omega arith; left = omega arith; right = omega arith } };
    }

abbrev both : {x y : Piece} {q r l : List Piece} → Interleaving (q ∷ r ∷ []) l → Interleaving ((x ∷ q) ∷ (y ∷ r) ∷ []) (x ∷ y ∷ l)
both i = next here (next (there here) i)

pub turns : Interleaving halves (cat (λ v. (4, v) ∷ (4, 8 + v) ∷ []) 8)
turns = both (both (both (both (both (both (both (both (done refl))))))))
