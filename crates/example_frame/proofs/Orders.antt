-- Whether a list has each edge piece of a superblock row once, as a test: it goes through the units of the frame and the pairs of the list.
use mathlib.Core.Path.{◌≡◌, refl, sym, ap, ◌∙◌}
use mathlib.Core.Bool.{Bool, true, false, not, ◌&&◌, ◌||◌, false≢true}
use mathlib.Core.List.{List, [], ◌∷◌, Memᴰ}
use mathlib.Core.Logic.{◌≢◌}
use mathlib.Core.Option.{Option, some, none}
use Prim.Native.Nat.{ℕ, suc, ◌*◌, ◌<◌}
use lib.Dec.{eqb, leb, ltb}
use borrow.Author.Tests.{leb-true, ltb-true, eqb-true, le-leb, lt-ltb, eq-eqb, not-true, not-false}
use Rattle.loops.specs.Any.{any_below}
use Rattle.loops.specs.Run.{All, Distinct}
use Rattle.loops.proofs.Anys.{any-each}
use Rattle.loops.proofs.Bools.{both_true, or_off}
use Rattle.plane.specs.Line.{Pass, Piece}
use Rattle.plane.specs.Plane.{Plane, class, IsPiece, down, InRow}
use Rattle.order.specs.Demand3.{OrderIn}

abbrev same : Piece → Piece → Bool
same p q = eqb p.0 q.0 && eqb p.1 q.1

abbrev among : Piece → List Piece → Bool
among p [] = false
among p (q ∷ l) = same p q || among p l

abbrev distinct : List Piece → Bool
distinct [] = true
distinct (p ∷ l) = not (among p l) && distinct l

abbrev is_some : Option ℕ → Bool
is_some none = false
is_some (some c) = true

-- ---- what these say

same_true : (p q : Piece) → same p q ≡ true → p ≡ q
same_true p q e =
    let b = both_true (eqb p.0 q.0) (eqb p.1 q.1) e in
    let x = eqb-true p.0 q.0 b.0 in
    let y = eqb-true p.1 q.1 b.1 in
    λ j. (x j, y j)

true_same : (p q : Piece) → p ≡ q → same p q ≡ true
true_same p q e = rw (eq-eqb p.0 q.0 (ap (λ (x : Piece). x.0) e), eq-eqb p.1 q.1 (ap (λ (x : Piece). x.1) e)) refl

among-mem : (p : Piece) (l : List Piece) → among p l ≡ true → Memᴰ p l
among-mem p [] e = absurd (false≢true e)
among-mem p (q ∷ l) e = go (same p q) refl (among-mem p l)
  where
    go : (b : Bool) → same p q ≡ b → (among p l ≡ true → Memᴰ p l) → Memᴰ p (q ∷ l)
    go true f h = Memᴰ.head (same_true p q f)
    go false f h = Memᴰ.tail (h (rw f at e))

not-among : (p : Piece) (l : List Piece) → among p l ≡ false → All (λ q. p ≢ q) l
not-among p [] e = tt
not-among p (q ∷ l) e =
    let b = or_off (same p q) (among p l) e in (λ g. false≢true (sym b.0 ∙ true_same p q g), not-among p l b.1)

distinct_of : (l : List Piece) → distinct l ≡ true → Distinct l
distinct_of [] e = tt
distinct_of (p ∷ l) e =
    let b = both_true (not (among p l)) (distinct l) e in (not-among p l (not-true _ b.0), distinct_of l b.1)

some_of : (o : Option ℕ) (c : ℕ) → o ≡ some c → is_some o ≡ true
some_of o c e = ap is_some e

module _ (P : Plane) (d : Pass) (k : ℕ) where
  abbrev in_row : Piece → Bool
  in_row p = leb (k * P.sb) (down d p) && ltb (down d p) (suc k * P.sb)

  abbrev all_in : List Piece → Bool
  all_in [] = true
  all_in (p ∷ l) = in_row p && all_in l

  -- a piece of the row that the list leaves out
  abbrev missed : List Piece → Piece → Bool
  missed l p = is_some (class P d p) && (in_row p && not (among p l))

  -- of u units across the pass and v along it
  abbrev pub listed : ℕ → ℕ → List Piece → Bool
  listed u v l = (all_in l && distinct l) && not (any_below u (λ a. any_below v (λ b. missed l (a, b))))

  all_in_lem : (l : List Piece) → all_in l ≡ true → All (InRow P d k) l
  all_in_lem [] e = tt
  all_in_lem (p ∷ l) e =
      let b = both_true (in_row p) (all_in l) e in
      let c = both_true (leb (k * P.sb) (down d p)) (ltb (down d p) (suc k * P.sb)) b.0 in
      (record { from = leb-true _ _ c.0; to = ltb-true _ _ c.1 }, all_in_lem l b.1)

  found : (l : List Piece) (p : Piece) → InRow P d k p → IsPiece P d p → missed l p ≡ false → Memᴰ p l
  found l p r i e =
      let g : not (among p l) ≡ false =
      rw (some_of (class P d p) i.cls i.is, le-leb (k * P.sb) (down d p) r.from, lt-ltb (down d p) (suc k * P.sb) r.to) at e in
      among-mem p l (not-false _ g)

  pub order : (u v : ℕ) (l : List Piece) → ((p : Piece) → IsPiece P d p → (p.0 < u) × (p.1 < v)) → listed u v l ≡ true → OrderIn P d k l
  order u v l h e =
      let b = both_true (all_in l && distinct l) _ e in
      let c = both_true (all_in l) (distinct l) b.0 in
      record {
        only = all_in_lem l c.0;
        every = λ p r i. found l p r i (any-each v _ (any-each u _ (not-true _ b.1) p.0 (h p i).0) p.1 (h p i).1);
        once = distinct_of l c.1;
      }
