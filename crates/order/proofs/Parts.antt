-- Parts of an order: the piece that may write a sample stands in one part alone, and each sample is what that piece makes of the samples as they were; an interleaving of the parts is an
-- order, since taking a piece off a part leaves the others, each once.
use Prim.Native.Nat.{ℕ, zero, suc}
use native.Mathlib.Decide.{ℕ_discrete}
use mathlib.Core.Path.{◌≡◌, refl, sym, ap, ◌∙◌, subst}
use mathlib.Core.Logic.{◌≢◌, ◌⊎◌, inl, inr, by_cases, ⊎_elim}
use mathlib.Core.List.Memᴰ
use mathlib.Core.List.{List, [], ◌∷◌, ◌++◌, Memᴰ}
use mathlib.Core.List.{append-nil}
use lib.ListN.{take, drop, take-append-drop}
use lib.Seq.{ext_get_or}
use Rattle.loops.specs.Local.{Local, Apart}
use Rattle.loops.specs.Run.{run, All, Distinct}
use Rattle.loops.proofs.ReadApart.{run-keeps, run-outside, run_inside, run-once, writer, all-at, all_of}
use Rattle.plane.specs.Line.{Pass, Piece, Box, line_of}
use Rattle.plane.specs.Plane.{Plane, IsPiece, rule_of, act, Anywhere}
use Rattle.plane.proofs.Pieces as piece
use Rattle.order.specs.Parts.{flat, part, Takes, here, there, Interleaving, done, next, Writes, MayWrite, Merged}
use Rattle.order.specs.Demand3.{Order, Divided}

-- ---- lists with no piece twice

module _ {A : Type 0} where
  distinct-left : (l m : List A) → Distinct (l ++ m) → Distinct l
  distinct-left [] m d = tt
  distinct-left (x ∷ l) m d = (all_of _ l (λ y e. all-at _ (l ++ m) d.0 (Memᴰ.append_left m e)), distinct-left l m d.1)

  distinct-right : (l m : List A) → Distinct (l ++ m) → Distinct m
  distinct-right [] m d = d
  distinct-right (x ∷ l) m d = distinct-right l m d.1

  distinct-across : {x y : A} (l m : List A) → Distinct (l ++ m) → Memᴰ x l → Memᴰ y m → x ≢ y
  distinct-across {y = y} [] m d i n = elim i [ ]
  distinct-across {y} (z ∷ l) m d (Memᴰ.head e) n = subst (λ w. w ≢ y) (sym e) (all-at (λ w. z ≢ w) (l ++ m) d.0 (Memᴰ.append_right l n))
  distinct-across (z ∷ l) m d (Memᴰ.tail x) n = distinct-across l m d.1 x n

  distinct-both : (l m : List A) → Distinct l → Distinct m → ((x y : A) → Memᴰ x l → Memᴰ y m → x ≢ y) → Distinct (l ++ m)
  distinct-both [] m d e h = e
  distinct-both (x ∷ l) m d e h = (
    all_of _ (l ++ m) (λ y n. ⊎_elim (λ u. all-at (λ w. x ≢ w) l d.0 u) (λ u. h x y (Memᴰ.head refl) u) (Memᴰ.append_cases l n)),
    distinct-both l m d.1 e (λ u v a b. h u v (Memᴰ.tail a) b),
  )

  -- ---- a piece of all parts stands in one

  part_of : {x : A} (qs : List (List A)) → Memᴰ x (flat qs) → (a : ℕ) × Memᴰ x (part qs a)
  part_of [] n = elim n [ ]
  part_of (q ∷ qs) n = ⊎_elim (λ u. (0, u)) (λ u. let r = part_of qs u in (suc r.0, r.1)) (Memᴰ.append_cases q n)

  of_part : {x : A} (qs : List (List A)) (a : ℕ) → Memᴰ x (part qs a) → Memᴰ x (flat qs)
  of_part [] a n = elim n [ ]
  of_part (q ∷ qs) zero n = Memᴰ.append_left (flat qs) n
  of_part (q ∷ qs) (suc a) n = Memᴰ.append_right q (of_part qs a n)

  part-distinct : (qs : List (List A)) → Distinct (flat qs) → (a : ℕ) → Distinct (part qs a)
  part-distinct [] d a = tt
  part-distinct (q ∷ qs) d zero = distinct-left q (flat qs) d
  part-distinct (q ∷ qs) d (suc a) = part-distinct qs (distinct-right q (flat qs) d) a

  parts-differ : {x y : A} (qs : List (List A)) → Distinct (flat qs) → (a b : ℕ) → a ≢ b → Memᴰ x (part qs a) → Memᴰ y (part qs b) → x ≢ y
  parts-differ {y = y} [] d a b n u v = elim u [ ]
  parts-differ (q ∷ qs) d zero zero n u v = absurd (n refl)
  parts-differ (q ∷ qs) d zero (suc b) n u v = distinct-across q (flat qs) d u (of_part qs b v)
  parts-differ (q ∷ qs) d (suc a) zero n u v = λ e. distinct-across q (flat qs) d v (of_part qs a u) (sym e)
  parts-differ (q ∷ qs) d (suc a) (suc b) n u v = parts-differ qs (distinct-right q (flat qs) d) a b (λ e. n (ap suc e)) u v

  -- ---- a piece taken leaves the others

  taken : {p x : A} {qs rs : List (List A)} → Takes p qs rs → Memᴰ x (flat qs) → (x ≡ p) ⊎ Memᴰ x (flat rs)
  taken here n = Memᴰ.cases_cons n
  taken (there {q} {rs} t) n =
      ⊎_elim (λ u. inr (Memᴰ.append_left (flat rs) u)) (λ u. ⊎_elim inl (λ v. inr (Memᴰ.append_right q v)) (taken t u)) (Memᴰ.append_cases q n)

  left_over : {p x : A} {qs rs : List (List A)} → Takes p qs rs → Memᴰ x (flat rs) → Memᴰ x (flat qs)
  left_over here n = Memᴰ.tail n
  left_over (there {q} {qs} t) n =
      ⊎_elim (λ u. Memᴰ.append_left (flat qs) u) (λ u. Memᴰ.append_right q (left_over t u)) (Memᴰ.append_cases q n)

  took : {p : A} {qs rs : List (List A)} → Takes p qs rs → Memᴰ p (flat qs)
  took here = Memᴰ.head refl
  took (there {q} t) = Memᴰ.append_right q (took t)

  taken-once : {p : A} {qs rs : List (List A)} → Takes p qs rs → Distinct (flat qs) → All (λ x. p ≢ x) (flat rs) × Distinct (flat rs)
  taken-once here d = d
  taken-once {p} (there {q} {qs} {rs} t) d =
      let r = taken-once t (distinct-right q (flat qs) d) in (
        all_of _ (q ++ flat rs) (λ x n. ⊎_elim (λ u e. distinct-across q (flat qs) d u (took t) (sym e)) (λ u. all-at _ (flat rs) r.0 u) (Memᴰ.append_cases q n)),
        distinct-both q (flat rs) (distinct-left q (flat qs) d) r.1 (λ x y u v. distinct-across q (flat qs) d u (left_over t v)),
      )

  -- so an interleaving has the same pieces, each once

  woven : {x : A} {qs : List (List A)} {l : List A} → Interleaving qs l → Memᴰ x (flat qs) → Memᴰ x l
  woven {x} (done e) n = subst (λ m. Memᴰ x m) e n
  woven (next t i) n = ⊎_elim (λ e. Memᴰ.head e) (λ u. Memᴰ.tail (woven i u)) (taken t n)

  of-woven : {x : A} {qs : List (List A)} {l : List A} → Interleaving qs l → Memᴰ x l → Memᴰ x (flat qs)
  of-woven (done e) n = absurd (Memᴰ.not-nil n)
  of-woven (next t i) (Memᴰ.head e) = Memᴰ.cast e (took t)
  of-woven (next t i) (Memᴰ.tail n) = left_over t (of-woven i n)

  woven-once : {qs : List (List A)} {l : List A} → Interleaving qs l → Distinct (flat qs) → Distinct l
  woven-once (done e) d = tt
  woven-once (next {l} t i) d = let r = taken-once t d in (all_of _ l (λ x n. all-at _ _ r.0 (of-woven i n)), woven-once i r.1)

-- ---- the parts of an order

pub cut : {A : Type 0} (m : List A) (n : ℕ) → m ≡ flat (take n m ∷ drop n m ∷ [])
cut m n = sym (take-append-drop n m) ∙ ap (λ r. take n m ++ r) (sym (append-nil (drop n m)))

module _ (P : Plane) (d : Pass) (loc : (p : Piece) → Local (line_of d P.stride) (piece.Writes P d p) (piece.Reads P d p) (act P d p))
    (apart : (p q : Piece) → p ≢ q → Apart (piece.Reads P d p) (piece.Reads P d q)) where
  writes-box : {p : Piece} {i : ℕ} → Writes P d p i → piece.Writes P d p i
  writes-box {p} {i} w = subst (λ o. Box d P.stride (rule_of P d p o).writes p i) (sym w.is) w.near

  box-writes : {p : Piece} {i : ℕ} → piece.Writes P d p i → Writes P d p i
  box-writes {p} {i} w =
      let x = piece.reads-piece P d p i ((loc p).within i w) in
      record { cls = x.0; is = x.1; near = subst (λ o. Box d P.stride (rule_of P d p o).writes p i) x.1 w }

  is-piece : {p : Piece} {i : ℕ} → Writes P d p i → IsPiece P d p
  is-piece w = record { cls = w.cls; is = w.is }

  module _ (qs : List (List Piece)) (m : List Piece) (Q : Order P d (flat qs)) (M : Order P d m) where
    one-part : (a b i : ℕ) → MayWrite P d (part qs a) i → MayWrite P d (part qs b) i → a ≡ b
    one-part a b i v w =
        by_cases (ℕ_discrete a b) (λ e. e)
        (λ n. absurd (apart v.piece w.piece (parts-differ qs Q.once a b n v.its w.its) i
        ((loc v.piece).within i (writes-box v.writes)) ((loc w.piece).within i (writes-box w.writes))))

    -- the part that may write a sample, or none may
    who : (i : ℕ) → ((a : ℕ) × MayWrite P d (part qs a) i) ⊎ ((a : ℕ) → ¬ MayWrite P d (part qs a) i)
    who i =
        ⊎_elim
        (λ x. let r = part_of qs x.1 in inl (r.0, record { piece = x.0; its = r.1; writes = box-writes x.2 }))
        (λ n. inr (λ a w. all-at (λ p. ¬ piece.Writes P d p i) (flat qs) n (of_part qs a w.its) (writes-box w.writes)))
        (writer (act P d) (line_of d P.stride) (piece.Writes P d) (piece.Reads P d) loc (flat qs) i)

    merged : (s : List ℕ) → Merged P d qs s (run (act P d) m s)
    merged s =
        record {
          long = run-keeps _ _ _ _ loc m s;
          written = λ a i w.
              run_inside _ _ _ _ loc apart m M.once s i w.piece (M.every w.piece tt (is-piece w.writes)) (writes-box w.writes)
              ∙ sym (run_inside _ _ _ _ loc apart (part qs a) (part-distinct qs Q.once a) s i w.piece w.its (writes-box w.writes));
          kept = λ i n. run-outside _ _ _ _ loc m s i (all_of _ m (λ p _ w.
              let v = box-writes w in
              let r = part_of qs (Q.every p tt (is-piece v)) in
              n r.0 (record { piece = p; its = r.1; writes = v })));
        }

    only : (s t : List ℕ) → Merged P d qs s t → t ≡ run (act P d) m s
    only s t g =
        let h = merged s in
        ext_get_or 0 t (run (act P d) m s) (g.long ∙ sym h.long)
        (λ i _. ⊎_elim (λ x. g.written x.0 i x.1 ∙ sym (h.written x.0 i x.1)) (λ n. g.kept i n ∙ sym (h.kept i n)) (who i))

    woven-order : (l : List Piece) → Interleaving qs l → Order P d l
    woven-order l i =
        record { only = all_of Anywhere l (λ p n. tt); every = λ p u e. woven i (Q.every p u e); once = woven-once i Q.once }

    pub divided : Divided P d qs m
    divided =
        record {
          one-part = one-part;
          merged = merged;
          only = only;
          interleaved = λ l i s.
              run-once (act P d) (line_of d P.stride) (piece.Writes P d) (piece.Reads P d) loc apart Anywhere (IsPiece P d) (λ p j w. is-piece (box-writes w)) l m (woven-order l i) M s;
        }
