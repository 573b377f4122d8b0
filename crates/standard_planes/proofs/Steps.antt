-- The standard's lines leave one list only; so where each unit of a plane is filtered as the standard does, the standard's steps are a run of the pieces.
use Prim.Native.Nat.{ℕ, zero, suc, ◌+◌, ◌<◌}
use native.Mathlib.Decide.{ℕ_discrete}
use native.Mathlib.Omega.{arith}
use mathlib.Core.List.{List, [], ◌∷◌}
use mathlib.Core.Logic.{◌⊎◌, inl, inr, by_cases, ⊎_elim}
use mathlib.Core.Path.{◌≡◌, refl, sym, ap, ◌∙◌, subst}
use lib.ListN.{length, get_or}
use lib.Seq.{ext_get_or}
use Rattle.loops.specs.Run.{run}
use Rattle.plane.specs.Line.{Pass, Piece}
use Rattle.plane.specs.Plane.{Plane, class, act}
use Rattle.plane.proofs.Pieces.{some_or_none}
use Rattle.standard.specs.declared.Bounds.{Bounds}
use Rattle.line.specs.Width.{Within, reads}
use Rattle.frames.specs.Calls.{Frame}
use Rattle.standard_planes.specs.Piece.{sample_at, Standard}
use Rattle.standard_planes.specs.Frame.{frame_level, Filters, Steps}
use Rattle.standard_planes.proofs.Lines.{dec-within}

-- ---- the standard's lines leave one list

-- a number below n for which Q holds, or there is none
search : (n : ℕ) (Q : ℕ → Type 0) → ((i : ℕ) → Q i ⊎ (¬ Q i)) → ((i : ℕ) × (i < n) × Q i) ⊎ ((i : ℕ) → i < n → ¬ Q i)
search zero Q dec = inr (λ i h. absurd (omega arith))
search (suc n) Q dec =
    ⊎_elim (λ q. inl (n, omega arith, q))
    (λ m. ⊎_elim (λ x. inl (x.0, omega (arith, x.1), x.2)) (λ o. inr (λ i h. by_cases (ℕ_discrete i n) (λ e. subst (λ j. ¬ Q j) (sym e) m) (λ e. o i (omega arith)))) (search n Q dec))
    (dec n)

module _ {d : Pass} {S len : ℕ} {b : Bounds} {p : Piece} {s t r : List ℕ} (T : Standard d S len b p s t) (R : Standard d S len b p s r) where
  abbrev Place : ℕ → ℕ → ℕ → Type 0
  Place j i k = Within (reads len) k × (j ≡ sample_at d S p i k)

  place : (j i k : ℕ) → Place j i k ⊎ (¬ Place j i k)
  place j i k =
      by_cases (dec-within (reads len) k)
      (λ w. by_cases (ℕ_discrete j (sample_at d S p i k)) (λ e. inl (w, e)) (λ n. inr (λ x. n x.1))) (λ n. inr (λ x. n x.0))

  -- at an index of the piece, and at another
  same : (j : ℕ) → get_or t j 0 ≡ get_or r j 0
  same j =
      ⊎_elim
      (λ x. let k = x.2.0 in let w = x.2.2.0 in
      ap (λ m. get_or t m 0) x.2.2.1 ∙ T.lines x.0 k x.1 w ∙ sym (ap (λ m. get_or r m 0) x.2.2.1 ∙ R.lines x.0 k x.1 w))
      (λ o. T.others j (λ i k h w e. o i h (k, omega (arith, w.to), (w, e))) ∙ sym (R.others j (λ i k h w e. o i h (k, omega (arith, w.to), (w, e)))))
      (search 4 (λ i. (k : ℕ) × (k < 8 + reads len) × Place j i k) (λ i. ⊎_elim inl (λ o. inr (λ x. o x.0 x.1 x.2)) (search (8 + reads len) (Place j i) (place j i))))

  one_list : t ≡ r
  one_list = ext_get_or 0 t r (T.long ∙ sym R.long) (λ j _. same j)

module _ {sharp : ℕ} {f : Frame} {n : ℕ} {P : Plane} {d : Pass} {p : Piece} {s : List ℕ} where
  filters-one : {t r : List ℕ} → Filters sharp f n P d p s t → Filters sharp f n P d p s r → t ≡ r
  filters-one T R =
      ⊎_elim
      (λ x. by_cases (ℕ_discrete (frame_level f n d p) 0) (λ z. T.no-level z ∙ sym (R.no-level z)) (λ z. one_list (T.lines x.0 x.1 z) (R.lines x.0 x.1 z)))
      (λ e. T.no-piece e ∙ sym (R.no-piece e)) (some_or_none (class P d p))

  filters-long : {t : List ℕ} → Filters sharp f n P d p s t → length t ≡ length s
  filters-long T =
      ⊎_elim (λ x. by_cases (ℕ_discrete (frame_level f n d p) 0) (λ z. ap length (T.no-level z)) (λ z. (T.lines x.0 x.1 z).long))
      (λ e. ap length (T.no-piece e)) (some_or_none (class P d p))

-- ---- a plane whose units are filtered so

module _ {sharp : ℕ} {f : Frame} {n : ℕ} {P : Plane} (size : ℕ)
    (unit : (d : Pass) (p : Piece) (t : List ℕ) → length t ≡ size → Filters sharp f n P d p t (act P d p t)) where
  pub steps : (d : Pass) (l : List Piece) (t : List ℕ) → length t ≡ size → Steps sharp f n P d l t (run (act P d) l t)
  steps d [] t e = refl
  steps d (p ∷ l) t e = let u = unit d p t e in (act P d p t, u, steps d l (act P d p t) (filters-long u ∙ e))

  pub run_long : (d : Pass) (l : List Piece) (t : List ℕ) → length t ≡ size → length (run (act P d) l t) ≡ size
  run_long d [] t e = e
  run_long d (p ∷ l) t e = run_long d l (act P d p t) (filters-long (unit d p t e) ∙ e)

  pub only : (d : Pass) (l : List Piece) (t r : List ℕ) → length t ≡ size → Steps sharp f n P d l t r → r ≡ run (act P d) l t
  only d [] t r e g = g
  only d (p ∷ l) t r e g =
      only d l g.0 r (filters-long g.1 ∙ e) g.2 ∙ ap (run (act P d) l) (filters-one g.1 (unit d p t e))
