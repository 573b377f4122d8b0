-- A pass over a superblock row, piece by piece: what each piece of the row keeps, of one list or between two, the pass keeps; with no edges it does nothing.
use mathlib.Core.Path.{◌≡◌, refl, sym, ap, ◌∙◌, subst⁻¹}
use mathlib.Core.Bool.{Bool, true, false}
use mathlib.Core.List.{List}
use mathlib.Core.Option.{none}
use Prim.Native.Nat.{ℕ, zero, suc, ◌+◌, ◌<◌}
use native.Mathlib.Omega.{arith}
use Rattle.loops.specs.Run.{up_to}
use Rattle.plane.specs.Line.{Pass, columns, rows, Piece}
use Rattle.plane.specs.Plane.{Plane, class, act, InRow}
use Rattle.plane.proofs.Pieces.{idle, inner-none}
use Rattle.filter.specs.Filter.{first_across, first_along, across, along, line_of, sweep_of}
use Rattle.apply.specs.Apply.{shown}

up_to-both : {S : Type 0} (R : S → S → Type 0) (g : ℕ → S → S) (n : ℕ) → ((i : ℕ) → i < n → (s t : S) → R s t → R (g i s) (g i t))
    → (s t : S) → R s t → R (up_to g n s) (up_to g n t)
up_to-both R g zero h s t r = r
up_to-both R g (suc n) h s t r = h n (omega arith) (up_to g n s) (up_to g n t) (up_to-both R g n (λ i l. h i (omega arith)) s t r)

module _ (P : Plane) (k : ℕ) where
  in_row : (d : Pass) (g a v : ℕ) → a < across P d → v < along P d → InRow P d k (first_across P d k g + a, first_along P d k g + v)
  in_row columns g a v x y = record { from = omega arith; to = omega arith }
  in_row rows g a v x y = record { from = omega arith; to = omega arith }

  pub sweep-both : (R : List ℕ → List ℕ → Type 0) (d : Pass) → ((p : Piece) → InRow P d k p → (s t : List ℕ) → R s t → R (act P d p s) (act P d p t))
      → (s t : List ℕ) → R s t → R (sweep_of P d k s) (sweep_of P d k t)
  unfolding sweep_of line_of
  sweep-both R d h =
      up_to-both R _ P.records (λ g _. up_to-both R _ (across P d) (λ a x. up_to-both R _ (along P d) (λ v y. h _ (in_row d g a v x y))))

  -- a change that commutes with each piece commutes with the pass
  sweep-past : (d : Pass) (f : List ℕ → List ℕ) → ((p : Piece) → InRow P d k p → (s : List ℕ) → f (act P d p s) ≡ act P d p (f s))
      → (s : List ℕ) → f (sweep_of P d k s) ≡ sweep_of P d k (f s)
  sweep-past d f h s = sweep-both (λ l m. f l ≡ m) d (λ p r l m e. h p r l ∙ ap (act P d p) e) s (f s) refl

-- where there is no edge nothing is done
pub sweep-stays : (P : Plane) → ((d : Pass) (p : Piece) → class P d p ≡ none) → (d : Pass) (k : ℕ) (s : List ℕ) → sweep_of P d k s ≡ s
sweep-stays P n d k s = sweep-both P k (λ l _. l ≡ s) d (λ p _ l _ e. idle P d p (n d p) l ∙ e) s s refl

pub shown-none : (P : Plane) (d : Pass) (p : Piece) → class (shown false P) d p ≡ none
shown-none P d p = inner-none p.0

-- a plane that is on, or not
pub shown_case : (P : Plane) (d : Pass) (k : ℕ) (Q : Plane → (List ℕ → List ℕ) → Type 0) (on : Bool) → (on ≡ true → Q P (sweep_of P d k))
    → Q (shown false P) (λ s. s) → Q (shown on P) (sweep_of (shown on P) d k)
shown_case P d k Q true h n = h refl
shown_case P d k Q false h n = subst⁻¹ (Q (shown false P)) (λ q s. sweep-stays (shown false P) (shown-none P) d k s q) n

pub sweeps-commute : (P : Plane) (d e : Pass) (j k : ℕ)
    → ((p q : Piece) → InRow P d j p → InRow P e k q → (s : List ℕ) → act P d p (act P e q s) ≡ act P e q (act P d p s))
    → (s : List ℕ) → sweep_of P d j (sweep_of P e k s) ≡ sweep_of P e k (sweep_of P d j s)
sweeps-commute P d e j k h =
    sweep-past P k e (sweep_of P d j) (λ q b s. sym (sweep-past P j d (act P e q) (λ p a t. sym (h p q a b t)) s))
