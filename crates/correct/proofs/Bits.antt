-- What a correction does to each bit, with no order: of an edge its own bits and no others, and of a line of edges that share no bit
-- each as if it were the only one, by recursion on the units.
use mathlib.Core.Path.{◌≡◌, refl, sym, ap, ◌∙◌, subst}
use mathlib.Core.Bool.{Bool, true, false, cond, not, ◌&&◌, ◌||◌, and-true, and-false, or-false}
use mathlib.Core.List.{List}
use mathlib.Core.Logic.{by_cases}
use Prim.Native.Nat.{ℕ, zero, suc, ◌/◌, ◌≤◌, ◌<◌, min}
use native.Mathlib.Decide.{ℕ_discrete}
use native.Mathlib.Omega.{arith}
use lib.Dec.{eqb}
use lib.ListN.{length}
use borrow.Author.Tests.{eq-eqb, ne_eqb}
use Rattle.loops.specs.Any.{any_below}
use Rattle.loops.specs.Run.{up_to}
use Rattle.loops.proofs.Anys.{any-true, any_false}
use mir.Val.{bool_byte}
use Rattle.bits.specs.Mark.{is_set, unmark}
use Rattle.bits.proofs.Marks.{length-mark, is_set-mark, length-unmark, is_set-unmark}
use Rattle.correct.specs.Correct.{old_class, cleared, corrected}

-- how many classes luma and chroma have, and one more of luma
abbrev classes_of : Bool → ℕ
classes_of luma = cond luma 3 2

some-classes : (luma : Bool) (c : ℕ) → c < classes_of luma → c < cond luma 4 2
some-classes true c h = omega arith
some-classes false c h = h

pub flag-le : (b : Bool) → bool_byte b ≤ 1
flag-le true = omega arith
flag-le false = omega arith

pub old-lt : (luma : Bool) (set : ℕ → Bool) → old_class luma set < cond luma 4 2
old-lt true set = omega (arith, flag-le (set 1), flag-le (set 2))
old-lt false set = omega (arith, flag-le (set 1))

-- the old class looks at the plane's own classes
pub old-same : (luma : Bool) (f g : ℕ → Bool) → ((c : ℕ) → c < classes_of luma → f c ≡ g c) → old_class luma f ≡ old_class luma g
old-same true f g h = rw (h 1 (omega arith), h 2 (omega arith)) refl
old-same false f g h = rw (h 1 (omega arith)) refl

-- ---- one edge

module _ (bit : ℕ → ℕ) where
  length-unmarks : (k : ℕ) (ms : List ℕ) → length (up_to (λ c m. unmark m (bit c)) k ms) ≡ length ms
  length-unmarks zero ms = refl
  length-unmarks (suc k) ms = length-unmark (up_to (λ c m. unmark m (bit c)) k ms) (bit k) ∙ length-unmarks k ms

  is_set-unmarks : (k : ℕ) (ms : List ℕ) → ((c : ℕ) → c < k → bit c / 16 < length ms) → (x : ℕ)
      → is_set (up_to (λ c m. unmark m (bit c)) k ms) x ≡ (is_set ms x && not (any_below k (λ c. eqb (bit c) x)))
  unfolding any_below
  is_set-unmarks zero ms h x = sym (and-true (is_set ms x))
  is_set-unmarks (suc k) ms h x =
      is_set-unmark (up_to (λ c m. unmark m (bit c)) k ms) (bit k) x (rw (length-unmarks k ms) (h k (omega arith)))
      ∙ ap (λ (b : Bool). b && not (eqb (bit k) x)) (is_set-unmarks k ms (λ c l. h c (omega arith)) x)
      ∙ both (is_set ms x) (any_below k (λ c. eqb (bit c) x)) (eqb (bit k) x)
    where
      both : (a p q : Bool) → ((a && not p) && not q) ≡ (a && not (p || q))
      both true true q = refl
      both true false q = refl
      both false p q = refl

module _ (luma : Bool) (bit : ℕ → ℕ) (context : ℕ) (ms : List ℕ) where
  abbrev new : ℕ
  new = min (old_class luma (λ c. is_set ms (bit c))) context

  pub length-corrected : length (corrected luma bit context ms) ≡ length ms
  unfolding corrected cleared
  length-corrected =
      length-mark (up_to (λ c m. unmark m (bit c)) (classes_of luma) ms) (bit new) ∙ length-unmarks bit (classes_of luma) ms

  module _ (room : (c : ℕ) → c < cond luma 4 2 → bit c / 16 < length ms) where
    at : (x : ℕ) → is_set (corrected luma bit context ms) x ≡ ((is_set ms x && not (any_below (classes_of luma) (λ c. eqb (bit c) x))) || eqb (bit new) x)
    unfolding corrected cleared
    at x =
        is_set-mark (up_to (λ c m. unmark m (bit c)) (classes_of luma) ms) (bit new) x
        (rw (length-unmarks bit (classes_of luma) ms) (room new (omega (arith, old-lt luma (λ c. is_set ms (bit c))))))
        ∙ ap (λ (b : Bool). b || eqb (bit new) x) (is_set-unmarks bit (classes_of luma) ms (λ c l. room c (some-classes luma c l)) x)

    pub edge-own : ((c k : ℕ) → c < classes_of luma → k < classes_of luma → bit c ≡ bit k → c ≡ k) → new < classes_of luma → (c : ℕ) → c < classes_of luma
        → is_set (corrected luma bit context ms) (bit c) ≡ eqb c new
    edge-own inj n c h =
        at (bit c)
        ∙ ap (λ (b : Bool). (is_set ms (bit c) && not b) || eqb (bit new) (bit c))
        (any-true (classes_of luma) (λ k. eqb (bit k) (bit c)) c h (eq-eqb (bit c) (bit c) refl))
        ∙ ap (λ (b : Bool). b || eqb (bit new) (bit c)) (and-false (is_set ms (bit c)))
        ∙ by_cases (ℕ_discrete c new) (λ e. eq-eqb (bit new) (bit c) (ap bit (sym e)) ∙ sym (eq-eqb c new e))
        (λ f. ne_eqb (bit new) (bit c) (λ z. f (sym (inj new c n h z))) ∙ sym (ne_eqb c new f))

    pub edge_other : new < classes_of luma → (x : ℕ) → ((c : ℕ) → c < classes_of luma → ¬ (bit c ≡ x)) → is_set (corrected luma bit context ms) x ≡ is_set ms x
    edge_other n x h =
        at x
        ∙ ap (λ (b : Bool). (is_set ms x && not b) || eqb (bit new) x) (any_false (classes_of luma) (λ c. eqb (bit c) x) (λ c l. ne_eqb (bit c) x (h c l)))
        ∙ ap (λ (b : Bool). (is_set ms x && true) || b) (ne_eqb (bit new) x (h new n))
        ∙ or-false (is_set ms x && true)
        ∙ and-true (is_set ms x)

-- ---- a line of edges

module _ (luma : Bool) (f : ℕ → ℕ → ℕ) (v : ℕ → ℕ) (ms : List ℕ) where
  abbrev after : ℕ → List ℕ
  after j = up_to (λ i. corrected luma (f i) (v i)) j ms

  pub length-line : (j : ℕ) → length (after j) ≡ length ms
  length-line zero = refl
  length-line (suc j) = length-corrected luma (f j) (v j) (after j) ∙ length-line j

  module _ (n : ℕ) (room : (i c : ℕ) → i < n → c < cond luma 4 2 → f i c / 16 < length ms)
      (inj : (i j c k : ℕ) → i < n → j < n → c < classes_of luma → k < classes_of luma → f i c ≡ f j k → (i ≡ j) × (c ≡ k))
      (range : (i : ℕ) → i < n → v i < classes_of luma) where
    in-line : (i j c : ℕ) → i < n → c < cond luma 4 2 → f i c / 16 < length (after j)
    in-line i j c h l = rw (length-line j) (room i c h l)

    pub line_other : (j : ℕ) → j ≤ n → (x : ℕ) → ((i c : ℕ) → i < j → c < classes_of luma → ¬ (f i c ≡ x)) → is_set (after j) x ≡ is_set ms x
    line_other zero h x o = refl
    line_other (suc j) h x o =
        edge_other luma (f j) (v j) (after j) (λ c. in-line j j c h) (omega (arith, range j h)) x (λ c. o j c (omega arith))
        ∙ line_other j (omega arith) x (λ i c l. o i c (omega arith))

    pub line-own : (j : ℕ) → j ≤ n → (i c : ℕ) → i < j → c < classes_of luma
        → is_set (after j) (f i c) ≡ eqb c (min (old_class luma (λ k. is_set ms (f i k))) (v i))
    line-own zero h i c l k = absurd (omega arith)
    line-own (suc j) h i c l k = by_cases (ℕ_discrete i j) same (λ g. other g (λ z. line-own j (omega arith) i c z k))
      where
        old : old_class luma (λ q. is_set (after j) (f j q)) ≡ old_class luma (λ q. is_set ms (f j q))
        old =
            old-same luma (λ q. is_set (after j) (f j q)) (λ q. is_set ms (f j q))
            (λ q z. line_other j (omega arith) (f j q) (λ a b x y e. absurd (omega (arith, (inj a j b q (omega arith) h y z e).0))))

        same : i ≡ j → is_set (after (suc j)) (f i c) ≡ eqb c (min (old_class luma (λ q. is_set ms (f i q))) (v i))
        same e =
            subst (λ a. is_set (after (suc j)) (f a c) ≡ eqb c (min (old_class luma (λ q. is_set ms (f a q))) (v a))) (sym e)
            (edge-own luma (f j) (v j) (after j) (λ q. in-line j j q h) (λ a b x y z. (inj j j a b h h x y z).1) (omega (arith, range j h)) c k
            ∙ ap (λ (a : ℕ). eqb c (min a (v j))) old)

        other : ¬ (i ≡ j) → (i < j → is_set (after j) (f i c) ≡ eqb c (min (old_class luma (λ q. is_set ms (f i q))) (v i)))
            → is_set (after (suc j)) (f i c) ≡ eqb c (min (old_class luma (λ q. is_set ms (f i q))) (v i))
        other g again =
            edge_other luma (f j) (v j) (after j) (λ q. in-line j j q h) (omega (arith, range j h)) (f i c)
            (λ q z e. g (sym (inj j i q c h (omega arith) z k e).0))
            ∙ again (omega arith)
