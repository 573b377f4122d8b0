-- What a piece leaves, as a function of the index: the samples of a plane need not be gone through, and a line that does not hold an index is not filtered to tell it.
use mathlib.Core.Path.{◌≡◌, refl, ap, ◌∙◌}
use mathlib.Core.Bool.{Bool, true, false, cond, ◌&&◌}
use mathlib.Core.List.{List, [], ◌∷◌}
use mathlib.Core.Logic.{◌≢◌, by_cases}
use Prim.Native.Nat.{ℕ, zero, suc, ◌+◌, ◌-◌, ◌*◌, ◌≤◌, ◌<◌}
use native.Mathlib.Decide.{ℕ_discrete, dec_lt}
use native.Mathlib.Omega.{arith}
use lib.Dec.{eqb, ltb}
use lib.ListN.{length, get_or, set, length-set}
use lib.Seq.{get_or-set_same, get_or-set_other, set_out}
use borrow.Author.Tests.{eq-eqb, ne_eqb, lt-ltb, le-ltb, eqb-false}
use Rattle.loops.specs.Any.{any_below}
use Rattle.loops.specs.Run.{up_to}
use Rattle.loops.proofs.Anys.{any-each}
use Rattle.plane.specs.Line.{window, put, Change, Rule, Gives, changed, line_at, piece_at}
use Rattle.plane.proofs.Lines.{put_keeps, put-outside}

-- n samples from the index b on, sample-step apart
abbrev seen : ℕ → ℕ → ℕ → (ℕ → ℕ) → List ℕ
seen sample-step b zero g = []
seen sample-step b (suc n) g = g b ∷ seen sample-step (b + sample-step) n g

-- samples written from the index b on, sample-step apart, where there are `size` of them
abbrev kept : ℕ → ℕ → ℕ → List ℕ → (ℕ → ℕ) → ℕ → ℕ
kept size sample-step b [] g i = g i
kept size sample-step b (v ∷ vs) g i = kept size sample-step (b + sample-step) vs (λ j. cond (eqb j b && ltb b size) v (g j)) i

-- a line, at an index that it reads or at another
abbrev line_if : Bool → ℕ → ℕ → Rule → ℕ → (ℕ → ℕ) → ℕ → ℕ
line_if true size sample-step r q g i =
    let c : Change = r.rule (seen sample-step (q - r.reads * sample-step) (2 * r.reads) g) in kept size sample-step (q - c.side * sample-step) c.samples g i
line_if false size sample-step r q g i = g i

abbrev is_read : ℕ → Rule → ℕ → ℕ → Bool
is_read sample-step r q i = any_below (2 * r.reads) (λ m. eqb i (q - r.reads * sample-step + m * sample-step))

abbrev line : ℕ → ℕ → Rule → ℕ → (ℕ → ℕ) → ℕ → ℕ
line size sample-step r q g i = line_if (is_read sample-step r q i) size sample-step r q g i

abbrev pub piece_of : ℕ → ℕ → ℕ → Rule → ℕ → (ℕ → ℕ) → ℕ → ℕ
piece_of size line_step sample-step r q = up_to (λ i. line size sample-step r (q + i * line_step)) 4

-- ---- a list and a function that tells its samples

pub record Tells (size : ℕ) (g : ℕ → ℕ) (l : List ℕ) : Type 0 where
  pub long : length l ≡ size
  pub at : (i : ℕ) → get_or l i 0 ≡ g i

set_at : (l : List ℕ) (b v i : ℕ) → get_or (set l b v) i 0 ≡ cond (eqb i b && ltb b (length l)) v (get_or l i 0)
set_at l b v i =
    by_cases (ℕ_discrete i b)
    (λ e. by_cases (dec_lt b (length l)) (λ h. rw (eq-eqb i b e, lt-ltb b (length l) h, e) (get_or-set_same l b v 0 h))
    (λ h. rw (eq-eqb i b e, le-ltb b (length l) (omega arith), set_out l b v (omega arith)) refl))
    (λ n. rw (ne_eqb i b n) (get_or-set_other l b i v 0 n))

put-at : (sample-step : ℕ) (vs : List ℕ) (b : ℕ) (l : List ℕ) (i : ℕ) → get_or (put sample-step b vs l) i 0 ≡ kept (length l) sample-step b vs (λ j. get_or l j 0) i
unfolding put
put-at sample-step [] b l i = refl
put-at sample-step (v ∷ vs) b l i = put-at sample-step vs (b + sample-step) (set l b v) i ∙ (λ q. kept (length-set l b v q) sample-step (b + sample-step) vs (λ j. set_at l b v j q) i)

window-is : (sample-step n b : ℕ) (l : List ℕ) → window sample-step b n l ≡ seen sample-step b n (λ j. get_or l j 0)
unfolding window
window-is sample-step zero b l = refl
window-is sample-step (suc n) b l = ap (λ (t : List ℕ). get_or l b 0 ∷ t) (window-is sample-step n (b + sample-step) l)

-- a rule that writes no more than it reads
pub record Sound (r : Rule) : Type 0 where
  pub fewer : r.writes ≤ r.reads
  pub gives : (l : List ℕ) → Gives r.writes (r.rule l)

shift : (q x s j sample-step : ℕ) → (x + s) * sample-step ≤ q → q - s * sample-step + j * sample-step ≡ q - (x + s) * sample-step + (x + j) * sample-step
shift q x s j sample-step h = omega arith

module _ (sample-step : ℕ) (r : Rule) (o : Sound r) (q : ℕ) (start : r.reads * sample-step ≤ q) where
  abbrev change : List ℕ → Change
  change l = r.rule (window sample-step (q - r.reads * sample-step) (2 * r.reads) l)

  unread : (l : List ℕ) (i : ℕ) → is_read sample-step r q i ≡ false → (j : ℕ) → j < length (change l).samples → i ≢ q - (change l).side * sample-step + j * sample-step
  unread l i e j h f =
      let g = o.gives (window sample-step (q - r.reads * sample-step) (2 * r.reads) l) in
      let x = r.reads - (change l).side in
      let z : x + (change l).side ≡ r.reads = omega (arith, g.few, o.fewer) in
      eqb-false i _ (any-each (2 * r.reads) _ e (x + j) (omega (arith, g.even, g.few, o.fewer)))
      (f ∙ shift q x (change l).side j sample-step (rw z start) ∙ ap (λ n. q - n * sample-step + (x + j) * sample-step) z)

  line-at : (l : List ℕ) (i : ℕ) → get_or (line_at sample-step r q l) i 0 ≡ line (length l) sample-step r q (λ j. get_or l j 0) i
  unfolding line_at changed
  line-at l i = go (is_read sample-step r q i) refl
    where
      go : (b : Bool) → is_read sample-step r q i ≡ b
          → get_or (put sample-step (q - (change l).side * sample-step) (change l).samples l) i 0 ≡ line_if b (length l) sample-step r q (λ j. get_or l j 0) i
      go true e =
          put-at sample-step (change l).samples (q - (change l).side * sample-step) l i
          ∙ ap (λ (w : List ℕ). kept (length l) sample-step (q - (r.rule w).side * sample-step) (r.rule w).samples (λ j. get_or l j 0) i)
          (window-is sample-step (2 * r.reads) (q - r.reads * sample-step) l)
      go false e = put-outside sample-step (change l).samples (q - (change l).side * sample-step) l i (unread l i e)

  line-tells : (size : ℕ) (g : ℕ → ℕ) (l : List ℕ) → Tells size g l → Tells size (line size sample-step r q g) (line_at sample-step r q l)
  unfolding line_at changed
  line-tells size g l t =
      record {
        long = put_keeps sample-step (change l).samples (q - (change l).side * sample-step) l ∙ t.long;
        at = λ i. line-at l i ∙ (λ z. line (t.long z) sample-step r q (λ j. t.at j z) i);
      }

pub piece-tells : (size line_step sample-step : ℕ) (r : Rule) → Sound r → (q : ℕ) → r.reads * sample-step ≤ q → (g : ℕ → ℕ) (l : List ℕ) → Tells size g l
    → Tells size (piece_of size line_step sample-step r q g) (piece_at line_step sample-step r q l)
unfolding piece_at
piece-tells size line_step sample-step r o q h g l t = go 4
  where
    go : (n : ℕ) → Tells size (up_to (λ i. line size sample-step r (q + i * line_step)) n g) (up_to (λ i. line_at sample-step r (q + i * line_step)) n l)
    go zero = t
    go (suc n) = line-tells sample-step r o (q + n * line_step) (omega arith) size _ _ (go n)
