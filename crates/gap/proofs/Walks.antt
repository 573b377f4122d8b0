-- The state of the walk after u units holds the words of the three units before, and all breaks, edges and bits past the frame so far: by recursion
-- on the units; and units stored side by side take it on.
use mathlib.Core.Path.{◌≡◌, refl, sym, ap, ap₂, ◌∙◌}
use mathlib.Core.Bool.{Bool, true, false, ◌||◌, cond, or-false, or-true}
use mathlib.Core.List.{List}
use Prim.Native.Nat.{ℕ, zero, suc, ◌+◌, ◌-◌, ◌^◌, ◌≤◌, ◌<◌, min}
use native.Mathlib.Nat.{le_refl, add-zero, add-suc}
use native.Mathlib.Numerals.{add-one}
use native.Mathlib.Omega.{arith}
use lib.Bits.{bit_or, or_zero_r}
use lib.Dec.{eqb, ltb}
use borrow.Author.Tests.{eq-eqb, ne_eqb, lt-ltb, le-ltb}
use Rattle.loops.proofs.Runs.{up_to-again}
use Rattle.bits.specs.Word.{or_below}
use Rattle.bits.proofs.Words.{or-none, or-more}
use Rattle.gap.specs.declared.track.Track.{Track}
use Rattle.gap.specs.Track.{clash_w, class_word, start_t, step_t, unit_t, unit_at_t, run_t, part_t, close_t, cut, past, track}
use Rattle.gap.proofs.LinesAtOnce.{prev_w, at_w, bound, one_w, mark_w, bad_w}

-- ---- the last three units

record Seen (m a b : ℕ → ℕ) (u : ℕ) (s : Track) : Type 0 where
  em1 : s.m1 ≡ prev_w m u
  em2 : s.m2 ≡ prev_w (prev_w m) u
  em3 : s.m3 ≡ prev_w (prev_w (prev_w m)) u
  ea1 : s.a1 ≡ prev_w a u
  eb1 : s.b1 ≡ prev_w b u
  eb2 : s.b2 ≡ prev_w (prev_w b) u
  eb3 : s.b3 ≡ prev_w (prev_w (prev_w b)) u
  ebad : s.bad ≡ or_below u (at_w m a b)

here : (m a b : ℕ → ℕ) (u : ℕ) (s : Track) (m0 a0 b0 : ℕ) → Seen m a b u s → m0 ≡ m u → a0 ≡ a u → b0 ≡ b u
    → bit_or s.bad (clash_w m0 a0 b0 s.m1 s.m2 s.m3 s.a1 s.b2 s.b3) ≡ or_below (u + 1) (at_w m a b)
unfolding at_w
here m a b u s m0 a0 b0 e em ea eb =
    or-more u (at_w m a b) s.bad _ _ e.ebad
    (λ i. clash_w (em i) (ea i) (eb i) (e.em1 i) (e.em2 i) (e.em3 i) (e.ea1 i) (e.eb2 i) (e.eb3 i)) refl

module _ (words : ℕ → ℕ → ℕ) (n : ℕ) where
  abbrev w : ℕ → ℕ → ℕ
  w = cut words n

  abbrev t : ℕ → Track
  t = track words n

  first-unit : (u : ℕ) → (t u).first ≡ cond (eqb u 0) (2 ^ 32 - 1) 0
  unfolding track start_t step_t
  first-unit zero = refl
  first-unit (suc u) = sym (ap (λ (b : Bool). cond b (2 ^ 32 - 1) 0) (ne_eqb (suc u) 0 (λ p. omega arith)))

  module _ (end : ℕ) where
    mark-here : (u : ℕ) → u < end → bit_or (t u).first (bit_or (w 0 u) (bit_or (w 1 u) (w 2 u))) ≡ mark_w w end u
    unfolding mark_w one_w bound
    mark-here u h =
        ap (λ (f : ℕ). bit_or f (bit_or (w 0 u) (bit_or (w 1 u) (w 2 u))))
        (first-unit u
        ∙ ap (λ (b : Bool). cond b (2 ^ 32 - 1) 0) (sym (ap (λ (b : Bool). eqb u 0 || b) (ne_eqb u end (λ p. omega arith)) ∙ or-false (eqb u 0))))

    seen : (u : ℕ) → u ≤ end → Seen (mark_w w end) (one_w w) (w 2) u (t u)
    unfolding track start_t step_t prev_w one_w
    seen zero h =
        let z = or-none (at_w (mark_w w end) (one_w w) (w 2)) in
        record { em1 = refl; em2 = refl; em3 = refl; ea1 = refl; eb1 = refl; eb2 = refl; eb3 = refl; ebad = z }
    seen (suc u) h =
        let e = seen u (omega arith) in
        record {
          em1 = mark-here u h;
          em2 = e.em1;
          em3 = e.em2;
          ea1 = refl;
          eb1 = refl;
          eb2 = e.eb1;
          eb3 = e.eb2;
          ebad = here (mark_w w end) (one_w w) (w 2) u (t u) _ _ _ e (mark-here u h) refl refl
              ∙ ap (λ (k : ℕ). or_below k (at_w (mark_w w end) (one_w w) (w 2))) (add-one u);
        }

    none-at : n ≤ end → (c : ℕ) → 0 ≡ w c end
    unfolding cut
    none-at h c = sym (ap (λ (b : Bool). cond b (words end c) 0) (le-ltb end n h))

    mark-end : n ≤ end → 4294967295 ≡ mark_w w end end
    unfolding mark_w one_w bound
    mark-end h =
        sym (or_zero_r 4294967295)
        ∙ ap₂ bit_or (ap (λ (b : Bool). cond b (2 ^ 32 - 1) 0) (sym (ap (λ (b : Bool). eqb end 0 || b) (eq-eqb end end refl) ∙ or-true (eqb end 0))))
        (λ i. bit_or (none-at h 0 i) (bit_or (none-at h 1 i) (none-at h 2 i)))

    pub track-bad : n ≤ end → close_t (t end) ≡ bad_w w end
    unfolding close_t bad_w one_w
    track-bad h =
        here (mark_w w end) (one_w w) (w 2) end (t end) _ _ _ (seen end (le_refl end)) (mark-end h)
        (λ i. bit_or (none-at h 1 i) (none-at h 2 i)) (none-at h 2)

  -- ---- the edges, and the bits past the frame

  pub track-all : (u : ℕ) → (t u).all ≡ or_below u (λ v. bit_or (w 0 v) (bit_or (w 1 v) (w 2 v)))
  unfolding track start_t step_t or_below
  track-all zero = refl
  track-all (suc u) = ap (λ (x : ℕ). bit_or x (bit_or (w 0 u) (bit_or (w 1 u) (w 2 u)))) (track-all u)

  pub track-past : (u : ℕ) → (t u).past ≡ or_below u (past words n)
  unfolding track start_t step_t or_below
  track-past zero = refl
  track-past (suc u) = ap (λ (x : ℕ). bit_or x (past words n u)) (track-past u)

  -- ---- units that stand side by side

  unit-cut : (inside : Bool) (u : ℕ) (s : Track) → ltb u n ≡ inside
      → unit_t inside s (words u 0) (words u 1) (words u 2) ≡ step_t s (w 0 u) (w 1 u) (w 2 u) (past words n u)
  unfolding unit_t cut past
  unit-cut true u s e = rw e refl
  unit-cut false u s e = rw e refl

  module _ (ms : List ℕ) (luma : Bool) (halves at : ℕ) where
    run-track : (inside : Bool) (from u m : ℕ) → ((i : ℕ) → i < m → ltb (u + i) n ≡ inside)
        → ((i c : ℕ) → i < m → class_word ms luma halves at (from + i) c ≡ words (u + i) c) → run_t ms luma halves inside at from m (t u) ≡ t (u + m)
    unfolding run_t unit_at_t track
    run-track inside from u zero f rec = ap t (sym (add-zero u))
    run-track inside from u (suc m) f rec =
        (λ j. unit_t inside (run-track inside from u m (λ i l. f i (omega arith)) (λ i c l. rec i c (omega arith)) j) (rec m 0 (le_refl (suc m)) j)
        (rec m 1 (le_refl (suc m)) j) (rec m 2 (le_refl (suc m)) j))
        ∙ unit-cut inside (u + m) (t (u + m)) (f m (le_refl (suc m)))
        ∙ ap t (sym (add-suc u m))

    -- `end` units, those of the frame first
    pub part-track : (from u m end : ℕ) (s r : Track) → m ≡ min end (n - u)
        → ((i c : ℕ) → i < end → class_word ms luma halves at (from + i) c ≡ words (u + i) c) → s ≡ t u → r ≡ part_t ms luma halves at from m end s → r ≡ t (u + end)
    unfolding part_t
    part-track from u m end s r em rec es er =
        let e : u + m + (end - m) ≡ u + end = omega arith in
        er
        ∙ ap (run_t ms luma halves false at (from + m) (end - m))
        (ap (run_t ms luma halves true at from m) es ∙ run-track true from u m (λ i l. lt-ltb (u + i) n (omega arith)) (λ i c l. rec i c (omega arith)))
        ∙ run-track false (from + m) (u + m) (end - m) (λ i l. le-ltb (u + m + i) n (omega arith))
        (λ i c l. ap (λ (k : ℕ). class_word ms luma halves at k c) (omega arith) ∙ rec (m + i) c (omega arith) ∙ ap (λ (k : ℕ). words k c) (omega arith))
        ∙ ap t e

-- ---- for the code

pub step-make : (s : Track) (x y b z r : ℕ)
    → r ≡ clash_w (bit_or s.first (bit_or x (bit_or y b))) (bit_or y b) b s.m1 s.m2 s.m3 s.a1 s.b2 s.b3
    → ◌≡◌ {A = Track}
    (record {
      first = 0;
      m1 = bit_or s.first (bit_or x (bit_or y b));
      m2 = s.m1;
      m3 = s.m2;
      a1 = bit_or y b;
      b1 = b;
      b2 = s.b1;
      b3 = s.b2;
      bad = bit_or s.bad r;
      all = bit_or s.all (bit_or x (bit_or y b));
      past = bit_or s.past z;
    })
    (step_t s x y b z)
unfolding step_t
step-make s x y b z r e =
    rw e refl

module _ (ms : List ℕ) (luma : Bool) (halves : ℕ) (inside : Bool) (at : ℕ) where
  pub unit-at-make : (i x y b : ℕ) (s r : Track) → x ≡ class_word ms luma halves at i 0 → y ≡ class_word ms luma halves at i 1
      → b ≡ class_word ms luma halves at i 2 → r ≡ unit_t inside s x y b → r ≡ unit_at_t ms luma halves inside at i s
  unfolding unit_at_t
  unit-at-make i x y b s r ex ey eb er = er ∙ (λ j. unit_t inside s (ex j) (ey j) (eb j))

  pub run_more : (from i : ℕ) (s t r : Track) → t ≡ run_t ms luma halves inside at from i s → r ≡ unit_at_t ms luma halves inside at (from + i) t
      → r ≡ run_t ms luma halves inside at from (i + 1) s
  unfolding run_t
  run_more from i s t r e er = up_to-again (λ k. unit_at_t ms luma halves inside at (from + k)) i s e er
