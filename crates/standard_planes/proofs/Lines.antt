-- A piece is the standard's, line by line: a store stands at a line and a place that its index tells, so each line holds what its rule gives,
-- whatever the other lines store.
use Prim.Native.Nat.{ℕ, zero, suc, ◌+◌, ◌-◌, ◌*◌, ◌≤◌, ◌<◌}
use native.Mathlib.Decide.{dec_le, dec_lt, ℕ_discrete}
use native.Mathlib.Nat.{mul-le-mul_right}
use native.Mathlib.Omega.{arith}
use mathlib.Core.Bool.{Bool, true, false, cond}
use mathlib.Core.List.{List, [], ◌∷◌}
use mathlib.Core.Logic.{by_cases}
use mathlib.Core.Path.{◌≡◌, refl, sym, ap, ◌∙◌}
use borrow.Author.Tests.{ltb-true, ltb-false}
use lib.Dec.{ltb}
use lib.ListN.{length, get_or, set, length-set}
use lib.Seq.{get_or-set_same}
use Rattle.loops.specs.Run.{up_to}
use Rattle.plane.specs.Line.{Pass, columns, rows, Piece, ix, line_step, sample_step, line_of, place_of, put, changed, line_at, piece_at, Room}
use Rattle.plane.proofs.Lines.{put_keeps, put-outside, InStride, line-ix, place-ix, ix-on, ix-back, ix-line}
use Rattle.standard.specs.Line.{filtered}
use Rattle.standard.specs.declared.Bounds.{Bounds}
use Rattle.line.specs.Rule.{side, span, change, rule}
use Rattle.line.specs.Width.{Width, Within, reads}
use Rattle.line.proofs.Choices.{sizes}
use Rattle.line.proofs.Laws.{side-few, line-laws}
use Rattle.line.proofs.Rules.{length-span}
use Rattle.piece.specs.Samples.{index}
use Rattle.piece.proofs.Places.{get_or-span}
use Rattle.piece.proofs.Lines.{by-samples}
use Rattle.standard_planes.specs.Piece.{sample_at, piece_line, There, Standard}

-- ---- several stores

put-at : (sample-step : ℕ) → 0 < sample-step → (vs : List ℕ) (b : ℕ) (l : List ℕ) (j : ℕ) → j < length vs → b + j * sample-step < length l
    → get_or (put sample-step b vs l) (b + j * sample-step) 0 ≡ get_or vs j 0
unfolding put
put-at sample-step p [] b l j h r = absurd (omega arith)
put-at sample-step p (v ∷ vs) b l zero h r =
    let e : b + 0 * sample-step ≡ b = omega arith in
    rw e (put-outside sample-step vs (b + sample-step) (set l b v) b (λ j q e. omega arith) ∙ get_or-set_same l b v 0 (omega arith))
put-at sample-step p (v ∷ vs) b l (suc j) h r =
    let e : b + suc j * sample-step ≡ b + sample-step + j * sample-step = omega arith in
    rw e (put-at sample-step p vs (b + sample-step) (set l b v) j (omega arith) (omega (arith, length-set l b v)))

-- ---- an index tells its line and its place

ix-one : (d : Pass) (S t k u j : ℕ) → InStride d S t k → InStride d S u j → ix d S t k ≡ ix d S u j → (t ≡ u) × (k ≡ j)
ix-one d S t k u j g h e =
    (sym (line-ix d S t k g) ∙ ap (line_of d S) e ∙ line-ix d S u j h, sym (place-ix d S t k g) ∙ ap (place_of d S) e ∙ place-ix d S u j h)

-- a store j of those from n samples before the edge on
ix-store : (d : Pass) (S t x n j : ℕ) → n ≤ x → ix d S t x - n * sample_step d S + j * sample_step d S ≡ ix d S t (x - n + j)
ix-store d S t x n j h = ap (λ m. m + j * sample_step d S) (ix-back d S t x n h) ∙ ix-on d S t (x - n) j

-- a place of the line whose q0 is at x
ix-place : (d : Pass) (S t x k : ℕ) → 8 ≤ x + k → index (ix d S t x) (sample_step d S) k ≡ ix d S t (x + k - 8)
ix-place d S t x k h = go (ltb k 8) refl
  where
    go : (b : Bool) → ltb k 8 ≡ b → cond b (ix d S t x - (8 - k) * sample_step d S) (ix d S t x + (k - 8) * sample_step d S) ≡ ix d S t (x + k - 8)
    go true e = let l = ltb-true k 8 e in ix-back d S t x (8 - k) (omega arith) ∙ ap (ix d S t) (omega arith)
    go false e = let l = ltb-false k 8 e in ix-on d S t x (k - 8) ∙ ap (ix d S t) (omega arith)

pub dec-within : (n k : ℕ) → Dec (Within n k)
dec-within n k =
    by_cases (dec_le 8 (k + n))
    (λ a. by_cases (dec_lt k (8 + n)) (λ b. yes (record { from = a; to = b })) (λ b. no (λ w. b w.to)))
    (λ a. no (λ w. a w.from))

some-stride : (d : Pass) (S n : ℕ) (p : Piece) → 0 < n → Room d S n p → 0 < sample_step d S
some-stride columns S n p h r = omega arith
some-stride rows S n p h r = omega arith

from_start : (d : Pass) (S t x n : ℕ) → n ≤ x → n * sample_step d S ≤ ix d S t x
from_start columns S t x n h = omega arith
from_start rows S t x n h = omega (arith, mul-le-mul_right S h)

module _ (d : Pass) (S : ℕ) {len : ℕ} (w : Width len) (t : Bounds) (p : Piece) (size : ℕ) (ok : There d S (reads len) p size) where
  abbrev sample-step : ℕ
  sample-step = sample_step d S

  abbrev R : ℕ
  R = reads len

  -- the index of q0 in line i
  abbrev q : ℕ → ℕ
  q i = ix d S (4 * p.1 + i) (4 * p.0)

  in-stride : (i k : ℕ) → i < 4 → Within R k → InStride d S (4 * p.1 + i) (4 * p.0 + k - 8)
  in-stride i k h v = go d ok.room
    where
      go : (d : Pass) → Room d S R p → InStride d S (4 * p.1 + i) (4 * p.0 + k - 8)
      go columns r = omega (arith, v.from, v.to, ok.start)
      go rows r = omega arith

  one_place : (i k j m : ℕ) → i < 4 → j < 4 → Within R k → Within R m → sample_at d S p i k ≡ sample_at d S p j m → (i ≡ j) × (k ≡ m)
  one_place i k j m a b v u e =
      let x = ix-one d S _ _ _ _ (in-stride i k a v) (in-stride j m b u) e in
      (omega (arith, x.0), omega (arith, x.1, v.from, u.from, ok.start))

  -- ---- one line, of a list in which it stands as x

  module _ (i : ℕ) (hi : i < 4) (s : List ℕ) (long : length s ≡ size) (x : ℕ → ℕ) (same : (k : ℕ) → Within R k → x k ≡ piece_line d S p i s k) where
    abbrev n : ℕ
    n = side len t x

    few : n ≤ R
    few = let z = sizes w in omega (arith, side-few w t x)

    line-is : line_at sample-step (rule len t) (q i) s ≡ put sample-step (q i - n * sample-step) (span (filtered len t x) (8 - n) (2 * n)) s
    unfolding changed change
    line-is =
        by-samples w t (q i) sample-step s (from_start d S _ _ R ok.start) x
        (record { same = λ k v. same k v ∙ ap (λ j. get_or s j 0) (sym (ix-place d S _ _ k (omega (arith, v.from, ok.start)))) })

    store_at : (j : ℕ) → q i - n * sample-step + j * sample-step ≡ sample_at d S p i (8 - n + j)
    store_at j =
        let z = sizes w in
        ix-store d S _ _ n j (omega (arith, few, ok.start)) ∙ ap (ix d S (4 * p.1 + i)) (omega (arith, few, ok.start))

    stored : (j : ℕ) → j < 2 * n → Within R (8 - n + j)
    stored j h = let z = sizes w in record { from = omega (arith, few); to = omega (arith, few) }

    abbrev after : List ℕ
    after = line_at sample-step (rule len t) (q i) s

    -- no other sample changes
    away : (j : ℕ) → ((k : ℕ) → Within R k → ¬ (j ≡ sample_at d S p i k)) → get_or after j 0 ≡ get_or s j 0
    away j h =
        ap (λ l. get_or l j 0) line-is
        ∙ put-outside sample-step (span (filtered len t x) (8 - n) (2 * n)) (q i - n * sample-step) s j
        (λ m b e. h (8 - n + m) (stored m (omega (arith, length-span (filtered len t x) (8 - n) (2 * n)))) (e ∙ store_at m))

    within : (k : ℕ) → Within n k → piece_line d S p i after k ≡ filtered len t x k
    within k v =
        let z = sizes w in
        let j = k + n - 8 in
        let e : 8 - n + j ≡ k = omega (arith, v.from, few) in
        let b : j < 2 * n = omega (arith, v.from, v.to) in
        let g : q i - n * sample-step + j * sample-step ≡ sample_at d S p i k = store_at j ∙ ap (sample_at d S p i) e in
        let r : Within R k = record { from = omega (arith, v.from, few); to = omega (arith, v.to, few) } in
        ap (λ l. get_or l (sample_at d S p i k) 0) line-is
        ∙ ap (λ m. get_or (put sample-step (q i - n * sample-step) (span (filtered len t x) (8 - n) (2 * n)) s) m 0) (sym g)
        ∙ put-at sample-step (some-stride d S R p (omega (arith, z.two-written, z.written_read)) ok.room) (span (filtered len t x) (8 - n) (2 * n)) (q i - n * sample-step) s j
        (omega (arith, length-span (filtered len t x) (8 - n) (2 * n))) (omega (arith, g, ok.inside i k hi r))
        ∙ get_or-span (filtered len t x) (2 * n) (8 - n) j b
        ∙ ap (filtered len t x) e

    -- the line is the standard's
    here : (k : ℕ) → Within R k → piece_line d S p i after k ≡ filtered len t x k
    here k v =
        by_cases (dec-within n k) (within k)
        (λ o. ap (λ l. get_or l (sample_at d S p i k) 0) line-is
        ∙ put-outside sample-step (span (filtered len t x) (8 - n) (2 * n)) (q i - n * sample-step) s (sample_at d S p i k)
        (λ m b e.
        let c : m < 2 * n = omega (arith, length-span (filtered len t x) (8 - n) (2 * n)) in
        let f = one_place i k i (8 - n + m) hi hi v (stored m c) (e ∙ store_at m) in
        o (record { from = omega (arith, f.1, few, (sizes w).seven-read); to = omega (arith, f.1, few, (sizes w).seven-read) }))
        ∙ sym (same k v)
        ∙ sym (line-laws.stored w t x k o))

  -- ---- the lines one after another

  module _ (s : List ℕ) (long : length s ≡ size) where
    abbrev line : ℕ → List ℕ → List ℕ
    line i = line_at sample-step (rule len t) (ix d S (4 * p.1) (4 * p.0) + i * line_step d S)

    keeps : (n : ℕ) → length (up_to line n s) ≡ length s
    unfolding line_at changed
    keeps zero = refl
    keeps (suc n) = put_keeps sample-step _ _ (up_to line n s) ∙ keeps n

    -- after n lines
    record Done (n : ℕ) (l : List ℕ) : Type 0 where
      pub lines : (i k : ℕ) → i < n → Within R k → piece_line d S p i l k ≡ filtered len t (piece_line d S p i s) k
      pub others : (j : ℕ) → ((i k : ℕ) → i < n → Within R k → ¬ (j ≡ sample_at d S p i k)) → get_or l j 0 ≡ get_or s j 0

    next : (n : ℕ) (l : List ℕ) → n < 4 → length l ≡ size → Done n l → Done (suc n) (line_at sample-step (rule len t) (q n) l)
    next n l h e f =
        record {
          lines = λ i k b v. by_cases (ℕ_discrete i n) (λ z. rw z (here n h l e x same k v))
              (λ z. away n h l e x same (sample_at d S p i k) (λ m u g. z (one_place i k n m (omega arith) h v u g).0) ∙ f.lines i k (omega arith) v);
          others = λ j o. away n h l e x same j (λ k v. o n k (omega arith) v) ∙ f.others j (λ i k b v. o i k (omega arith) v);
        }
      where
        x : ℕ → ℕ
        x = piece_line d S p n s

        same : (k : ℕ) → Within (reads len) k → piece_line d S p n s k ≡ piece_line d S p n l k
        same k v = sym (f.others (sample_at d S p n k) (λ i m b u g. let z = one_place n k i m h (omega arith) v u g in omega (arith, z.0)))

    lines-done : (n : ℕ) → n ≤ 4 → Done n (up_to line n s)
    lines-done zero h = record { lines = λ i k b v. absurd (omega arith); others = λ j o. refl }
    lines-done (suc n) h =
        rw (ix-line d S (4 * p.1) (4 * p.0) n) (next n (up_to line n s) h (keeps n ∙ long) (lines-done n (omega arith)))

    pub piece-standard : Standard d S len t p s (piece_at (line_step d S) sample-step (rule len t) (ix d S (4 * p.1) (4 * p.0)) s)
    unfolding piece_at
    piece-standard =
        let f = lines-done 4 (omega arith) in record { lines = λ i k b v. f.lines i k b v; others = f.others; long = keeps 4 }
