-- The test of a line on 32 lines at once: `has_bit` goes through or, and, and what held before, so bit q of the words' test is the test of line q.
use mathlib.Core.Path.{◌≡◌, refl, ap, ap₂, ◌∙◌}
use mathlib.Core.Bool.{Bool, true, false, not, ◌&&◌, ◌||◌, cond}
use mathlib.Core.Option.{Option, some, none}
use Prim.Native.Nat.{ℕ, zero, suc, ◌+◌, ◌-◌, ◌^◌, ◌<◌}
use native.Mathlib.Numerals.{add-one}
use native.Mathlib.Omega.{arith}
use lib.Bits.{bit_and, bit_or, and_le_l}
use lib.Dec.{eqb}
use Rattle.loops.specs.Any.{any_below}
use Rattle.loops.proofs.Anys.{any_same}
use Rattle.bits.specs.Bit.{has_bit}
use Rattle.bits.specs.Word.{or_below}
use Rattle.bits.proofs.Bits.{has_bit-or, has_bit-and, has_bit-nil, has_bit-ones}
use Rattle.bits.proofs.Words.{word_some, has-or_below}
use Rattle.edges.specs.Edges.{highest}
use Rattle.gap.specs.Line.{at_least, marked, prev, clashes, clash, line_broken}
use Rattle.gap.specs.Track.{clash_w}

-- ---- words

unfoldable pub prev_w : (ℕ → ℕ) → ℕ → ℕ
prev_w f zero = 0
prev_w f (suc u) = f u

unfoldable pub at_w : (ℕ → ℕ) → (ℕ → ℕ) → (ℕ → ℕ) → ℕ → ℕ
at_w m a b u =
    clash_w (m u) (a u) (b u) (prev_w m u) (prev_w (prev_w m) u) (prev_w (prev_w (prev_w m)) u) (prev_w a u) (prev_w (prev_w b) u) (prev_w (prev_w (prev_w b)) u)

-- all lines where the start or the end is
unfoldable pub bound : ℕ → ℕ → ℕ
bound end u = cond (eqb u 0 || eqb u end) (2 ^ 32 - 1) 0

-- w has the word of each class at each unit
module _ (w : ℕ → ℕ → ℕ) where
  unfoldable pub one_w : ℕ → ℕ
  one_w u = bit_or (w 1 u) (w 2 u)

  unfoldable pub mark_w : ℕ → ℕ → ℕ
  mark_w end u = bit_or (bound end u) (bit_or (w 0 u) (one_w u))

  -- all breaks along the line
  unfoldable pub bad_w : ℕ → ℕ
  bad_w end = or_below (end + 1) (at_w (mark_w end) one_w (w 2))

  -- the line of bit q
  unfoldable pub line_of : ℕ → ℕ → Option ℕ
  line_of q u = highest 3 (λ c. has_bit (w c u) q)

-- ---- bit q of a word expression is the expression of the bits q

has-prev : (f : ℕ → ℕ) (q u : ℕ) → has_bit (prev_w f u) q ≡ prev (λ v. has_bit (f v) q) u
unfolding prev_w prev
has-prev f q zero = has_bit-nil q
has-prev f q (suc u) = refl

has-prev2 : (f : ℕ → ℕ) (q u : ℕ) → has_bit (prev_w (prev_w f) u) q ≡ prev (prev (λ v. has_bit (f v) q)) u
unfolding prev_w prev
has-prev2 f q zero = has_bit-nil q
has-prev2 f q (suc u) = has-prev f q u

has-prev3 : (f : ℕ → ℕ) (q u : ℕ) → has_bit (prev_w (prev_w (prev_w f)) u) q ≡ prev (prev (prev (λ v. has_bit (f v) q))) u
unfolding prev_w prev
has-prev3 f q zero = has_bit-nil q
has-prev3 f q (suc u) = has-prev2 f q u

has-clash : (m a b m1 m2 m3 a1 b2 b3 q : ℕ)
    → has_bit (clash_w m a b m1 m2 m3 a1 b2 b3) q
    ≡ clashes (has_bit m q) (has_bit a q) (has_bit b q) (has_bit m1 q) (has_bit m2 q) (has_bit m3 q) (has_bit a1 q) (has_bit b2 q) (has_bit b3 q)
unfolding clash_w clashes
has-clash m a b m1 m2 m3 a1 b2 b3 q =
    has_bit-or (bit_or (bit_and m (bit_or (bit_or a1 b2) b3)) (bit_and m1 a)) (bit_and (bit_or m2 m3) b) q
    ∙ ap₂ ◌||◌
    (has_bit-or (bit_and m (bit_or (bit_or a1 b2) b3)) (bit_and m1 a) q
    ∙ ap₂ ◌||◌
    (has_bit-and m (bit_or (bit_or a1 b2) b3) q
    ∙ ap (λ (t : Bool). has_bit m q && t) (has_bit-or (bit_or a1 b2) b3 q ∙ ap (λ (t : Bool). t || has_bit b3 q) (has_bit-or a1 b2 q)))
    (has_bit-and m1 a q))
    (has_bit-and (bit_or m2 m3) b q ∙ ap (λ (t : Bool). t && has_bit b q) (has_bit-or m2 m3 q))

has-at : (m a b : ℕ → ℕ) (q u : ℕ) → has_bit (at_w m a b u) q ≡ clash (λ v. has_bit (m v) q) (λ v. has_bit (a v) q) (λ v. has_bit (b v) q) u
unfolding at_w clash
has-at m a b q u =
    has-clash _ _ _ _ _ _ _ _ _ q
    ∙ (λ i. clashes (has_bit (m u) q) (has_bit (a u) q) (has_bit (b u) q) (has-prev m q u i) (has-prev2 m q u i) (has-prev3 m q u i) (has-prev a q u i)
    (has-prev2 b q u i) (has-prev3 b q u i))

has-bound : (end u q : ℕ) → q < 32 → has_bit (bound end u) q ≡ (eqb u 0 || eqb u end)
unfolding bound
has-bound end u q h = go (eqb u 0 || eqb u end)
  where
    go : (b : Bool) → has_bit (cond b (2 ^ 32 - 1) 0) q ≡ b
    go true = has_bit-ones 32 q h
    go false = has_bit-nil q

-- ---- the edge that the bits of three classes make

abbrev edge_of : Bool → Bool → Bool → Option ℕ
edge_of x y z = cond z (some 2) (cond y (some 1) (cond x (some 0) none))

edge-2 : (x y z : Bool) → z ≡ at_least 2 (edge_of x y z)
unfolding at_least
edge-2 x y true = refl
edge-2 x true false = refl
edge-2 true false false = refl
edge-2 false false false = refl

edge-1 : (x y z : Bool) → (y || z) ≡ at_least 1 (edge_of x y z)
unfolding at_least
edge-1 x true true = refl
edge-1 x false true = refl
edge-1 x true false = refl
edge-1 true false false = refl
edge-1 false false false = refl

edge-0 : (x y z : Bool) → (x || (y || z)) ≡ at_least 0 (edge_of x y z)
unfolding at_least
edge-0 true y true = refl
edge-0 false true true = refl
edge-0 false false true = refl
edge-0 true true false = refl
edge-0 false true false = refl
edge-0 true false false = refl
edge-0 false false false = refl

-- ---- one line

module _ (w : ℕ → ℕ → ℕ) (end q : ℕ) (h : q < 32) where
  abbrev b : ℕ → ℕ → Bool
  b c u = has_bit (w c u) q

  has-two : (u : ℕ) → has_bit (w 2 u) q ≡ at_least 2 (line_of w q u)
  unfolding line_of
  has-two u = edge-2 (b 0 u) (b 1 u) (b 2 u)

  has_one : (u : ℕ) → has_bit (one_w w u) q ≡ at_least 1 (line_of w q u)
  unfolding line_of one_w
  has_one u = has_bit-or (w 1 u) (w 2 u) q ∙ edge-1 (b 0 u) (b 1 u) (b 2 u)

  has-mark : (u : ℕ) → has_bit (mark_w w end u) q ≡ marked (line_of w q) end u
  unfolding line_of mark_w one_w marked
  has-mark u =
      has_bit-or (bound end u) (bit_or (w 0 u) (bit_or (w 1 u) (w 2 u))) q
      ∙ ap₂ ◌||◌ (has-bound end u q h)
      (has_bit-or (w 0 u) (bit_or (w 1 u) (w 2 u)) q ∙ ap (λ (t : Bool). b 0 u || t) (has_bit-or (w 1 u) (w 2 u) q) ∙ edge-0 (b 0 u) (b 1 u) (b 2 u))

  slice : has_bit (bad_w w end) q ≡ line_broken (line_of w q) end
  unfolding bad_w line_broken
  slice =
      ap (λ (k : ℕ). has_bit (or_below k (at_w (mark_w w end) (one_w w) (w 2))) q) (add-one end)
      ∙ has-or_below (suc end) (at_w (mark_w w end) (one_w w) (w 2)) q
      ∙ any_same (suc end) _ _
      (λ u _. has-at (mark_w w end) (one_w w) (w 2) q u ∙ (λ i. clash (λ v. has-mark v i) (λ v. has_one v i) (λ v. has-two v i) u))

-- ---- the word of all breaks, cut to the lines looked at

pub gap-words : (live bad : ℕ) (w : ℕ → ℕ → ℕ) (end : ℕ) → live < 2 ^ 32 → bad ≡ bad_w w end
    → not (eqb (bit_and live bad) 0) ≡ any_below 32 (λ q. has_bit live q && line_broken (line_of w q) end)
gap-words live bad w end h e =
    word_some 32 (bit_and live bad) (omega (arith, and_le_l live bad))
    ∙ any_same 32 _ _
    (λ q l. has_bit-and live bad q ∙ ap (λ (t : Bool). has_bit live q && t) (ap (λ (x : ℕ). has_bit x q) e ∙ slice w end q l))
