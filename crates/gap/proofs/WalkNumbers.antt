-- What the walk answers is numbers 11 and 12: bit q of its words is bit q % 16 of half q / 16, so each line of the row is one live bit, and a set bit
-- that does not fit is one that is not live.
use mathlib.Core.Path.{◌≡◌, refl, sym, ap, ap₂, ◌∙◌}
use mathlib.Core.Bool.{Bool, true, false, not, ◌&&◌, ◌||◌, cond, or-false, or_assoc}
use mathlib.Core.List.{List}
use mathlib.Core.Logic.{by_cases}
use mathlib.Core.Option.{Option, some, none}
use Prim.Native.Nat.{ℕ, ◌+◌, ◌-◌, ◌*◌, ◌/◌, ◌%◌, ◌^◌, ◌≤◌, ◌<◌, min}
use native.Mathlib.Nat.{add-mul, mul-le-mul_right}
use native.Mathlib.Decide.{dec_lt}
use native.Mathlib.Omega.{arith}
use lib.Bits.{bit_or}
use lib.Dec.{ltb}
use borrow.Author.Tests.{lt-ltb, le-ltb, ltb-true}
use Rattle.loops.specs.Any.{any_below}
use Rattle.loops.proofs.Anys.{any_same, any-nil}
use Rattle.loops.proofs.Bools.{both_true}
use Rattle.bits.specs.Bit.{has_bit}
use Rattle.bits.specs.Mark.{is_set}
use Rattle.bits.proofs.Bits.{has_bit-or, has_bit-nil}
use Rattle.plane.specs.Line.{Pass, other}
use Rattle.edges.specs.Edges.{Grid, units_of, side, half, classes, edge_bit, highest, Proper}
use Rattle.gap.specs.declared.Both.{Both}
use Rattle.gap.specs.declared.track.Track.{Track}
use Rattle.gap.specs.Line.{line_broken}
use Rattle.gap.specs.Lines.{bit_of, line_bit, line_word}
use Rattle.gap.specs.Numbers.{half_bit, fits, bad_half}
use Rattle.gap.specs.Track.{cut, track, Answers}
use Rattle.gap.proofs.Answers.{answer-gap, answer-out}
use Rattle.gap.proofs.Masks.{along, edge-bit, fits_in, fits_out}
use Rattle.gap.proofs.LineBits.{iff, line-in, line-out, line-lt, has-line, bit_of-half, bit_of-bit, bit_of-lt, any-lines, any-halves, any-first}
use Rattle.gap.proofs.LinesAtOnce.{line_of}

-- ---- the classes of a plane: three, or two

module _ (s : ℕ → Bool) where
  -- class c is set, and there is one
  abbrev in-plane : Bool → ℕ → Bool
  in-plane luma c = ltb c (cond luma 3 2) && s c

  three-classes : (luma : Bool) → highest 3 (in-plane luma) ≡ highest (cond luma 3 2) s
  three-classes true = refl
  three-classes false = refl

  some-class : (luma : Bool) → (in-plane luma 0 || (in-plane luma 1 || in-plane luma 2)) ≡ any_below (cond luma 3 2) s
  unfolding any_below
  some-class true = sym (or_assoc (s 0) (s 1) (s 2))
  some-class false = ap (λ (x : Bool). s 0 || x) (or-false (s 1))

any-if : (n : ℕ) (b : Bool) (f : ℕ → Bool) → any_below n (λ i. b && f i) ≡ (b && any_below n f)
any-if n true f = refl
any-if n false f = any-nil n

-- ---- lines of units across the pass d, in `halves` halves from half J on: unit u stands at place U u of the plane, n of `end` lie in the frame

module _ (G : Grid) (p : Proper G) (ms : List ℕ) (d : Pass) (J halves : ℕ) (words : ℕ → ℕ → ℕ) (U : ℕ → ℕ) (n end : ℕ) (two : halves ≤ 2)
    (ends : n ≤ end)
    (reads : (u c q : ℕ) → u < end → c < 3 → q < 32
    → has_bit (words u c) q ≡ (ltb c (classes G) && (ltb (q / 16) halves && is_set ms (half_bit G d (U u) c (J + q / 16) (q % 16))))) where
  abbrev set : ℕ → ℕ → ℕ → Bool
  set u q c = ltb (q / 16) halves && is_set ms (half_bit G d (U u) c (J + q / 16) (q % 16))

  line_made : (q u : ℕ) → q < 32 → line_of (cut words n) q u ≡ cond (ltb u n) (highest (classes G) (set u q)) none
  unfolding line_of cut
  line_made q u lq =
      by_cases (dec_lt u n)
      (λ h.
      let r : (c : ℕ) → c < 3 → has_bit (words u c) q ≡ in-plane (set u q) G.luma c = λ c lc. reads u c q (omega arith) lc lq in
      rw (lt-ltb u n h)
      ((λ t. cond (r 2 (omega arith) t) (some 2) (cond (r 1 (omega arith) t) (some 1) (cond (r 0 (omega arith) t) (some 0) none)))
      ∙ three-classes (set u q) G.luma))
      (λ h.
      let z = has_bit-nil q in
      rw (le-ltb u n (omega arith)) (λ t. cond (z t) (some 2) (cond (z t) (some 1) (cond (z t) (some 0) none))))

  every_made : (q u : ℕ) → u < end → q < 32 → has_bit (bit_or (words u 0) (bit_or (words u 1) (words u 2))) q ≡ any_below (classes G) (set u q)
  every_made q u i lq =
      has_bit-or (words u 0) (bit_or (words u 1) (words u 2)) q
      ∙ ap₂ ◌||◌ (reads u 0 q i (omega arith) lq)
      (has_bit-or (words u 1) (words u 2) q ∙ ap₂ ◌||◌ (reads u 1 q i (omega arith) lq) (reads u 2 q i (omega arith) lq))
      ∙ some-class (set u q) G.luma

  abbrev h : ℕ
  h = half G d

  -- the lines start at place `first`, and `live` has the m of them in the frame
  module _ (t : Track) (live first m : ℕ) (r : Both) (et : t ≡ track words n end) (el : live ≡ line_word h m) (ans : Answers t live r)
      (ev : J * h ≡ first) (em : m ≡ min (halves * h) (units_of G (other d) - first)) where
    m-le : m ≤ 2 * h
    m-le = omega (arith, mul-le-mul_right h two)

    live-lt : live < 2 ^ 32
    live-lt = rw el (line-lt h m (along G p d).most m-le)

    live-bit : (q : ℕ) → q < 32 → has_bit live q ≡ line_bit h m q
    live-bit q l = ap (λ (x : ℕ). has_bit x q) el ∙ has-line h m (along G p d).most m-le q l

    -- ---- number 11

    line-bit : (y u c : ℕ) → y < m → set u (bit_of h y) c ≡ is_set ms (edge_bit G d (U u, first + y) c)
    line-bit y u c i =
        let k = along G p d in
        let a = bit_of-half h (side G (other d)) k y in
        let b = bit_of-bit h (side G (other d)) k y in
        ap₂ (λ (x : Bool) (v : ℕ). x && is_set ms v) (ap (λ (v : ℕ). ltb v halves) a ∙ lt-ltb (y / h) halves (k.half_of halves y (omega arith)))
        ((λ i. half_bit G d (U u) c (J + a i) (b i))
        ∙ sym (edge-bit G p d (U u) c (J + y / h) (y % h) (k.bit-of y))
        ∙ ap (λ (v : ℕ). edge_bit G d (U u, v) c) (omega (arith, add-mul J (y / h) h, k.again y)))

    pub lines-gap : (line : ℕ → ℕ → Option ℕ)
        → ((y u : ℕ) → y < m → cond (ltb u n) (highest (classes G) (λ c. is_set ms (edge_bit G d (U u, first + y) c))) none ≡ line y u)
        → r.gap ≡ any_below m (λ i. line_broken (line i) end)
    lines-gap line same =
        let k = along G p d in
        ans.eleven
        ∙ answer-gap words n end t et live live-lt ends
        ∙ any_same 32 _ _ (λ q lq. ap (λ (b : Bool). b && line_broken (line_of (cut words n) q) end) (live-bit q lq))
        ∙ any-lines h (side G (other d)) k m (λ q. line_broken (line_of (cut words n) q) end) m-le
        ∙ any_same m _ _ (λ i li. (λ t. line_broken (λ u. whole i li u t) end))
      where
        whole : (y : ℕ) → y < m → (u : ℕ) → line_of (cut words n) (bit_of h y) u ≡ line y u
        whole y l u =
            line_made (bit_of h y) u (bit_of-lt h (side G (other d)) (along G p d) y (omega (arith, m-le)))
            ∙ (λ t. cond (ltb u n) (highest (classes G) (λ c. line-bit y u c l t)) none)
            ∙ same y u l

    -- ---- number 12

    abbrev every : ℕ → ℕ → Bool
    every u q = has_bit (bit_or (words u 0) (bit_or (words u 1) (words u 2))) q

    -- a bit of half k is set, and does not fit
    abbrev bad : ℕ → ℕ → ℕ → Bool
    bad u k b = any_below (classes G) (λ c. is_set ms (half_bit G d (U u) c (J + k) b)) && not (fits G d (U u) (J + k) b)

    module _ (eu : (u : ℕ) → u < end → ltb u n ≡ ltb (U u) (units_of G d)) where
      live-fits : (u k b : ℕ) → u < end → k < halves → b < 16 → (ltb u n && has_bit live (16 * k + b)) ≡ fits G d (U u) (J + k) b
      live-fits u k b lu lk lb =
          ap₂ ◌&&◌ (eu u lu) (live-bit (16 * k + b) (omega arith))
          ∙ iff (ltb (U u) (units_of G d) && line_bit h m (16 * k + b)) (fits G d (U u) (J + k) b)
          (λ y.
          let z = both_true (ltb (U u) (units_of G d)) (line_bit h m (16 * k + b)) y in
          let w = line-out h m (16 * k + b) z.1 in
          fits_in G d (U u) (J + k) b (omega arith) (ltb-true (U u) (units_of G d) z.0) (omega (arith, same, add-mul J k h)))
          (λ y.
          let z = fits_out G d (U u) (J + k) b y in
          ap₂ ◌&&◌ (lt-ltb (U u) (units_of G d) z.1)
          (line-in h m (16 * k + b) (omega arith) (omega (arith, same, add-mul J k h, mul-le-mul_right h lk, add-mul k 1 h))))
        where
          same : (16 * k + b) / 16 * h + (16 * k + b) % 16 ≡ k * h + b
          same = let x : (16 * k + b) / 16 ≡ k = omega arith in ap (λ (v : ℕ). v * h + (16 * k + b) % 16) x ∙ omega arith

      one_bit : (u k b : ℕ) → u < end → k < 2 → b < 16 → (every u (16 * k + b) && not (ltb u n && has_bit live (16 * k + b))) ≡ (ltb k halves && bad u k b)
      one_bit u k b lu lk lb = by_cases (dec_lt k halves) own other_half
        where
          made : every u (16 * k + b) ≡ any_below (classes G) (λ c. ltb k halves && is_set ms (half_bit G d (U u) c (J + k) b))
          made =
              let x : (16 * k + b) / 16 ≡ k = omega arith in
              let y : (16 * k + b) % 16 ≡ b = omega arith in
              every_made (16 * k + b) u lu (omega arith)
              ∙ (λ t. any_below (classes G) (λ c. ltb (x t) halves && is_set ms (half_bit G d (U u) c (J + x t) (y t))))

          own : k < halves → (every u (16 * k + b) && not (ltb u n && has_bit live (16 * k + b))) ≡ (ltb k halves && bad u k b)
          own l = rw (made, live-fits u k b lu l lb, lt-ltb k halves l) refl

          other_half : ¬ (k < halves) → (every u (16 * k + b) && not (ltb u n && has_bit live (16 * k + b))) ≡ (ltb k halves && bad u k b)
          other_half l = rw (made, le-ltb k halves (omega arith), any-nil (classes G)) refl

      pub halves-out : r.out ≡ any_below end (λ u. any_below halves (λ k. bad_half G ms d (U u) (J + k)))
      unfolding bad_half
      halves-out =
          ans.twelve
          ∙ answer-out words n end t et live live-lt ans.word
          ∙ any_same end _ _
          (λ u lu. any-halves (λ q. every u q && not (ltb u n && has_bit live q))
          ∙ any_same 2 _ _ (λ k lk. any_same 16 _ _ (λ b lb. one_bit u k b lu lk lb) ∙ any-if 16 (ltb k halves) (bad u k))
          ∙ any-first halves 2 (λ k. bad_half G ms d (U u) (J + k)) two)
