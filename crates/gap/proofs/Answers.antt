-- What the two words of the walk's end say, as tests over units and bits: or of words is some unit, a word that is not 0 some bit.
use mathlib.Core.Path.{◌≡◌, refl, sym, ap, ap₂, ◌∙◌}
use mathlib.Core.Bool.{Bool, true, false, not, ◌&&◌, ◌||◌, cond, and-false}
use Prim.Native.Nat.{ℕ, zero, suc, ◌-◌, ◌^◌, ◌≤◌, ◌<◌}
use native.Mathlib.Omega.{arith}
use lib.Bits.{bit_and, bit_or, and_le_r, or_lt}
use lib.Dec.{eqb, ltb}
use Rattle.loops.specs.Any.{any_below}
use Rattle.loops.proofs.Anys.{any-nil, any_same, any-or, any_swap}
use Rattle.bits.specs.Bit.{bit, has_bit}
use Rattle.bits.proofs.Bits.{bit_le, bit_not, has_bit-0, has_bit-1, has_bit-or, has_bit-and, has_bit-nil}
use Rattle.bits.proofs.Words.{word_some, has-or_below}
use Rattle.gap.specs.declared.track.Track.{Track}
use Rattle.gap.specs.Line.{line_broken}
use Rattle.gap.specs.Track.{close_t, cut, past, track}
use Rattle.gap.proofs.LinesAtOnce.{line_of, gap-words}
use Rattle.gap.proofs.Walks.{track-bad, track-all, track-past}

any-and : (n : ℕ) (f : ℕ → Bool) (b : Bool) → any_below n (λ u. f u && b) ≡ (any_below n f && b)
any-and n f true = any_same n _ f (λ u _. keep (f u)) ∙ sym (keep (any_below n f))
  where
    keep : (x : Bool) → (x && true) ≡ x
    keep true = refl
    keep false = refl
any-and n f false = any_same n _ (λ u. false) (λ u _. and-false (f u)) ∙ any-nil n ∙ sym (and-false (any_below n f))

has-not : (a q : ℕ) → a < 2 ^ 32 → q < 32 → has_bit ((2 ^ 32 - 1) - a) q ≡ not (has_bit a q)
has-not a q h l = go (bit a q) refl
  where
    go : (x : ℕ) → bit a q ≡ x → has_bit ((2 ^ 32 - 1) - a) q ≡ not (has_bit a q)
    go zero e = has_bit-1 _ q (omega (arith, bit_not 32 a q h l)) ∙ ap not (sym (has_bit-0 a q e))
    go (suc x) e =
        let o : bit a q ≡ 1 = omega (arith, bit_le a q) in
        has_bit-0 ((2 ^ 32 - 1) - a) q (omega (arith, bit_not 32 a q h l)) ∙ ap not (sym (has_bit-1 a q o))

module _ (words : ℕ → ℕ → ℕ) (n end : ℕ) (t : Track) (e : t ≡ track words n end) (live : ℕ) (hl : live < 2 ^ 32) where
  pub answer-gap : n ≤ end → not (eqb (bit_and live (close_t t)) 0) ≡ any_below 32 (λ q. has_bit live q && line_broken (line_of (cut words n) q) end)
  answer-gap h = gap-words live (close_t t) (cut words n) end hl (ap close_t e ∙ track-bad words n end h)

  -- the words of all classes at a unit
  abbrev every : ℕ → ℕ
  every u = bit_or (words u 0) (bit_or (words u 1) (words u 2))

  edges-bit : (q u : ℕ) → has_bit (bit_or (cut words n 0 u) (bit_or (cut words n 1 u) (cut words n 2 u))) q ≡ (ltb u n && has_bit (every u) q)
  unfolding cut
  edges-bit q u = go (ltb u n)
    where
      go : (b : Bool) → has_bit (bit_or (cond b (words u 0) 0) (bit_or (cond b (words u 1) 0) (cond b (words u 2) 0))) q ≡ (b && has_bit (every u) q)
      go true = refl
      go false = has_bit-nil q

  past-bit : (q u : ℕ) → has_bit (past words n u) q ≡ (not (ltb u n) && has_bit (every u) q)
  unfolding past
  past-bit q u = go (ltb u n)
    where
      go : (b : Bool) → has_bit (cond b 0 (every u)) q ≡ (not b && has_bit (every u) q)
      go true = has_bit-nil q
      go false = refl

  one_bit : (i s l : Bool) → (((i && s) && not l) || (not i && s)) ≡ (s && not (i && l))
  one_bit true true true = refl
  one_bit true true false = refl
  one_bit true false l = refl
  one_bit false true l = refl
  one_bit false false l = refl

  pub answer-out : t.past < 2 ^ 32 → not (eqb (bit_or (bit_and t.all ((2 ^ 32 - 1) - live)) t.past) 0)
      ≡ any_below end (λ u. any_below 32 (λ q. has_bit (every u) q && not (ltb u n && has_bit live q)))
  answer-out hp =
      word_some 32 (bit_or (bit_and t.all off) t.past) (or_lt 32 (bit_and t.all off) t.past (omega (arith, and_le_r t.all off)) hp)
      ∙ any_same 32 _ (λ q. any_below end (λ u. has_bit (every u) q && not (ltb u n && has_bit live q))) bits
      ∙ any_swap 32 end (λ q u. has_bit (every u) q && not (ltb u n && has_bit live q))
    where
      off : ℕ
      off = (2 ^ 32 - 1) - live

      all-bit : (q : ℕ) → q < 32 → has_bit (bit_and t.all off) q ≡ any_below end (λ u. (ltb u n && has_bit (every u) q) && not (has_bit live q))
      all-bit q l =
          has_bit-and t.all off q
          ∙ ap₂ ◌&&◌
          (ap (λ (s : Track). has_bit s.all q) e
          ∙ ap (λ (x : ℕ). has_bit x q) (track-all words n end)
          ∙ has-or_below end _ q
          ∙ any_same end _ _ (λ u _. edges-bit q u))
          (has-not live q hl l)
          ∙ sym (any-and end (λ u. ltb u n && has_bit (every u) q) (not (has_bit live q)))

      past-bits : (q : ℕ) → has_bit t.past q ≡ any_below end (λ u. not (ltb u n) && has_bit (every u) q)
      past-bits q =
          ap (λ (s : Track). has_bit s.past q) e
          ∙ ap (λ (x : ℕ). has_bit x q) (track-past words n end)
          ∙ has-or_below end (past words n) q
          ∙ any_same end _ _ (λ u _. past-bit q u)

      bits : (q : ℕ) → q < 32 → has_bit (bit_or (bit_and t.all off) t.past) q
          ≡ any_below end (λ u. has_bit (every u) q && not (ltb u n && has_bit live q))
      bits q l =
          has_bit-or (bit_and t.all off) t.past q
          ∙ ap₂ ◌||◌ (all-bit q l) (past-bits q)
          ∙ sym (any-or end _ _)
          ∙ any_same end _ _ (λ u _. one_bit (ltb u n) (has_bit (every u) q) (has_bit live q))
