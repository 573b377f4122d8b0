-- The words of units where they are stored, in luma and in chroma.
use mathlib.Core.Path.{◌≡◌, refl, ◌∙◌}
use mathlib.Core.Bool.{Bool, true, false, cond}
use mathlib.Core.List.{List}
use Prim.Native.Nat.{ℕ, ◌+◌, ◌*◌, ◌≤◌, ◌<◌}
use native.Mathlib.Omega.{arith}
use borrow.Author.Tests.{lt-ltb, le-ltb}
use Rattle.units.specs.Masks.{unit_words}
use Rattle.gap.specs.Track.{word_at, class_word}

-- ---- places

-- unit j of m
pub unit-in : (luma : Bool) (at j m len : ℕ) → j < m → at + unit_words luma * m ≤ len → at + unit_words luma * j + unit_words luma ≤ len
unit-in true at j m len l h = omega arith
unit-in false at j m len l h = omega arith

pub few-units : (luma : Bool) (n : ℕ) → n ≤ unit_words luma * n
few-units true n = omega arith
few-units false n = omega arith

pub fewer-units : (luma : Bool) (at n m len : ℕ) → n ≤ m → at + unit_words luma * m ≤ len → at + unit_words luma * n ≤ len
fewer-units true at n m len l h = omega arith
fewer-units false at n m len l h = omega arith

-- the words of its classes
pub class-in : (luma : Bool) (c : ℕ) → c < cond luma 3 2 → 2 * c + 1 < unit_words luma
class-in true c h = omega arith
class-in false c h = omega arith

pub last-in : (luma : Bool) (c : ℕ) → c < 3 → 2 * c ≤ unit_words luma
last-in true c h = omega arith
last-in false c h = omega arith

pub some-class : (luma : Bool) (c : ℕ) → luma ≡ true → c < 3 → c < cond luma 3 2
some-class luma c e h = rw e h

pub few-classes : (luma : Bool) (c : ℕ) → c < 2 → c < cond luma 3 2
few-classes true c h = omega arith
few-classes false c h = h

-- ---- words

module _ (ms : List ℕ) (luma : Bool) (halves at i c : ℕ) where
  pub class-word : (w r : ℕ) → w ≡ unit_words luma → c < cond luma 3 2 → r ≡ word_at ms halves (at + w * i + 2 * c) → r ≡ class_word ms luma halves at i c
  unfolding class_word
  class-word w r e h q = rw (lt-ltb c (cond luma 3 2) h) (q ∙ (λ j. word_at ms halves (at + e j * i + 2 * c)))

  pub no-class : luma ≡ false → 2 ≤ c → 0 ≡ class_word ms luma halves at i c
  unfolding class_word
  no-class e h = rw (e, le-ltb c 2 h) refl
