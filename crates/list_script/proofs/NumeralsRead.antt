-- What is no numeral is read as no number, and a numeral never.
use Rattle.std.proofs.Common.{arith, Bool, true, false, ◌≡◌, ℕ, List, eqb, refl, sym, ◌∙◌, ◌+◌, ◌<◌, length, get_or}
use borrow.Author.Tests.{eq-eqb, ne_eqb}
use Rattle.std.proofs.lemmas.Grind.{same_number_lists}
use Rattle.loops.specs.Table.{tabulate}
use Rattle.loops.proofs.Tables.{length-tabulate, get_d_tabulate}
use Rattle.list_script.specs.Script.{number_at}
use Rattle.list_decimal.specs.Decimal.{numeral, number_of, no_number}
use Rattle.list_decimal.proofs.Numerals as numerals

pub numeral-none : (f : List ℕ) → numeral f ≡ false → eqb (number_of f) no_number ≡ true
numeral-none f e = eq-eqb (number_of f) no_number ((numerals.promises).none f e)

pub numeral-some : (f : List ℕ) → (numeral f ≡ false → ⊥) → eqb (number_of f) no_number ≡ false
numeral-some f n = go (numeral f) refl
  where
    go : (b : Bool) → numeral f ≡ b → eqb (number_of f) no_number ≡ false
    go true e = ne_eqb (number_of f) no_number (λ z. omega (arith, (numerals.promises).small f e))
    go false e = absurd (n e)

pub tabulated : (n : ℕ) (f : ℕ → ℕ) (l : List ℕ) → length l ≡ n → ((j : ℕ) → j < n → get_or l j 0 ≡ f j) → l ≡ tabulate f n
tabulated n f l e h =
    same_number_lists l (tabulate f n) (e ∙ sym (length-tabulate f n))
    (λ k g. let i : k < n = omega arith in h k i ∙ sym (get_d_tabulate f n k i))

pub number-stored : (n k : ℕ) (s l : List ℕ) → l ≡ tabulate (λ j. number_at s (j + 1)) n → k < n → get_or l k 0 ≡ number_at s (k + 1)
number-stored n k s l e h = rw e (get_d_tabulate (λ j. number_at s (j + 1)) n k h)

pub numbers-all : (b : Bool) → (b ≡ true → true ≡ false) → b ≡ false
numbers-all true h = h refl
numbers-all false h = refl
