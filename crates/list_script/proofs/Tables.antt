-- The least number that passes a test, as a loop finds it; and the tables of names, at each code, where they compute.
use mathlib.Core.Bool.{Bool, true, false, not}
use mathlib.Core.List.{List, [], ◌∷◌}
use mathlib.Core.Logic.{by_cases}
use mathlib.Core.Path.{◌≡◌, refl, sym, ◌∙◌}
use Prim.Native.Nat.{ℕ, zero, suc, ◌+◌, ◌<◌}
use native.Mathlib.Decide.{ℕ_discrete, dec_lt}
use native.Mathlib.Numerals.{add-one}
use native.Mathlib.Omega.{arith}
use borrow.Author.Tests.{lt-ltb, le-ltb}
use lib.Dec.{eqb}
use Rattle.std.proofs.lemmas.Bool.{not-false}
use Rattle.std.specs.List.{position_or_len}
use Rattle.std.proofs.lemmas.List.Sums.{fails_before_first, prefix_len_stops, prefix_len-le-length}
use lib.ListN.{length, get_or}
use Rattle.loops.proofs.Tables.{each_at}
use Rattle.standard.specs.Sizes.{Num_4x4_Blocks_Wide, Num_4x4_Blocks_High, Tx_Wide, Tx_High}
use Rattle.list_decimal.specs.Decimal.{decimal}
use Rattle.list_fields.specs.Word.{packed}
use Rattle.list_script.specs.Names.{first, block_name, tx_name}

pub first-none : (f : ℕ → Bool) → first 0 f ≡ 0
unfolding first
first-none f = refl

pub first_on : (n : ℕ) (f : ℕ → Bool) → first n f ≡ n → f n ≡ false → first (n + 1) f ≡ n + 1
unfolding first
first_on n f p q = rw add-one (simp (p, le-ltb n n (omega arith), q))

pub first-hit : (m : ℕ) (f : ℕ → Bool) (c : ℕ) → first c f ≡ c → f c ≡ true → c < m → first m f ≡ c
unfolding first
first-hit zero f c p q h = absurd (omega arith)
first-hit (suc m) f c p q h =
    by_cases (ℕ_discrete c m)
    (λ e. rw (← e) (simp (p, le-ltb c c (omega arith), q)))
    (λ g. let i : first m f ≡ c = first-hit m f c p q (omega arith) in simp (i, lt-ltb c m (omega arith)))

pub first-all : (n : ℕ) (f : ℕ → Bool) → ((k : ℕ) → k < n → f k ≡ false) → first n f ≡ n
first-all zero f h = first-none f
first-all (suc n) f h = rw (← add-one n) (first_on n f (first-all n f (λ k l. h k (omega arith))) (h n (omega arith)))

pub first-same : (n : ℕ) (f g : ℕ → Bool) → ((k : ℕ) → k < n → f k ≡ g k) → first n f ≡ first n g
unfolding first
first-same zero f g h = refl
first-same (suc n) f g h = rw (first-same n f g (λ k l. h k (omega arith)), h n (omega arith)) refl

-- where a name stands first in a table is the least number that has it
pub first-position : (names : List ℕ) (w : ℕ) → first (length names) (λ c. eqb (get_or names c 0) w) ≡ position_or_len (λ n. eqb n w) names
first-position names w =
    let p = position_or_len (λ n. eqb n w) names in
    let f = λ (c : ℕ). eqb (get_or names c 0) w in
    by_cases (dec_lt p (length names))
    (λ l. first-hit (length names) f p (first-all p f (λ k m. fails_before_first (λ n. eqb n w) names k 0 m)) (not-false (f p) (prefix_len_stops (λ x. not (eqb x w)) names 0 l)) l)
    (λ l.
    let e : p ≡ length names = omega (arith, prefix_len-le-length (λ x. not (eqb x w)) names) in
    first-all (length names) f (λ k m. fails_before_first (λ n. eqb n w) names k 0 (omega arith)) ∙ sym e)

abbrev pub blocks : List ℕ
blocks =
    20215860 ∷ 20215864 ∷ 20478004 ∷ 20478008 ∷ 5242368310 ∷ 5120620600 ∷ 1310878871862 ∷ 1310878872370 ∷ 1319401697590 ∷ 1319401698098 ∷
    1319401698868 ∷ 1332320154418 ∷ 1332320155188 ∷ 341073959399992 ∷ 335566742238772 ∷ 85905086012797496 ∷ 5175259446 ∷ 5120620596 ∷ 5242368818 ∷
    5153912888 ∷ 1310878873140 ∷ 1332320153910 ∷ []

abbrev pub transforms : List ℕ
transforms =
    20215860 ∷ 20478008 ∷ 1310878871862 ∷ 1319401698098 ∷ 1332320155188 ∷ 20215864 ∷ 20478004 ∷ 5242368310 ∷ 5120620600 ∷ 1310878872370 ∷
    1319401697590 ∷ 1319401698868 ∷ 1332320154418 ∷ 5175259446 ∷ 5120620596 ∷ 5242368818 ∷ 5153912888 ∷ 1310878873140 ∷ 1332320153910 ∷ []

pub block-named : (c : ℕ) → c < 22 → get_or blocks c 0 ≡ packed (block_name c)
unfolding packed decimal block_name Num_4x4_Blocks_Wide Num_4x4_Blocks_High
block-named = each_at 22 (λ c. get_or blocks c 0 ≡ packed (block_name c)) (search arith)

pub tx-named : (c : ℕ) → c < 19 → get_or transforms c 0 ≡ packed (tx_name c)
unfolding packed decimal tx_name Tx_Wide Tx_High
tx-named = each_at 19 (λ c. get_or transforms c 0 ≡ packed (tx_name c)) (search arith)
