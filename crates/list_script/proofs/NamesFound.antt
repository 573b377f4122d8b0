-- A word has the code that its name has: names differ, and two words of one number are one word.
-- ---- the least number
use mathlib.Core.Bool.{Bool, true, false, false≢true}
use mathlib.Core.List.{List, [], ◌∷◌}
use mathlib.Core.Logic.{◌⊎◌, inl, inr, ⊎_elim, by_cases}
use mathlib.Core.Path.{◌≡◌, refl, sym, ap, subst, ◌∙◌}
use Prim.Native.Nat.{ℕ, zero, suc, ◌≤◌, ◌<◌}
use native.Mathlib.Decide.{ℕ_discrete}
use native.Mathlib.Omega.{arith}
use borrow.Author.Tests.{lt-ltb, le-ltb, eq-eqb, ne_eqb, eqb-true}
use lib.Dec.{eqb}
use lib.ListN.{length}
use Rattle.loops.specs.Run.{All}
use Rattle.loops.proofs.Tables.{each_at}
use Rattle.standard.specs.Sizes.{Num_4x4_Blocks_Wide, Num_4x4_Blocks_High, Tx_Wide, Tx_High}
use Rattle.list_decimal.specs.Decimal.{decimal}
use Rattle.list_fields.specs.Word.{packed, Bytes}
use Rattle.list_fields.proofs.Words.{same}
use Rattle.list_script.specs.Names.{first, block_name, tx_name, block_in, tx_in}
use Rattle.list_script.specs.Promises.{Names, named, nameless}
use Rattle.list_script.proofs.Tables.{first-none, first-hit, first-all}

step-hit : (n : ℕ) (f : ℕ → Bool) → first n f ≡ n → f n ≡ true → first (suc n) f ≡ n
unfolding first
step-hit n f e p = simp (e, le-ltb n n (omega arith), p)

step-on : (n : ℕ) (f : ℕ → Bool) → first n f ≡ n → f n ≡ false → first (suc n) f ≡ suc n
unfolding first
step-on n f e p = simp (e, le-ltb n n (omega arith), p)

step-keep : (n : ℕ) (f : ℕ → Bool) → first n f < n → first (suc n) f ≡ first n f
unfolding first
step-keep n f l = simp (lt-ltb (first n f) n l)

abbrev Found : ℕ → (ℕ → Bool) → Type 0
Found n f = ((first n f ≡ n) × ((k : ℕ) → k < n → f k ≡ false)) ⊎ ((first n f < n) × (f (first n f) ≡ true))

found-step : (n : ℕ) (f : ℕ → Bool) (b : Bool) → f n ≡ b → Found n f → Found (suc n) f
found-step n f true p (inl q) =
    let z = step-hit n f q.0 p in
    inr (omega arith, ap f z ∙ p)
found-step n f false p (inl q) =
    inl (step-on n f q.0 p, λ k l. by_cases (ℕ_discrete k n) (λ e. ap f e ∙ p) (λ e. q.1 k (omega arith)))
found-step n f b p (inr q) =
    let z = step-keep n f q.0 in
    let l = q.0 in
    inr (omega arith, ap f z ∙ q.1)

found : (n : ℕ) (f : ℕ → Bool) → Found n f
found zero f = inl (first-none f, λ k l. absurd (omega arith))
found (suc n) f = found-step n f (f n) refl (found n f)

-- ---- names

pub bytes_of : (s : List ℕ) → All (λ b. b < 256) s → Bytes s
bytes_of [] h i = omega arith
bytes_of (b ∷ s) h zero = h.0
bytes_of (b ∷ s) h (suc i) = bytes_of s h.1 i

-- a list of names of at most 7 bytes, of which none is another's
pub record Good (n : ℕ) (name : ℕ → List ℕ) (c : ℕ) : Type 0 where
  pub bytes : All (λ b. b < 256) (name c)
  pub short : length (name c) ≤ 7
  pub fresh : first c (λ b. eqb (packed (name b)) (packed (name c))) ≡ c

module _ (n : ℕ) (name : ℕ → List ℕ) (good : (c : ℕ) → c < n → Good n name c) where
  coded : (w : List ℕ) → Bytes w → Names n name w (first n (λ c. eqb (packed (name c)) (packed w)))
  coded w b =
      ⊎_elim
      (λ q. subst (λ (c : ℕ). Names n name w c) (sym q.0) (nameless (λ c l e. false≢true (sym (q.1 c l) ∙ eq-eqb (packed (name c)) (packed w) (ap packed e)))))
      (λ q.
      named q.0
      (sym
      (same w (name (first n (λ c. eqb (packed (name c)) (packed w)))) b
      (bytes_of (name (first n (λ c. eqb (packed (name c)) (packed w)))) (good (first n (λ c. eqb (packed (name c)) (packed w))) q.0).bytes)
      (good (first n (λ c. eqb (packed (name c)) (packed w))) q.0).short
      (sym (eqb-true (packed (name (first n (λ c. eqb (packed (name c)) (packed w))))) (packed w) q.1)))))
      (found n (λ c. eqb (packed (name c)) (packed w)))

  decoded : (w : List ℕ) (c : ℕ) → Bytes w → Names n name w c → first n (λ k. eqb (packed (name k)) (packed w)) ≡ c
  decoded w c b (named l e) =
      rw (← e)
      (first-hit n (λ k. eqb (packed (name k)) (packed (name c))) c (good c l).fresh (eq-eqb (packed (name c)) (packed (name c)) refl) l)
  decoded w c b (nameless h) =
      first-all n (λ k. eqb (packed (name k)) (packed w))
      (λ k l. ne_eqb (packed (name k)) (packed w) (λ e. h k l (sym (same w (name k) b (bytes_of (name k) (good k l).bytes) (good k l).short (sym e)))))

good-block : (c : ℕ) → c < 22 → Good 22 block_name c
unfolding first packed decimal block_name Num_4x4_Blocks_Wide Num_4x4_Blocks_High
good-block = each_at 22 (Good 22 block_name) (search arith)

good-tx : (c : ℕ) → c < 19 → Good 19 tx_name c
unfolding first packed decimal tx_name Tx_Wide Tx_High
good-tx = each_at 19 (Good 19 tx_name) (search arith)

pub block-coded : (w : List ℕ) → Bytes w → Names 22 block_name w (block_in (packed w))
block-coded = coded 22 block_name good-block

pub tx-coded : (w : List ℕ) → Bytes w → Names 19 tx_name w (tx_in (packed w))
tx-coded = coded 19 tx_name good-tx

pub block-decoded : (w : List ℕ) (c : ℕ) → Bytes w → Names 22 block_name w c → block_in (packed w) ≡ c
block-decoded = decoded 22 block_name good-block

pub tx-decoded : (w : List ℕ) (c : ℕ) → Bytes w → Names 19 tx_name w c → tx_in (packed w) ≡ c
tx-decoded = decoded 19 tx_name good-tx
