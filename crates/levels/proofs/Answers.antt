-- The promises of `levels`: an answer's number is the definition's, and its bytes are the definition's or those before, by whether that is 0.
use mathlib.Core.List.{List}
use mathlib.Core.Logic.{by_cases}
use mathlib.Core.Path.{◌≡◌, refl, sym, ap, ◌∙◌}
use Prim.Native.Nat.{ℕ}
use native.Mathlib.Decide.{ℕ_discrete}
use native.Mathlib.Omega.{arith}
use borrow.Author.Tests.{eq-eqb, ne_eqb}
use lib.ListN.{get_or}
use Rattle.loops.specs.Exactly.{Exactly}
use Rattle.levels.specs.Levels.{LevelsIn, level, levels_done, levels_number, LevelsAnswer}
use Rattle.levels.specs.Promises.{Place, byte, Promised, Promises}
use Rattle.levels.proofs.Numbers.{exactly-2, exactly-4, exactly-0}
use Rattle.levels.proofs.Values.{from-64, byte-is, luma-zero, chroma-zero, level-is, modes-alike, level-small, one-lf}

module _ {layout r : ℕ} {x : LevelsIn} {before after : List ℕ} (a : LevelsAnswer layout x r before after) where
  number_is : {k : ℕ} {P : Type 0} → Exactly (levels_number layout x ≡ k) P → Exactly (r ≡ k) P
  number_is e = record { only = λ p. e.only (sym a.code ∙ p); always = λ p. a.code ∙ e.always p }

  kept : ¬ (r ≡ 0) → after ≡ before
  kept n = a.stored ∙ rw (ne_eqb r 0 n) refl

  done : r ≡ 0 → after ≡ levels_done x before
  done e = a.stored ∙ rw (eq-eqb r 0 e) refl

  value-is : r ≡ 0 → (s k q m : ℕ) → Place x s k q m → byte after s k q m ≡ level x s k q m
  value-is e s k q m p = ap (λ (l : List ℕ). byte l s k q m) (done e) ∙ byte-is x s k q m before p

  promised : Promised layout x r before after
  promised =
      record {
        two = number_is (exactly-2 layout x);
        four = number_is (exactly-4 layout x);
        zero = number_is (exactly-0 layout x);
        refused = kept;
        stays =
            λ z i h. by_cases (ℕ_discrete r 0) (λ e. ap (λ (l : List ℕ). get_or l i 0) (done e) ∙ from-64 x before z i h)
            (λ n. ap (λ (l : List ℕ). get_or l i 0) (kept n));
        no-luma = λ e f g s k q m p. value-is e s k q m p ∙ luma-zero x s k q m f g;
        no-chroma = λ e s k q m p h z. value-is e s k q m p ∙ chroma-zero x s k q m h z;
        value = λ e f s k q m p g. value-is e s k q m p ∙ level-is x s k q m f g;
        intra =
            λ e s k p. value-is e s k 0 0 p
            ∙ modes-alike x s k
            ∙ sym (value-is e s k 0 1 (record { segment = p.segment; in_use = p.in_use; area = p.area; reference = p.reference; mode = omega arith }));
        small = λ e s k q m p. rw (value-is e s k q m p) (level-small x s k q m);
      }

pub promises : Promises
promises =
    record {
      unique = λ layout x before r q a b f g. let e = f.code ∙ sym g.code in (e, f.stored ∙ rw e (sym g.stored));
      each = λ layout x r before after a. promised a;
      no-multi = λ layout base enabled ref mode lf lf' segmentation seg before a b e f g. done f refl ∙ one-lf base enabled ref mode lf lf' segmentation seg e before ∙ sym (done g refl);
    }
