-- The promises of `limits`: with the sharpness above 7 or not the answer computes, and an entry of a table is what it tabulates.
use mathlib.Core.Bool.{cond}
use mathlib.Core.Path.{◌≡◌, refl, sym, ap, subst, ◌∙◌}
use mathlib.Core.Logic.{by_cases}
use Prim.Native.Nat.{ℕ, ◌<◌, ◌≤◌}
use native.Mathlib.Decide.{dec_lt}
use native.Mathlib.Omega.{arith}
use borrow.Author.Tests.{eq-eqb, ne_eqb}
use lib.Dec.{eqb}
use lib.ListN.{get_or}
use Rattle.loops.proofs.Tables.{get_d_tabulate}
use Rattle.standard.specs.Strength.{limit, blimit}
use Rattle.std.specs.Prelude.{Result, Ok, Err}
use Rattle.refusals.specs.declared.Refusal.{Refusal}
use Rattle.refusals.proofs.Numbers.{result_in, refused_back}
use Rattle.limits.specs.Limits.{LimitAnswer, answer_of, sharp_cap, table_of, no_table, limits_of, LimitsLent}
use Rattle.limits.specs.Promises.{Promised, Promises}
use Rattle.limits.specs.declared.Av1FilterLUT.{Av1FilterLUT}
use Rattle.limits.proofs.Lent.{above, within, done, kept}

module _ (s r : ℕ) (before after : Av1FilterLUT) (a : LimitsLent s r before after) where
  is_one : 7 < s → r ≡ 1
  is_one h = a.code ∙ ap (λ (x : LimitAnswer). x.number) (above s h)

  is_zero : s ≤ 7 → r ≡ 0
  is_zero h = a.code ∙ ap (λ (x : LimitAnswer). x.number) (within s h)

  stays : 7 < s → after ≡ before
  stays h = a.stored ∙ ap (λ (n : ℕ). cond (eqb n 0) (table_of s) before) (is_one h)

  filled : s ≤ 7 → after ≡ table_of s
  filled h = a.stored ∙ ap (λ (n : ℕ). cond (eqb n 0) (table_of s) before) (is_zero h)

  promised : Promised s r before after
  unfolding sharp_cap
  promised =
      record {
        one =
            record {
              only = λ p. by_cases (dec_lt 7 s) (λ h. h) (λ n. absurd (omega (arith, is_zero (omega arith))));
              always = is_one;
            };
        zero =
            record {
              only = λ p. by_cases (dec_lt 7 s) (λ h. absurd (omega (arith, is_one h))) (λ n. omega arith);
              always = is_zero;
            };
        refused = stays;
        inner = λ h l k. ap (λ (t : Av1FilterLUT). get_or t.i l 0) (filled h) ∙ get_d_tabulate (limit s) 64 l k;
        outer = λ h l k. ap (λ (t : Av1FilterLUT). get_or t.e l 0) (filled h) ∙ get_d_tabulate (blimit s) 64 l k;
        shift = λ h. ap (λ (t : Av1FilterLUT). get_or t.sharp 0 0) (filled h);
        cap = λ p h. ap (λ (t : Av1FilterLUT). get_or t.sharp 1 0) (filled h) ∙ rw (ne_eqb s 0 (λ z. omega arith)) refl;
        cap-0 = λ z. ap (λ (t : Av1FilterLUT). get_or t.sharp 1 0) (filled (omega arith)) ∙ rw (eq-eqb s 0 z) refl;
      }

one_answer : (s r q : ℕ) (before a b : Av1FilterLUT) → LimitsLent s r before a → LimitsLent s q before b → (r ≡ q) × (a ≡ b)
one_answer s r q before a b f g =
    let e : r ≡ q = f.code ∙ sym g.code in
    (e, f.stored ∙ ap (λ (n : ℕ). cond (eqb n 0) (table_of s) before) e ∙ sym g.stored)

as_lent : (s : ℕ) (r : LimitAnswer) → r ≡ limits_of s → LimitsLent s r.number no_table r.table
as_lent s r e =
    by_cases (dec_lt 7 s)
    (λ h. subst (λ (t : Av1FilterLUT). LimitsLent s r.number no_table t) (sym (ap (λ (x : LimitAnswer). x.table) (e ∙ above s h)))
    (kept s r e no_table (λ z. omega (arith, ap (λ (x : LimitAnswer). x.number) (e ∙ above s h)))))
    (λ n. done s r e no_table (ap (λ (x : LimitAnswer). x.number) (e ∙ within s (omega arith))))

abbrev result_of : LimitAnswer → Result Av1FilterLUT Refusal
result_of a = result_in a.number a.table

back : (r : Result Av1FilterLUT Refusal) → result_of (answer_of r) ≡ r
back (Ok t) = refl
back (Err r) = refused_back r no_table

pub promises : Promises
promises =
    record {
      unique = λ s r q e f. e ∙ sym f;
      unique-result = λ s r q e f. sym (back r) ∙ ap result_of (e ∙ sym f) ∙ back q;
      unique-lent = one_answer;
      unique-arrays = λ s r q before e i w e' i' w' f g.
          let both = one_answer s r q before _ _ f g in
          (both.0, ap (λ (t : Av1FilterLUT). t.e) both.1, ap (λ (t : Av1FilterLUT). t.i) both.1, ap (λ (t : Av1FilterLUT). t.sharp) both.1);
      by_value = as_lent;
      each = promised;
    }
