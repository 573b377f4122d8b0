-- All promises of request (x), one by one.
use mathlib.Core.Bool.{Bool, true, false, cond}
use mathlib.Core.List.{List, [], ◌∷◌}
use mathlib.Core.Path.{◌≡◌, refl, sym, ap, ap₂, subst, ◌∙◌}
use Prim.Native.Nat.{ℕ, ◌-◌, ◌*◌, ◌≤◌}
use Rattle.std.specs.Prelude.{Result, Ok, Err}
use Rattle.refusals.specs.declared.Refusal.{Refusal}
use Rattle.refusals.specs.Numbers.{answered}
use Rattle.refusals.proofs.Numbers.{result_in, refused_back}
use Rattle.params_read.specs.declared.Taken.{Taken}
use lib.Dec.{eqb}
use lib.ListN.{length}
use Rattle.bit_place.specs.Place.{bit_at, places, laid}
use Rattle.limits.specs.Limits.{limits_of}
use Rattle.levels.specs.Levels.{levels_in, levels_number}
use Rattle.params_lay.specs.Print.{print}
use Rattle.params.specs.Calls.{ParamsAnswer, no_params, read_of, read_answer, count_of, WriteAnswer, shown}
use Rattle.round_trips.specs.Promises.{ReadPromised, Promises}
use Rattle.round_trips.proofs.Answers.{is_read, read-promised, write-promised, written_read, read-written, sized-read, read_fits}
use Rattle.round_trips.proofs.Taken.{taken-limits, taken-levels}
use Rattle.round_trips.proofs.Example.{real, changed-read, changed-trip}

counts_same : (r m : ℕ) (counted : List ℕ) → cond (eqb r 0) (m ∷ []) counted ≡ cond (eqb r 0) (cond (eqb r 0) m 0 ∷ []) counted
counts_same r m counted = go (eqb r 0)
  where
    go : (t : Bool) → cond t (m ∷ []) counted ≡ cond t (cond t m 0 ∷ []) counted
    go true = refl
    go false = refl

-- ---- an answer of the code, read back from what is said of it

abbrev taken_of : ParamsAnswer → Result Taken Refusal
taken_of a = result_in a.number (record { count = a.count; params = a.params })

taken_back : (a : Result Taken Refusal) → taken_of (read_answer a) ≡ a
taken_back (Ok t) = refl
taken_back (Err r) = refused_back r (record { count = 0; params = no_params })

counted_back : (a : Result ℕ Refusal) → result_in (answered a) (count_of a) ≡ a
counted_back (Ok n) = refl
counted_back (Err r) = refused_back r 0

pub promises : Promises
promises = record {
  unique-read = λ g bytes at a b x y. x ∙ sym y;
  unique-taken = λ g bytes at a b x y. sym (taken_back a) ∙ ap taken_of (x ∙ sym y) ∙ taken_back b;
  unique-lent = λ a r q before x y l m. let e = l.code ∙ sym m.code in (e, l.stored ∙ ap (λ (k : ℕ). cond (eqb k 0) (shown a) before) e ∙ sym m.stored);
  unique-write = λ g p at r q m n before x y v w. let e = v.code ∙ sym w.code in (
    e,
    v.count ∙ ap (λ (k : ℕ). cond (eqb k 0) (length (print g p)) 0) e ∙ sym w.count,
    v.stored ∙ ap (λ (k : ℕ). cond (eqb k 0) (laid (print g p) at before) before) e ∙ sym w.stored,
  );
  unique-counted = λ g p at a b before x y v w.
      let e = v.code ∙ sym w.code in
      let f = v.count ∙ ap (λ (k : ℕ). cond (eqb k 0) (length (print g p)) 0) e ∙ sym w.count in (
        sym (counted_back a) ∙ ap₂ (λ (m n : ℕ). result_in m n) e f ∙ counted_back b,
        v.stored ∙ ap (λ (k : ℕ). cond (eqb k 0) (laid (print g p) at before) before) e ∙ sym w.stored,
      );
  unique-written = λ g p at r q before x y counted m n v w. let e = v.code ∙ sym w.code in (
    e,
    v.count ∙ ap (λ (k : ℕ). cond (eqb k 0) (length (print g p) ∷ []) counted) e ∙ sym w.count,
    v.stored ∙ ap (λ (k : ℕ). cond (eqb k 0) (laid (print g p) at before) before) e ∙ sym w.stored,
  );
  lent-write = λ g p at r before after counted counts w.
      (cond (eqb r 0) (length (print g p)) 0, record { code = w.code; count = refl; stored = w.stored }, w.count ∙ counts_same r (length (print g p)) counted);
  each_read = λ g bytes at a sg e. subst (ReadPromised g bytes at) (is_read g bytes at sg ∙ sym e) (read-promised g bytes at sg);
  each_write = write-promised;
  sized = sized-read;
  read-write = λ g bytes at a to r n before after sg e z w h.
      subst (λ (b : ParamsAnswer). b.number ≡ 0 → WriteAnswer g b.params to r n before after → b.count ≤ 8 * length before - to
      → (r ≡ 0) × (n ≡ b.count) × (places (bit_at after) to n ≡ places (bit_at bytes) at n)) (sym e) (read-written g bytes at to r n before after sg) z w h;
  write_read = λ g p at n before after a sg sp w e. let x = e ∙ written_read g p at n before after sg sp w in
      (ap (λ (b : ParamsAnswer). b.number) x, ap (λ (b : ParamsAnswer). b.count) x, ap (λ (b : ParamsAnswer). b.params) x);
  taken-limits = λ g bytes at a sg e z. subst (λ (b : ParamsAnswer). b.number ≡ 0 → (limits_of b.params.sharpness).number ≡ 0) (sym e)
      (λ y. taken-limits g (read_of g bytes at).params (read_fits g bytes at sg y)) z;
  taken-levels = λ g bytes at a layout multi segmentation lf seg r values after sg e z l one refs modes lfs segs w.
      w.code
      ∙ subst (λ (b : ParamsAnswer). b.number ≡ 0
      → levels_number layout (levels_in b.params.level b.params.delta_enabled b.params.ref_delta b.params.mode_delta multi lf segmentation seg) ≡ 0) (sym e)
      (λ y. taken-levels g (read_of g bytes at).params (read_fits g bytes at sg y) layout multi segmentation lf seg one refs modes lfs segs l) z;
  real = real;
  sent = changed-read;
  trip = changed-trip;
}
