-- The promises of a call: its number is that of the checks, and its planes are those of the contract, taken one by one.
use mathlib.Core.Path.{◌≡◌, refl, sym, ap, ◌∙◌}
use mathlib.Core.Bool.{Bool, true, false, cond}
use mathlib.Core.List.{List}
use mathlib.Core.Logic.{by_cases}
use Prim.Native.Nat.{ℕ}
use native.Mathlib.Decide.{ℕ_discrete}
use lib.Dec.{eqb}
use borrow.Author.Tests.{ne_eqb}
use Rattle.loops.specs.Exactly.{Exactly, Reflects}
use Rattle.plane.specs.Plane.{Plane, cols_of, rows_of}
use Rattle.plane.specs.Three.{Three, cols_call, rows_call}
use Rattle.checks.specs.declared.Call.{Call}
use Rattle.checks.specs.Call.{Lent, chroma_on, Filtered, chroma-u, chroma-v}
use Rattle.checks.specs.Tests.{number}
use Rattle.checks.proofs.FaultTests.{reflects-on}
use Rattle.checks.proofs.Numbers.{numbers}
use Rattle.apply.specs.Apply.{Limits, shown, plane_at, planes_of, three_of, three, pass_call, FilterAnswer}
use Rattle.apply.specs.Promises.{passed, Promised, Promises}
use Rattle.apply.proofs.Answers.{shown-cols, shown-rows}

-- ---- chroma is filtered, and the test says so

module _ (c : Call) where
  abbrev pub FiltersChroma : Type 0
  FiltersChroma = (¬ (c.layout ≡ 400)) × (¬ ((c.level_u ≡ 0) × (c.level_v ≡ 0)))

  pub u-filters : Filtered c 1 → FiltersChroma
  u-filters (chroma-u a b) = (a, b)

  pub v-filters : Filtered c 2 → FiltersChroma
  v-filters (chroma-v a b) = (a, b)

  is-on : FiltersChroma → chroma_on c ≡ true
  is-on p = go (chroma_on c) (reflects-on c)
    where
      go : (b : Bool) → Reflects b FiltersChroma → b ≡ true
      go true r = refl
      go false r = absurd (r.no refl p)

  is-off : ¬ FiltersChroma → chroma_on c ≡ false
  is-off n = go (chroma_on c) (reflects-on c)
    where
      go : (b : Bool) → Reflects b FiltersChroma → b ≡ false
      go true r = absurd (n (r.yes refl))
      go false r = refl

-- ---- the planes of a pass, one by one

abbrev at : Bool → ℕ → Plane → List ℕ → List ℕ
at b k P s = cond b (rows_of P k s) (cols_of P k s)

each-plane : (b on : Bool) (k : ℕ) (P Q R : Plane) (x y z : List ℕ)
    → cond b rows_call cols_call (record { luma = P; u = shown on Q; v = shown on R }) k (three x y z)
    ≡ three (at b k P x) (cond on (at b k Q y) y) (cond on (at b k R z) z)
unfolding rows_call cols_call
each-plane true on k P Q R x y z = λ q. three (rows_of P k x) (shown-rows Q on k y q) (shown-rows R on k z q)
each-plane false on k P Q R x y z = λ q. three (cols_of P k x) (shown-cols Q on k y q) (shown-cols R on k z q)

-- ---- one answer

module _ (c : Call) (l : Limits) (m : Lent) where
  -- by its number
  abbrev left : ℕ → Three (List ℕ)
  left r = cond (eqb r 0) (pass_call c (planes_of c l m) c.row (three_of m)) (three_of m)

  module _ (r : ℕ) (after : Three (List ℕ)) (a : FilterAnswer c l m r after) where
    along : {F : Type 0} {k : ℕ} → Exactly (number c m ≡ k) F → Exactly (r ≡ k) F
    along x = rw a.code x

    refused : ¬ (r ≡ 0) → after ≡ three_of m
    refused n = a.planes ∙ rw (ne_eqb r 0 n) refl

    done : r ≡ 0 → after
        ≡ three (passed c (plane_at c l m 0) m.luma) (cond (chroma_on c) (passed c (plane_at c l m 1) m.u) m.u) (cond (chroma_on c) (passed c (plane_at c l m 2) m.v) m.v)
    done e =
        a.planes ∙ ap left e
        ∙ each-plane c.rowwise (chroma_on c) c.row (plane_at c l m 0) (plane_at c l m 1) (plane_at c l m 2) m.luma m.u m.v

    -- a plane of chroma where it is filtered, and where not
    chosen : {b : Bool} (pick : Three (List ℕ) → List ℕ) (x y : List ℕ) → r ≡ 0 → (r ≡ 0 → pick after ≡ cond (chroma_on c) x y) → chroma_on c ≡ b → pick after ≡ cond b x y
    chosen pick x y e f o = f e ∙ ap (λ (b : Bool). cond b x y) o

    stays : (pick : Three (List ℕ) → List ℕ) (x : List ℕ) → (r ≡ 0 → pick after ≡ cond (chroma_on c) x (pick (three_of m))) → ¬ FiltersChroma c → pick after ≡ pick (three_of m)
    stays pick x f n =
        by_cases (ℕ_discrete r 0) (λ e. chosen pick x (pick (three_of m)) e f (is-off c n)) (λ e. ap pick (refused e))

    promised : Promised c l m r after
    promised =
        record {
          two = along (numbers.two c m);
          three = along (numbers.three c m);
          four = along (numbers.four c m);
          seven = along (numbers.seven c m);
          eight = along (numbers.eight c m);
          nine = along (numbers.nine c m);
          ten = along (numbers.ten c m);
          eleven = along (numbers.eleven c m);
          twelve = along (numbers.twelve c m);
          zero = along (numbers.zero c m);
          refused = refused;
          luma = λ e. ap (λ (t : Three (List ℕ)). t.luma) (done e);
          u = λ e f. chosen (λ t. t.u) _ m.u e (λ z. ap (λ (t : Three (List ℕ)). t.u) (done z)) (is-on c (u-filters c f));
          v = λ e f. chosen (λ t. t.v) _ m.v e (λ z. ap (λ (t : Three (List ℕ)). t.v) (done z)) (is-on c (v-filters c f));
          u-stays = λ n. stays (λ t. t.u) _ (λ z. ap (λ (t : Three (List ℕ)). t.u) (done z)) (λ p. n (chroma-u p.0 p.1));
          v-stays = λ n. stays (λ t. t.v) _ (λ z. ap (λ (t : Three (List ℕ)). t.v) (done z)) (λ p. n (chroma-v p.0 p.1));
        }

  unique : (r q : ℕ) (x y : Three (List ℕ)) → FilterAnswer c l m r x → FilterAnswer c l m q y → (r ≡ q) × (x ≡ y)
  unique r q x y a b = let e = a.code ∙ sym b.code in (e, a.planes ∙ ap left e ∙ sym b.planes)

pub promises : Promises
promises = record { unique = unique; each = promised }
