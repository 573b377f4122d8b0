-- The promises: an answer's number is the definition's, and its masks are those before or those of two lines corrected, luma's and then
-- chroma's, whose bits are apart, so each unit is corrected as it was before all.
use mathlib.Core.Path.{◌≡◌, refl, sym, ap, ap₂, ◌∙◌, subst}
use mathlib.Core.Bool.{Bool, true, false, cond, ◌&&◌, ◌||◌, false≢true, and-false, and-eq-true_iff}
use mathlib.Core.List.{List}
use mathlib.Core.Logic.{inl, inr, ⊎_elim, by_cases}
use mathlib.Core.Option.{some, none}
use Prim.Native.Nat.{ℕ, ◌+◌, ◌-◌, ◌*◌, ◌/◌, ◌≤◌, ◌<◌, min}
use native.Mathlib.Decide.{ℕ_discrete}
use native.Mathlib.Omega.{arith}
use lib.Dec.{eqb, ltb}
use lib.ListN.{length, get_or}
use borrow.Author.Tests.{ne_eqb, eq-eqb, lt-ltb, ltb-false, not-false}
use Rattle.loops.specs.Any.{any_below}
use Rattle.loops.specs.Exactly.{Exactly}
use Rattle.loops.proofs.Anys.{any-each}
use Rattle.bits.specs.Mark.{is_set}
use Rattle.plane.specs.Line.{Piece, other, pass_of}
use Rattle.units.specs.Frame.{frame_records}
use Rattle.units.specs.Layout.{has_chroma}
use Rattle.units.proofs.Tests.{reflects-chroma}
use Rattle.block.specs.Tests.{context_bad}
use Rattle.loops.proofs.Bools.{or_off}
use Rattle.edges.specs.Edges.{classes, units_of, highest, edge}
use Rattle.edges.proofs.Bits.{edge-bit-in, edge-bit-inj, luma-chroma-apart, highest-one}
use Rattle.correct.specs.declared.Start.{Start}
use Rattle.correct.specs.Start.{w4, h4, grid_at, begin, across, first, line_of, inside, corrects, Inside}
use Rattle.correct.specs.Correct.{old_class, correct_line, line_done, plane_done, done}
use Rattle.correct.specs.Tests.{units_along, most, context_refused, number}
use Rattle.correct.specs.Answer.{CorrectAnswer}
use Rattle.correct.specs.Promises.{HasPlane, CorrectedUnit, bit_at, new_class, Promised, Promises}
use Rattle.correct.proofs.Starts.{proper, shaped, inside_is, first-le}
use Rattle.correct.proofs.AcceptedStart.{across-in, end-in, Passed, all-passed, ready-luma}
use Rattle.correct.proofs.Numbers.{exactly-4, exactly-6, exactly-7, exactly-10, exactly-0}
use Rattle.correct.proofs.Bits.{length-line, line_other, line-own, old-same}

-- ---- one plane

and-rest : (a b : Bool) → a ≡ true → (a && b) ≡ false → b ≡ false
and-rest a b y f = rw y at f

module _ (t : Start) (luma : Bool) (context ms : List ℕ) where
  abbrev bits : ℕ → ℕ → ℕ
  bits i = bit_at t luma (across t luma, first t luma + i)

  abbrev value : ℕ → ℕ
  value i = get_or context i 0

  length-done : length (line_done (line_of t luma) context ms) ≡ length ms
  unfolding correct_line
  length-done = length-line luma bits value ms (units_along t luma)

  pub length-plane : length (plane_done t luma context ms) ≡ length ms
  length-plane = go (corrects t luma)
    where
      go : (b : Bool) → length (cond b (line_done (line_of t luma) context ms) ms) ≡ length ms
      go true = length-done
      go false = refl

  module _ (i : Inside t) (h : 640 * frame_records (w4 t) (h4 t) ≤ length ms) (good : context_bad (units_along t luma) (most luma) context ≡ false) where
    room : (j c : ℕ) → j < units_along t luma → c < cond luma 4 2 → bits j c / 16 < length ms
    room j c l k =
        omega (
          arith,
          edge-bit-in (grid_at t luma) (proper t luma) (pass_of t.rowwise) (across t luma, first t luma + j) c (across-in t luma i)
              (omega (arith, end-in t luma i, first-le t luma i)) k,
        )

    inj : (j k c q : ℕ) → j < units_along t luma → k < units_along t luma → c < cond luma 3 2 → q < cond luma 3 2 → bits j c ≡ bits k q → (j ≡ k) × (c ≡ q)
    inj j k c q l m hc hq e =
        let z = edge-bit-inj (grid_at t luma) (proper t luma) (pass_of t.rowwise) (across t luma, first t luma + j) (across t luma, first t luma + k) c q
        (across-in t luma i) (omega (arith, end-in t luma i, first-le t luma i)) (across-in t luma i)
        (omega (arith, end-in t luma i, first-le t luma i)) hc hq e in
        (omega (arith, z.1), z.2)

    range : (j : ℕ) → j < units_along t luma → value j < cond luma 3 2
    range j l =
        go luma (ltb-false (most luma) (value j) (any-each (units_along t luma) (λ k. ltb (most luma) (value k))
        (or_off (ltb (length context) (units_along t luma)) (any_below (units_along t luma) (λ k. ltb (most luma) (value k))) good).1 j l))
      where
        go : (b : Bool) → value j ≤ cond b 2 1 → value j < cond b 3 2
        go true z = omega arith
        go false z = omega arith

    -- a unit of the line, by its place along it
    place : (p : Piece) → CorrectedUnit t luma p → (c : ℕ) → bit_at t luma p c ≡ bits (p.1 - first t luma) c
    place p u c =
        let e : p.1 ≡ first t luma + (p.1 - first t luma) = omega (arith, u.from) in
        ap₂ (λ (x y : ℕ). bit_at t luma (x, y) c) u.at e

    nth : (p : Piece) → CorrectedUnit t luma p → p.1 - first t luma < units_along t luma
    nth p u = omega (arith, u.from, u.to)

    line-unit : (p : Piece) → CorrectedUnit t luma p → (c : ℕ) → c < cond luma 3 2
        → is_set (line_done (line_of t luma) context ms) (bit_at t luma p c)
        ≡ eqb c (min (old_class luma (λ k. is_set ms (bit_at t luma p k))) (value (p.1 - first t luma)))
    unfolding correct_line
    line-unit p u c l =
        ap (is_set (line_done (line_of t luma) context ms)) (place p u c)
        ∙ line-own luma bits value ms (units_along t luma) room inj range (units_along t luma) (omega arith) (p.1 - first t luma) c (nth p u) l
        ∙ ap (λ (a : ℕ). eqb c (min a (value (p.1 - first t luma))))
        (old-same luma (λ k. is_set ms (bits (p.1 - first t luma) k)) (λ k. is_set ms (bit_at t luma p k)) (λ k _. ap (is_set ms) (sym (place p u k))))

    line-rest : HasPlane t luma → (x : ℕ) → ((p : Piece) (c : ℕ) → CorrectedUnit t luma p → c < cond luma 3 2 → ¬ (bit_at t luma p c ≡ x))
        → is_set (line_done (line_of t luma) context ms) x ≡ is_set ms x
    unfolding correct_line
    line-rest k x o =
        line_other luma bits value ms (units_along t luma) room inj range (units_along t luma) (omega arith) x
        (λ j c l. o (across t luma, first t luma + j) c (record { plane = k; at = refl; from = omega arith; to = omega arith }))

-- what is corrected, as the definitions ask and as the promises say
plane-of : (t : Start) (luma : Bool) → corrects t luma ≡ true → HasPlane t luma
plane-of t true e = inl refl
plane-of t false e =
    inr ((reflects-chroma t.layout).yes ((and-eq-true_iff (has_chroma t.layout) (inside t && ltb 0 (begin t))).0 e).0)

plane-on : (t : Start) (luma : Bool) → HasPlane t luma → (luma || has_chroma t.layout) ≡ true
plane-on t true k = refl
plane-on t false k = ⊎_elim (λ e. absurd (false≢true e)) (λ n. yes (has_chroma t.layout) refl n) k
  where
    yes : (b : Bool) → has_chroma t.layout ≡ b → ¬ (t.layout ≡ 400) → has_chroma t.layout ≡ true
    yes true e n = e
    yes false e n = absurd ((reflects-chroma t.layout).no e n)

corrects-on : (t : Start) (luma : Bool) → HasPlane t luma → inside t ≡ true → 0 < begin t → corrects t luma ≡ true
corrects-on t luma k e l =
    ap₂ ◌&&◌ (plane-on t luma k) (ap₂ ◌&&◌ e (lt-ltb 0 (begin t) l))

module _ (t : Start) (luma : Bool) (context ms : List ℕ) (i : Inside t) (h : 640 * frame_records (w4 t) (h4 t) ≤ length ms)
    (good : context_refused t luma context ≡ false) where
  fine : corrects t luma ≡ true → context_bad (units_along t luma) (most luma) context ≡ false
  fine y = and-rest (corrects t luma) (context_bad (units_along t luma) (most luma) context) y good

  done-is : corrects t luma ≡ true → plane_done t luma context ms ≡ line_done (line_of t luma) context ms
  done-is y = ap (λ (b : Bool). cond b (line_done (line_of t luma) context ms) ms) y

  plane-unit : corrects t luma ≡ true → (p : Piece) → CorrectedUnit t luma p → (c : ℕ) → c < cond luma 3 2
      → is_set (plane_done t luma context ms) (bit_at t luma p c)
      ≡ eqb c (min (old_class luma (λ k. is_set ms (bit_at t luma p k))) (get_or context (p.1 - first t luma) 0))
  plane-unit y p u c l =
      ap (λ (m : List ℕ). is_set m (bit_at t luma p c)) (done-is y) ∙ line-unit t luma context ms i h (fine y) p u c l

  plane-rest : (x : ℕ) → ((p : Piece) (c : ℕ) → CorrectedUnit t luma p → c < cond luma 3 2 → ¬ (bit_at t luma p c ≡ x))
      → is_set (plane_done t luma context ms) x ≡ is_set ms x
  plane-rest x o = go (corrects t luma) refl
    where
      go : (b : Bool) → corrects t luma ≡ b → is_set (cond b (line_done (line_of t luma) context ms) ms) x ≡ is_set ms x
      go true e = line-rest t luma context ms i h (fine e) (plane-of t luma e) x o
      go false e = refl

-- ---- both planes

module _ (t : Start) (context context-uv ms : List ℕ) where
  abbrev final : List ℕ
  final = done t context context-uv ms

  length_both : length final ≡ length ms
  length_both = length-plane t false context-uv (plane_done t true context ms) ∙ length-plane t true context ms

  module _ (e : number t (length ms) context context-uv ≡ 0) where
    all : Passed t (length ms) context context-uv
    all = all-passed t (length ms) context context-uv e

    in_frame : inside t ≡ true
    in_frame = not-false (inside t) all.outside

    i : Inside t
    i = inside_is t (shaped t all.shape) in_frame

    long : 640 * frame_records (w4 t) (h4 t) ≤ length ms
    long = (ready-luma t (length ms) context context-uv e).masks-long

    long-middle : 640 * frame_records (w4 t) (h4 t) ≤ length (plane_done t true context ms)
    long-middle = rw (length-plane t true context ms) long

    apart : (p q : Piece) (c k : ℕ) → c < 3 → k < 2 → ¬ (bit_at t true p c ≡ bit_at t false q k)
    apart p q c k =
        luma-chroma-apart (grid_at t true) (grid_at t false) (proper t true) (proper t false) refl refl (pass_of t.rowwise) (pass_of t.rowwise) p q c k

    unit-bits : 0 < begin t → (luma : Bool) (p : Piece) → CorrectedUnit t luma p → (c : ℕ) → c < cond luma 3 2
        → is_set final (bit_at t luma p c) ≡ eqb c (new_class t luma context context-uv ms p)
    unit-bits b true p u c l =
        plane-rest t false context-uv (plane_done t true context ms) i long-middle all.chroma (bit_at t true p c)
        (λ q k v m z. apart p q c k l m (sym z))
        ∙ plane-unit t true context ms i long all.luma (corrects-on t true (inl refl) in_frame b) p u c l
    unit-bits b false p u c l =
        plane-unit t false context-uv (plane_done t true context ms) i long-middle all.chroma (corrects-on t false u.plane in_frame b) p u c l
        ∙ ap (λ (a : ℕ). eqb c (min a (get_or context-uv (p.1 - first t false) 0)))
        (old-same false (λ k. is_set (plane_done t true context ms) (bit_at t false p k)) (λ k. is_set ms (bit_at t false p k))
        (λ k m. plane-rest t true context ms i long all.luma (bit_at t false p k) (λ q n v w. apart q p n k w m)))

    unit-rest : (x : ℕ) → ((luma : Bool) (p : Piece) (c : ℕ) → CorrectedUnit t luma p → c < cond luma 3 2 → ¬ (bit_at t luma p c ≡ x))
        → is_set final x ≡ is_set ms x
    unit-rest x o =
        plane-rest t false context-uv (plane_done t true context ms) i long-middle all.chroma x (o false)
        ∙ plane-rest t true context ms i long all.luma x (o true)

    new-lt : 0 < begin t → (luma : Bool) (p : Piece) → CorrectedUnit t luma p → new_class t luma context context-uv ms p < cond luma 3 2
    new-lt b true p u =
        let y = corrects-on t true (inl refl) in_frame b in
        omega (arith, range t true context ms i long (fine t true context ms i long all.luma y) (p.1 - first t true) (omega (arith, u.from, u.to)))
    new-lt b false p u =
        let y = corrects-on t false u.plane in_frame b in
        omega
        (arith, range t false context-uv ms i long (fine t false context-uv ms i long all.chroma y) (p.1 - first t false) (omega (arith, u.from, u.to)))

    unit-edge : 0 < begin t → (luma : Bool) (p : Piece) → CorrectedUnit t luma p
        → edge (grid_at t luma) final (pass_of t.rowwise) p ≡ some (new_class t luma context context-uv ms p)
    unfolding edge
    unit-edge b luma p u =
        ap (λ (k : Bool). cond k (highest (classes (grid_at t luma)) (λ c. is_set final (bit_at t luma p c))) none)
        (ap₂ ◌&&◌
        (lt-ltb p.0 (units_of (grid_at t luma) (pass_of t.rowwise)) (omega (arith, u.at, across-in t luma i)))
        (lt-ltb p.1 (units_of (grid_at t luma) (other (pass_of t.rowwise))) (omega (arith, u.to, end-in t luma i))))
        ∙ highest-one (classes (grid_at t luma)) (λ c. is_set final (bit_at t luma p c)) (new_class t luma context context-uv ms p) (unit-bits b luma p u)
        (new-lt b luma p u)

  -- a tile that begins at unit 0
  off : begin t ≡ 0 → (luma : Bool) → corrects t luma ≡ false
  off z luma =
      ap (λ (b : Bool). (luma || has_chroma t.layout) && (inside t && b)) (ap (ltb 0) z)
      ∙ ap (λ (b : Bool). (luma || has_chroma t.layout) && b) (and-false (inside t))
      ∙ and-false (luma || has_chroma t.layout)

  none_done : begin t ≡ 0 → final ≡ ms
  none_done z =
      ap (λ (b : Bool). cond b (line_done (line_of t false) context-uv (plane_done t true context ms)) (plane_done t true context ms)) (off z false)
      ∙ ap (λ (b : Bool). cond b (line_done (line_of t true) context ms) ms) (off z true)

-- ---- answers

module _ {t : Start} {context context-uv : List ℕ} {r : ℕ} {before after : List ℕ} (a : CorrectAnswer t context context-uv r before after) where
  number_is : {k : ℕ} {P : Type 0} → Exactly (number t (length before) context context-uv ≡ k) P → Exactly (r ≡ k) P
  number_is e = record { only = λ p. e.only (sym a.code ∙ p); always = λ p. a.code ∙ e.always p }

  kept : ¬ (r ≡ 0) → after ≡ before
  kept n = a.masks ∙ ap (λ (b : Bool). cond b (done t context context-uv before) before) (ne_eqb r 0 n)

  stored : r ≡ 0 → after ≡ done t context context-uv before
  stored e = a.masks ∙ ap (λ (b : Bool). cond b (done t context context-uv before) before) (eq-eqb r 0 e)

  -- what holds of the masks before and of those corrected
  either : (P : List ℕ → Type 0) → P before → (number t (length before) context context-uv ≡ 0 → P (done t context context-uv before)) → P after
  either P p q =
      by_cases (ℕ_discrete r 0) (λ e. subst P (sym (stored e)) (q (sym a.code ∙ e))) (λ n. subst P (sym (kept n)) p)

  promised : Promised t context context-uv r before after
  promised =
      record {
        four = number_is (exactly-4 t context context-uv (length before));
        six = number_is (exactly-6 t context context-uv (length before));
        seven = number_is (exactly-7 t context context-uv (length before));
        ten = number_is (exactly-10 t context context-uv (length before));
        zero = number_is (exactly-0 t context context-uv (length before));
        refused = kept;
        at-unit-0 = λ z. either (λ m. m ≡ before) refl (λ e. none_done t context context-uv before z);
        long = either (λ m. length m ≡ length before) refl (λ e. length_both t context context-uv before);
        bits = λ e b luma p u c l.
            ap (λ (m : List ℕ). is_set m (bit_at t luma p c)) (stored e) ∙ unit-bits t context context-uv before (sym a.code ∙ e) b luma p u c l;
        edges = λ e b luma p u.
            ap (λ (m : List ℕ). edge (grid_at t luma) m (pass_of t.rowwise) p) (stored e)
            ∙ unit-edge t context context-uv before (sym a.code ∙ e) b luma p u;
        others = λ x o. either (λ m. is_set m x ≡ is_set before x) refl (λ e. unit-rest t context context-uv before e x o);
      }

pub promises : Promises
promises =
    record {
      unique = λ t context context-uv r q before m n f g.
          let e = f.code ∙ sym g.code in
          (e, f.masks ∙ ap (λ (k : ℕ). cond (eqb k 0) (done t context context-uv before) before) e ∙ sym g.masks);
      each = λ t context context-uv r before after a. promised a;
    }
