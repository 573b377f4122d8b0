-- What a script prints: its lines are walked with `verdict`, so it ends in one of three ways; only one fits the faults, and only one fits the text.
use mathlib.Core.Bool.{Bool, true, false, cond}
use mathlib.Core.List.{List, [], ◌∷◌}
use mathlib.Core.Logic.{by_cases}
use mathlib.Core.Path.{◌≡◌, refl, sym, ap, subst, ◌∙◌}
use Prim.Native.Nat.{ℕ, zero, suc, ◌+◌, ◌<◌, ◌≤◌, min}
use native.Mathlib.Decide.{ℕ_discrete, dec_lt}
use native.Mathlib.Omega.{arith}
use borrow.Author.Tests.{eq-eqb, ne_eqb, lt-ltb, le-ltb}
use lib.Dec.{eqb}
use lib.ListN.{length, get_or, take, drop, get_or-eq_default}
use lib.Seq.{take_all, take_at}
use Rattle.loops.specs.Exactly.{Exactly}
use Rattle.loops.specs.Table.{tabulate}
use Rattle.loops.proofs.Tables.{length-tabulate}
use Rattle.levels.specs.Levels.{byte_at, levels_done, LevelsAnswer}
use Rattle.list_fields.specs.Fields.{joined}
use Rattle.list_fields.specs.Word.{Bytes}
use Rattle.list_script.specs.Line.{Line, Frame, Level, Block, Form}
use Rattle.list_script.specs.Script.{space}
use Rattle.list_script.specs.Promises.{Says, frame, level, block}
use Rattle.list_text.specs.Text.{end, refused_text, form_text}
use Rattle.list_steps.specs.State.{form}
use Rattle.list_steps.specs.Steps.{Kept, bases, block_of, step_of}
use Rattle.list_call.specs.Listing.{push, lines_of, start, after, text_in, output_of}
use Rattle.list_call.specs.Promises.{Stops}
use Rattle.list_call.proofs.Runs.{unrefused, stops}
use Rattle.list_call.proofs.PartLeft.{left}
use Rattle.list_numbers.specs.Faults.{FormFault, no_line, Refuses, sharpness-above, level, depth-other, shape, pair-at-400, block, Fault, Sound}
use Rattle.list_numbers.specs.Promises.{NoForm, faulty, missing, Formless, Refused, Whole, list_of, Ends, formless, refused, whole, Keeps, Promises}
use Rattle.list_numbers.proofs.Texts.{refused-same, form-same, form-refused, list-refused, list-form}
use Rattle.list_numbers.proofs.MemoryFits.{start-room, no-6, no-7}
use Rattle.list_numbers.proofs.Verdicts.{Verdict, sound, formless, refused, same_line, Reached, verdict, next}

-- ---- the bytes of lines

line-bytes : (s : List ℕ) → Bytes s → (j : ℕ) → Bytes (get_or (lines_of s) j [])
line-bytes [] b j = λ i. omega arith
line-bytes (c ∷ s) b j = go (eqb c end) (lines_of s) (line-bytes s (λ i. b (suc i))) j
  where
    go : (t : Bool) (ls : List (List ℕ)) → ((j : ℕ) → Bytes (get_or ls j [])) → (j : ℕ) → Bytes (get_or (cond t ([] ∷ ls) (push c ls)) j [])
    go true ls h zero i = omega arith
    go true ls h (suc j) i = h j i
    go false [] h zero zero = b 0
    go false [] h zero (suc i) = omega arith
    go false [] h (suc j) i = omega arith
    go false (l ∷ ls) h zero zero = b 0
    go false (l ∷ ls) h zero (suc i) = h 0 i
    go false (l ∷ ls) h (suc j) i = h (suc j) i

-- ---- faults

refuses-low : {f l : Line} {n : ℕ} → Refuses f l n → (1 ≤ n) × (n ≤ 5)
refuses-low (sharpness-above h) = omega arith
refuses-low (level h) = omega arith
refuses-low (depth-other h) = omega arith
refuses-low (shape h) = omega arith
refuses-low (pair-at-400 e c) = omega arith
refuses-low (block f) = omega arith

some_byte : (fs : List (List ℕ)) (l : Line) → Says fs l → ¬ (joined space fs ≡ [])
some_byte fs l (frame a b c d e f) q = let z = ap length q in omega arith
some_byte fs l (level a b c d) q = let z = ap length q in omega arith
some_byte fs l (block a b c d e f g h) q = let z = ap length q in omega arith

module _ {ls : List (List ℕ)} where
  form-fault : {j : ℕ} → NoForm ls j → FormFault ls j
  form-fault (faulty h f) = f
  form-fault {j} (missing e h) =
      no_line (λ l a. some_byte a.fields l a.says (sym a.is ∙ get_or-eq_default ls [] {n = j} (omega arith)))

  sound-is : {j n : ℕ} → Verdict ls j n → n ≡ 0 → Sound ls j
  sound-is (sound s) e = s
  sound-is (formless f) e = absurd (omega arith)
  sound-is (refused g f m) e = absurd (omega (arith, refuses-low f.refuses))

  number-0 : {j n : ℕ} → Verdict ls j n → Sound ls j → n ≡ 0
  number-0 (sound s) g = refl
  number-0 (formless f) g = absurd (g.0 f)
  number-0 (refused {n} h f m) g = absurd (g.1 n f)

  -- the first line that has a fault
  first-same : (i j : ℕ) → ((h : ℕ) → h < i → Sound ls h) → ((h : ℕ) → h < j → Sound ls h) → ¬ Sound ls i → ¬ Sound ls j → i ≡ j
  first-same i j p q f g =
      by_cases (dec_lt i j) (λ h. absurd (f (q i h))) (λ m. by_cases (dec_lt j i) (λ h. absurd (g (p j h))) (λ n. omega arith))

  form-unsound : {l : ℕ} (f : Formless ls l) → ¬ Sound ls f.j
  form-unsound f s = s.0 (form-fault f.form)

  refused-unsound : {l n : ℕ} (r : Refused ls l n) → ¬ Sound ls r.j
  refused-unsound {l} {n} r s = s.1 n r.fault

  formless-once : {l k : ℕ} → Formless ls l → Formless ls k → l ≡ k
  formless-once f g = omega (arith, f.here, g.here, first-same f.j g.j f.before g.before (form-unsound f) (form-unsound g))

  refused-once : {l n k m : ℕ} → Refused ls l n → Refused ls k m → (l ≡ k) × (n ≡ m)
  refused-once {l} {n} {k} {m} f g =
      let e = first-same f.j g.j f.before g.before (refused-unsound f) (refused-unsound g) in (
        omega (arith, f.here, g.here),
        by_cases (dec_lt n m)
            (λ h. absurd (g.lowest n h (subst (λ (i : ℕ). Fault ls i n) e f.fault)))
            (λ p. by_cases (dec_lt m n) (λ h. absurd (f.lowest m h (subst (λ (i : ℕ). Fault ls i m) (sym e) g.fault))) (λ q. omega arith)),
      )

  not-both : {l n k : ℕ} → Refused ls l n → ¬ Formless ls k
  not-both r f =
      let e = first-same f.j r.j f.before r.before (form-unsound f) (refused-unsound r) in
      r.form (subst (FormFault ls) e (form-fault f.form))

  whole-refused : {l n : ℕ} → Whole ls → ¬ Refused ls l n
  whole-refused w r = refused-unsound r (w.all r.j r.j-in)

  whole-formless : {l : ℕ} → Whole ls → ¬ Formless ls l
  whole-formless w f = go f.form
    where
      go : ¬ NoForm ls f.j
      go (faulty h e) = form-unsound f (w.all f.j h)
      go (missing e h) = omega (arith, w.long)

-- ---- what lines say

abbrev of_frame : (ℕ → ℕ → ℕ → ℕ) → Line → ℕ
of_frame g (Frame a b c d e f) = g a b c
of_frame g (Level a b c d) = 0
of_frame g (Block a b c d e f) = 0
of_frame g Form = 0

first-64 : (columns rows u v : ℕ) (before values : List ℕ) {layout : ℕ} → LevelsAnswer layout (bases columns rows u v) 0 before values
    → take 64 values ≡ tabulate (byte_at (bases columns rows u v)) 64
unfolding levels_done
first-64 columns rows u v before values g =
    let x = bases columns rows u v in ap (take 64) g.stored ∙ take_at (tabulate (byte_at x) 64) (drop 64 before) 64 (length-tabulate (byte_at x) 64)

-- ---- line after line

after_next : (k : Kept) (ls : List (List ℕ)) (j : ℕ) → j < length ls → after k (take (suc j) ls) ≡ step_of (after k (take j ls)) (get_or ls j [])
after_next k [] j h = absurd (omega arith)
after_next k (l ∷ ls) zero h = refl
after_next k (l ∷ ls) (suc j) h = after_next (step_of k l) ls j (omega arith)

module _ (ls : List (List ℕ)) (bytes : (j : ℕ) → Bytes (get_or ls j [])) where
  start-reached : Reached ls bytes 0 start
  unfolding start
  start-reached =
      record {
        number = refl;
        phase = refl;
        frame = λ h. absurd (omega arith);
        values = λ _ _ _ _ h. absurd (omega arith);
        proper = record { width = λ h. absurd (omega arith); height = λ h. absurd (omega arith); layout = λ h. absurd (omega arith) };
        room = start-room;
      }

  reach : (j : ℕ) → j ≤ length ls → (after start (take j ls)).state.number ≡ 0
      → Reached ls bytes j (after start (take j ls)) × ((i : ℕ) → i < j → Sound ls i)
  reach zero h z = (start-reached, λ i l. absurd (omega arith))
  reach (suc j) h z =
      let k = after start (take j ls) in
      let e = after_next start ls j h in
      let y : (step_of k (get_or ls j [])).state.number ≡ 0 = ap (λ (m : Kept). m.state.number) (sym e) ∙ z in
      let r = reach j (omega arith) (unrefused k (get_or ls j [] ∷ []) y) in (
        subst (Reached ls bytes (suc j)) (sym e) (next ls bytes j k r.0 y),
        λ i l. by_cases (dec_lt i j) (r.1 i)
            (λ n. let q : j ≡ i = omega arith in subst (Sound ls) q (sound-is (verdict ls bytes j k r.0) y)),
      )

  accepted-so-far : (j : ℕ) → j ≤ length ls → ((i : ℕ) → i < j → Sound ls i) → (after start (take j ls)).state.number ≡ 0
  accepted-so-far zero h f = start-reached.number
  accepted-so-far (suc j) h f =
      let k = after start (take j ls) in
      let z = accepted-so-far j (omega arith) (λ i l. f i (omega arith)) in
      ap (λ (m : Kept). m.state.number) (after_next start ls j h)
      ∙ number-0 (verdict ls bytes j k (reach j (omega arith) z).0) (f j (omega arith))

  keeps : (j : ℕ) → j ≤ length ls → ((i : ℕ) → i < j → Sound ls i) → Keeps ls j (after start (take j ls))
  keeps j h f =
      let r = (reach j h (accepted-so-far j h f)).0 in
      record {
        number = r.number;
        frame = λ width height layout depth superblock sharpness p a.
            let e = same_line ls bytes (r.frame p).is a in
            (ap (of_frame (λ w v l. w)) e, ap (of_frame (λ w v l. v)) e, ap (of_frame (λ w v l. l)) e);
        values = λ columns rows u v before values p a g. r.values columns rows u v p a ∙ sym (first-64 columns rows u v before values g);
        room = λ x y size tx chroma uvtx p.
            let k = after start (take j ls) in
            let b = block_of k.state x y size tx chroma uvtx in
            let w = (r.proper.width (omega (arith, r.phase))).1 in
            let v = (r.proper.height (omega (arith, r.phase))).1 in
            (no-6 b k.memory r.room w v, no-7 b k.memory r.room w v);
      }

-- ---- the text

module _ (script : List ℕ) where
  abbrev K : Kept
  K = after start (lines_of script)

  prints-form : K.state.number ≡ form → output_of script ≡ form_text K.state.line
  unfolding output_of text_in
  prints-form e = rw (eq-eqb K.state.number form e) refl

  prints-number : ¬ (K.state.number ≡ form) → ¬ (K.state.number ≡ 0) → output_of script ≡ refused_text K.state.line K.state.number
  unfolding output_of text_in
  prints-number f n = rw (ne_eqb K.state.number form f, ne_eqb K.state.number 0 n) refl

  prints-missing : K.state.number ≡ 0 → K.state.phase < 2 → output_of script ≡ form_text (K.state.line + 1)
  unfolding output_of text_in
  prints-missing z l = rw (z, lt-ltb K.state.phase 2 l) refl

  prints-list : K.state.number ≡ 0 → 2 ≤ K.state.phase → output_of script ≡ list_of K
  unfolding output_of text_in
  prints-list z l = rw (z, le-ltb K.state.phase 2 l) refl

  data Ending : Type 0 where
    lists : Whole (lines_of script) → output_of script ≡ list_of K → Ending
    forms : {l : ℕ} → Formless (lines_of script) l → output_of script ≡ form_text l → Ending
    numbers : {l n : ℕ} → Refused (lines_of script) l n → output_of script ≡ refused_text l n → Ending

  module _ (b : Bytes script) where
    accepted : K.state.number ≡ 0 → Ending
    accepted z =
        let ls = lines_of script in
        let e : take (length ls) ls ≡ ls = take_all (length ls) ls (omega arith) in
        let r = reach ls (line-bytes script b) (length ls) (omega arith) (rw e z) in
        let p : K.state.phase ≡ min (length ls) 2 = rw e at r.0.phase in
        by_cases (dec_lt K.state.phase 2)
        (λ h.
        let q : K.state.line ≡ length ls = omega (arith, (left script).early z h) in
        forms (record { j = length ls; here = refl; before = r.1; form = missing refl (omega arith) }) (prints-missing z h ∙ ap (λ (n : ℕ). form_text (n + 1)) q))
        (λ h. lists (record { long = omega arith; all = r.1 }) (prints-list z (omega arith)))

    stopped-at : Stops (lines_of script) K.state.line K.state.number → Ending
    stopped-at st =
        let ls = lines_of script in
        let r = reach ls (line-bytes script b) st.j (omega (arith, st.j-in)) st.before in
        go r.1 (verdict ls (line-bytes script b) st.j (after start (take st.j ls)) r.0) st.refused
      where
        go : {n : ℕ} → ((i : ℕ) → i < st.j → Sound (lines_of script) i) → Verdict (lines_of script) st.j n → n ≡ K.state.number → Ending
        go before (sound s) e = absurd (st.fault (sym e))
        go before (formless f) e =
            forms (record { j = st.j; here = st.here; before = before; form = faulty st.j-in f }) (prints-form (sym e))
        go before (refused {n} g f m) e =
            numbers (record { j = st.j; here = st.here; j-in = st.j-in; before = before; form = g; fault = f; lowest = m })
            (prints-number (λ q. omega (arith, refuses-low f.refuses)) st.fault ∙ ap (refused_text K.state.line) (sym e))

    ending : Ending
    ending = by_cases (ℕ_discrete K.state.number 0) accepted (λ f. stopped-at ((stops script K.state.line K.state.number f).only (refl, refl)))

-- ---- exactly when

module _ (script : List ℕ) (b : Bytes script) where
  exactly-form : (l : ℕ) → Exactly (output_of script ≡ form_text l) (Formless (lines_of script) l)
  exactly-form l = record { only = only (ending script b); always = always (ending script b) }
    where
      only : Ending script → output_of script ≡ form_text l → Formless (lines_of script) l
      only (lists w e) p = absurd (list-form _ l (sym e ∙ p))
      only (forms {l = k} f e) p = subst (Formless (lines_of script)) (form-same k l (sym e ∙ p)) f
      only (numbers {l = k} {n = n} r e) p = absurd (form-refused l k n (sym p ∙ e))

      always : Ending script → Formless (lines_of script) l → output_of script ≡ form_text l
      always (lists w e) f = absurd (whole-formless w f)
      always (forms g e) f = e ∙ ap form_text (formless-once g f)
      always (numbers r e) f = absurd (not-both r f)

  exactly-number : (l n : ℕ) → Exactly (output_of script ≡ refused_text l n) (Refused (lines_of script) l n)
  exactly-number l n = record { only = only (ending script b); always = always (ending script b) }
    where
      only : Ending script → output_of script ≡ refused_text l n → Refused (lines_of script) l n
      only (lists w e) p = absurd (list-refused _ l n (sym e ∙ p))
      only (forms {l = k} f e) p = absurd (form-refused k l n (sym e ∙ p))
      only (numbers {l = k} {n = m} r e) p =
          let s = refused-same k m l n (sym e ∙ p) in
          subst (λ (i : ℕ). Refused (lines_of script) i n) s.0 (subst (Refused (lines_of script) k) s.1 r)

      always : Ending script → Refused (lines_of script) l n → output_of script ≡ refused_text l n
      always (lists w e) r = absurd (whole-refused w r)
      always (forms f e) r = absurd (not-both r f)
      always (numbers {l = k} {n = m} s e) r = let q = refused-once s r in e ∙ ap (λ (i : ℕ). refused_text i m) q.0 ∙ ap (refused_text l) q.1

  exactly-list : Exactly (output_of script ≡ list_of (after start (lines_of script))) (Whole (lines_of script))
  exactly-list = record { only = only (ending script b); always = always (ending script b) }
    where
      only : Ending script → output_of script ≡ list_of (after start (lines_of script)) → Whole (lines_of script)
      only (lists w e) p = w
      only (forms {l = k} f e) p = absurd (list-form _ k (sym p ∙ e))
      only (numbers {l = k} {n = m} r e) p = absurd (list-refused _ k m (sym p ∙ e))

      always : Ending script → Whole (lines_of script) → output_of script ≡ list_of (after start (lines_of script))
      always (lists w e) f = e
      always (forms f e) w = absurd (whole-formless w f)
      always (numbers r e) w = absurd (whole-refused w r)

  ends : Ends (lines_of script)
  ends = go (ending script b)
    where
      go : Ending script → Ends (lines_of script)
      go (lists w e) = whole w
      go (forms f e) = formless f
      go (numbers r e) = refused r

pub promises : Promises
promises =
    record {
      form = λ script l b. exactly-form script b l;
      number = λ script l n b. exactly-number script b l n;
      to-5 = λ script l n b e. refuses-low ((exactly-number script b l n).only e).fault.refuses;
      list = λ script b. exactly-list script b;
      ends = λ script b. ends script b;
      keeps = λ script j b. keeps (lines_of script) (line-bytes script b) j;
    }
