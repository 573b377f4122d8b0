-- A line that comes after lines without a fault: its number tells its fault, and after number 0 the next line comes so too.
use mathlib.Core.List.{List, []}
use mathlib.Core.Logic.{inl, ⊎_elim, by_cases}
use mathlib.Core.Path.{◌≡◌, refl, sym, ap, subst, ◌∙◌}
use Prim.Native.Nat.{ℕ, suc, ◌<◌, ◌≤◌, min}
use native.Mathlib.Decide.{ℕ_discrete, dec_lt}
use native.Mathlib.Omega.{arith}
use borrow.Author.Tests.{lt-ltb, le-ltb}
use lib.ListN.{length, get_or}
use Rattle.loops.specs.Table.{tabulate}
use Rattle.units.specs.Layout.{Layout}
use Rattle.units.proofs.Tests.{reflects-layout}
use Rattle.levels.specs.Levels.{byte_at}
use Rattle.list_fields.specs.Word.{Bytes}
use Rattle.list_script.specs.Line.{Line, Frame, Level, Block, Form}
use Rattle.list_script.specs.Promises.{Says}
use Rattle.list_script.proofs.LinesSaid.{promises as scripts}
use Rattle.list_steps.specs.State.{State, form}
use Rattle.list_steps.specs.Steps.{longest, Kept, said, bases, block_of, step_of}
use Rattle.list_steps.specs.Promises.{Proper}
use Rattle.list_steps.proofs.Outcomes.{promises as steps}
use Rattle.block.specs.Block.{at_block}
use Rattle.list_numbers.specs.Faults.{At, InTurn, FormFault, too_long, no_line, out-of-turn, Refuses, Fault, Sound}
use Rattle.list_numbers.proofs.LineSteps.{form-number, frame-late, frame-number, frame-state, level-late, level-number, level-state, level-values}
use Rattle.list_numbers.proofs.LineSteps.{block-late, block-number, block-state, block-values}
use Rattle.list_numbers.proofs.MemoryFits.{Room, step_room, no-6, no-7}
use Rattle.list_numbers.proofs.LineNumber.{Judged, clear, refuses, frame-judged, level-judged, block-judged}

pub data Verdict (ls : List (List ℕ)) (j : ℕ) : ℕ → Type 0 where
  sound : Sound ls j → Verdict ls j 0
  formless : FormFault ls j → Verdict ls j form
  refused : {n : ℕ} → ¬ FormFault ls j → Fault ls j n → ((m : ℕ) → m < n → ¬ Fault ls j m) → Verdict ls j n

-- the level values of a level line
abbrev values_of : Line → List ℕ
values_of (Frame a b c d e f) = []
values_of (Level a b c d) = tabulate (byte_at (bases a b c d)) 64
values_of (Block a b c d e f) = []
values_of Form = []

-- a line that has fields says something
abbrev Said : Line → Type 0
Said Form = ⊥
Said l = Unit {0}

says-so : {fs : List (List ℕ)} {l : Line} → Says fs l → Said l
says-so (Says.frame a b c d e f) = tt
says-so (Says.level a b c d) = tt
says-so (Says.block a b c d e f g h) = tt

no-form : (fs : List (List ℕ)) → ¬ Says fs Form
no-form fs s = says-so s

module _ (ls : List (List ℕ)) (bytes : (j : ℕ) → Bytes (get_or ls j [])) where
  -- ---- what a line says

  pub same_line : {j : ℕ} {l m : Line} → At ls j l → At ls j m → l ≡ m
  same_line {j} {l} {m} a b =
      scripts.unique (get_or ls j []) l m (bytes j) (inl (a.fields, a.says, a.is)) (inl (b.fields, b.says, b.is))

  data Told (j : ℕ) : Type 0 where
    nothing : said (get_or ls j []) ≡ Form → FormFault ls j → Told j
    something : {l : Line} → said (get_or ls j []) ≡ l → length (get_or ls j []) ≤ longest → At ls j l → Told j

  told : (j : ℕ) → Told j
  unfolding said
  told j =
      by_cases (dec_lt longest (length (get_or ls j [])))
      (λ h. nothing (rw (lt-ltb longest (length (get_or ls j [])) h) refl) (too_long h))
      (λ h.
      let e = le-ltb longest (length (get_or ls j [])) (omega arith) in
      ⊎_elim
      (λ p. something (rw e refl) (omega arith) (record { fields = p.0; says = p.1; is = p.2 }))
      (λ p. nothing (rw e p.0) (no_line (λ l a. p.1 a.fields l a.says a.is)))
      (scripts.reads (get_or ls j []) (bytes j)))

  -- ---- a line that is judged

  module _ {j : ℕ} {f l : Line} (first : At ls 0 f) (line : At ls j l) (short : length (get_or ls j []) ≤ longest) (turn : InTurn l j) where
    well-formed : ¬ FormFault ls j
    well-formed (too_long h) = omega arith
    well-formed (no_line n) = n l line
    well-formed (out-of-turn a n) = n (subst (λ (m : Line). InTurn m j) (same_line line a) turn)

    fault-of : {n : ℕ} → Fault ls j n → Refuses f l n
    fault-of {n} r =
        subst (λ (g : Line). Refuses g l n) (same_line r.first-is first)
        (subst (λ (m : Line). Refuses r.first m n) (same_line r.line-is line) r.refuses)

    judged : {n : ℕ} → Judged f l n → Verdict ls j n
    judged (clear c) = sound (well-formed, λ n r. c n (fault-of r))
    judged (refuses r c) =
        refused well-formed (record { first = f; first-is = first; line = l; line-is = line; refuses = r }) (λ m h g. c m h (fault-of g))

  -- ---- after lines without a fault

  pub record Framed (s : State) : Type 0 where
    pub depth : ℕ
    pub superblock : ℕ
    pub sharpness : ℕ
    pub is : At ls 0 (Frame s.width s.height s.layout depth superblock sharpness)

  pub record Reached (j : ℕ) (k : Kept) : Type 0 where
    pub number : k.state.number ≡ 0
    pub phase : k.state.phase ≡ min j 2
    pub frame : 0 < j → Framed k.state
    pub values : (columns rows u v : ℕ) → 1 < j → At ls 1 (Level columns rows u v) → k.values ≡ tabulate (byte_at (bases columns rows u v)) 64
    pub proper : Proper k.state
    pub room : Room k.memory

  module _ (j : ℕ) (k : Kept) (r : Reached j k) where
    abbrev s : List ℕ
    s = get_or ls j []

    laid : 0 < j → Layout k.state.layout
    laid h = (reflects-layout k.state.layout).yes (r.proper.layout (omega (arith, r.phase)))

    pub verdict : Verdict ls j (step_of k s).state.number
    verdict = go (told j)
      where
        late : {l : Line} → At ls j l → (step_of k s).state.number ≡ form → ¬ InTurn l j → Verdict ls j (step_of k s).state.number
        late a e n = rw e (formless (out-of-turn a n))

        of : (l : Line) → said s ≡ l → length s ≤ longest → At ls j l → Verdict ls j (step_of k s).state.number
        of (Frame a b c d e f) q h at =
            by_cases (ℕ_discrete j 0)
            (λ z. rw (frame-number k s r.number q (omega (arith, r.phase))) (judged (subst (λ (i : ℕ). At ls i (Frame a b c d e f)) z at) at h z (frame-judged _ a b c d e f)))
            (λ z. late at (frame-late k s r.number q (λ p. omega (arith, r.phase))) z)
        of (Level a b c d) q h at =
            by_cases (ℕ_discrete j 1)
            (λ z.
            let f = r.frame (omega arith) in
            rw (level-number k s r.number q (omega (arith, r.phase)))
            (judged f.is at h z (level-judged k.state.width k.state.height k.state.layout f.depth f.superblock f.sharpness a b c d (laid (omega arith)))))
            (λ z. late at (level-late k s r.number q (λ p. omega (arith, r.phase))) z)
        of (Block x y size tx chroma uvtx) q h at =
            by_cases (dec_lt 1 j)
            (λ z.
            let f = r.frame (omega arith) in
            let b = block_of k.state x y size tx chroma uvtx in
            let w = r.proper.width (omega (arith, r.phase)) in
            let v = r.proper.height (omega (arith, r.phase)) in
            rw (block-number k s r.number q (omega (arith, r.phase)))
            (judged f.is at h z
            (block-judged k.state.width k.state.height k.state.layout f.depth f.superblock f.sharpness x y size tx chroma uvtx
            (laid (omega arith)) w v (at_block b k.memory) (no-6 b k.memory r.room w.1 v.1) (no-7 b k.memory r.room w.1 v.1))))
            (λ z. late at (block-late k s r.number q (λ p. omega (arith, r.phase))) (λ p. z p))
        of Form q h at = absurd (no-form at.fields at.says)

        go : Told j → Verdict ls j (step_of k s).state.number
        go (nothing e f) = rw (form-number k s r.number e) (formless f)
        go (something {l} e h a) = of l e h a

    -- the state after an accepted line
    pub next : (step_of k s).state.number ≡ 0 → Reached (suc j) (step_of k s)
    next z = go (told j)
      where
        moved : {t : State} → (step_of k s).state ≡ t → t.phase ≡ min (suc j) 2 → Framed t
            → ((columns rows u v : ℕ) → 1 < suc j → At ls 1 (Level columns rows u v) → (step_of k s).values ≡ tabulate (byte_at (bases columns rows u v)) 64)
            → Reached (suc j) (step_of k s)
        moved e p f v =
            record {
              number = z;
              phase = ap (λ (t : State). t.phase) e ∙ p;
              frame = λ _. subst Framed (sym e) f;
              values = v;
              proper = steps.proper k s r.proper;
              room = step_room k s r.number r.room;
            }

        never : (step_of k s).state.number ≡ form → Reached (suc j) (step_of k s)
        never e = absurd (omega arith)

        of : (l : Line) → said s ≡ l → At ls j l → Reached (suc j) (step_of k s)
        of (Frame a b c d e f) q at =
            by_cases (ℕ_discrete k.state.phase 0)
            (λ p.
            let y : j ≡ 0 = omega (arith, r.phase) in
            moved (frame-state k s r.number q p (sym (frame-number k s r.number q p) ∙ z)) (omega arith)
            (record { depth = d; superblock = e; sharpness = f; is = subst (λ (i : ℕ). At ls i (Frame a b c d e f)) y at })
            (λ _ _ _ _ h. absurd (omega arith)))
            (λ p. never (frame-late k s r.number q p))
        of (Level a b c d) q at =
            by_cases (ℕ_discrete k.state.phase 1)
            (λ p.
            let f = r.frame (omega (arith, r.phase)) in
            let n = sym (level-number k s r.number q p) ∙ z in
            let y : j ≡ 1 = omega (arith, r.phase) in
            moved (level-state k s r.number q p n) (omega (arith, r.phase))
            (record { depth = f.depth; superblock = f.superblock; sharpness = f.sharpness; is = f.is })
            (λ columns rows u v _ g.
            level-values k s r.number q p n ∙ ap values_of (same_line (subst (λ (i : ℕ). At ls i (Level a b c d)) y at) g)))
            (λ p. never (level-late k s r.number q p))
        of (Block x y size tx chroma uvtx) q at =
            by_cases (ℕ_discrete k.state.phase 2)
            (λ p.
            let f = r.frame (omega (arith, r.phase)) in
            let n = sym (block-number k s r.number q p) ∙ z in
            moved (block-state k s r.number q p n) (omega (arith, r.phase))
            (record { depth = f.depth; superblock = f.superblock; sharpness = f.sharpness; is = f.is })
            (λ columns rows u v _ g. block-values k s r.number q p n ∙ r.values columns rows u v (omega (arith, r.phase)) g))
            (λ p. never (block-late k s r.number q p))
        of Form q at = absurd (no-form at.fields at.says)

        go : Told j → Reached (suc j) (step_of k s)
        go (nothing e f) = never (form-number k s r.number e)
        go (something {l} e h a) = of l e a
