-- Lines are taken off a part of a script one after another: what is left goes on from what is kept as the whole did, whatever comes after it.
--   Taking     the loop's invariant: `e` is the end of the line at `at`
use mathlib.Core.List.{List, [], ◌++◌, append-nil}
use mathlib.Core.Path.{◌≡◌, refl, sym, ap, ap₂, subst, ◌∙◌}
use Prim.Native.Nat.{ℕ, ◌+◌, ◌-◌, ◌<◌, ◌≤◌}
use native.Mathlib.Omega.{arith}
use lib.ListN.{length, take, drop, length-drop, drop_of_length-le}
use lib.Seq.{drop-drop, take_all}
use Rattle.list_fields.specs.Fields.{cut}
use Rattle.list_fields.proofs.Cuts.{end-in}
use Rattle.list_text.specs.Text.{end}
use Rattle.list_steps.specs.Steps.{Kept, step_of}
use Rattle.list_call.specs.Listing.{lines_of, after, Taken}
use Rattle.list_call.proofs.Lines.{line-off, line-open}
use Rattle.list_call.proofs.Runs.{step-most}

pub record Taking (k : Kept) (s : List ℕ) (m : Kept) (at e : ℕ) : Type 0 where
  pub part : at ≤ length s
  pub at-end : e ≡ at + cut end (drop at s)
  pub same : (t : List ℕ) → after k (lines_of (s ++ t)) ≡ after m (lines_of (drop at s ++ t))
  pub line : m.state.line ≤ k.state.line + at

pub taking-none : (k : Kept) (s : List ℕ) (e : ℕ) → e ≡ 0 + cut end (drop 0 s) → Taking k s k 0 e
taking-none k s e h = record { part = omega arith; at-end = h; same = λ t. refl; line = omega arith }

pub taking_step : (k : Kept) (s : List ℕ) (m n : Kept) (at e f : ℕ) → Taking k s m at e → e < length s → n ≡ step_of m (take (e - at) (drop at s))
    → f ≡ e + 1 + cut end (drop (e + 1) s) → Taking k s n (e + 1) f
taking_step k s m n at e f g h p q =
    let u = drop at s in
    let c : e - at ≡ cut end u = omega (arith, g.at-end) in
    let l : cut end u < length u = omega (arith, g.at-end, length-drop at s) in
    let d : drop (cut end u + 1) u ≡ drop (e + 1) s =
    drop-drop (cut end u + 1) at s ∙ ap (λ (i : ℕ). drop i s) (at_next g.at-end)
    in
    record {
      part = omega arith;
      at-end = q;
      same = λ t.
          g.same t
          ∙ ap (λ (ls : List (List ℕ)). after m ls) (line-off u t l)
          ∙ ap₂ (λ (i : ℕ) (r : List ℕ). after (step_of m (take i u)) (lines_of (r ++ t))) (sym c) d
          ∙ ap (λ (o : Kept). after o (lines_of (drop (e + 1) s ++ t))) (sym p);
      line = subst (λ (o : Kept). o.state.line ≤ k.state.line + (e + 1)) (sym p) (omega (arith, step-most m (take (e - at) u), g.line, g.at-end));
    }
  where
    at_next : e ≡ at + cut end (drop at s) → at + (cut end (drop at s) + 1) ≡ e + 1
    at_next z = omega arith

pub taken-all : (k : Kept) (s : List ℕ) (m : Kept) (at e : ℕ) → Taking k s m at e → length s ≤ e → Taken k s m at
taken-all k s m at e g h =
    record { part = g.part; rest = omega (arith, g.at-end, g.part, length-drop at s, end-in end s at g.part); same = g.same; line = g.line }

-- ---- the last line

pub run-whole : (k : Kept) (s : List ℕ) (m : Kept) (at : ℕ) → Taken k s m at → length s ≤ at → m ≡ after k (lines_of s)
run-whole k s m at g h =
    sym (ap (λ (l : List ℕ). after k (lines_of l)) (sym (append-nil s))
    ∙ g.same []
    ∙ ap (λ (l : List ℕ). after m (lines_of l)) (append-nil (drop at s) ∙ drop_of_length-le s h))

pub run-last : (k : Kept) (s : List ℕ) (m n : Kept) (at : ℕ) → Taken k s m at → at < length s → n ≡ step_of m (take (length s - at) (drop at s)) → n ≡ after k (lines_of s)
run-last k s m n at g h p =
    p
    ∙ ap (λ (l : List ℕ). step_of m l) (take_all (length s - at) (drop at s) (omega (arith, length-drop at s)))
    ∙ sym (ap (λ (l : List ℕ). after k (lines_of l)) (sym (append-nil s))
    ∙ g.same []
    ∙ ap (λ (l : List ℕ). after m (lines_of l)) (append-nil (drop at s))
    ∙ ap (λ (ls : List (List ℕ)). after m ls) (line-open (drop at s) (omega (arith, length-drop at s)) g.rest))
