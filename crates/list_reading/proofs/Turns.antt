-- One part of a script: what a read puts after the bytes that are held follows them in the rest, and whole lines are taken off its front.
use mathlib.Core.List.{List, [], ◌∷◌, ◌++◌, append_assoc, append-nil}
use mathlib.Core.Path.{◌≡◌, refl, sym, ap, ap₂, subst, ◌∙◌}
use Prim.Native.Nat.{ℕ, zero, suc, ◌+◌, ◌-◌, ◌<◌, ◌≤◌}
use native.Mathlib.Omega.{arith}
use lib.ListN.{length, take, drop, length-append, length-drop}
use lib.Seq.{take-nil, take-add, drop-drop, length-take-le}
use Rattle.std.proofs.Common.{Result, Ok, Err, IfOk}
use Rattle.std.specs.Result.{result_unwrap_or}
use Rattle.list_text.specs.Text.{Put}
use Rattle.list_steps.specs.Steps.{Kept}
use Rattle.list_call.specs.Listing.{lines_of, start, after, output_of, Taken, Texted}
use Rattle.list_call.proofs.Texts.{from_start, text-put}
use Rattle.list_reading.specs.Reading.{IsPrefixLen, rest, last, Safe, Reads, Roomy, Adds, Reached, Ended, ListedAnswer}

-- ---- the rest

drop-take : (at n : ℕ) (b : List ℕ) → drop at (take n b) ≡ take (n - at) (drop at b)
drop-take zero n b = let e : n ≡ n - 0 = omega arith in ap (λ (i : ℕ). take i b) e
drop-take (suc at) zero b = let e : 0 ≡ 0 - suc at = omega arith in ap (λ (i : ℕ). take i (drop (suc at) b)) e
drop-take (suc at) (suc n) [] = sym (take-nil (suc n - suc at))
drop-take (suc at) (suc n) (x ∷ b) =
    let e : n - at ≡ suc n - suc at = omega arith in
    drop-take at n b ∙ ap (λ (i : ℕ). take i (drop at b)) e

rest_more : (at held n : ℕ) (b c : List ℕ) → at ≤ held → take held c ≡ take held b → rest at (held + n) c ≡ rest at held b ++ take n (drop held c)
rest_more at held n b c h e =
    let x : held + n - at ≡ held - at + n = omega arith in
    let y : at + (held - at) ≡ held = omega arith in
    ap (λ (i : ℕ). take i (drop at c)) x
    ∙ take-add (held - at) n (drop at c)
    ∙ ap₂ (λ (u v : List ℕ). u ++ take n v)
    (sym (drop-take at held c) ∙ ap (λ (l : List ℕ). drop at l) e ∙ drop-take at held b)
    (drop-drop (held - at) at c ∙ ap (λ (i : ℕ). drop i c) y)

rest-less : (at j e : ℕ) (b : List ℕ) → drop j (rest at e b) ≡ rest (at + j) e b
rest-less at j e b =
    let x : e - at - j ≡ e - (at + j) = omega arith in
    drop-take j (e - at) (drop at b) ∙ ap₂ (λ (i : ℕ) (l : List ℕ). take i l) x (drop-drop j at b)

length_rest : (at e : ℕ) (b : List ℕ) → e ≤ length b → length (rest at e b) ≡ e - at
length_rest at e b h = length-take-le (e - at) (drop at b) (omega (arith, length-drop at b))

-- ---- a part

-- what a read that failed gives is 0 bytes
pub read-some : {E : Type 0} (P : ℕ → Type 0) (r : Result ℕ E) (n : ℕ) → n ≡ result_unwrap_or r 0 → IfOk r P → P 0 → P n
read-some P (Ok m) n e h z = subst P (sym e) h
read-some P (Err f) n e h z = subst P (sym e) z

module _ (k : Kept) (at held read : ℕ) (b : List ℕ) (safe : Safe k.state.line at held read (length b)) (b₁ : List ℕ) (gone : ℕ) (long₁ : length b₁ ≡ length b)
    (roomy : Roomy b at held b₁ gone) (b₂ : List ℕ) (n most : ℕ) (long₂ : length b₂ ≡ length b₁)
    (got : (take (held - gone) b₂ ≡ take (held - gone) b₁) × (held - gone + n ≤ length b₁) × (n ≤ most)) where
  new_is : last (read + n - read) (held - gone + n) b₂ ≡ take n (drop (held - gone) b₂)
  new_is =
      let x : read + n - read ≡ n = omega arith in
      let y : held - gone + n - (read + n - read) ≡ held - gone = omega arith in
      ap₂ (λ (i j : ℕ). take i (drop j b₂)) x y

  module _ (m : Kept) (j : ℕ) (taken : Taken k (rest (at - gone) (held - gone + n) b₂) m j) where
    taken_in : j ≤ held - gone + n - (at - gone)
    taken_in = omega (arith, taken.part, length_rest (at - gone) (held - gone + n) b₂ (omega (arith, got.1)))

    module _ (start : Kept) (bytes : List ℕ) (g : Reads start bytes k at held read b) where
      new : List ℕ
      new = last (read + n - read) (held - gone + n) b₂

      counted : read + n ≡ length (bytes ++ new)
      unfolding new
      counted =
          let l : length (drop (held - gone) b₂) ≡ length b₂ - (held - gone) = length-drop (held - gone) b₂ in
          let x : length (take n (drop (held - gone) b₂)) ≡ n = length-take-le n (drop (held - gone) b₂) (omega (arith, got.1)) in
          omega (arith, g.counted, length-append bytes new, ap length new_is, x)

      whole : read + n < length b₂ → (held - gone + n ≡ read + n) × (take (held - gone + n) b₂ ≡ bytes ++ new)
      unfolding new
      whole h =
          let w = g.whole (omega arith) in
          let e = roomy.early (omega (arith, w.0)) in
          let x : held - gone ≡ held = omega (arith, e.0) in (
            omega (arith, w.0),
            take-add (held - gone) n b₂
                ∙ ap₂ (λ (u v : List ℕ). u ++ v)
                (got.0 ∙ ap₂ (λ (i : ℕ) (l : List ℕ). take i l) x e.1 ∙ w.1) (sym new_is),
          )

      same : (t : List ℕ) → after start (lines_of ((bytes ++ new) ++ t)) ≡ after m (lines_of (rest (at - gone + j) (held - gone + n) b₂ ++ t))
      unfolding new
      same t =
          let s = rest (at - gone) (held - gone + n) b₂ in
          let x : rest at held b ++ new ≡ s =
          ap₂ (λ (u v : List ℕ). u ++ v) (sym roomy.kept) new_is ∙ sym (rest_more (at - gone) (held - gone) n b₁ b₂ (omega (arith, safe.part, roomy.less)) got.0)
          in
          ap (λ (l : List ℕ). after start (lines_of l)) (append_assoc bytes new t)
          ∙ g.same (new ++ t)
          ∙ ap (λ (l : List ℕ). after k (lines_of l)) (sym (append_assoc (rest at held b) new t) ∙ ap (λ (l : List ℕ). l ++ t) x)
          ∙ taken.same t
          ∙ ap (λ (l : List ℕ). after m (lines_of (l ++ t))) (rest-less (at - gone) j (held - gone + n) b₂)

      goes_on : Reads start (bytes ++ last (read + n - read) (held - gone + n) b₂) m (at - gone + j) (held - gone + n) (read + n) b₂
      unfolding new
      goes_on = record { counted = counted; whole = whole; same = same }

    pub adds : Adds k at held read b m (at - gone + j) (held - gone + n) (read + n) b₂ most
    adds =
        record {
          safe =
              record {
                part = omega (arith, taken_in, safe.part, roomy.less);
                room = omega (arith, got.1);
                fewer = omega (arith, safe.fewer);
                lines = omega (arith, taken.line, taken_in, safe.lines, safe.part, roomy.less);
              };
          more = omega arith;
          few = omega (arith, got.2);
          reads = goes_on;
        }

-- ---- all parts

pub reached-none : (k : Kept) (total : ℕ) (b : List ℕ) → k.state.line ≡ 0 → Reached k total k 0 0 0 b
reached-none k total b e =
    record {
      safe = record { part = omega arith; room = omega arith; fewer = omega arith; lines = omega (arith, e) };
      most = omega arith;
      bytes = [];
      reads = record { counted = refl; whole = λ _. (refl, refl); same = λ t. refl };
    }

pub reached-more : (start : Kept) (total : ℕ) (k : Kept) (at held read : ℕ) (b : List ℕ) (m : Kept) (at' held' read' : ℕ) (c : List ℕ) (most : ℕ) → Reached start total k at held read b
    → Adds k at held read b m at' held' read' c most → length c ≡ length b → read + most ≤ total → Reached start total m at' held' read' c
reached-more start total k at held read b m at' held' read' c most g a l h =
    record {
      safe = subst (λ (n : ℕ). Safe m.state.line at' held' read' n) (sym l) a.safe;
      most = omega (arith, a.few);
      bytes = g.bytes ++ last (read' - read) held' c;
      reads = a.reads start g.bytes g.reads;
    }

pub ended : (start : Kept) (total : ℕ) (k : Kept) (at held read : ℕ) (b : List ℕ) (m : Kept) → Reached start total k at held read b
    → m ≡ after k (lines_of (rest at held b)) → Ended start total m read b
ended start total k at held read b m g e =
    record {
      bytes = g.bytes;
      all =
          record {
            counted = g.reads.counted;
            most = g.most;
            whole = λ h. let w = g.reads.whole h in sym w.1 ∙ ap (λ (i : ℕ). take i b) w.0;
          };
      kept =
          e
          ∙ ap (λ (l : List ℕ). after k (lines_of l)) (sym (append-nil (rest at held b)))
          ∙ sym (g.reads.same [])
          ∙ ap (λ (l : List ℕ). after start (lines_of l)) (append-nil g.bytes);
    }

-- ---- the listing

put-counts : (l s k : List ℕ) (e : ℕ) → Put l 0 s k e → IsPrefixLen e k
put-counts l s k e p =
    let f : e ≤ length k = omega (arith, p.next, ap length p.stored, length-append s (drop (0 + length s) l)) in
    (f, sym (length-take-le e k f))

pub answered : (total : ℕ) (s k : Kept) (read : ℕ) (b t u : List ℕ) (n : ℕ) → s ≡ start → Ended s total k read b
    → Texted k.state k.memory.levels k.memory.masks t u n → ListedAnswer total read b n t u
answered total s k read b t u n z e h =
    let p = text-put e.bytes k (from_start s k e.bytes z e.kept) h in
    record { bytes = e.bytes; all = e.all; listing = p; fits = put-counts t (output_of e.bytes) u n p }
