-- The text of a state, by its tests in their order, and the answer of `list` from the text stored in the room.
use mathlib.Core.List.{List}
use mathlib.Core.Path.{◌≡◌, sym, ap, ap₂, subst, ◌∙◌}
use Prim.Native.Nat.{ℕ, ◌+◌, ◌*◌, ◌/◌, ◌<◌, ◌≤◌}
use native.Mathlib.Omega.{arith}
use borrow.Author.Tests.{eq-eqb, ne_eqb, lt-ltb, le-ltb, le-leb, lt-leb}
use lib.ListN.{length, take, drop}
use lib.Seq.{take_at}
use Rattle.loops.proofs.Products.{prod-le}
use Rattle.units.specs.Units.{units_of}
use Rattle.list_decimal.specs.Decimal.{pasted}
use Rattle.list_fields.specs.Word.{Bytes}
use Rattle.list_text.specs.Text.{refused_text, form_text, Put}
use Rattle.list_edges.specs.Listed.{list_text}
use Rattle.list_put.proofs.Lengths.{promises as lists}
use Rattle.list_put.specs.Written.{held_of, Fits}
use Rattle.list_steps.specs.State.{State, form}
use Rattle.list_steps.specs.Steps.{Kept}
use Rattle.list_call.specs.Listing.{lines_of, start, after, held_in, text_in, text_of, output_of, room, ListAnswer, Left, Texted, Listable}
use Rattle.list_call.proofs.PartLeft.{left}
use Rattle.list_call.proofs.OutputFits.{form-short, refused-short}

module _ (s : State) (levels masks : List ℕ) where
  text-form : s.number ≡ form → form_text s.line ≡ text_in s levels masks
  unfolding text_in
  text-form e = simp (eq-eqb s.number form e)

  text-refused : ¬ (s.number ≡ form) → ¬ (s.number ≡ 0) → refused_text s.line s.number ≡ text_in s levels masks
  unfolding text_in
  text-refused f n = simp (ne_eqb s.number form f, ne_eqb s.number 0 n)

  text-early : ¬ (s.number ≡ form) → s.number ≡ 0 → s.phase < 2 → form_text (s.line + 1) ≡ text_in s levels masks
  unfolding text_in
  text-early f z l = simp (ne_eqb s.number form f, eq-eqb s.number 0 z, lt-ltb s.phase 2 l)

  text-list : ¬ (s.number ≡ form) → s.number ≡ 0 → 2 ≤ s.phase → list_text (held_in s levels masks) ≡ text_in s levels masks
  unfolding text_in
  text-list f z l = simp (ne_eqb s.number form f, eq-eqb s.number 0 z, le-ltb s.phase 2 l)

  put_as : (t : List ℕ) (before after : List ℕ) (r : ℕ) → t ≡ text_in s levels masks → Put before 0 t after r → Put before 0 (text_in s levels masks) after r
  put_as t before after r e p = subst (λ (u : List ℕ). Put before 0 u after r) e p

  pub form-texted : (before after : List ℕ) (r : ℕ) → length after ≡ length before → s.line < 18446744073709551616 → s.number ≡ form
      → Put before 0 (form_text s.line) after r → Texted s levels masks before after r
  form-texted before after r o l e p =
      record { short = omega (arith, p.next, form-short s.line (omega arith)); long = o; stored = λ _. put_as (form_text s.line) before after r (text-form e) p }

  pub refused-texted : (before after : List ℕ) (r : ℕ) → length after ≡ length before → s.line < 18446744073709551616 → s.number < 4294967296 → ¬ (s.number ≡ form) → ¬ (s.number ≡ 0)
      → Put before 0 (refused_text s.line s.number) after r → Texted s levels masks before after r
  refused-texted before after r o l m f n p =
      record {
        short = omega (arith, p.next, refused-short s.line s.number (omega arith) (omega arith));
        long = o;
        stored = λ _. put_as (refused_text s.line s.number) before after r (text-refused f n) p;
      }

  pub early-texted : (before after : List ℕ) (r : ℕ) → length after ≡ length before → s.number ≡ 0 → {p : ℕ} → s.phase ≡ p → p < 2
      → Put before 0 (form_text (p + 1)) after r → Texted s levels masks before after r
  early-texted before after r o z {p} e l q =
      record {
        short = omega (arith, q.next, form-short (p + 1) (omega arith));
        long = o;
        stored = λ h.
            put_as (form_text (p + 1)) before after r
            (ap (λ (n : ℕ). form_text (n + 1)) (sym (h.early z (omega arith) ∙ e)) ∙ text-early (λ f. omega arith) z (omega arith)) q;
      }

  pub list-texted : (before after : List ℕ) (r : ℕ) → length after ≡ length before → s.number ≡ 0 → 2 ≤ s.phase
      → (r ≤ room) × Put before 0 (list_text (held_in s levels masks)) after r → Texted s levels masks before after r
  list-texted before after r o z l p =
      record { short = p.0; long = o; stored = λ _. put_as (list_text (held_in s levels masks)) before after r (text-list (λ f. omega arith) z l) p.1 }

-- ---- the list

pub list-fits : (s : State) (w h levels masks out : ℕ) → Listable s levels masks out → w ≡ units_of s.width → h ≡ units_of s.height → Fits w h levels masks
list-fits s w h levels masks out g e f =
    let p : w ≤ 64 = omega arith in
    let q : h ≤ 64 = omega arith in
    record {
      width = p;
      height = q;
      levels-long = omega (arith, prod-le (4 * w) h 256 64 (omega arith) q);
      masks-long = omega (arith, prod-le ((w + 31) / 32) ((h + 31) / 32) 2 2 (omega arith) (omega arith));
    }

pub edges-put : (s : State) (w h a b c : ℕ) (levels masks before after : List ℕ) (r : ℕ) → Listable s a b c → w ≡ units_of s.width → h ≡ units_of s.height → Bytes levels
    → Put before 0 (list_text (held_of s.layout w h levels masks)) after r → (r ≤ room) × Put before 0 (list_text (held_in s levels masks)) after r
edges-put s w h a b c levels masks before after r g e f m p = (
  omega (arith, p.next, lists.room (held_of s.layout w h levels masks) (omega arith) (omega arith) m),
  subst (λ (t : List ℕ). Put before 0 t after r) (ap₂ (λ (x y : ℕ). list_text (held_of s.layout x y levels masks)) e f) p,
)

-- ---- the answer

stored-text : (t x u : List ℕ) (n : ℕ) → Put t 0 x u n → take n u ≡ x
stored-text t x u n p =
    ap (λ (l : List ℕ). take n l) p.stored ∙ take_at x (drop (0 + length x) t) n (omega (arith, p.next))

pub from_start : (s k : Kept) (script : List ℕ) → s ≡ start → k ≡ after s (lines_of script) → k ≡ after start (lines_of script)
from_start s k script e h = h ∙ ap (λ (x : Kept). after x (lines_of script)) e

module _ (script : List ℕ) (k : Kept) (kept : k ≡ after start (lines_of script)) {t u : List ℕ} {n : ℕ}
    (texted : Texted k.state k.memory.levels k.memory.masks t u n) where
  text-is : text_of k ≡ output_of script
  unfolding output_of
  text-is = ap text_of kept

  pub text-put : Put t 0 (output_of script) u n
  text-put = subst (λ (x : List ℕ). Put t 0 x u n) text-is (texted.stored (subst (λ (m : Kept). Left m.state) (sym kept) (left script)))

  list-long : n ≡ length (output_of script)
  list-long = omega (arith, text-put.next)

  pub listed : (before out : List ℕ) (e : ℕ) → n ≤ length before → Put before 0 (take n u) out e → ListAnswer script n before out
  listed before out e h q =
      let x = stored-text t (output_of script) u n text-put in
      record { long = list-long; stored = q.stored ∙ ap (λ (l : List ℕ). pasted before 0 l) x ∙ simp (le-leb n (length before) h) }

  pub unlisted : (before : List ℕ) → length before < n → ListAnswer script n before before
  unlisted before h = record { long = list-long; stored = simp (lt-leb n (length before) h) }
