-- Every output fits the room: a refused line has a number of at most 20 digits, and a list has no more lines than a frame of 256 by 256 has edges.
use mathlib.Core.Bool.{Bool, true, false, cond}
use mathlib.Core.List.{List}
use mathlib.Core.Path.{◌≡◌, refl}
use Prim.Native.Nat.{ℕ, ◌+◌, ◌<◌, ◌≤◌}
use native.Mathlib.Omega.{arith}
use borrow.Author.Tests.{ltb-false}
use lib.Dec.{eqb, ltb}
use lib.ListN.{length}
use Rattle.list_decimal.proofs.Numerals as decimal
use Rattle.list_fields.specs.Word.{Bytes}
use Rattle.list_text.specs.Text.{tab, end, field_text, refused_text, form_text}
use Rattle.list_text.proofs.Puts.{field-long, refused-long, form-long}
use Rattle.list_put.proofs.Lengths.{promises as lists}
use Rattle.list_steps.specs.State.{State, form}
use Rattle.list_steps.specs.Promises.{Proper}
use Rattle.loops.specs.Flag.{on}
use Rattle.list_call.specs.Listing.{lines_of, start, after, held_in, text_in, output_of, room}
use Rattle.list_call.proofs.Bounds.{after-bounded, start-bounded}
use Rattle.list_call.proofs.PartLeft.{left}
use Rattle.list_call.proofs.Lines.{lines-most}
use Rattle.list_call.proofs.Runs.{after-most, start-line}

pub line-short : (n b : ℕ) → n ≤ 18446744073709551616 → length (field_text n b) ≤ 21
line-short n b h = omega (arith, field-long n b, (decimal.promises).short n 19 (omega arith))

pub form-short : (line : ℕ) → line ≤ 18446744073709551616 → length (form_text line) ≤ 34
form-short line h = omega (arith, form-long line, line-short line tab h)

pub refused-short : (line number : ℕ) → line ≤ 18446744073709551616 → number ≤ 18446744073709551616 → length (refused_text line number) ≤ 50
refused-short line number h g = omega (arith, refused-long line number, line-short line tab h, line-short number end g)

pick : (b : Bool) (x y : List ℕ) → (b ≡ true → length x ≤ room) → (b ≡ false → length y ≤ room) → length (cond b x y) ≤ room
pick true x y p q = p refl
pick false x y p q = q refl

text-fits : (s : State) (levels masks : List ℕ) → s.line < 18446744073709551616 → s.number ≤ form → Proper s → Bytes levels
    → length (text_in s levels masks) ≤ room
unfolding text_in
text-fits s levels masks l n p b =
    pick (eqb s.number form) _ _
    (λ _. omega (arith, form-short s.line (omega arith)))
    (λ _.
    pick (on s.number) _ _
    (λ _. omega (arith, refused-short s.line s.number (omega arith) (omega arith)))
    (λ _.
    pick (ltb s.phase 2) _ _
    (λ _. omega (arith, form-short (s.line + 1) (omega arith)))
    (λ e.
    let f : 0 < s.phase = omega (arith, ltb-false s.phase 2 e) in
    let w = p.width f in
    let h = p.height f in
    lists.room (held_in s levels masks) (omega arith) (omega arith) b)))

pub fits : (script : List ℕ) → length script < 18446744073709551616 → length (output_of script) ≤ room
unfolding output_of
fits script h =
    let k = after start (lines_of script) in
    let b = after-bounded start (lines_of script) start-bounded in
    text-fits k.state k.memory.levels k.memory.masks
    (omega (arith, after-most start (lines_of script), lines-most script, start-line)) b.number (left script).proper b.levels
