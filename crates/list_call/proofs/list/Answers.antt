-- `list` meets its contract: what `put_text` leaves in the room is the output, and its first bytes are stored where they fit.
use mathlib.Core.List.{List, ◌++◌}
use mathlib.Core.Path.{◌≡◌, refl, ap, ap₂}
use Prim.Native.Nat.{ℕ, ◌+◌}
use lib.ListN.{length, take, drop}
use native.Mathlib.Omega.{arith}
use lib.Seq.{length-take-le}
use Rattle.list_steps.specs.Steps.{Kept}
use Rattle.list_call.proofs.Runs.{start-line}
use Rattle.list_call.proofs.Texts.{from_start, listed, unlisted}
use Rattle.list_call.proofs.list.Goals as goal

pub run-k-requires : goal.run-k-requires
run-k-requires c = omega (arith, ap (λ (k : Kept). k.state.line) c.start.ensures, start-line)

pub returns-then-n-out : goal.returns-then-n-out
returns-then-n-out c =
    let g = c.args in
    let t = c.put_text.new.text in
    let m : t.len ≡ 0 + length (take t.len t.bytes) = omega (arith, c.put_text.ensures.short, t.long, length-take-le t.len t.bytes) in
    listed _ _ (from_start _ _ g.script.now c.start.ensures c.run-k.ensures) c.put_text.ensures _ _ _ c.if-n-out.true
    (record { stored = ap₂ (λ (l : List ℕ) (n : ℕ). l ++ drop n g.out.now) c.copy_from_slice.ensures.after m; next = refl })

pub returns-else-n-out : goal.returns-else-n-out
returns-else-n-out c =
    let g = c.args in
    unlisted _ _ (from_start _ _ g.script.now c.start.ensures c.run-k.ensures) c.put_text.ensures _ c.if-n-out.false
