-- The promises, from Lines, Runs, Drawn and Rooms; two answers are equal, both being those of the definition.
use mathlib.Core.Bool.{cond}
use mathlib.Core.Path.{◌≡◌, sym, ap, ◌∙◌}
use mathlib.Core.List.{List}
use Prim.Native.Nat.{ℕ}
use lib.Dec.{leb}
use lib.ListN.{length}
use Rattle.list_decimal.specs.Decimal.{pasted}
use Rattle.list_call.specs.Listing.{output_of, ListAnswer}
use Rattle.list_call.specs.Promises.{Promises}
use Rattle.list_call.proofs.Lines as lines
use Rattle.list_call.proofs.Runs as runs
use Rattle.list_call.proofs.Drawn as drawn
use Rattle.list_call.proofs.PartLeft as lefts
use Rattle.list_call.proofs.OutputFits as rooms

unique : (script : List ℕ) (n m : ℕ) (before a b : List ℕ) → ListAnswer script n before a → ListAnswer script m before b → (n ≡ m) × (a ≡ b)
unique script n m before a b f g =
    let e = f.long ∙ sym g.long in
    (e, f.stored ∙ ap (λ (k : ℕ). cond (leb k (length before)) (pasted before 0 (output_of script)) before) e ∙ sym g.stored)

pub promises : Promises
promises =
    record {
      unique = unique;
      fits = rooms.fits;
      left = lefts.left;
      lines = lines.lines;
      last = lines.last;
      drawn = drawn.drawn;
      stops = runs.stops;
    }
