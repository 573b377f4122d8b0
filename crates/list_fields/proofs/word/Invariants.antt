-- What is left of the bytes, after the number so far, has the number of the whole.
use Rattle.std.proofs.Common.{◌≡◌, ◌^◌, ◌+◌, ◌<◌, drop}
use Rattle.list_fields.specs.Word.{pack}
use Rattle.list_fields.proofs.word.Given as goal

abbrev pub invariant-loop-b : goal.invariant-loop-b
invariant-loop-b l = record { small : l.n < 256 ^ (l.b-index + 1); pack : pack 1 l.s ≡ pack l.n (drop l.b-index l.s) }
