-- The promises, from Cuts and Words.
use Rattle.list_fields.specs.Promises.{Promises}
use Rattle.list_fields.proofs.Cuts as cuts
use Rattle.list_fields.proofs.Words as words

pub promises : Promises
promises =
    record {
      count = cuts.count;
      found = cuts.found;
      once = cuts.once;
      whole = λ d s n e. cuts.whole d n s e;
      plain = cuts.plain;
      word = words.same;
    }
