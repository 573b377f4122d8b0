-- What is left of the bytes has the value and the digits of the whole; a value of i digits is below 10 ^ i.
use Rattle.std.proofs.Common.{◌≡◌, ◌^◌, ◌<◌, drop}
use Rattle.list_decimal.specs.Decimal.{digits, value}
use Rattle.list_decimal.proofs.number.Given as goal

abbrev pub invariant-loop-b : goal.invariant-loop-b
invariant-loop-b l =
    record {
      small : l.n < 10 ^ l.b-index;
      digits : digits l.s ≡ digits (drop l.b-index l.s);
      value : value 0 l.s ≡ value l.n (drop l.b-index l.s);
    }
