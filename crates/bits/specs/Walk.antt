-- The walk over the set bits of a word, lowest first, by a bit xy that moves up.
--     visits     f at each place below n whose bit is set
--     ahead      how far xy has to go: it falls while the bit moves up, and is 0 once it is gone
use Rattle.std.specs.Prelude.{cond, ℕ, ◌-◌, ◌%◌, ◌^◌}
use Rattle.loops.specs.Run.{up_to}
use Rattle.bits.specs.Bit.{has_bit}

unfoldable pub visits : {S : Type 0} → ℕ → ℕ → (ℕ → S → S) → S → S
visits n vm f = up_to (λ k s. cond (has_bit vm k) (f k s) s) n

abbrev pub ahead : ℕ → ℕ
ahead xy = (2 ^ 32 - xy) % 2 ^ 32
