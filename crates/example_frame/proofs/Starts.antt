-- The samples of the frame as a function of the index: those of the table, and 0 past its end.
use mathlib.Core.Bool.{cond}
use mathlib.Core.Logic.{by_cases}
use Prim.Native.Nat.{ℕ, zero, suc}
use native.Mathlib.Decide.{dec_lt}
use native.Mathlib.Omega.{arith}
use lib.Dec.{ltb}
use lib.ListN.{get_or-eq_default}
use borrow.Author.Tests.{lt-ltb, le-ltb}
use Rattle.loops.specs.Table.{tabulate}
use Rattle.loops.proofs.Tables.{length-tabulate, get_d_tabulate}
use Rattle.example_frame.specs.Data.{quarters, samples_of}
use Rattle.example_frame.proofs.Places.{Tells}

abbrev pub size : ℕ → ℕ
size zero = 16384
size (suc n) = 4096

abbrev quarters_of : ℕ → ℕ → ℕ
quarters_of zero = quarters 128 64
quarters_of (suc n) = quarters 64 32

abbrev pub start : ℕ → ℕ → ℕ
start n i = cond (ltb i (size n)) (quarters_of n i) 0

table-tells : (f : ℕ → ℕ) (n : ℕ) → Tells n (λ i. cond (ltb i n) (f i) 0) (tabulate f n)
table-tells f n =
    record {
      long = length-tabulate f n;
      at = λ i. by_cases (dec_lt i n) (λ l. rw (lt-ltb i n l) (get_d_tabulate f n i l))
          (λ l. rw (le-ltb i n (omega arith)) (get_or-eq_default (tabulate f n) 0 (omega (arith, length-tabulate f n))));
    }

pub start-tells : (n : ℕ) → Tells (size n) (start n) (samples_of n)
unfolding samples_of
start-tells zero = table-tells (quarters 128 64) 16384
start-tells (suc n) = table-tells (quarters 64 32) 4096
