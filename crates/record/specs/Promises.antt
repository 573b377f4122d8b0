-- What document 01 promises of `record_intra` and `record_inter`, as theorems on their contract alone.
--   Promised     of one answer
--   Promises     of all
use Rattle.std.specs.Prelude.{List, ◌≡◌, ℕ}
use Rattle.loops.specs.Exactly.{Exactly}
use Rattle.block.specs.declared.Block.{Block}
use Rattle.block.specs.Block.{Lent}
use Rattle.block.specs.Faults.{ShapeFault, BlockFault, ContextsFault, LengthFault}
use Rattle.record.specs.Record.{RecordAnswer}
use Rattle.record.specs.Recorded.{Stored}

pub record Promised (b : Block) (level-stride : ℕ) (values tm : List ℕ) (r : ℕ) (before after : Lent) : Type 0 where
  -- the numbers, exactly when; of several the lowest
  pub four : Exactly (r ≡ 4) (ShapeFault b)
  pub five : Exactly (r ≡ 5) (BlockFault b × (¬ ShapeFault b))
  pub six : Exactly (r ≡ 6) (ContextsFault b before × (¬ BlockFault b) × (¬ ShapeFault b))
  pub seven : Exactly (r ≡ 7) (LengthFault b level-stride before × (¬ ContextsFault b before) × (¬ BlockFault b) × (¬ ShapeFault b))
  pub zero : Exactly (r ≡ 0) ((¬ LengthFault b level-stride before) × (¬ ContextsFault b before) × (¬ BlockFault b) × (¬ ShapeFault b))
  -- a refusal stores nothing
  pub refused : ¬ (r ≡ 0) → after ≡ before
  -- an accepted block is recorded
  pub accepted : r ≡ 0 → Stored b level-stride values tm before after

pub record Promises : Type 0 where
  -- uniqueness: two answers that the contract admits are equal
  pub unique : (b : Block) (level-stride : ℕ) (values tm : List ℕ) (r q : ℕ) (before m n : Lent)
      → RecordAnswer b level-stride values tm r before m → RecordAnswer b level-stride values tm q before n → (r ≡ q) × (m ≡ n)
  pub each : (b : Block) (level-stride : ℕ) (values tm : List ℕ) (r : ℕ) (before after : Lent)
      → RecordAnswer b level-stride values tm r before after → Promised b level-stride values tm r before after
