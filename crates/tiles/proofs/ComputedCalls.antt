-- What an accepted call leaves is what its contract says, so a computed number is all that is left to show of a call.
use mathlib.Core.Path.{◌≡◌, refl, sym}
use Prim.Native.Nat.{ℕ}
use Rattle.block.specs.Block.{Lent, at_block}
use Rattle.block.specs.Tests.{number}
use Rattle.record.specs.Record.{luma_levels, chroma_levels, luma_masks, chroma_masks, luma_above, luma_left, chroma_above, chroma_left}
use Rattle.drawn.specs.Calls.{back, RecordCall, Records}

-- of what it is lent
abbrev left : ℕ → RecordCall → Lent → Lent
left level-stride q m =
    record {
      levels = chroma_levels q.block level-stride q.values (luma_levels q.block level-stride q.values m.levels);
      masks = chroma_masks q.block m.above-uv m.left-uv (luma_masks q.block q.tx-masks m.above m.left m.masks);
      above = luma_above q.block q.tx-masks m.above;
      left = luma_left q.block q.tx-masks m.left;
      above-uv = chroma_above q.block m.above-uv;
      left-uv = chroma_left q.block m.left-uv;
    }

abbrev pub next : ℕ → RecordCall → Lent → Lent
next level-stride q m = back q.block m (left level-stride q (at_block q.block m))

pub records : (level-stride : ℕ) (q : RecordCall) (m : Lent) → number q.block level-stride (at_block q.block m) ≡ 0 → Records level-stride q m (next level-stride q m)
records level-stride q m e =
    record {
      left_behind = left level-stride q (at_block q.block m);
      answer = record { code = sym e; levels = refl; masks = refl; above = refl; left = refl; above-uv = refl; left-uv = refl };
      now-is = refl;
    }
