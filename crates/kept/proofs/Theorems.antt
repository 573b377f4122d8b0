-- The promises, proved: the gap rule over the whole frame is the one hypothesis of demand 3 that no call checks.
use Rattle.frames.proofs.Theorems as frames
use Rattle.tiles.proofs.Theorems as tiles
use Rattle.kept.specs.Promises.{Promises}
use Rattle.kept.proofs.Examples.{example}
use Rattle.kept.proofs.Drawn.{luma-calls, chroma-calls}
use Rattle.kept.proofs.GapOfHeld.{recorded, eleven, all_keep, shape_of}

pub promises : Promises
promises =
    record {
      recorded = recorded;
      luma-calls = luma-calls;
      chroma-calls = chroma-calls;
      in-tiles = λ f D n start ts l c m I K. record { tallies = I.tallies; covered = K; edges = (tiles.promises).edges D n _ start ts l c m f.masks I };
      eleven = λ f D n shaped. eleven f D shaped n;
      boundaries = all_keep;
      example = example;
      demand = λ f D s a A. (frames.promises).demand f s a (all_keep f D (shape_of f s a) A);
    }
