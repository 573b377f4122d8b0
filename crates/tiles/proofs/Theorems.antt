-- The promises, proved.
use Rattle.tiles.specs.Promises.{Promises}
use Rattle.tiles.proofs.TilesJoined.{start-applies, tiles-bit}
use Rattle.tiles.proofs.Edges.{edges}
use Rattle.tiles.proofs.Examples.{example}

pub promises : Promises
promises =
    record {
      join = λ D plane G start ts m n R a d p px py T h i c hc. tiles-bit D plane G start d p c px py hc ts m n R a T h i;
      at-start = λ D plane G start ts m n R d p T h i e. start-applies D plane G start d p ts m n R T h i e;
      edges = edges;
      example = example;
    }
