-- The promises, proved.
use Rattle.edges.specs.Edges.{luma_grid, chroma_grid}
use Rattle.block.specs.Block.{sees_luma, sees_chroma}
use Rattle.drawn.specs.Calls.{luma_seen, luma_state, chroma_seen, chroma_state}
use Rattle.blocks.specs.Laid.{LumaLegal, ChromaLegal, LumaLong, ChromaLong}
use Rattle.blocks.specs.Promises.{Promises}
use Rattle.blocks.proofs.Runs.{in-tile}
use Rattle.blocks.proofs.WholeTile.{whole-tile}
use Rattle.blocks.proofs.LumaChroma.{luma-draws, luma-same, luma-stays, luma-sees, luma-part, luma-lies, chroma-draws, chroma-same, chroma-stays, chroma-sees, chroma-part, chroma-lies}

pub promises : Promises
promises =
    record {
      luma = λ D level-stride A l m n start T.
          in-tile D 0 level-stride (luma_grid A.w4 A.h4) A 0 0 luma_state luma_seen sees_luma (LumaLegal D A) (LumaLong A) (luma-draws D level-stride A T) (luma-same D level-stride A T)
          (luma-stays D level-stride A T) (luma-sees D level-stride A T) (λ q k o. luma-part D level-stride A T q o k) (λ q k x R o. luma-lies D level-stride A T q o k x R) l m n start;
      chroma = λ D plane level-stride A sx sy l m n start T.
          in-tile D plane level-stride (chroma_grid sx sy A.w4 A.h4) A sx sy chroma_state chroma_seen sees_chroma (ChromaLegal D plane A sx sy) (ChromaLong A sx sy)
          (chroma-draws D plane level-stride A sx sy T) (chroma-same D plane level-stride A sx sy T) (chroma-stays D plane level-stride A sx sy T) (chroma-sees D plane level-stride A sx sy T)
          (λ q k o. chroma-part D plane level-stride A sx sy T q o k) (λ q k x R o. chroma-lies D plane level-stride A sx sy T q o k) l m n start;
      whole = whole-tile;
    }
