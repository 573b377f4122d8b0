-- What the code is given for planes of either size of samples.
--   tables_of t                  what the code filters by
--   InDepth depth top            a depth whose samples a type with values below `top` can store
--   UnderTop top depth c d k s   the samples of the row are in the depth's range, where the type can store others
use Rattle.std.specs.Prelude.{List, ℕ, ◌^◌, ◌≤◌, ◌<◌}
use Rattle.plane.specs.Line.{Pass}
use Rattle.filter.specs.declared.Component.{Component}
use Rattle.filter.specs.declared.tables.Tables as code
use Rattle.filter.specs.Filter.{Tables, tables}
use Rattle.filter.specs.Ready.{Under}

abbrev pub tables_of : code.Tables → Tables
tables_of t = tables t.depth t.levels.now t.masks.now t.e.now t.i.now

pub record InDepth (depth top : ℕ) : Type 0 where
  pub least : 8 ≤ depth
  pub most : depth ≤ 12
  pub stored : 2 ^ depth ≤ top

abbrev pub UnderTop : ℕ → ℕ → Component → Pass → ℕ → List ℕ → Type 0
UnderTop top depth c d k s = 2 ^ depth < top → Under (2 ^ depth) c d k s
