-- A plane of units, as the code has it.
--   grid_of g      its units and records, as the masks hold them
use Rattle.edges.specs.Edges as edges
use Rattle.gap.specs.declared.grid.Grid.{Grid}

abbrev pub grid_of : Grid → edges.Grid
grid_of g = edges.grid_of g.luma g.ss_hor g.ss_ver g.w4.0 g.h4.0
