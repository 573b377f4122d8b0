-- The numbers and words of a line
pub mod LineWords
-- Where a line lies, and the edges that its words hold
pub mod UnitPlaces
pub mod Words
pub mod UnitActs
-- What its walk asks for
pub mod PieceRooms
pub mod Ranges
-- The lines of a record, and the records of a row
pub mod RecordLines
-- What holds of a pass
pub mod Sweeps
