pub mod NumeralsRead
pub mod Tables
pub mod Lines
pub mod NamesFound
pub mod LinesSaid
