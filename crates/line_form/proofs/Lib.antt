pub mod Streams
pub mod CutNumbers
pub mod CutLines
pub mod CsvRecords
pub mod CommaPlaces
