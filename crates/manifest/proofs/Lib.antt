-- Laws about manifests, tables in a stream and reports.
pub mod Counting
pub mod RecordLaws
pub mod OrderLaws
pub mod SearchLaws
pub mod RecordBytes
pub mod AxisLaws
pub mod ListWritten
pub mod OneList
pub mod KnownLists
pub mod AwaitedLaws
pub mod StrideLaws
pub mod Sums
pub mod TableLaws
pub mod ReadSoFar
pub mod Verdicts
pub mod TallyOf
pub mod InPieces
