-- Laws about lists of segments, and the digest over them.
pub mod EntryLaws
pub mod ListLaws
pub mod EqualMessages
pub mod OneValue
pub mod DigestLaws
pub mod KnownValues
