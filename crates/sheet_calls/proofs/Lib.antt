pub mod CallLaws
pub mod WrittenParts
