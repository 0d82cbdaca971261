pub mod CopyLines
pub mod Answers
