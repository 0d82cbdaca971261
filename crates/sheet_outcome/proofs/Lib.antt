pub mod RefusedLaws
pub mod GoodLaws
