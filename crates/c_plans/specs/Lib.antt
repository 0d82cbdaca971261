pub mod Laws
pub mod PlanWords
