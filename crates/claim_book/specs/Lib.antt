pub mod History
pub mod Clearing
pub mod Answers
pub mod Created
pub mod Filled
pub mod Numbers
pub mod LayerFour
pub mod Fitting
