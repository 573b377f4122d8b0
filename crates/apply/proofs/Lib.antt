pub mod ReadyPlanes
pub mod Answers
pub mod Laws
