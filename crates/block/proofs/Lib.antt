pub mod Contexts
pub mod TestsPassed
pub mod NoFault
pub mod Numbers
