pub mod Rules
pub mod Places
pub mod Tests
