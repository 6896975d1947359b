pub mod Same
pub mod Again
pub mod Next
pub mod Free
pub mod Turns
pub mod Rounds
pub mod Going
