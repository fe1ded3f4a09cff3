-- Files that need no belief: contracts of private functions and the views of types name them, and only proofs use what they say.
pub mod Widened
pub mod Marks
pub mod Asking
pub mod Befores
pub mod Covered
pub mod Turns
