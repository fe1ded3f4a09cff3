-- Files that need no belief: contracts of private functions and the views of types name them, and only proofs use what they say.
pub mod Unescaped
pub mod Steps
