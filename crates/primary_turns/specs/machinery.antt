-- Files that need no belief: contracts of private functions name them, and only proofs use what they say.
pub mod Flows
