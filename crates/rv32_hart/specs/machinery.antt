-- Files that need no belief: contracts of private functions and the views of types name them, and only proofs use what they say.
pub mod Kept
pub mod Granted
pub mod CountedSteps
pub mod Local
pub mod QuickForms
pub mod QuickSteps
pub mod PairedForms
