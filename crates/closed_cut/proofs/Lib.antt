pub mod Lowerings
pub mod Walking
pub mod Chains
pub mod Reach
pub mod Unique
pub mod Finding
pub mod OnChain
