pub mod cuts
