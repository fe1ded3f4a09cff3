pub mod TermGates
