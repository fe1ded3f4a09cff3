pub mod Amo
