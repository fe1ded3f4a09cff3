-- What a recording book keeps as a ledger, call by call.
pub mod Lending
pub mod Settling
pub mod Ending
pub mod Honesty
pub mod ChangedRights
pub mod Yielding
pub mod Holding
pub mod Dues
pub mod NewDue
pub mod MetRights
