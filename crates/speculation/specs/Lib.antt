-- The theory of speculative runs over any machine: each file stands on those before it.
pub mod Machine
pub mod Run
pub mod Record
pub mod Tracks
pub mod Verdicts
pub mod Ledger
pub mod Core
pub mod Due
pub mod Effects
pub mod Events
pub mod Law
pub mod Serial
pub mod Loans
pub mod Toy
