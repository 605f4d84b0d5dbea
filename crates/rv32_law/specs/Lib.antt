pub mod GuestStates
