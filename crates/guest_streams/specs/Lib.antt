pub mod GuestStreams
