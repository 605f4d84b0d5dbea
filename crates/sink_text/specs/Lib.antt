pub mod TextOnSink
