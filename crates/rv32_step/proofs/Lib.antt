pub mod FastSteps
pub mod RegisterSteps
mod ServiceSteps
