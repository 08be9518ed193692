mod Acting
mod Answering
mod Asked
mod Asking
mod Beginning
mod Changes
mod Closing
mod Commanding
mod Conducting
mod Counting
mod Ending
mod Ends
mod Failures
mod Files
mod Heard
mod Hearing
mod Linking
mod Logs
mod Naming
mod Onward
mod Recording
mod Rounding
mod Stages
mod Stepping
mod Streaming
mod Telling
mod Timely
mod Timing
mod Working
pub mod Halting
pub mod ThreadFiles
pub mod Sinks
pub mod Comings
pub mod Runs
pub mod Played
