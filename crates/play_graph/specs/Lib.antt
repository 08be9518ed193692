pub mod Graphs
pub mod LinkEnds
pub mod Making
pub mod Ending
pub mod Stops
