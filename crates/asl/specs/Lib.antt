pub mod CommandLine
pub mod Process
