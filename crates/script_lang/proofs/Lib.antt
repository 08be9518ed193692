pub mod FormsAgain
pub mod HexWords
pub mod OneByOne
pub mod OneOutcome
pub mod OnePlay
pub mod PlayFormsAgain
pub mod PlaySayings
pub mod Sayings
