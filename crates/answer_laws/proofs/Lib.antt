pub mod Answered
pub mod Forms
pub mod Numbered
pub mod OneEnd
pub mod Refusals
pub mod Vacant
