pub mod Tables
pub mod Curves
pub mod Counts
pub mod Signs
pub mod AlawLaws
pub mod MulawLaws
pub mod CurveLanes
pub mod SignedLanes
