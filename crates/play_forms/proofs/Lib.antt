pub mod OneFault
pub mod OneFitted
pub mod OneMisfit
pub mod OnePlan
pub mod Places
pub mod Plainly
pub mod Settled
