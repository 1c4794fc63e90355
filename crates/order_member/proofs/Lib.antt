pub mod GivenSteps
pub mod MembersKept
