pub mod ReadLaws
pub mod RuleKept
