-- Definitions: answers, their combination, outcomes.
pub mod Answers
pub mod Outcomes
pub mod Table47
