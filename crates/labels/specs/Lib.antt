-- Definitions: decisions, and labels.
pub mod Decisions
pub mod Labels
pub mod LabelLaws
