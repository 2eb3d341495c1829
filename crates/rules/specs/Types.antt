-- The declared types of the crate `state`, by their own names.
pub use Rattle.answers.specs.declared.Answer.{Answer}
pub use Rattle.answers.specs.declared.Answer.TheVariants.{NotCared, Granted, NotGranted, Undefined}
pub use Rattle.answers.specs.declared.Answers.{Answers}
pub use Rattle.answers.specs.declared.Outcome.{Outcome}
pub use Rattle.answers.specs.Outcomes.{SetupOutcome, WriteOutcome}
pub use Rattle.state.specs.declared.Call.{Call}
pub use Rattle.state.specs.declared.Switches.{Switches}
pub use Rattle.state.specs.declared.Process.{Process}
pub use Rattle.state.specs.declared.User.{User}
pub use Rattle.state.specs.declared.Object.{Object}
pub use Rattle.state.specs.declared.Facility.{Facility}
pub use Rattle.state.specs.declared.Change.{Change}
pub use Rattle.state.specs.declared.Change.TheVariants.{NoChange, PutProcess, CloneProcess, EndProcess, UseObject, CreateObject, EnterObject}
