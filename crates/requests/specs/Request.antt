-- What is known of a call's request.
pub use Rattle.requests.specs.declared.Request.{Request}
use Rattle.std.specs.Prelude.{ℕ}
use Rattle.rules.specs.Requests.{action_of, class_of, needs_object}

-- what it acts on, whether it needs an object, and its class by the kind of its object
abbrev pub request_of : ℕ → ℕ → ℕ → Request
request_of r kind e = record { action = action_of r; object = needs_object (action_of r) e; class = class_of r kind }
