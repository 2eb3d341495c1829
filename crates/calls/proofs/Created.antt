-- What an accepted create changes.
use Rattle.std.specs.Prelude.{Bool, true, false, ◌≡◌}
use Rattle.rules.specs.declared.Action.TheVariants.{Create}
use Rattle.rules.specs.declared.View.{View}
use Rattle.rules.specs.Effects.{change_of, created}
use Rattle.rules.specs.Modules.{moved}
use Rattle.rules.specs.Requests.{in_directory}
use Rattle.state.specs.declared.Call.{Call}
use Rattle.state.specs.declared.Change.TheVariants.{CreateObject, EnterObject}
use Rattle.state.specs.declared.Object.{Object}
use Rattle.state.specs.declared.Process.{Process}

module _ (v : View) (c : Call) (b : Bool) (o : Object) (d : b ≡ in_directory c.extra) where
  pub inside : (r : Process) → b ≡ true → r ≡ moved v c → o ≡ created r c.extra c.target → change_of Create v c ≡ CreateObject c.process r o
  inside r h e q = rw (← d, h, q, e)

  pub outside : b ≡ false → o ≡ created v.caller c.extra c.target → change_of Create v c ≡ EnterObject o
  outside h q = rw (← d, h, q)
