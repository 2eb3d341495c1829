-- What a turn of the run in words does. Its lines are written as they come, so that of these the contract says nothing.
use Rattle.std.specs.Prelude.{ℕ, ◌+◌, ◌/◌, true, ◌≡◌, List, take}
use Rattle.state.specs.declared.Facility.{Facility}
use Rattle.rules.specs.Histories.{run}
use Rattle.rules.specs.Lines.{calls_of}
use Rattle.console.specs.declared.Kept.{Kept}
use Rattle.console.specs.Files.{CallsRead}
use Rattle.run_words.specs.declared.After.{After}

-- It reads behind what was kept. More is read only where there may be more; the facility is then that after the calls that are lined.
pub record Turn (k : Kept) (f : Facility) (done : ℕ) (bytes : List ℕ) (r : After) : Type 0 where
  pub read : CallsRead k bytes r.input
  pub counted : r.done ≡ done + r.input.lined / 4
  pub more : r.more ≡ true → r.input.more ≡ true
  pub facility : r.more ≡ true → r.facility ≡ run f (calls_of (take r.input.lined bytes))
