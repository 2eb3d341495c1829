-- The arrays of a facility have their lengths.
use Rattle.std.specs.Prelude.{◌≡◌, length}
use Rattle.state.specs.State.{most_users, Users, Objects, Processes, Facility, users_in, objects_in, processes_in}
use Rattle.opens.specs.Opens.{most_objects, most_processes, most_opens}

-- the arrays have their lengths
pub record UsersShaped (x : Users) : Type 0 where
  pub clearances : length x.clearances ≡ most_users
  pub roles : length x.roles ≡ most_users
  pub trusts : length x.trusts ≡ most_users
  pub clearancesets : length x.clearancesets ≡ most_users

pub record ObjectsShaped (x : Objects) : Type 0 where
  pub lives : length x.lives ≡ most_objects
  pub kinds : length x.kinds ≡ most_objects
  pub levels : length x.levels ≡ most_objects
  pub categories : length x.categories ≡ most_objects
  pub datatypes : length x.datatypes ≡ most_objects
  pub flags : length x.flags ≡ most_objects
  pub parents : length x.parents ≡ most_objects
  pub sets : length x.sets ≡ most_objects

pub record ProcessesShaped (x : Processes) : Type 0 where
  pub runnings : length x.runnings ≡ most_processes
  pub owners : length x.owners ≡ most_processes
  pub currents : length x.currents ≡ most_processes
  pub readmarks : length x.readmarks ≡ most_processes
  pub writemarks : length x.writemarks ≡ most_processes
  pub automatics : length x.automatics ≡ most_processes
  pub moves : length x.moves ≡ most_processes
  pub currentsets : length x.currentsets ≡ most_processes
  pub readsets : length x.readsets ≡ most_processes
  pub writesets : length x.writesets ≡ most_processes

pub record Shaped (f : Facility) : Type 0 where
  pub users : UsersShaped (users_in f)
  pub objects : ObjectsShaped (objects_in f)
  pub processes : ProcessesShaped (processes_in f)
  pub opens : length f.opens ≡ most_opens
  pub refusals : length f.refusals ≡ most_users
