-- Numbers that are none: no process has a number above 31, no object one above 127, no user one above 15. Nothing is open there, and nothing changes.
use Rattle.std.specs.Prelude.{ℕ, ◌≤◌, ◌<◌, ◌≡◌, ◌≢◌}
use Rattle.state.specs.State.{Facility, Process, most_users, counted, opens_of, put_process, put_marks, cloned, deleted, terminated}
use Rattle.opens.specs.Opens.{most_processes, most_objects}

pub record Outside (f : Facility) : Type 0 where
  -- a process number above 31
  pub putting : (p : ℕ) (r : Process) → most_processes ≤ p → put_process f p r ≡ f
  pub terminating : (p : ℕ) → most_processes ≤ p → terminated f p ≡ f
  pub cloning : (p t : ℕ) → most_processes ≤ t → cloned f p t ≡ f
  pub marking : (p t v : ℕ) → most_processes ≤ p → put_marks f p t v ≡ f
  pub closed : (p t : ℕ) → most_processes ≤ p → opens_of f p t ≡ 0
  -- an object number above 127
  pub deleting : (t : ℕ) → most_objects ≤ t → deleted f t ≡ f
  pub marking_object : (p t v : ℕ) → most_objects ≤ t → put_marks f p t v ≡ f
  pub closed_object : (p t : ℕ) → most_objects ≤ t → opens_of f p t ≡ 0
  -- a user number above 15
  pub counting : (u : ℕ) → most_users ≤ u → counted f u ≡ f

-- the marks that were put are read back, and no other pair's are touched
pub record OnePair (f : Facility) : Type 0 where
  pub same : (p t v : ℕ) → p < most_processes → t < most_objects → opens_of (put_marks f p t v) p t ≡ v
  pub other : (p t v q u : ℕ) → (q ≡ p → u ≢ t) → opens_of (put_marks f p t v) q u ≡ opens_of f q u
