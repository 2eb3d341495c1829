-- What Tickets 1, 2 and 5, document 01's set-ups, object numbers and labels promise of a facility that a program has after a list of calls. The histories are
-- made of the set-up and the list alone, so that nothing here is told by the facility of itself.
use Rattle.std.specs.Prelude.{ℕ, ◌+◌, ◌-◌, ◌≤◌, ◌<◌, min, ◌≡◌, ◌≢◌, true, List, [], length}
use Rattle.opens.specs.Opens.{most_objects}
use Rattle.state.specs.declared.Call.{Call}
use Rattle.state.specs.declared.Facility.{Facility}
use Rattle.state.specs.State.{most_users, most_refusals, refusals_of, process_of, object_of, objects_in, runs, live, label_of, clearance_of}
use Rattle.rules.specs.FileFlags.{effective}
use Rattle.rules.specs.Histories.{outcomes, past, owner_after, moves_of, moves_bound}
use Rattle.rules.specs.Promises.{denials_in, denials_of, sum_to, numbers_given, SameSetup}
use Rattle.rules.specs.Setup.{fresh, new_number, setup_bytes}

-- g is what there is after the calls cs from the fresh facility of the set-up s
pub record Promised (s : List ℕ) (cs : List Call) (g : Facility) : Type 0 where
  -- Ticket 1: each counter has the 12s and 13s of its user's calls, up to its stop; while none is there, all of them add up to those of the history
  pub counters : (u : ℕ) → u < most_users → refusals_of g u ≡ min (denials_of u (past (fresh s) cs [])) most_refusals
  pub total : ((u : ℕ) → u < most_users → refusals_of g u < most_refusals) → sum_to most_users (refusals_of g) ≡ denials_in (outcomes (fresh s) cs)
  -- Ticket 5: each process that runs carries the number of the moves in its history, at most what its owner's clearance allows
  pub moves : (p : ℕ) → runs g p ≡ true → (process_of g p).moves ≡ moves_of (past (fresh s) cs []) p
  pub most_moves : (p : ℕ) → runs g p ≡ true → (process_of g p).moves ≤ moves_bound (clearance_of (fresh s) (owner_after (past (fresh s) cs []) p))
  -- Ticket 2: a parent is an earlier directory; each live object keeps its effective flags over the round trip
  pub parents : (t : ℕ) → t < g.entered → (object_of g t).parent ≢ 0
      → ((object_of g t).parent - 1 < t) × ((object_of g ((object_of g t).parent - 1)).kind ≡ 1)
  pub flags : (t : ℕ) → live g t ≡ true → effective (objects_in (fresh (setup_bytes g))) (new_number (objects_in g) t) ≡ effective (objects_in g) t
  -- written out and read back, the same switches, users and live objects
  pub written : SameSetup g (fresh (setup_bytes g))
  -- object numbers go up from the set-up's, at most 128; the objects of the set-up have their labels
  pub entered : g.entered ≡ (fresh s).entered + length (numbers_given (fresh s) cs)
  pub most : g.entered ≤ most_objects
  pub labels : (t : ℕ) → t < (fresh s).entered → label_of g t ≡ label_of (fresh s) t
