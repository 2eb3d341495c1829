-- What is promised of the facility after every list of calls: each field is a promise of `rules`, at that list.
use Rattle.std.specs.Prelude.{List, ℕ}
use Rattle.state.specs.declared.Call.{Call}
use Rattle.rules.specs.Histories.{run}
use Rattle.rules.specs.Setup.{fresh}
use Rattle.rules.proofs.Counters.{counters_count}
use Rattle.rules.proofs.MovesCounted.{moves}
use Rattle.rules.proofs.Inheritance.{inheritance}
use Rattle.rules.proofs.RoundTrips.{round_trips}
use Rattle.rules.proofs.ObjectNumbers.{object_numbers}
use Rattle.rules.proofs.LabelsStay.{labels_stay}
use Rattle.history.specs.Promised.{Promised}

pub promised : (s : List ℕ) (cs : List Call) → Promised s cs (run (fresh s) cs)
promised s cs =
    record {
      counters = counters_count.each s cs;
      total = counters_count.total s cs;
      moves = moves.counted s cs;
      most_moves = moves.most s cs;
      parents = inheritance.parents s cs;
      flags = inheritance.kept s cs;
      written = (round_trips.read s cs).same;
      entered = object_numbers.entering s cs;
      most = object_numbers.most s cs;
      labels = labels_stay.entered s cs;
    }
