-- A number that is none changes nothing.
use Rattle.std.proofs.Common.{rules, sym}
use Rattle.state.specs.State.{put_process, processes_in}
use Rattle.state.specs.Shaped.{ProcessesShaped}
use Rattle.state.specs.Laws.ReadBack.{process_out}
use Rattle.state.proofs.Facility.with_process.Goals as goal

pub returns-then-i-lt-PROCESSES : goal.returns-then-i-lt-PROCESSES
unfolding put_process
returns-then-i-lt-PROCESSES c = search rules

pub returns-else-i-lt-PROCESSES : goal.returns-else-i-lt-PROCESSES
returns-else-i-lt-PROCESSES c =
    let f = c.args.self in
    let s : ProcessesShaped (processes_in f) =
    record {
      runnings = search rules;
      owners = search rules;
      currents = search rules;
      readmarks = search rules;
      writemarks = search rules;
      automatics = search rules;
      moves = search rules;
      currentsets = search rules;
      readsets = search rules;
      writesets = search rules;
    } in
    sym (process_out f c.args.p c.args.r s c.if-i-lt-PROCESSES.false)
