-- The section so far.
use Rattle.rules.specs.Setup.{user_record, every}
use Rattle.state.specs.State.{user_in, users_in}
use Rattle.writer.proofs.WritingLoop.{Storing}
use Rattle.writer.proofs.put_users.Given as goal

abbrev pub invariant-loop-u : goal.invariant-loop-u
invariant-loop-u g l =
    let f = g.S.FacilityStore.facility l.s in
    Storing user_record every (user_in (users_in f)) f.users l.initial.out l.start l.u l.out l.place
