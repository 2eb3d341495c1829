-- What is read is lined and written, and the facility becomes that after it.
use Rattle.run.proofs.Turns.{turn_failed, turn_written}
use Rattle.run.proofs.turn.Goals as goal

pub returns-then-input : goal.returns-then-input
returns-then-input g c =
    let r = c.read_calls-input in
    turn_failed c.args.kept c.args.done c.args.f.now r.new.bytes c.args.out.now r.result r.ensures.calls_read c.if-input.true

pub returns : goal.returns
returns g c =
    let r = c.read_calls-input in
    let p = c.put_block-length in
    let w = c.write_lines-written in
    turn_written c.args.kept c.args.done c.args.f.now p.new.s r.new.bytes c.args.out.now p.new.out r.result p.result w.result
    r.ensures.calls_read c.if-input.false p.ensures.becomes p.ensures.stored p.ensures.calls_len_bound p.ensures.prefix_len.1
    w.ensures.value w.ensures.taken_in_bounds
