-- Each part of the target is what its reader gives of the facility.
use Rattle.std.proofs.Common.{◌∙◌, ap, sym}
use Rattle.state.specs.declared.Process.{Process}
use Rattle.state.specs.State.{user_of}
use Rattle.calls.proofs.views.target_asked.Goals as goal

pub returns-then-is_send_signal : goal.returns-then-is_send_signal
returns-then-is_send_signal w c =
    let f = w.S.FacilityStore.facility c.args.s.now in
    rw (sym c.is_send_signal.ensures ∙ c.if-is_send_signal.true) (λ i. record {
      receiver = c.process-receiver.ensures i;
      object = c.object-object.ensures i;
      opens = c.opens-opens.ensures i;
      owner = (c.user.ensures ∙ ap (λ (r : Process). user_of f r.owner) c.process-receiver.ensures) i;
    })

pub returns : goal.returns
returns w c =
    rw (sym c.is_send_signal.ensures ∙ c.if-is_send_signal.false) (λ i. record {
      receiver = c.none.ensures i;
      object = c.object-object.ensures i;
      opens = c.opens-opens.ensures i;
      owner = c.no_user.ensures i;
    })
