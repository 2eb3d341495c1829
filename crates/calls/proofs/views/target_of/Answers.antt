-- Each part of the target is what its reader gives of the facility.
use Rattle.std.proofs.Common.{◌∙◌, ap}
use Rattle.state.specs.declared.Process.{Process}
use Rattle.state.specs.State.{user_of}
use Rattle.calls.proofs.views.target_of.Goals as goal

pub returns : goal.returns
returns w c =
    let f = w.S.FacilityStore.facility c.args.s.now in
    λ i. record {
      receiver = c.process-receiver.ensures i;
      object = c.object.ensures i;
      opens = c.opens.ensures i;
      owner = (c.user.ensures ∙ ap (λ (r : Process). user_of f r.owner) c.process-receiver.ensures) i;
    }
