-- Each part of the view is what its reader gives of the facility.
use Rattle.std.proofs.Common.{◌∙◌, ap}
use Rattle.state.specs.declared.Process.{Process}
use Rattle.state.specs.State.{user_of}
use Rattle.calls.proofs.views.view_of.Goals as goal

pub returns : goal.returns
returns w c =
    let f = w.S.FacilityStore.facility c.args.s.now in
    λ i. record {
      switches = c.switches.ensures i;
      users = c.users.ensures i;
      entered = c.entered.ensures i;
      caller = c.process-caller.ensures i;
      owner = (c.user.ensures ∙ ap (λ (r : Process). user_of f r.owner) c.process-caller.ensures) i;
      target = c.target_of.ensures i;
      looked = record { flags = c.seen.ensures i };
    }
