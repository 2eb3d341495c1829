-- By whether there is a parent.
use Rattle.std.specs.Prelude.{◌≡◌, ◌-◌}
use Rattle.std.proofs.Common.{ap}
use Rattle.labels.specs.Decisions.{◌and◌, ◌or◌, at}
use Rattle.setup.specs.Laws.SameNumber.{none_fits, parent_fits_law}
use Rattle.state.specs.declared.Object.{Object}
use Rattle.state.specs.State.{object_in}
use Rattle.setup.proofs.parent_fits.Goals as goal

pub returns-then-r-eq0 : goal.returns-then-r-eq0
returns-then-r-eq0 g c =
    let f = g.S.FacilityStore.facility c.args.s.now in
    none_fits f.kinds f.entered c.args.r c.if-r-eq0.true

pub returns : goal.returns
unfolding ◌and◌ ◌or◌ object_in
returns g c =
    let f = g.S.FacilityStore.facility c.args.s.now in
    let k : c.object-directory.result.kind ≡ at f.kinds (c.args.r.six - 1) = ap (λ (o : Object). o.kind) c.object-directory.ensures in
    rw (k, c.entered.ensures) (parent_fits_law f.kinds f.entered c.args.r c.if-r-eq0.false)
