-- The result is `holds setup (calls_of calls) x c`.
use mathlib.Core.Path.{◌∙◌, ap}
use Rattle.rules.specs.Lines.{calls_of}
use Rattle.matter.specs.declared.Ledger.{Ledger}
use Rattle.matter.specs.LedgerSteps.{held_by}
use Rattle.matter.specs.Laws.AfterCalls.{held_exactly}
use Rattle.history.proofs.holds.Goals as goal

pub returns : goal.returns
returns c =
    let a = c.args in
    c.object_holds.ensures ∙ ap (λ (l : Ledger). held_by l.objects a.x a.c) c.account.ensures
    ∙ held_exactly a.setup.now (calls_of a.calls.now) a.x a.c
