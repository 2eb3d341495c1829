-- The account in words after a list of calls.
use Rattle.std.specs.Prelude.{ℕ, List, [], ◌∷◌}
use Rattle.rules.specs.Histories.{Entry, history}
use Rattle.matter.specs.declared.Ledger.{Ledger}
use Rattle.matter.specs.LedgerSteps.{step_of, start_of}
use Rattle.state.specs.declared.Call.{Call}
use Rattle.rules.specs.Setup.{fresh}

-- A list of calls.
unfoldable pub ledger_after : Ledger → List Entry → Ledger
ledger_after l [] = l
ledger_after l (x ∷ xs) = ledger_after (step_of l x.call x.accepted) xs

-- the ledger after a list of calls from the fresh facility of a set-up
abbrev pub ledger_of : List ℕ → List Call → Ledger
ledger_of s cs = ledger_after (start_of (fresh s).entered (fresh s).kinds) (history (fresh s) cs)
