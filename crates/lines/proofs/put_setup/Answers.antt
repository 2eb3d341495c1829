-- The text `setup_line number index` is stored.
use borrow.Author.Rules.{rules}
use Rattle.rules.specs.Lines.{setup_line}
use Rattle.text.specs.Laws.Puts.{◌▹◌, put_from}
use Rattle.lines.proofs.put_setup.Goals as goal

pub returns-clause-stored : goal.returns-clause-stored
unfolding setup_line
returns-clause-stored c =
    let p = put_from c.new-line.ensures (c.text.ensures ▹ c.byte.ensures ▹ c.decimal.ensures ▹ c.text-2.ensures) in
    search (rules, p.stored, p.same)
