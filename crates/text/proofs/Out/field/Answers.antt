-- The text `field n` is stored.
use Rattle.text.specs.Laws.Puts.{◌▹◌}
use Rattle.text.proofs.Out.field.Goals as goal

pub returns : goal.returns
returns c = c.decimal.ensures ▹ c.text.ensures
