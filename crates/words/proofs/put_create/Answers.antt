-- A create in a directory is told with the directory.
use mathlib.Core.Path.{sym, ◌∙◌}
use Rattle.text.specs.Laws.Puts.{◌▹◌}
use Rattle.words.proofs.put_create.Goals as goal

pub returns-then-in_directory : goal.returns-then-in_directory
returns-then-in_directory c =
    rw (sym c.in_directory.ensures ∙ c.if-in_directory.true) (c.put_one.ensures ▹ c.put_object.ensures)
