-- The text `call_text index c` is stored.
use Rattle.text.specs.Laws.Puts.{◌▹◌}
use Rattle.lines.proofs.put_call.Goals as goal

pub returns : goal.returns
returns c = c.field.ensures ▹ c.byte.ensures ▹ c.byte-2.ensures ▹ c.byte-3.ensures ▹ c.byte-4.ensures
