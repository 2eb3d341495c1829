-- The text `short_line calls` is stored.
use Rattle.lines.proofs.Blocks.{not_short, is_short}
use Rattle.text.specs.Laws.Puts.{put_as}
use Rattle.lines.proofs.put_short.Goals as goal

pub returns-then-calls-eq0 : goal.returns-then-calls-eq0
returns-then-calls-eq0 c = put_as (not_short c.args.calls.now c.if-calls-eq0.true) c.nothing.ensures

pub returns : goal.returns
returns c = put_as (is_short c.args.calls.now c.if-calls-eq0.false) c.text.ensures
