-- The text `decimal n` is stored.
use mathlib.Core.Path.{◌∙◌}
use Rattle.text.specs.Laws.Decimals.{fewest}
use Rattle.text.specs.Laws.Puts.{put_as}
use Rattle.text.proofs.Out.decimal.Goals as goal

pub returns : goal.returns
returns c = let d = c.decimal-k.ensures in put_as (d.digits ∙ fewest _ c.args.n d.len) c.text.ensures
