-- Of the call that C hands in.
use mathlib.Core.Path.{◌∙◌}
use Rattle.text.specs.Laws.Puts.{put_from}
use Rattle.hvozdalka.proofs.texts.hv_put_words_at.Goals as goal

pub returns-clause-stored : goal.returns-clause-stored
returns-clause-stored c =
    let p = put_from c.new-line.ensures c.tell.ensures.stored in
    rw (← c.from.ensures) (p.stored.0, c.place.ensures ∙ p.stored.1)

pub returns-clause-becomes : goal.returns-clause-becomes
returns-clause-becomes c = rw (← c.from.ensures) c.tell.ensures.becomes
