-- The line of what is told of the call.
use Rattle.std.proofs.Common.{ap}
use Rattle.text.specs.Laws.Puts.{put_as, put_counts}
use Rattle.words.specs.Sentences.{sentence_text}
use Rattle.words.proofs.tell.Goals as goal

pub returns : goal.returns
returns g c =
    let e = c.told_of.ensures in
    let p = c.put_sentence.ensures in
    record { stored = put_as (ap sentence_text e.value) p; becomes = e.becomes; prefix_len = put_counts p }
