-- What is stored of the line, and that the result counts bytes of the buffer.
use Rattle.std.proofs.Common.{rules}
use Rattle.text.specs.Laws.Puts.{put_counts, put_from}
use Rattle.words.proofs.put_setup.Goals as goal

pub returns-clause-prefix_len : goal.returns-clause-prefix_len
returns-clause-prefix_len c =
    let p = put_from c.new-line.ensures c.put_refused.ensures in
    let k = put_counts p in
    search (rules, k, p.same)
