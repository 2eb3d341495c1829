-- A buffer of four bytes has room for three, which stand in front then.
use borrow.Author.Rules.{rules}
use Rattle.console.proofs.Front.{kept_stored}
use Rattle.console.proofs.put_kept.Goals as goal

pub returns-clause-value : goal.returns-clause-value
returns-clause-value c =
    (kept_stored c.args.bytes.now _ c.args.kept c.min.result c.min.ensures (search rules) c.copy_from_slice.ensures.after c.if-bytes-lt4.false).0

pub returns-clause-bytes_after : goal.returns-clause-bytes_after
returns-clause-bytes_after c =
    (kept_stored c.args.bytes.now _ c.args.kept c.min.result c.min.ensures (search rules) c.copy_from_slice.ensures.after c.if-bytes-lt4.false).1
