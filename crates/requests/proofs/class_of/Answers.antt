-- The result is `class_of request kind`.
use mathlib.Core.Path.{sym}
use Rattle.requests.proofs.ClassCodes.{no_request_law, no_kind}
use Rattle.requests.proofs.class_of.Goals as goal

pub returns-then-request-gt-LAST : goal.returns-then-request-gt-LAST
returns-then-request-gt-LAST c = sym (no_request_law _ _ c.if-request-gt-LAST.true)

pub returns-then-kind-gt-LAST_KIND : goal.returns-then-kind-gt-LAST_KIND
returns-then-kind-gt-LAST_KIND c = sym (no_kind _ _ c.if-kind-gt-LAST_KIND.true)
