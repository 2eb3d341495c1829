-- The text `text` is stored.
use Rattle.std.specs.Prelude.{◌+◌, ◌≡◌, length, drop}
use Rattle.std.proofs.lemmas.List.Edits.{sets}
use Rattle.text.proofs.Out.text.Given as goal

abbrev pub invariant-loop-j : goal.invariant-loop-j
invariant-loop-j l =
    (length l.self.bytes.now ≡ length l.initial.self.bytes.now)
    × (sets l.self.bytes.now (l.start + l.j) (drop l.j l.text) ≡ sets l.initial.self.bytes.now l.start l.text)
    × (l.self.bytes.ghost_name ≡ l.initial.self.bytes.ghost_name)
