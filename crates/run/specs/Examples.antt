-- Nine bytes in three reads, the last of which is told the end of the input: two calls, and one byte left over.
use Rattle.std.specs.Prelude.{◌≡◌, refl, List, [], ◌∷◌, map, ℕ, ◌+◌, ℤ, pos, length}
use Rattle.std.proofs.Common.{lit≤}
use Rattle.console.specs.declared.Kept.{Kept}
use Rattle.console.specs.Files.{bytes_said, input_of, kept_bytes, kept_in, nothing_kept}
use Rattle.run.specs.AllReads.{Read, Reads, all_brought, last, lined, next}

abbrev pub read_of : Kept → List ℕ → ℤ → Read
read_of k bytes said = record { bytes = bytes; input = input_of bytes (length (kept_in k bytes) + bytes_said said) said }

abbrev pub first : Read
first = read_of nothing_kept (21 ∷ 0 ∷ 0 ∷ 0 ∷ 13 ∷ 0 ∷ 99 ∷ 99 ∷ []) (pos 6)

abbrev pub second : Read
unfolding kept_bytes
second = read_of first.input.kept (13 ∷ 0 ∷ 1 ∷ 0 ∷ 7 ∷ 99 ∷ 99 ∷ 99 ∷ []) (pos 3)

abbrev pub third : Read
unfolding kept_bytes
third = read_of second.input.kept (7 ∷ 99 ∷ 99 ∷ 99 ∷ 99 ∷ 99 ∷ 99 ∷ 99 ∷ []) (pos 0)

pub three_reads : Reads nothing_kept (first ∷ second ∷ third ∷ []) third.input
unfolding kept_bytes
three_reads =
    next {r = first} (record { begins = refl; within = lit≤ tt; told = refl }) (lit≤ tt) refl
    (next {r = second} (record { begins = refl; within = lit≤ tt; told = refl }) (lit≤ tt) refl
    (last {r = third} (record { begins = refl; within = lit≤ tt; told = refl }) (lit≤ tt)))

pub three_lined : map lined (first ∷ second ∷ third ∷ []) ≡ (21 ∷ 0 ∷ 0 ∷ 0 ∷ []) ∷ (13 ∷ 0 ∷ 1 ∷ 0 ∷ []) ∷ (7 ∷ []) ∷ []
unfolding kept_bytes
three_lined = refl

pub nine_brought : all_brought nothing_kept (first ∷ second ∷ third ∷ []) ≡ 21 ∷ 0 ∷ 0 ∷ 0 ∷ 13 ∷ 0 ∷ 1 ∷ 0 ∷ 7 ∷ []
unfolding kept_bytes all_brought
nine_brought = refl
