-- "The run program": the worked example and the other lines.
use Rattle.std.specs.Prelude.{◌≡◌, refl, [], ◌∷◌, ◌++◌, map}
use Rattle.rules.specs.Computed.{everything, switches, user, object}
use Rattle.rules.specs.Text.{ascii}
use Rattle.rules.specs.Lines.{decimal, output}

-- the run program on MAC on alone, one untrusted user of clearance 2, files of levels 1, 2, 0
pub worked_example :
    output (switches 1 0 0 ++ user 2 0 0 ++ object 0 1 0 0 ++ object 0 2 0 0 ++ object 0 0 0 0)
    (21 ∷ 0 ∷ 0 ∷ 0 ∷ 13 ∷ 0 ∷ 1 ∷ 0 ∷ 20 ∷ 0 ∷ 0 ∷ 0 ∷ 12 ∷ 0 ∷ 1 ∷ 0 ∷ 19 ∷ 0 ∷ 0 ∷ 0 ∷ [])
    ≡ ascii "1 21 0 0 0 0 1 0\n2 13 0 1 0 0 1 2\n3 20 0 0 0 12 2 2\n4 12 0 1 0 0 1 2\n5 19 0 0 0 9 0 2\n"
unfolding everything
worked_example = refl

-- left-over bytes, a call by a process that does not run, and a refused set-up
pub other_lines :
    output (switches 0 0 0) (18 ∷ 40 ∷ 0 ∷ 255 ∷ 7 ∷ []) ∷ output (switches 0 0 0 ++ user 16 0 0) (7 ∷ []) ∷ output [] [] ∷ []
    ≡ ascii "1 18 40 0 255 2 0 -\nshort\n" ∷ ascii "set-up 17 1\n" ∷ ascii "set-up 14 0\n" ∷ []
unfolding everything
other_lines = refl

-- numbers in decimal
pub decimals :
    map decimal (0 ∷ 9 ∷ 10 ∷ 99 ∷ 100 ∷ 255 ∷ 1160 ∷ [])
    ≡ ascii "0" ∷ ascii "9" ∷ ascii "10" ∷ ascii "99" ∷ ascii "100" ∷ ascii "255" ∷ ascii "1160" ∷ []
unfolding everything
decimals = refl

-- "p's current level after it or `-`": a login refused with 4 prints the level of the running p, an accepted terminate a hyphen
pub levels_printed :
    output (switches 1 0 0 ++ user 12 0 0 ++ object 0 11 0 0)
    (21 ∷ 31 ∷ 0 ∷ 0 ∷ 13 ∷ 31 ∷ 0 ∷ 0 ∷ 21 ∷ 31 ∷ 0 ∷ 0 ∷ 21 ∷ 0 ∷ 0 ∷ 0 ∷ 18 ∷ 31 ∷ 0 ∷ 0 ∷ 18 ∷ 31 ∷ 0 ∷ 0 ∷ 18 ∷ 32 ∷ 0 ∷ 0 ∷ [])
    ≡ ascii "1 21 31 0 0 0 1 0\n2 13 31 0 0 0 1 11\n3 21 31 0 0 4 0 11\n4 21 0 0 0 0 1 0\n5 18 31 0 0 0 1 -\n6 18 31 0 0 3 0 -\n7 18 32 0 0 2 0 -\n"
unfolding everything
levels_printed = refl

-- the current level, not a mark: 5 after set-level, with read mark 0 and write mark 15
pub current_printed :
    output (switches 1 0 0 ++ user 12 0 0) (21 ∷ 0 ∷ 0 ∷ 0 ∷ 17 ∷ 0 ∷ 0 ∷ 5 ∷ []) ≡ ascii "1 21 0 0 0 0 1 0\n2 17 0 0 5 0 1 5\n"
unfolding everything
current_printed = refl

-- "A refused set-up prints only `set-up`, number, record index": no call's line, no `short`
pub refused_setup_example :
    map (output (switches 0 0 0 ++ user 0 0 0 ++ object 9 0 0 0)) ([] ∷ (21 ∷ 0 ∷ 0 ∷ 0 ∷ []) ∷ (21 ∷ 0 ∷ 0 ∷ 0 ∷ 7 ∷ []) ∷ [])
    ≡ ascii "set-up 17 2\n" ∷ ascii "set-up 17 2\n" ∷ ascii "set-up 17 2\n" ∷ []
unfolding everything
refused_setup_example = refl

-- the combined answer: MAC grants, FC does not; an unset category; all off
pub answers_printed :
    output (switches 1 1 0 ++ user 1 0 0 ++ object 0 0 1 0 ++ object 0 0 255 0) (21 ∷ 0 ∷ 0 ∷ 0 ∷ 13 ∷ 0 ∷ 0 ∷ 9 ∷ 13 ∷ 0 ∷ 1 ∷ 0 ∷ [])
    ∷ output (switches 0 0 0 ++ user 1 0 0 ++ object 0 7 1 0) (21 ∷ 0 ∷ 0 ∷ 0 ∷ 13 ∷ 0 ∷ 0 ∷ 0 ∷ [])
    ∷ []
    ≡ ascii "1 21 0 0 0 0 1 0\n2 13 0 0 9 12 2 0\n3 13 0 1 0 13 3 0\n"
    ∷ ascii "1 21 0 0 0 0 0 0\n2 13 0 0 0 0 0 0\n"
    ∷ []
unfolding everything
answers_printed = refl

-- "One to three left-over bytes print `short`"; none print nothing
pub left_over :
    map (output (switches 0 0 0)) ([] ∷ (9 ∷ []) ∷ (9 ∷ 9 ∷ []) ∷ (9 ∷ 9 ∷ 9 ∷ []) ∷ (255 ∷ 9 ∷ 8 ∷ 7 ∷ []) ∷ (255 ∷ 9 ∷ 8 ∷ 7 ∷ 6 ∷ []) ∷ [])
    ≡ [] ∷ ascii "short\n" ∷ ascii "short\n" ∷ ascii "short\n" ∷ ascii "1 255 9 8 7 1 0 -\n" ∷ ascii "1 255 9 8 7 1 0 -\nshort\n" ∷ []
unfolding everything
left_over = refl

-- the tenth call's index has two digits
pub tenth_call :
    output (switches 0 0 0)
    (22 ∷ 0 ∷ 0 ∷ 0 ∷ 22 ∷ 0 ∷ 0 ∷ 0 ∷ 22 ∷ 0 ∷ 0 ∷ 0 ∷ 22 ∷ 0 ∷ 0 ∷ 0 ∷ 22 ∷ 0 ∷ 0 ∷ 0 ∷ 22 ∷ 0 ∷ 0 ∷ 0 ∷ 22 ∷ 0 ∷ 0 ∷ 0
    ∷ 22 ∷ 0 ∷ 0 ∷ 0 ∷ 22 ∷ 0 ∷ 0 ∷ 0 ∷ 22 ∷ 0 ∷ 0 ∷ 0 ∷ [])
    ≡ ascii "1 22 0 0 0 1 0 -\n2 22 0 0 0 1 0 -\n3 22 0 0 0 1 0 -\n4 22 0 0 0 1 0 -\n5 22 0 0 0 1 0 -\n"
    ++ ascii "6 22 0 0 0 1 0 -\n7 22 0 0 0 1 0 -\n8 22 0 0 0 1 0 -\n9 22 0 0 0 1 0 -\n10 22 0 0 0 1 0 -\n"
unfolding everything
tenth_call = refl
