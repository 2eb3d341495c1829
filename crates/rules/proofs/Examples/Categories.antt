-- Ticket 6: labels of which none dominates the other, in each rule that compares two.
use Rattle.std.specs.Prelude.{ℕ, ◌≡◌, refl, true, false, List, [], ◌∷◌, ◌++◌, map}
use Rattle.labels.specs.Labels.{Label, label}
use Rattle.answers.specs.Outcomes.{setup_number, setup_index}
use Rattle.state.specs.State.{label_of, clearance_of}
use Rattle.rules.specs.Types.{Call, Process}
use Rattle.rules.specs.Computed.{everything, numbers_from, call, switches, categorized_user, categorized_object, process_bytes}
use Rattle.rules.specs.Computed.{category_bytes, level}
use Rattle.rules.specs.Text.{ascii}
use Rattle.rules.specs.Lines.{output}
use Rattle.rules.specs.Setup.{fresh, read_setup, setup_bytes}
use Rattle.rules.specs.Modules.{may_read}
use Rattle.rules.specs.Histories.{run}

-- Categories a, b and c are 1, 2 and 4. Users 0 of clearance 2 with {a, b} and 1 of clearance 2 with {a}; files 0 of level 1 with {a}, 1 of level 1 with
-- {b}, 2 of level 1 with {a, b} and 3 of level 0 with none.
abbrev projects : ℕ → List ℕ
projects mac =
    switches mac 0 0 ++ categorized_user 2 3 ++ categorized_user 2 1
    ++ categorized_object 0 1 1 ++ categorized_object 0 1 2 ++ categorized_object 0 1 3 ++ categorized_object 0 0 0

-- the numbers of the calls, and then levels and categories of process p: running, owner, current, marks, automatic; sets of current and marks
abbrev labels_after : ℕ → List Call → ℕ → List (List ℕ)
labels_after mac cs p =
    numbers_from (fresh (projects mac)) cs ∷ process_bytes (run (fresh (projects mac)) cs) p ∷ category_bytes (run (fresh (projects mac)) cs) p ∷ []

-- "the first write mark is 15 with all eight"; who has read {a} and then {b} is at {a, b}, and may then write to neither
pub both_read :
    labels_after 1 (call 21 0 0 0 ∷ []) 0
    ∷ labels_after 1 (call 21 0 0 0 ∷ call 13 0 0 0 ∷ []) 0
    ∷ labels_after 1 (call 21 0 0 0 ∷ call 13 0 0 0 ∷ call 13 0 1 0 ∷ []) 0
    ∷ labels_after 1 (call 21 0 0 0 ∷ call 13 0 0 0 ∷ call 13 0 1 0 ∷ call 20 0 0 0 ∷ call 20 0 1 0 ∷ call 20 0 2 0 ∷ []) 0
    ∷ []
    ≡ ((0 ∷ []) ∷ (1 ∷ 0 ∷ 0 ∷ 0 ∷ 15 ∷ 1 ∷ []) ∷ (0 ∷ 0 ∷ 255 ∷ []) ∷ [])
    ∷ ((0 ∷ 0 ∷ []) ∷ (1 ∷ 0 ∷ 1 ∷ 1 ∷ 15 ∷ 1 ∷ []) ∷ (1 ∷ 1 ∷ 255 ∷ []) ∷ [])
    ∷ ((0 ∷ 0 ∷ 0 ∷ []) ∷ (1 ∷ 0 ∷ 1 ∷ 1 ∷ 15 ∷ 1 ∷ []) ∷ (3 ∷ 3 ∷ 255 ∷ []) ∷ [])
    ∷ ((0 ∷ 0 ∷ 0 ∷ 12 ∷ 12 ∷ 0 ∷ []) ∷ (1 ∷ 0 ∷ 1 ∷ 1 ∷ 1 ∷ 1 ∷ []) ∷ (3 ∷ 3 ∷ 3 ∷ []) ∷ [])
    ∷ []
unfolding everything numbers_from
both_read = refl

-- R "if current dominates L" without a move; and refused where the least label above both leaves the write mark, or the clearance
pub reads :
    -- written to {a}, then what has none, then {b}
    labels_after 1 (call 21 0 0 0 ∷ call 20 0 0 0 ∷ call 13 0 3 0 ∷ call 13 0 1 0 ∷ []) 0
    -- user 1, cleared for {a} alone
    ∷ labels_after 1 (call 21 0 0 1 ∷ call 13 0 0 0 ∷ call 13 0 1 0 ∷ call 13 0 2 0 ∷ []) 0
    ∷ []
    ≡ ((0 ∷ 0 ∷ 0 ∷ 12 ∷ []) ∷ (1 ∷ 0 ∷ 1 ∷ 0 ∷ 1 ∷ 1 ∷ []) ∷ (1 ∷ 0 ∷ 1 ∷ []) ∷ [])
    ∷ ((0 ∷ 0 ∷ 12 ∷ 12 ∷ []) ∷ (1 ∷ 1 ∷ 1 ∷ 1 ∷ 15 ∷ 1 ∷ []) ∷ (1 ∷ 1 ∷ 255 ∷ []) ∷ [])
    ∷ []
unfolding everything numbers_from
reads = refl

-- Process with these labels, as no run reaches it: its current level is not under its write mark, or not under its owner's clearance
abbrev beside : Label → Label → Process
beside current writemark =
    record { running = 1; owner = 0; current = current; readmark = level 0; writemark = writemark; automatic = 1; moves = 0 }

-- "the least label above both stays under write mark and clearance": L alone would
pub not_by_l_alone :
    may_read (label 1 2) (beside (label 1 1) (label 15 255)) (label 2 3) ∷ may_read (label 1 2) (beside (label 1 1) (label 15 2)) (label 2 3)
    ∷ may_read (label 1 2) (beside (label 1 1) (label 15 255)) (label 2 2) ∷ may_read (label 2 1) (beside (label 1 1) (label 15 255)) (label 2 1)
    ∷ []
    ≡ true ∷ false ∷ false ∷ true ∷ []
unfolding everything
not_by_l_alone = refl

-- "where two had to be equal, signals included, both parts must be": process 0 at 1 with {a} signals process 1 at 1 with {a}, with {b}
pub signals :
    map (λ t. numbers_from (fresh (projects 1)) (call 21 0 0 0 ∷ call 17 0 1 1 ∷ call 21 1 0 0 ∷ call 17 1 t 1 ∷ call 16 0 1 0 ∷ []))
    (1 ∷ 2 ∷ 3 ∷ [])
    ≡ (0 ∷ 0 ∷ 0 ∷ 0 ∷ 0 ∷ []) ∷ (0 ∷ 0 ∷ 0 ∷ 0 ∷ 12 ∷ []) ∷ (0 ∷ 0 ∷ 0 ∷ 0 ∷ 12 ∷ []) ∷ []
unfolding everything numbers_from
signals = refl

-- "Set-level takes the new set from t": inside the clearance, outside it, any byte; 11 asks e alone; with MAC off nothing changes
pub set_levels :
    labels_after 1 (call 21 0 0 1 ∷ call 17 0 1 2 ∷ []) 0
    ∷ labels_after 1 (call 21 0 0 1 ∷ call 17 0 2 1 ∷ call 17 0 255 0 ∷ call 17 0 255 16 ∷ []) 0
    ∷ labels_after 0 (call 21 0 0 1 ∷ call 17 0 255 15 ∷ []) 0
    ∷ []
    ≡ ((0 ∷ 0 ∷ []) ∷ (1 ∷ 1 ∷ 2 ∷ 0 ∷ 15 ∷ 0 ∷ []) ∷ (1 ∷ 0 ∷ 255 ∷ []) ∷ [])
    ∷ ((0 ∷ 12 ∷ 12 ∷ 11 ∷ []) ∷ (1 ∷ 1 ∷ 0 ∷ 0 ∷ 15 ∷ 1 ∷ []) ∷ (0 ∷ 0 ∷ 255 ∷ []) ∷ [])
    ∷ ((0 ∷ 0 ∷ []) ∷ (1 ∷ 1 ∷ 0 ∷ 0 ∷ 15 ∷ 1 ∷ []) ∷ (0 ∷ 0 ∷ 255 ∷ []) ∷ [])
    ∷ []
unfolding everything numbers_from
set_levels = refl

-- what a set-up gives, and what is created: a channel by who has read {a}
pub entered :
    clearance_of (fresh (projects 1)) 0 ∷ clearance_of (fresh (projects 1)) 1 ∷ label_of (fresh (projects 1)) 1
    ∷ label_of (run (fresh (projects 1)) (call 21 0 0 0 ∷ call 13 0 0 0 ∷ call 4 0 0 2 ∷ [])) 4
    ∷ []
    ≡ label 2 3 ∷ label 2 1 ∷ label 1 2 ∷ label 1 1 ∷ []
unfolding everything
entered = refl

-- "which must be 0 where the level is unset"
abbrev number_and_index : List ℕ → List ℕ
number_and_index s = setup_number (read_setup s).outcome ∷ setup_index (read_setup s).outcome ∷ []

pub unset_levels :
    map (λ o. number_and_index (switches 1 0 0 ++ categorized_user 15 255 ++ o))
    (categorized_object 0 255 0 ∷ categorized_object 0 255 1 ∷ categorized_object 0 15 255 ∷ categorized_object 0 16 1 ∷ [])
    ≡ (0 ∷ 0 ∷ []) ∷ (17 ∷ 2 ∷ []) ∷ (0 ∷ 0 ∷ []) ∷ (17 ∷ 2 ∷ []) ∷ []
unfolding everything
unset_levels = refl

-- the sets are written out
pub written : setup_bytes (fresh (projects 1)) ≡ projects 1
unfolding everything
written = refl

-- "The run program prints the level alone"
pub levels_alone :
    output (projects 1) (21 ∷ 0 ∷ 0 ∷ 0 ∷ 13 ∷ 0 ∷ 0 ∷ 0 ∷ 13 ∷ 0 ∷ 1 ∷ 0 ∷ 17 ∷ 0 ∷ 3 ∷ 2 ∷ [])
    ≡ ascii "1 21 0 0 0 0 1 0\n2 13 0 0 0 0 1 1\n3 13 0 1 0 0 1 1\n4 17 0 3 2 0 1 2\n"
unfolding everything
levels_alone = refl
