-- Each reason alone, some together, and none where the modules let a call pass or were not asked.
use Rattle.std.specs.Prelude.{ℕ, ◌≡◌, refl, Bool, true, false, cond, List, [], ◌∷◌, ◌++◌, map, replicate}
use Rattle.labels.specs.declared.Label.{Label}
use Rattle.labels.specs.Labels.{label}
use Rattle.rules.specs.Computed.{everything, call, level, user, object, flagged_object}
use Rattle.rules.specs.declared.Class.TheVariants.{Absent, Reads, Writes, Both, NoCondition}
use Rattle.rules.specs.Histories.{run}
use Rattle.rules.specs.Setup.{fresh}
use Rattle.state.specs.declared.Call.{Call}
use Rattle.state.specs.declared.Facility.{Facility}
use Rattle.state.specs.declared.Process.{Process}
use Rattle.state.specs.State.{fresh_process, process_of, user_of, put_marks, with_levels}
use Rattle.reasons.specs.Reasons.{MacFailed, unless, read_failed, write_failed, set_failed, class_failed}
use Rattle.reasons.specs.Reasons.{object_failed, signal_failed, alone_failed, mac_failed}
use Rattle.reasons.specs.Reasons.{category_unset, category_failed, data_type_failed, flag_failed, failed_in, failed_by, failed_of}

-- All four modules on. User 0 has clearance 2 and the role general, user 1 clearance 2 and is security officer, user 2 is trusted. Files 0 to 3 of levels
-- 0 to 3, file 4 without a level, file 5 of category security, file 6 without a category, control data 7 that is security information, directory 8,
-- read-only, and file 9 in it, which inherits.
abbrev office : List ℕ
office =
    (3 ∷ 1 ∷ 1 ∷ 1 ∷ 1 ∷ 0 ∷ 0 ∷ 0 ∷ []) ++ user 2 0 0 ++ user 2 1 0 ++ user 2 0 1
    ++ object 0 0 0 0 ++ object 0 1 0 0 ++ object 0 2 0 0 ++ object 0 3 0 0 ++ object 0 255 0 0 ++ object 0 0 1 0 ++ object 0 0 255 0
    ++ object 3 0 0 1 ++ flagged_object 1 0 1 0 ++ flagged_object 0 0 128 9

abbrev bit : Bool → ℕ
bit b = cond b 1 0

-- what failed of a call: level unset, automatic off, clearance, write mark, read mark, receiver; category unset, category, data type; flag
abbrev failed_there : Facility → Call → List ℕ
failed_there f c =
    let w = failed_of f c in
    bit w.unset ∷ bit w.fixed ∷ bit w.clearance ∷ bit w.writemark ∷ bit w.readmark ∷ bit w.receiver
    ∷ bit w.nocategory ∷ bit w.category ∷ bit w.datatype ∷ w.flag ∷ []

abbrev failed_after : List Call → Call → List ℕ
failed_after cs c = failed_there (run (fresh office) cs) c

unfoldable reasons_computed : ℕ
unfolding everything unless read_failed write_failed set_failed class_failed object_failed signal_failed alone_failed mac_failed category_unset category_failed
    data_type_failed flag_failed failed_in failed_by failed_of
reasons_computed = 0

abbrev login : Call
login = call 21 0 0 0

-- R: above the clearance; above the write mark; both; automatic off. And granted: the write mark itself, the clearance itself
pub reads_failed :
    failed_after (login ∷ []) (call 13 0 3 0)
    ∷ failed_after (login ∷ call 20 0 1 0 ∷ []) (call 13 0 2 0)
    ∷ failed_after (login ∷ call 20 0 1 0 ∷ []) (call 13 0 3 0)
    ∷ failed_after (login ∷ call 17 0 0 1 ∷ []) (call 13 0 2 0)
    ∷ failed_after (login ∷ call 20 0 1 0 ∷ []) (call 13 0 1 0)
    ∷ failed_after (login ∷ []) (call 13 0 2 0)
    ∷ []
    ≡ (0 ∷ 0 ∷ 1 ∷ 0 ∷ 0 ∷ 0 ∷ 0 ∷ 0 ∷ 0 ∷ 0 ∷ [])
    ∷ (0 ∷ 0 ∷ 0 ∷ 1 ∷ 0 ∷ 0 ∷ 0 ∷ 0 ∷ 0 ∷ 0 ∷ [])
    ∷ (0 ∷ 0 ∷ 1 ∷ 1 ∷ 0 ∷ 0 ∷ 0 ∷ 0 ∷ 0 ∷ 0 ∷ [])
    ∷ (0 ∷ 1 ∷ 0 ∷ 0 ∷ 0 ∷ 0 ∷ 0 ∷ 0 ∷ 0 ∷ 0 ∷ [])
    ∷ (0 ∷ 0 ∷ 0 ∷ 0 ∷ 0 ∷ 0 ∷ 0 ∷ 0 ∷ 0 ∷ 0 ∷ [])
    ∷ (0 ∷ 0 ∷ 0 ∷ 0 ∷ 0 ∷ 0 ∷ 0 ∷ 0 ∷ 0 ∷ 0 ∷ [])
    ∷ []
unfolding reasons_computed
reads_failed = refl

-- W and B: below the read mark; above the write mark; above the clearance; automatic off. Set-level: each of the three, and automatic is not asked
pub writes_failed :
    failed_after (login ∷ call 13 0 2 0 ∷ []) (call 20 0 1 0)
    ∷ failed_after (login ∷ call 20 0 1 0 ∷ []) (call 14 0 2 0)
    ∷ failed_after (login ∷ []) (call 20 0 3 0)
    ∷ failed_after (login ∷ call 17 0 0 1 ∷ []) (call 20 0 2 0)
    ∷ failed_after (login ∷ call 13 0 2 0 ∷ []) (call 17 0 0 1)
    ∷ failed_after (login ∷ call 20 0 1 0 ∷ []) (call 17 0 0 2)
    ∷ failed_after (login ∷ call 17 0 0 1 ∷ []) (call 17 0 0 3)
    ∷ []
    ≡ (0 ∷ 0 ∷ 0 ∷ 0 ∷ 1 ∷ 0 ∷ 0 ∷ 0 ∷ 0 ∷ 0 ∷ [])
    ∷ (0 ∷ 0 ∷ 0 ∷ 1 ∷ 0 ∷ 0 ∷ 0 ∷ 0 ∷ 0 ∷ 0 ∷ [])
    ∷ (0 ∷ 0 ∷ 1 ∷ 0 ∷ 0 ∷ 0 ∷ 0 ∷ 0 ∷ 0 ∷ 0 ∷ [])
    ∷ (0 ∷ 1 ∷ 0 ∷ 0 ∷ 0 ∷ 0 ∷ 0 ∷ 0 ∷ 0 ∷ 0 ∷ [])
    ∷ (0 ∷ 0 ∷ 0 ∷ 0 ∷ 1 ∷ 0 ∷ 0 ∷ 0 ∷ 0 ∷ 0 ∷ [])
    ∷ (0 ∷ 0 ∷ 0 ∷ 1 ∷ 0 ∷ 0 ∷ 0 ∷ 0 ∷ 0 ∷ 0 ∷ [])
    ∷ (0 ∷ 0 ∷ 1 ∷ 0 ∷ 0 ∷ 0 ∷ 0 ∷ 0 ∷ 0 ∷ 0 ∷ [])
    ∷ []
unfolding reasons_computed
writes_failed = refl

-- a signal to another label; a level that is unset; a category that is not the role's, and one that is unset; security information; a flag of the directory
pub others_failed :
    failed_after (login ∷ call 21 1 0 0 ∷ call 13 0 2 0 ∷ []) (call 16 0 1 0)
    ∷ failed_after (login ∷ []) (call 13 0 4 0)
    ∷ failed_after (login ∷ []) (call 13 0 5 0)
    ∷ failed_after (login ∷ []) (call 13 0 6 0)
    ∷ failed_after (login ∷ []) (call 10 0 7 0)
    ∷ failed_after (login ∷ []) (call 20 0 9 0)
    -- together: the read mark and the flag
    ∷ failed_after (login ∷ call 13 0 2 0 ∷ []) (call 20 0 9 0)
    ∷ []
    ≡ (0 ∷ 0 ∷ 0 ∷ 0 ∷ 0 ∷ 1 ∷ 0 ∷ 0 ∷ 0 ∷ 0 ∷ [])
    ∷ (1 ∷ 0 ∷ 0 ∷ 0 ∷ 0 ∷ 0 ∷ 0 ∷ 0 ∷ 0 ∷ 0 ∷ [])
    ∷ (0 ∷ 0 ∷ 0 ∷ 0 ∷ 0 ∷ 0 ∷ 0 ∷ 1 ∷ 0 ∷ 0 ∷ [])
    ∷ (0 ∷ 0 ∷ 0 ∷ 0 ∷ 0 ∷ 0 ∷ 1 ∷ 0 ∷ 0 ∷ 0 ∷ [])
    ∷ (0 ∷ 0 ∷ 0 ∷ 0 ∷ 0 ∷ 0 ∷ 0 ∷ 0 ∷ 1 ∷ 0 ∷ [])
    ∷ (0 ∷ 0 ∷ 0 ∷ 0 ∷ 0 ∷ 0 ∷ 0 ∷ 0 ∷ 0 ∷ 1 ∷ [])
    ∷ (0 ∷ 0 ∷ 0 ∷ 0 ∷ 1 ∷ 0 ∷ 0 ∷ 0 ∷ 0 ∷ 1 ∷ [])
    ∷ []
unfolding reasons_computed
others_failed = refl

-- nothing: a call that the role allows, a trusted owner's read above the clearance, a read of what is not open (9), and no request (1)
pub nothing_fails :
    failed_after (call 21 0 0 1 ∷ []) (call 10 0 7 0)
    ∷ failed_after (call 21 0 0 2 ∷ []) (call 13 0 3 0)
    ∷ failed_after (login ∷ []) (call 12 0 3 0)
    ∷ failed_after (login ∷ []) (call 99 0 3 0)
    ∷ []
    ≡ (0 ∷ 0 ∷ 0 ∷ 0 ∷ 0 ∷ 0 ∷ 0 ∷ 0 ∷ 0 ∷ 0 ∷ [])
    ∷ (0 ∷ 0 ∷ 0 ∷ 0 ∷ 0 ∷ 0 ∷ 0 ∷ 0 ∷ 0 ∷ 0 ∷ [])
    ∷ (0 ∷ 0 ∷ 0 ∷ 0 ∷ 0 ∷ 0 ∷ 0 ∷ 0 ∷ 0 ∷ 0 ∷ [])
    ∷ (0 ∷ 0 ∷ 0 ∷ 0 ∷ 0 ∷ 0 ∷ 0 ∷ 0 ∷ 0 ∷ 0 ∷ [])
    ∷ []
unfolding reasons_computed
nothing_fails = refl

-- a number that comes before the modules are asked tells nothing: a level above 15 (11), a caller that does not run (3)
pub unasked_fails :
    failed_after (login ∷ []) (call 17 0 0 99) ∷ failed_after (login ∷ []) (call 13 5 6 0) ∷ []
    ≡ replicate 2 (replicate 10 0)
unfolding reasons_computed
unasked_fails = refl

-- Users 0 and 1 as above, 2 trusted. Of level 3: file 0 of category security, file 1 without a category, file 2 that is security information, file 3
-- of category general. File 4 of level 1, of category security; directory 5, search-only; file 6, security information.
abbrev rooms : ℕ → ℕ → List ℕ
rooms mac fc =
    (3 ∷ mac ∷ fc ∷ 1 ∷ 1 ∷ 0 ∷ 0 ∷ 0 ∷ []) ++ user 2 0 0 ++ user 2 1 0 ++ user 2 0 1
    ++ object 0 3 1 0 ++ object 0 3 255 0 ++ object 0 3 0 1 ++ object 0 3 0 0 ++ object 0 1 1 0 ++ flagged_object 1 0 8 0 ++ object 0 0 0 1

-- What one module refuses, beside another that has nothing to tell.
pub told_apart :
    -- MAC off, and FC's category alone; FC off, and MAC's clearance alone, of a category and of none
    failed_there (run (fresh (rooms 0 1)) (login ∷ [])) (call 13 0 0 0)
    ∷ failed_there (run (fresh (rooms 1 0)) (login ∷ [])) (call 13 0 0 0)
    ∷ failed_there (run (fresh (rooms 1 0)) (login ∷ [])) (call 13 0 1 0)
    -- both on, of the officer: the category is the role's, or general; a read of security information
    ∷ failed_there (run (fresh (rooms 1 1)) (call 21 0 0 1 ∷ [])) (call 13 0 0 0)
    ∷ failed_there (run (fresh (rooms 1 1)) (call 21 0 0 1 ∷ [])) (call 13 0 3 0)
    ∷ failed_there (run (fresh (rooms 1 1)) (login ∷ [])) (call 13 0 2 0)
    -- automatic off, and the label is held, as the current one or below it; a trusted owner above the clearance: the category alone
    ∷ failed_there (run (fresh (rooms 1 1)) (login ∷ call 17 0 0 1 ∷ [])) (call 20 0 4 0)
    ∷ failed_there (run (fresh (rooms 1 1)) (login ∷ call 17 0 0 2 ∷ [])) (call 13 0 4 0)
    ∷ failed_there (run (fresh (rooms 1 1)) (call 21 0 0 2 ∷ [])) (call 13 0 0 0)
    -- a signal to process 1, and object 1 has no category; a read of the directory, which only search may look into
    ∷ failed_there (run (fresh (rooms 1 1)) (login ∷ call 21 1 0 0 ∷ call 17 0 0 2 ∷ [])) (call 16 0 1 0)
    ∷ failed_there (run (fresh (rooms 1 1)) (login ∷ [])) (call 12 0 5 0)
    -- write of security information, which C has put open
    ∷ failed_there (put_marks (run (fresh (rooms 1 1)) (login ∷ [])) 0 6 2) (call 19 0 6 0)
    ∷ []
    ≡ (0 ∷ 0 ∷ 0 ∷ 0 ∷ 0 ∷ 0 ∷ 0 ∷ 1 ∷ 0 ∷ 0 ∷ [])
    ∷ (0 ∷ 0 ∷ 1 ∷ 0 ∷ 0 ∷ 0 ∷ 0 ∷ 0 ∷ 0 ∷ 0 ∷ [])
    ∷ (0 ∷ 0 ∷ 1 ∷ 0 ∷ 0 ∷ 0 ∷ 0 ∷ 0 ∷ 0 ∷ 0 ∷ [])
    ∷ (0 ∷ 0 ∷ 1 ∷ 0 ∷ 0 ∷ 0 ∷ 0 ∷ 0 ∷ 0 ∷ 0 ∷ [])
    ∷ (0 ∷ 0 ∷ 1 ∷ 0 ∷ 0 ∷ 0 ∷ 0 ∷ 0 ∷ 0 ∷ 0 ∷ [])
    ∷ (0 ∷ 0 ∷ 1 ∷ 0 ∷ 0 ∷ 0 ∷ 0 ∷ 0 ∷ 0 ∷ 0 ∷ [])
    ∷ (0 ∷ 0 ∷ 0 ∷ 0 ∷ 0 ∷ 0 ∷ 0 ∷ 1 ∷ 0 ∷ 0 ∷ [])
    ∷ (0 ∷ 0 ∷ 0 ∷ 0 ∷ 0 ∷ 0 ∷ 0 ∷ 1 ∷ 0 ∷ 0 ∷ [])
    ∷ (0 ∷ 0 ∷ 0 ∷ 0 ∷ 0 ∷ 0 ∷ 0 ∷ 1 ∷ 0 ∷ 0 ∷ [])
    ∷ (0 ∷ 0 ∷ 0 ∷ 0 ∷ 0 ∷ 1 ∷ 0 ∷ 0 ∷ 0 ∷ 0 ∷ [])
    ∷ (0 ∷ 0 ∷ 0 ∷ 0 ∷ 0 ∷ 0 ∷ 0 ∷ 0 ∷ 0 ∷ 8 ∷ [])
    ∷ (0 ∷ 0 ∷ 0 ∷ 0 ∷ 0 ∷ 0 ∷ 0 ∷ 0 ∷ 1 ∷ 0 ∷ [])
    ∷ []
unfolding reasons_computed
told_apart = refl

-- MAC's conditions of one rule: automatic, read mark, write mark, clearance
abbrev of_mac : MacFailed → List ℕ
of_mac m = bit m.fixed ∷ bit m.readmark ∷ bit m.writemark ∷ bit m.clearance ∷ []

-- a process with these labels, also such as no run reaches
abbrev with_marks : Label → Label → Label → ℕ → Process
with_marks current low high automatic = with_levels (fresh_process 0) current low high automatic 0

-- R asks the least label above both, of the write mark and of the clearance; not the read mark; and nothing of what is below current, automatic or not.
-- Set-level asks also of the label that is the current one
pub rules_told :
    map of_mac
    (read_failed (label 1 1) (with_marks (label 1 2) (level 0) (label 2 1) 1) (label 2 3)
    ∷ read_failed (label 1 1) (with_marks (label 1 2) (level 0) (label 15 255) 1) (label 2 1)
    ∷ read_failed (level 1) (with_marks (level 0) (level 3) (label 15 255) 1) (level 2)
    ∷ read_failed (level 1) (with_marks (level 2) (level 0) (label 15 255) 0) (level 2)
    ∷ set_failed (level 1) (with_marks (level 1) (level 2) (label 15 255) 0) (level 2) ∷ [])
    ≡ (0 ∷ 0 ∷ 1 ∷ 0 ∷ []) ∷ (0 ∷ 0 ∷ 0 ∷ 1 ∷ []) ∷ (0 ∷ 0 ∷ 0 ∷ 0 ∷ []) ∷ (0 ∷ 0 ∷ 0 ∷ 0 ∷ []) ∷ (0 ∷ 1 ∷ 0 ∷ 0 ∷ []) ∷ []
unfolding reasons_computed
rules_told = refl

-- by class, of a label below what was read and of one above the clearance: none, R, W, B, N
pub classes_told :
    map (λ l. map (λ k. of_mac (class_failed k l (with_marks (level 2) (level 2) (label 15 255) 1) (level 2)))
    (Absent ∷ Reads ∷ Writes ∷ Both ∷ NoCondition ∷ [])) (level 1 ∷ level 3 ∷ [])
    ≡ ((0 ∷ 0 ∷ 0 ∷ 0 ∷ []) ∷ (0 ∷ 0 ∷ 0 ∷ 0 ∷ []) ∷ (0 ∷ 1 ∷ 0 ∷ 0 ∷ []) ∷ (0 ∷ 1 ∷ 0 ∷ 0 ∷ []) ∷ (0 ∷ 0 ∷ 0 ∷ 0 ∷ []) ∷ [])
    ∷ ((0 ∷ 0 ∷ 0 ∷ 0 ∷ []) ∷ (0 ∷ 0 ∷ 0 ∷ 1 ∷ []) ∷ (0 ∷ 0 ∷ 0 ∷ 1 ∷ []) ∷ (0 ∷ 0 ∷ 0 ∷ 1 ∷ []) ∷ (0 ∷ 0 ∷ 0 ∷ 0 ∷ []) ∷ [])
    ∷ []
unfolding reasons_computed
classes_told = refl

-- of a label that is held nothing is told; else each of the four by itself, and all of them
pub held_or_not :
    map of_mac
    (unless true false false false false ∷ unless false false true true true ∷ unless false true false true true ∷ unless false true true false true
    ∷ unless false true true true false ∷ unless false false false false false ∷ [])
    ≡ (0 ∷ 0 ∷ 0 ∷ 0 ∷ []) ∷ (1 ∷ 0 ∷ 0 ∷ 0 ∷ []) ∷ (0 ∷ 1 ∷ 0 ∷ 0 ∷ []) ∷ (0 ∷ 0 ∷ 1 ∷ 0 ∷ []) ∷ (0 ∷ 0 ∷ 0 ∷ 1 ∷ []) ∷ (1 ∷ 1 ∷ 1 ∷ 1 ∷ []) ∷ []
unfolding reasons_computed
held_or_not = refl

-- a trusted owner's signal is not held to the receiver's label
pub trusted_signal :
    map (λ u. bit (signal_failed (fresh_process 0) (user_of (fresh (rooms 1 1)) u)
    (process_of (run (fresh (rooms 1 1)) (login ∷ call 17 0 0 2 ∷ [])) 0)).receiver)
    (0 ∷ 2 ∷ []) ≡ 1 ∷ 0 ∷ []
unfolding reasons_computed
trusted_signal = refl
