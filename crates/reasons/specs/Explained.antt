-- The reasons are those of the rules: each module's answer is told by its conditions, and a reason is told exactly where the modules refuse.
use Rattle.std.specs.Prelude.{ℕ, ◌≡◌, Bool, true, false, not, cond, eqb}
use Rattle.labels.specs.declared.Label.{Label}
use Rattle.labels.specs.Decisions.{◌or◌}
use Rattle.labels.specs.Labels.{join, meet}
use Rattle.answers.specs.declared.Answers.{Answers}
use Rattle.answers.specs.Answers.{is_not_granted, is_undefined}
use Rattle.answers.specs.Outcomes.{number_of, answers_of, denies}
use Rattle.state.specs.declared.Call.{Call}
use Rattle.state.specs.declared.Facility.{Facility}
use Rattle.state.specs.declared.Process.{Process}
use Rattle.state.specs.State.{with_levels}
use Rattle.rules.specs.Calls.{query}
use Rattle.rules.specs.Modules.{may_read, may_write, may_set}
use Rattle.reasons.specs.Reasons.{MacFailed, Failed, read_failed, write_failed, set_failed, failed_of}

-- a condition for which MAC says not granted
abbrev pub mac_refuses : Failed → Bool
mac_refuses w = w.fixed or w.readmark or w.writemark or w.clearance or w.receiver

-- any condition at all
abbrev pub any_failed : Failed → Bool
any_failed w = w.unset or mac_refuses w or w.nocategory or w.category or w.datatype or not (eqb w.flag 0)

-- what failed is what the modules answered
pub record Told (a : Answers) (w : Failed) : Type 0 where
  pub unset : is_undefined a.mac ≡ w.unset
  pub refuses : is_not_granted a.mac ≡ mac_refuses w
  pub nocategory : is_undefined a.fc ≡ w.nocategory
  pub category : is_not_granted a.fc ≡ w.category
  pub datatype : is_not_granted a.sim ≡ w.datatype
  pub flag : is_not_granted a.ff ≡ not (eqb w.flag 0)

-- of a call on a facility
pub record Explained (f : Facility) (c : Call) : Type 0 where
  pub told : Told (answers_of (query f c)) (failed_of f c)
  pub any : denies (number_of (query f c)) ≡ any_failed (failed_of f c)

-- process r and clearance clr with what m tells out of the way of label l: automatic on, marks and clearance moved as far as l, what is not told as it was
abbrev pub eased : MacFailed → Label → Process → Process
eased m l r =
    with_levels r r.current (cond m.readmark (meet r.readmark l) r.readmark) (cond m.writemark (join r.writemark l) r.writemark)
    (cond m.fixed 1 r.automatic) r.moves

abbrev pub eased_clearance : MacFailed → Label → Label → Label
eased_clearance m l clr = cond m.clearance (join clr l) clr

-- MAC's rules grant then, so that nothing that is in the way is left untold, or told as another thing
pub record Enough (l : Label) (r : Process) (clr : Label) : Type 0 where
  pub reads : may_read l (eased (read_failed l r clr) (join r.current l) r) (eased_clearance (read_failed l r clr) (join r.current l) clr) ≡ true
  pub writes : may_write l (eased (write_failed l r clr) l r) (eased_clearance (write_failed l r clr) l clr) ≡ true
  pub sets : may_set l (eased (set_failed l r clr) l r) (eased_clearance (set_failed l r clr) l clr) ≡ true

-- process r with other marks, and automatic or not
abbrev pub marked : Process → Label → Label → ℕ → Process
marked r readmark writemark automatic = with_levels r r.current readmark writemark automatic r.moves

-- each condition that is told refuses by itself, whatever the others are; `may` is a rule of MAC, and `failed` what is told of it
pub record Alone (may : Label → Process → Label → Bool) (failed : Label → Process → Label → MacFailed) (l : Label) (r : Process) (clr : Label) : Type 0 where
  pub fixed : (failed l r clr).fixed ≡ true → (low high c : Label) → may l (marked r low high r.automatic) c ≡ false
  pub readmark : (failed l r clr).readmark ≡ true → (high c : Label) (a : ℕ) → may l (marked r r.readmark high a) c ≡ false
  pub writemark : (failed l r clr).writemark ≡ true → (low c : Label) (a : ℕ) → may l (marked r low r.writemark a) c ≡ false
  pub clearance : (failed l r clr).clearance ≡ true → (low high : Label) (a : ℕ) → may l (marked r low high a) clr ≡ false

-- so nothing is told too much, of a read, a write or a set-level
pub record Needed (l : Label) (r : Process) (clr : Label) : Type 0 where
  pub reads : Alone may_read read_failed l r clr
  pub writes : Alone may_write write_failed l r clr
  pub sets : Alone may_set set_failed l r clr
