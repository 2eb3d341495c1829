-- What each module's answer depends on, and that no module but MAC changes what an accepted call does. `modules_apart` and `effects_apart`
-- (proofs/ModulesApart) prove it.
use Rattle.std.specs.Prelude.{◌≡◌, true, false}
use Rattle.rules.specs.Types.{NotCared, Call, Facility}
use Rattle.labels.specs.Decisions.{on}
use Rattle.answers.specs.Outcomes.{denies}
use Rattle.state.specs.State.{users_in, objects_in, processes_in, with}
use Rattle.rules.specs.Requests.{Action, needs_object}
use Rattle.rules.specs.Modules.{View, mac_answer, fc_answer, sim_answer, ff_answer}
use Rattle.rules.specs.Questions.{number}
use Rattle.rules.specs.Calls.{accepted, after}

-- What MAC looks at is the same in w as in v: its switch, the caller, its owner's clearance and trust, the receiver's current label, the object's kind
-- and label.
pub record SameToMac (v w : View) : Type 0 where
  pub switch : w.switches.mac ≡ v.switches.mac
  pub caller : w.caller ≡ v.caller
  pub clearance : w.owner.clearance ≡ v.owner.clearance
  pub trusted : w.owner.trusted ≡ v.owner.trusted
  pub receiver : w.target.receiver.current ≡ v.target.receiver.current
  pub kind : w.target.object.kind ≡ v.target.object.kind
  pub label : w.target.object.label ≡ v.target.object.label

-- FC: its switch, the object's category and the owner's role
pub record SameToFc (v w : View) : Type 0 where
  pub switch : w.switches.fc ≡ v.switches.fc
  pub category : w.target.object.category ≡ v.target.object.category
  pub role : w.owner.role ≡ v.owner.role

-- SIM: its switch, the object's kind and data type, and the owner's role
pub record SameToSim (v w : View) : Type 0 where
  pub switch : w.switches.sim ≡ v.switches.sim
  pub kind : w.target.object.kind ≡ v.target.object.kind
  pub datatype : w.target.object.datatype ≡ v.target.object.datatype
  pub role : w.owner.role ≡ v.owner.role

-- FF: its switch, the object's kind and effective flags
pub record SameToFf (v w : View) : Type 0 where
  pub switch : w.switches.ff ≡ v.switches.ff
  pub kind : w.target.object.kind ≡ v.target.object.kind
  pub flags : w.looked.flags ≡ v.looked.flags

-- Of a call MAC looks at all but the process number; FC at whether an object is needed alone; SIM and FF at that and at the request.
pub record ModulesApart : Type 0 where
  pub mac : (k : Action) (v w : View) (c d : Call) → SameToMac v w → d.request ≡ c.request → d.target ≡ c.target → d.extra ≡ c.extra
      → mac_answer k w d ≡ mac_answer k v c
  pub fc : (k j : Action) (v w : View) (c d : Call) → SameToFc v w → needs_object j d.extra ≡ needs_object k c.extra
      → fc_answer j w d ≡ fc_answer k v c
  pub sim : (k j : Action) (v w : View) (c d : Call) → SameToSim v w → needs_object j d.extra ≡ needs_object k c.extra
      → d.request ≡ c.request → sim_answer j w d ≡ sim_answer k v c
  pub ff : (k j : Action) (v w : View) (c d : Call) → SameToFf v w → needs_object j d.extra ≡ needs_object k c.extra
      → d.request ≡ c.request → ff_answer j w d ≡ ff_answer k v c
  -- a module that is off does not care; FC, SIM and FF do not where no object is needed
  pub mac_off : (k : Action) (v : View) (c : Call) → on v.switches.mac ≡ false → mac_answer k v c ≡ NotCared
  pub fc_off : (k : Action) (v : View) (c : Call) → on v.switches.fc ≡ false → fc_answer k v c ≡ NotCared
  pub sim_off : (k : Action) (v : View) (c : Call) → on v.switches.sim ≡ false → sim_answer k v c ≡ NotCared
  pub ff_off : (k : Action) (v : View) (c : Call) → on v.switches.ff ≡ false → ff_answer k v c ≡ NotCared
  pub unneeded : (k : Action) (v : View) (c : Call) → needs_object k c.extra ≡ false
      → (fc_answer k v c ≡ NotCared) × (sim_answer k v c ≡ NotCared) × (ff_answer k v c ≡ NotCared)

-- f with the switches of g
abbrev pub with_switches_of : Facility → Facility → Facility
with_switches_of g f = with g f.users (users_in f) f.entered (objects_in f) (processes_in f) f.opens f.refusals

-- Whichever of FC, SIM and FF are on.
pub record EffectsApart : Type 0 where
  -- a call that is accepted both ways leaves the same but for the switches
  pub effect : (f g : Facility) (c : Call) → g.mac ≡ f.mac → accepted f c ≡ true → accepted (with_switches_of g f) c ≡ true
      → after (with_switches_of g f) c ≡ with_switches_of g (after f c)
  -- numbers 1 to 11 come as they do, MAC on or off too
  pub unasked : (f g : Facility) (c : Call) → accepted f c ≡ false → denies (number f c) ≡ false → number (with_switches_of g f) c ≡ number f c
