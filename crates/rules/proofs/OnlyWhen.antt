-- Demand 3, first half: proved.
use Rattle.std.specs.Prelude.{ℕ, ◌<◌, ◌≡◌, refl, ◌≢◌, true, false, List, [], ◌∷◌, ltb}
use Rattle.std.proofs.Common.{sym, ◌∙◌, ap, subst, ltb-true, eqb-true}
use Rattle.rules.specs.Types.{Switches, Call, Facility}
use Rattle.labels.specs.Decisions.{on}
use Rattle.labels.proofs.Laws.Decisions.{or_none, clash, by_test}
use Rattle.state.specs.State.{label_of}
use Rattle.rules.specs.Flow.{Above, OnlyWhen}
use Rattle.rules.specs.Calls.{after}
use Rattle.rules.specs.Histories.{run, trusted_login, trusted_logins, history}
use Rattle.rules.specs.Setup.{fresh}
use Rattle.rules.specs.Matter.{Account, start, account, holds}
use Rattle.rules.proofs.Leaves.{run_switches}
use Rattle.rules.proofs.Fresh.{Fresh, fresh_setup}
use Rattle.rules.proofs.Invariant.{Inv}
use Rattle.rules.proofs.Opens.{not_reading, not_writing}
use Rattle.rules.proofs.Steps.{inv_after}

-- the invariant at the start
inv_start : (f : Facility) → Fresh f → on f.mac ≡ true → Inv f (start f)
unfolding start
inv_start f F m =
    record {
      sound = F.regular.sound;
      mac = m;
      next = refl;
      kinds = λ t h. refl;
      process = λ p. record {
        owner = λ r. clash r (F.stopped p);
        ordered = λ r. clash r (F.stopped p);
        readable = λ t h r. not_reading (F.closed p t) r;
        writable = λ t h r. not_writing (F.closed p t) r;
        knows = λ c r h. clash h refl;
      };
      holds = λ x c h.
          by_test (ltb x f.entered)
          (λ e. let q : x ≡ c = eqb-true x c (rw e at h) in let b = ltb-true _ _ e in
          record { holder = b; inside = subst (λ (y : ℕ). y < f.entered) q b; above = λ n. absurd (n q) })
          (λ e. clash (rw e at h) refl);
    }

-- the invariant after every list
inv_run : (cs : List Call) (f : Facility) (a : Account) → Inv f a → trusted_logins f cs ≡ false → Inv (run f cs) (account a (history f cs))
unfolding run account history trusted_logins
inv_run [] f a I h = I
inv_run (c ∷ cs) f a I h =
    let (h1, h2) = or_none (trusted_login f c) (trusted_logins (after f c) cs) h in
    inv_run cs (after f c) _ (inv_after f a c I h1) h2

pub only_when : OnlyWhen
only_when s m cs h a b held n =
    ((inv_run cs (fresh s) (start (fresh s)) (inv_start (fresh s) (fresh_setup s) m) h).holds b a held).above n

-- MAC's switch, asked after the list
pub only_when_after : (s : List ℕ) (cs : List Call) → on (run (fresh s) cs).mac ≡ true → trusted_logins (fresh s) cs ≡ false
    → (a b : ℕ) → holds s cs b a ≡ true → b ≢ a → Above (label_of (run (fresh s) cs) b) (label_of (run (fresh s) cs) a)
only_when_after s cs m h a b held n =
    only_when s (ap (λ (x : Switches). on x.mac) (sym (run_switches cs (fresh s))) ∙ m) cs h a b held n
