-- What replay and holds return: demand 3, and the other promises.
use Prim.Native.Nat.{ℕ, ◌%◌}
use mathlib.Core.Path.{◌≡◌, refl, ◌∙◌, ap, subst⁻¹}
use mathlib.Core.List.{List, [], ◌∷◌, ◌++◌}
use mathlib.Core.Bool.{true, false, not}
use lib.ListN.{length}
use Rattle.state.specs.declared.Facility.{Facility}
use Rattle.state.specs.State.{trusted_user}
use Rattle.labels.proofs.Laws.Decisions.{by_test, clash}
use Rattle.state.specs.declared.Call.{Call}
use Rattle.rules.specs.Calls.{after}
use Rattle.rules.specs.Histories.{run}
use Rattle.labels.specs.Decisions.{◌and◌, on}
use Rattle.rules.specs.Setup.{fresh}
use Rattle.rules.specs.Lines.{calls_of}
use Rattle.rules.proofs.OnlyWhen.{only_when_after}
use Rattle.rules.specs.Flow.{Reaches, Carries}
use Rattle.rules.specs.Promises.{AcceptedSignal, receiver_owner}
use Rattle.rules.proofs.Refusals.{refusals}
use Rattle.rules.proofs.Signals.{signals}
use Rattle.history.specs.Replayed.{replayed, OnlyWhenReplayed, ReachesBytes, CarriesBytes, ExactlyWhenReplayed, PromisedReplayed, one_more_call}
use Rattle.history.specs.Replayed.{LastCallReplayed}
use Rattle.rules.specs.Matter.{holds}
use Rattle.rules.proofs.ExactlyWhen.{exactly_when}
use Rattle.history.specs.CallBytes.{call_bytes}
use Rattle.history.specs.Laws.CallBytes.{calls_back, calls_joined, four_bytes_law}
use Rattle.history.specs.Laws.Promised.{promised}

pub only_when_replayed : OnlyWhenReplayed
only_when_replayed setup calls m h a b held n =
    only_when_after setup (calls_of calls) m h a b held n

pub exactly_when_replayed : ExactlyWhenReplayed
exactly_when_replayed setup A a b ha hb u C =
    let E = exactly_when setup A a b ha hb u C in
    ((λ W. E.0.0 (listed W), λ h. reached (stored (E.1 (E.0.1 h)))), λ W. stored (E.1 (listed W)))
  where
    -- bytes as a list of calls, and the calls of a list as bytes
    listed : ReachesBytes setup a b → Reaches setup a b
    listed W = record { calls = calls_of W.calls; untrusted = W.untrusted; holding = W.holding }

    stored : Carries setup u a b → CarriesBytes setup u a b
    stored W =
        let e = calls_back W.calls in
        record {
          calls = call_bytes W.calls;
          bytes = four_bytes_law W.calls W.four;
          logins = rw e W.logins;
          untrusted = rw e W.untrusted;
          holding = subst⁻¹ (λ (cs : List Call). holds setup cs b a ≡ true) e W.holding;
        }

    reached : CarriesBytes setup u a b → ReachesBytes setup a b
    reached W = record { calls = W.calls; bytes = W.bytes; untrusted = W.untrusted; holding = W.holding }

pub promised_replayed : PromisedReplayed
promised_replayed setup calls = promised setup (calls_of calls)

-- one call more behind whole calls is enforced on what there was
run_joined : (f : Facility) (cs : List Call) (c : Call) → run f (cs ++ (c ∷ [])) ≡ after (run f cs) c
unfolding run
run_joined f [] c = refl
run_joined f (d ∷ cs) c = run_joined (after f d) cs c

last_call : (setup calls : List ℕ) (c : Call) → length calls % 4 ≡ 0 → replayed setup (one_more_call calls c) ≡ after (replayed setup calls) c
last_call setup calls c h =
    ap (run (fresh setup)) (calls_joined calls (call_bytes (c ∷ [])) h ∙ ap (λ (cs : List Call). calls_of calls ++ cs) (calls_back (c ∷ [])))
    ∙ run_joined (fresh setup) (calls_of calls) c

unraised' : (f : Facility) (c : Call) → AcceptedSignal f c → (on f.mac and not (trusted_user f (receiver_owner f c))) ≡ false → after f c ≡ f
unfolding ◌and◌
unraised' f c A h =
    by_test (on f.mac)
    (λ m. signals.trusted f c A (by_test (trusted_user f (receiver_owner f c)) (λ t. t) (λ t. clash refl (rw (m, t) at h))))
    (λ m. signals.off f c A m)

pub last_call_replayed : LastCallReplayed
last_call_replayed =
    record {
      unchanged = λ setup calls c h a d. last_call setup calls c h ∙ refusals.uncounted (replayed setup calls) c a d;
      counts = λ setup calls c h d. last_call setup calls c h ∙ refusals.counts (replayed setup calls) c d;
      raises = λ setup calls c h A m t. last_call setup calls c h ∙ signals.raises (replayed setup calls) c A m t;
      unraised = λ setup calls c h A t. last_call setup calls c h ∙ unraised' (replayed setup calls) c A t;
    }
