-- Ticket 4: what an accepted signal changes.
use Rattle.std.specs.Prelude.{ℕ, ◌≡◌, refl, ◌≢◌, true, false, set}
use Rattle.std.proofs.Common.{sym, ◌∙◌, ap}
use Rattle.std.proofs.lemmas.List.{set-get_or}
use borrow.Author.Tests.{eq-eqb, ne_eqb}
use Rattle.rules.specs.Types.{Call, Facility}
use Rattle.labels.specs.Decisions.{◌and◌, on}
use Rattle.labels.proofs.Laws.Decisions.{by_test}
use Rattle.state.specs.State.{process_in, process_of, trusted_user, users_in, objects_in, processes_from, with_levels, with, put_process}
use Rattle.labels.specs.Labels.{Label}
use Rattle.rules.specs.Effects.{effect_from}
use Rattle.rules.specs.Calls.{owner_in, after}
use Rattle.rules.specs.Requests.{SendSignal, action_of}
use Rattle.rules.specs.Matter.{union, Account, assign, carry_by}
use Rattle.rules.specs.Modules.{view_of, signalled}
use Rattle.rules.specs.Promises.{AcceptedSignal, receiver_owner, with_read_mark_raised, account_by, Signals}
use Rattle.rules.proofs.Passed.{passed, mac_passed, accepted_zero}
use Rattle.rules.proofs.Moves.{signal_level}
use Rattle.rules.proofs.Witness.{after_is, recorded_is}

-- a process is put back as it was but for its read mark: of the arrays, that of the read marks alone changes
put_mark : (f : Facility) (p : ℕ) (l : Label)
    → put_process f p (with_levels (process_of f p) (process_of f p).current l (process_of f p).writemark (process_of f p).automatic
    (process_of f p).moves)
    ≡ with f f.users (users_in f) f.entered (objects_in f)
    (processes_from f.runnings f.owners f.currents (set f.readmarks p l.level) f.writemarks f.automatics f.moves
    f.currentsets (set f.readsets p l.set) f.writesets) f.opens f.refusals
unfolding put_process process_in
put_mark f p l =
    λ i. with f f.users (users_in f) f.entered (objects_in f)
    (processes_from (set-get_or f.runnings p 0 i) (set-get_or f.owners p 0 i) (set-get_or f.currents p 0 i) (set f.readmarks p l.level)
    (set-get_or f.writemarks p 0 i) (set-get_or f.automatics p 0 i) (set-get_or f.moves p 0 i)
    (set-get_or f.currentsets p 0 i) (set f.readsets p l.set) (set-get_or f.writesets p 0 i)) f.opens f.refusals

-- a process is put back as it was
process_kept : (f : Facility) (p : ℕ) → put_process f p (process_of f p) ≡ f
unfolding process_in
process_kept f p =
    put_mark f p (process_of f p).readmark
    ∙ (λ i. with f f.users (users_in f) f.entered (objects_in f)
    (processes_from f.runnings f.owners f.currents (set-get_or f.readmarks p 0 i) f.writemarks f.automatics f.moves
    f.currentsets (set-get_or f.readsets p 0 i) f.writesets) f.opens f.refusals)

module _ (f : Facility) (c : Call) (S : AcceptedSignal f c) where
  acts : action_of c.request ≡ SendSignal
  unfolding action_of
  acts = rw S.request

  put_receiver : after f c ≡ put_process f c.target (signalled (view_of f c))
  unfolding effect_from
  put_receiver = after_is f c SendSignal acts S.accepted

  raised : on f.mac ≡ true → trusted_user f (receiver_owner f c) ≡ false → after f c ≡ with_read_mark_raised f c.target
  unfolding signalled ◌and◌ process_in
  raised m u = put_receiver ∙ rw (m, u) (put_mark f c.target (process_of f c.target).current)

  -- where the receiver is as it was, so is the facility
  unraised : signalled (view_of f c) ≡ process_of f c.target → after f c ≡ f
  unraised e = put_receiver ∙ ap (put_process f c.target) e ∙ process_kept f c.target

  not_on : on f.mac ≡ false → after f c ≡ f
  unfolding signalled ◌and◌
  not_on m = unraised (rw m)

  not_untrusted : trusted_user f (receiver_owner f c) ≡ true → after f c ≡ f
  unfolding signalled ◌and◌
  not_untrusted u = unraised (by_test (on f.mac) (λ m. rw (m, u)) (λ m. rw m))

  same_level : on f.mac ≡ true → trusted_user f (owner_in f c) ≡ false → (process_of f c.process).current ≡ (process_of f c.target).current
  same_level m u =
      let n = rw acts at (accepted_zero f c S.accepted) in
      signal_level (view_of f c) c u (mac_passed SendSignal (view_of f c) c (passed SendSignal (view_of f c) c n) m)

  module _ (a : Account) where
    carried : account_by a f c ≡ assign a c.target (union (a.processes c.target) (a.processes c.process))
    unfolding carry_by
    carried = recorded_is f a c SendSignal acts S.accepted

    receiver_gains : (account_by a f c).processes c.target ≡ union (a.processes c.target) (a.processes c.process)
    unfolding assign
    receiver_gains = rw (carried, eq-eqb c.target c.target refl)

    others_keep : (p : ℕ) → p ≢ c.target → (account_by a f c).processes p ≡ a.processes p
    unfolding assign
    others_keep p n = rw (carried, ne_eqb c.target p (λ e. n (sym e)))

    objects_keep : (account_by a f c).objects ≡ a.objects
    unfolding assign
    objects_keep = rw carried

pub signals : Signals
signals =
    record {
      raises = raised;
      off = not_on;
      trusted = not_untrusted;
      level = same_level;
      receiver = λ a f c S. receiver_gains f c S a;
      others = λ a f c S. others_keep f c S a;
      objects = λ a f c S. objects_keep f c S a;
    }
