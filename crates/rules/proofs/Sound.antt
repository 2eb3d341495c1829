-- What holds of every facility: arrays of their lengths, at most 16 users and 128 objects entered, and no live object that was not entered.
use Rattle.std.specs.Prelude.{ℕ, zero, suc, ◌≤◌, ◌<◌, ◌≡◌, refl, true, List, ltb, length, set, replicate}
use Rattle.std.proofs.Math.Path.{subst⁻¹}
use Rattle.std.proofs.lemmas.List.{length-replicate}
use Rattle.std.proofs.Common.{get_or-set_same, get_or-set_other, arith, ltb-true, ltb-false}
use Rattle.std.proofs.Math.Seq.{set_out}
use Rattle.rules.specs.Types.{Switches, Process, User, Object, Facility}
use Rattle.labels.specs.Decisions.{at, on}
use Rattle.labels.proofs.Laws.Decisions.{clash, by_test, by_eq}
use Rattle.state.specs.Shaped.{Shaped}
use Rattle.state.specs.Laws.ReadBack.{object_old, shaped_process, shaped_opens, shaped_user, shaped_object, shaped_drop, shaped_counted}
use Rattle.state.specs.State.{most_users, process_in, object_in, process_of, live, opens_of, put_process, put_opens}
use Rattle.state.specs.State.{put_user, put_object, drop_object, put_refusals}
use Rattle.state.specs.State.{no_process, blank, counted}
use Rattle.opens.specs.Opens.{most_processes, most_objects, most_opens, mark_place}
use Rattle.labels.specs.Labels.{label, bottom}

pub record Sound (f : Facility) : Type 0 where
  pub shaped : Shaped f
  pub users : f.users ≤ most_users
  pub entered : f.entered ≤ most_objects
  pub alive : (t : ℕ) → live f t ≡ true → t < f.entered

pub sound_process : (f : Facility) (p : ℕ) (r : Process) → Sound f → Sound (put_process f p r)
unfolding put_process
sound_process f p r S =
    record { shaped = shaped_process f p r S.shaped; users = S.users; entered = S.entered; alive = S.alive }

pub sound_opens : (f : Facility) (l : List ℕ) → length l ≡ most_opens → Sound f → Sound (put_opens f l)
unfolding put_opens
sound_opens f l e S =
    record { shaped = shaped_opens f l e S.shaped; users = S.users; entered = S.entered; alive = S.alive }

pub sound_counted : (f : Facility) (u : ℕ) → Sound f → Sound (counted f u)
unfolding counted put_refusals
sound_counted f u S =
    record { shaped = shaped_counted f u S.shaped; users = S.users; entered = S.entered; alive = S.alive }

pub sound_user : (f : Facility) (u : User) → f.users < most_users → Sound f → Sound (put_user f u)
unfolding put_user
sound_user f u h S =
    record { shaped = shaped_user f u S.shaped; users = omega arith; entered = S.entered; alive = S.alive }

pub sound_object : (f : Facility) (o : Object) → f.entered < most_objects → Sound f → Sound (put_object f o)
unfolding put_object
sound_object f o h S =
    record {
      shaped = shaped_object f o S.shaped;
      users = S.users;
      entered = omega arith;
      alive = λ t u.
          by_eq t f.entered (λ e. omega arith)
          (λ n. let k : t < f.entered = S.alive t (rw (object_old f o t n) at u) in omega arith);
    }

-- a dropped object is live no more
dropped : (f : Facility) (t : ℕ) → Sound f → on (at (set f.lives t 0) t) ≡ true → t < f.entered
unfolding object_in
dropped f t S h =
    by_test (ltb t most_objects)
    (λ e. let b : t < most_objects = ltb-true t most_objects e in
    clash h (rw (get_or-set_same f.lives t 0 0 (omega (arith, S.shaped.objects.lives))) refl))
    (λ e. let b : most_objects ≤ t = ltb-false t most_objects e in
    S.alive t (rw (set_out f.lives t 0 (omega (arith, S.shaped.objects.lives))) at h))

pub sound_drop : (f : Facility) (t : ℕ) → Sound f → Sound (drop_object f t)
unfolding drop_object object_in
sound_drop f t S =
    record {
      shaped = shaped_drop f t S.shaped;
      users = S.users;
      entered = S.entered;
      alive = λ u h.
          by_eq u t
          (λ e. subst⁻¹ (λ (k : ℕ). k < f.entered) e (dropped f t S (rw e at h)))
          (λ n. S.alive u (rw (get_or-set_other f.lives t u 0 0 n) at h));
    }

pub at_zeros : (n i : ℕ) → at (replicate n 0) i ≡ 0
at_zeros zero i = refl
at_zeros (suc n) zero = refl
at_zeros (suc n) (suc i) = at_zeros n i

zeros_length : (n : ℕ) → length {A = ℕ} (replicate n 0) ≡ n
zeros_length n = length-replicate {A = ℕ} n 0

pub sound_blank : (s : Switches) → Sound (blank s)
unfolding blank object_in
sound_blank s =
    record {
      shaped = record {
        users = record {
          clearances = zeros_length most_users;
          roles = zeros_length most_users;
          trusts = zeros_length most_users;
          clearancesets = zeros_length most_users;
        };
        objects = record {
          lives = zeros_length most_objects;
          kinds = zeros_length most_objects;
          levels = zeros_length most_objects;
          categories = zeros_length most_objects;
          datatypes = zeros_length most_objects;
          flags = zeros_length most_objects;
          parents = zeros_length most_objects;
          sets = zeros_length most_objects;
        };
        processes = record {
          runnings = zeros_length most_processes;
          owners = zeros_length most_processes;
          currents = zeros_length most_processes;
          readmarks = zeros_length most_processes;
          writemarks = zeros_length most_processes;
          automatics = zeros_length most_processes;
          moves = zeros_length most_processes;
          currentsets = zeros_length most_processes;
          readsets = zeros_length most_processes;
          writesets = zeros_length most_processes;
        };
        opens = zeros_length most_opens;
        refusals = zeros_length most_users;
      };
      users = omega arith;
      entered = omega arith;
      alive = λ t h. clash (rw (at_zeros most_objects t) at h) refl;
    }

-- a blank facility has no open, and each of its process numbers is that of no process
pub blank_closed : (s : Switches) (p t : ℕ) → opens_of (blank s) p t ≡ 0
unfolding blank opens_of
blank_closed s p t = at_zeros most_opens (mark_place p t)

pub blank_process : (s : Switches) (p : ℕ) → process_of (blank s) p ≡ no_process
unfolding blank no_process bottom process_in
blank_process s p =
    λ i. record {
      running = at_zeros most_processes p i;
      owner = at_zeros most_processes p i;
      current = label (at_zeros most_processes p i) (at_zeros most_processes p i);
      readmark = label (at_zeros most_processes p i) (at_zeros most_processes p i);
      writemark = label (at_zeros most_processes p i) (at_zeros most_processes p i);
      automatic = at_zeros most_processes p i;
      moves = at_zeros most_processes p i;
    }
