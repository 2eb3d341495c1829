-- Laws that other crates cite: the lists tell what the whole facility does.
use Rattle.std.specs.Prelude.{ℕ, suc, ◌≡◌, refl}
use Rattle.std.proofs.Common.{arith}
use Rattle.state.specs.State.{Objects}
use Rattle.rules.specs.FileFlags.{effective, flag_source}
use Rattle.rules.proofs.Flags.{effective_told, source_told}
use Rattle.flags.specs.Lists.{flagged}

pub effective_lists : (x : Objects) (t : ℕ) → effective (flagged x.lives x.flags x.parents) t ≡ effective x t
effective_lists x t = effective_told (suc t) x _ (λ u b. refl) (λ u b. refl) (λ u b. refl) t (omega arith)

pub source_lists : (x : Objects) (t m : ℕ) → flag_source (flagged x.lives x.flags x.parents) t m ≡ flag_source x t m
source_lists x t m = source_told (suc t) x _ (λ u b. refl) (λ u b. refl) (λ u b. refl) t m (omega arith)
