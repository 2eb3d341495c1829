-- What passes and what is combined.
use Rattle.std.specs.Prelude.{◌<◌, ◌≤◌, ◌≡◌, refl, true, false, Bool, cond, ltb}
use Rattle.std.proofs.Common.{sym, lt-ltb, le-ltb}
use Rattle.answers.specs.declared.Answer.{Answer}
use Rattle.answers.specs.declared.Answer.TheVariants.{NotCared, Granted, NotGranted, Undefined}
use Rattle.answers.specs.Answers.{is_not_granted, is_undefined, passes, combine, grant, code}

-- an answer passes exactly where it is neither not granted nor undefined
pub neither_passes : (a : Answer) → is_not_granted a ≡ false → is_undefined a ≡ false → passes a ≡ true
unfolding passes
neither_passes NotCared h k = refl
neither_passes Granted h k = refl
neither_passes NotGranted h k = cc
neither_passes Undefined h k = cc

pub passes_not_granted : (a : Answer) → passes a ≡ true → is_not_granted a ≡ false
unfolding passes
passes_not_granted NotCared h = refl
passes_not_granted Granted h = refl
passes_not_granted NotGranted h = sym h
passes_not_granted Undefined h = refl

pub passes_undefined : (a : Answer) → passes a ≡ true → is_undefined a ≡ false
unfolding passes
passes_undefined NotCared h = refl
passes_undefined Granted h = refl
passes_undefined NotGranted h = refl
passes_undefined Undefined h = sym h

-- a combined answer passes only where the first passes
pub passes_first : (a b : Answer) → passes (combine a b) ≡ true → passes a ≡ true
unfolding passes
passes_first NotCared b h = refl
passes_first Granted b h = refl
passes_first NotGranted NotCared h = h
passes_first NotGranted Granted h = h
passes_first NotGranted NotGranted h = h
passes_first NotGranted Undefined h = h
passes_first Undefined b h = h

pub passes_grant : (b : Bool) → passes (grant b) ≡ true → b ≡ true
unfolding passes grant
passes_grant true h = refl
passes_grant false h = h

pub grant_passes : (b : Bool) → b ≡ true → passes (grant b) ≡ true
unfolding passes grant
grant_passes true h = refl
grant_passes false h = h

pub combine_not_cared : (a : Answer) → combine a NotCared ≡ a
combine_not_cared NotCared = refl
combine_not_cared Granted = refl
combine_not_cared NotGranted = refl
combine_not_cared Undefined = refl

-- the table's answer is the one with the larger number
pub combine_larger : (a b : Answer) → cond (ltb (code a) (code b)) b a ≡ combine a b
combine_larger NotCared NotCared = refl
combine_larger NotCared Granted = refl
combine_larger NotCared NotGranted = refl
combine_larger NotCared Undefined = refl
combine_larger Granted NotCared = refl
combine_larger Granted Granted = refl
combine_larger Granted NotGranted = refl
combine_larger Granted Undefined = refl
combine_larger NotGranted NotCared = refl
combine_larger NotGranted Granted = refl
combine_larger NotGranted NotGranted = refl
combine_larger NotGranted Undefined = refl
combine_larger Undefined NotCared = refl
combine_larger Undefined Granted = refl
combine_larger Undefined NotGranted = refl
combine_larger Undefined Undefined = refl

pub combine_second : (a b : Answer) → code a < code b → b ≡ combine a b
combine_second a b h = rw (lt-ltb (code a) (code b) h) at (combine_larger a b)

pub combine_first : (a b : Answer) → code b ≤ code a → a ≡ combine a b
combine_first a b h = rw (le-ltb (code a) (code b) h) at (combine_larger a b)
