-- Ticket 4: whom a signal reaches, whose read mark it raises, and how the matter of a channel goes on by one.
use Rattle.std.specs.Prelude.{ℕ, ◌≡◌, refl, true, false, List, [], ◌∷◌, ◌++◌, map}
use Rattle.state.specs.State.{put_process, put_user, blank}
use Rattle.rules.specs.Types.{Call, Facility}
use Rattle.rules.specs.Computed.{everything, numbers_from, call, switches, user, object, process_bytes, level}
use Rattle.rules.specs.Setup.{fresh}
use Rattle.rules.specs.Calls.{after}
use Rattle.rules.specs.Histories.{run}
use Rattle.rules.specs.Matter.{holds}

-- MAC on; users 0 of clearance 2 and 1 trusted of clearance 2; channel 0 of level 1, files 1 of level 2, 2 of level 1 and 3 of level 0
abbrev yard : List ℕ
yard = switches 1 0 0 ++ user 2 0 0 ++ user 2 0 1 ++ object 2 1 0 0 ++ object 0 2 0 0 ++ object 0 1 0 0 ++ object 0 0 0 0

-- user u logs in as process p and sets its level to l; the read mark stays 0
abbrev at_level : ℕ → ℕ → ℕ → List Call
at_level p u l = call 21 p 0 u ∷ call 17 p 0 l ∷ []

-- process 0, of user u at level l, signals process 1, of user v at level k
abbrev signal_at : ℕ → ℕ → ℕ → ℕ → List Call
signal_at u l v k = at_level 0 u l ++ at_level 1 v k ++ (call 16 0 1 0 ∷ [])

-- the numbers of the calls, and the sender 0 and the receiver 1 after them
abbrev sender_and_receiver : List Call → List (List ℕ)
sender_and_receiver cs = numbers_from (fresh yard) cs ∷ process_bytes (run (fresh yard) cs) 0 ∷ process_bytes (run (fresh yard) cs) 1 ∷ []

-- "with MAC on an untrusted receiver's read mark becomes its current level"
pub receivers :
    -- at one level: granted, and the receiver's read mark comes up to 1; the sender's stays
    sender_and_receiver (signal_at 0 1 0 1)
    -- upward and downward: not granted, and nothing changes
    ∷ sender_and_receiver (signal_at 0 0 0 1) ∷ sender_and_receiver (signal_at 0 1 0 0)
    -- a trusted receiver's read mark is not raised, at one level, and not by a trusted sender
    ∷ sender_and_receiver (signal_at 0 1 1 1) ∷ sender_and_receiver (signal_at 1 0 1 2)
    -- a trusted sender's signal raises an untrusted receiver's, upward and downward
    ∷ sender_and_receiver (signal_at 1 0 0 2) ∷ sender_and_receiver (signal_at 1 2 0 1)
    ∷ []
    ≡ ((0 ∷ 0 ∷ 0 ∷ 0 ∷ 0 ∷ []) ∷ (1 ∷ 0 ∷ 1 ∷ 0 ∷ 15 ∷ 0 ∷ []) ∷ (1 ∷ 0 ∷ 1 ∷ 1 ∷ 15 ∷ 0 ∷ []) ∷ [])
    ∷ ((0 ∷ 0 ∷ 0 ∷ 0 ∷ 12 ∷ []) ∷ (1 ∷ 0 ∷ 0 ∷ 0 ∷ 15 ∷ 0 ∷ []) ∷ (1 ∷ 0 ∷ 1 ∷ 0 ∷ 15 ∷ 0 ∷ []) ∷ [])
    ∷ ((0 ∷ 0 ∷ 0 ∷ 0 ∷ 12 ∷ []) ∷ (1 ∷ 0 ∷ 1 ∷ 0 ∷ 15 ∷ 0 ∷ []) ∷ (1 ∷ 0 ∷ 0 ∷ 0 ∷ 15 ∷ 0 ∷ []) ∷ [])
    ∷ ((0 ∷ 0 ∷ 0 ∷ 0 ∷ 0 ∷ []) ∷ (1 ∷ 0 ∷ 1 ∷ 0 ∷ 15 ∷ 0 ∷ []) ∷ (1 ∷ 1 ∷ 1 ∷ 0 ∷ 15 ∷ 0 ∷ []) ∷ [])
    ∷ ((0 ∷ 0 ∷ 0 ∷ 0 ∷ 0 ∷ []) ∷ (1 ∷ 1 ∷ 0 ∷ 0 ∷ 15 ∷ 0 ∷ []) ∷ (1 ∷ 1 ∷ 2 ∷ 0 ∷ 15 ∷ 0 ∷ []) ∷ [])
    ∷ ((0 ∷ 0 ∷ 0 ∷ 0 ∷ 0 ∷ []) ∷ (1 ∷ 1 ∷ 0 ∷ 0 ∷ 15 ∷ 0 ∷ []) ∷ (1 ∷ 0 ∷ 2 ∷ 2 ∷ 15 ∷ 0 ∷ []) ∷ [])
    ∷ ((0 ∷ 0 ∷ 0 ∷ 0 ∷ 0 ∷ []) ∷ (1 ∷ 1 ∷ 2 ∷ 0 ∷ 15 ∷ 0 ∷ []) ∷ (1 ∷ 0 ∷ 1 ∷ 1 ∷ 15 ∷ 0 ∷ []) ∷ [])
    ∷ []
unfolding everything numbers_from
receivers = refl

-- a process that signals itself is raised too; the other stays
pub to_itself :
    sender_and_receiver (at_level 0 0 1 ++ at_level 1 0 1 ++ (call 16 0 0 0 ∷ []))
    ≡ (0 ∷ 0 ∷ 0 ∷ 0 ∷ 0 ∷ []) ∷ (1 ∷ 0 ∷ 1 ∷ 1 ∷ 15 ∷ 0 ∷ []) ∷ (1 ∷ 0 ∷ 1 ∷ 0 ∷ 15 ∷ 0 ∷ []) ∷ []
unfolding everything numbers_from
to_itself = refl

-- an untrusted user, and processes 0 and 1 of this user at level 3, their read marks at 2 and 1, automatic off and on
abbrev two_processes : ℕ → Facility
two_processes mac =
    put_process (put_process
    (put_user (blank (record { mac = mac; fc = 0; sim = 0; ff = 0 })) (record { clearance = level 9; role = 0; trusted = 0 })) 0
    (record { running = 1; owner = 0; current = level 3; readmark = level 2; writemark = level 7; automatic = 0; moves = 0 })) 1
    (record { running = 1; owner = 0; current = level 3; readmark = level 1; writemark = level 8; automatic = 1; moves = 0 })

-- with MAC off no read mark is raised; with MAC on the write mark and automatic stay
pub by_switch :
    map (λ mac. process_bytes (after (two_processes mac) (call 16 0 1 0)) 1) (0 ∷ 1 ∷ [])
    ++ map (λ mac. process_bytes (after (two_processes mac) (call 16 1 0 0)) 0) (0 ∷ 1 ∷ [])
    ≡ (1 ∷ 0 ∷ 3 ∷ 1 ∷ 8 ∷ 1 ∷ []) ∷ (1 ∷ 0 ∷ 3 ∷ 3 ∷ 8 ∷ 1 ∷ []) ∷ (1 ∷ 0 ∷ 3 ∷ 2 ∷ 7 ∷ 0 ∷ []) ∷ (1 ∷ 0 ∷ 3 ∷ 3 ∷ 7 ∷ 0 ∷ []) ∷ []
unfolding everything
by_switch = refl

-- process 1 waits at the channel's level, process 0 opens and reads the channel
abbrev channel_read : List Call
channel_read = at_level 1 0 1 ++ (call 21 0 0 0 ∷ call 14 0 0 0 ∷ call 12 0 0 0 ∷ [])

-- process 1 sets its level to l, opens file t for writing and writes it
abbrev file_written : ℕ → ℕ → List Call
file_written l t = call 17 1 0 l ∷ call 20 1 t 0 ∷ call 19 1 t 0 ∷ []

-- "A may now be a channel too": by a signal its matter comes into files of levels 2 and 1, and not into one of level 0
pub from_channel :
    map (λ cs. numbers_from (fresh yard) cs)
    ((channel_read ++ (call 16 0 1 0 ∷ []) ++ file_written 2 1) ∷ (channel_read ++ (call 16 0 1 0 ∷ []) ++ file_written 0 3) ∷ [])
    ≡ (0 ∷ 0 ∷ 0 ∷ 0 ∷ 0 ∷ 0 ∷ 0 ∷ 0 ∷ 0 ∷ []) ∷ (0 ∷ 0 ∷ 0 ∷ 0 ∷ 0 ∷ 0 ∷ 12 ∷ 12 ∷ 9 ∷ []) ∷ []
unfolding everything numbers_from
from_channel = refl

pub channel_held :
    holds yard (channel_read ++ (call 16 0 1 0 ∷ []) ++ file_written 2 1) 1 0
    ∷ holds yard (channel_read ++ (call 16 0 1 0 ∷ []) ++ file_written 1 2) 2 0
    ∷ holds yard (channel_read ++ (call 16 0 1 0 ∷ []) ++ file_written 0 3) 3 0
    -- without the signal, and with one before the read, and with one the other way
    ∷ holds yard (channel_read ++ file_written 2 1) 1 0
    ∷ holds yard (at_level 1 0 1 ++ (call 21 0 0 0 ∷ call 14 0 0 0 ∷ call 16 0 1 0 ∷ call 12 0 0 0 ∷ []) ++ file_written 2 1) 1 0
    ∷ holds yard (channel_read ++ (call 16 1 0 0 ∷ []) ++ file_written 2 1) 1 0
    ∷ []
    ≡ true ∷ true ∷ false ∷ false ∷ false ∷ false ∷ []
unfolding everything
channel_held = refl
