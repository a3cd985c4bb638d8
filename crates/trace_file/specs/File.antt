-- Trace files: the bytes of a command, what a file reads as, and what is refused of one.
use Rattle.std.specs.Prelude.{◌≡◌, ℕ, zero, suc, ◌+◌, ◌*◌, ◌/◌, ◌%◌, ◌^◌, ◌<◌, ◌≤◌, cond, ◌||◌, List, [], ◌∷◌, ◌++◌, map, length, take, drop, All, ◌==◌, ◌≢◌, slice_index}
use Rattle.std.specs.List.{flat_map}
use Rattle.trace_file.specs.declared.event.Operand.{Operand}
use Rattle.trace_file.specs.declared.event.Operand.TheVariants.{Nothing, Identifier, Thread}
use Rattle.trace_file.specs.declared.event.Timed.{Timed}
use Rattle.trace_file.specs.declared.fault.Parts.{Parts}
use Rattle.trace_file.specs.Event.{command, timed_with}
use Rattle.trace_file.specs.Fault.{Rule, First, four_numbers}
use Rattle.trace_file.specs.Identifier.{Form, number, width}

-- an event command as it stands in a file, with the characters of its identifier
abbrev pub Command : Type 0
Command = Timed (List ℕ)

-- how many events a file may have, and how many bytes a program takes
abbrev pub most_events : ℕ
most_events = 1000000

abbrev pub most_bytes : ℕ
most_bytes = 65536

-- a number in so many bytes, the lowest first, and the number that bytes so say
abbrev pub little : ℕ → ℕ → List ℕ
little zero n = []
little (suc k) n = n % 256 ∷ little k (n / 256)

abbrev pub from_little : List ℕ → ℕ
from_little [] = 0
from_little (b ∷ bs) = b + 256 * from_little bs

abbrev pub operand_bytes : Operand (List ℕ) → List ℕ
operand_bytes Nothing = []
operand_bytes (Identifier cs) = cs
operand_bytes (Thread t) = little 2 t

-- the bytes of an event command
abbrev pub encoded : Command → List ℕ
encoded c = (command c.event).0 ∷ (little 4 c.gap ++ operand_bytes (command c.event).1)

-- the bytes of the end command after n events
abbrev pub end_command : ℕ → List ℕ
end_command n = 0 ∷ little 4 n

abbrev pub Proper : Operand (List ℕ) → Type 0
Proper Nothing = Unit {0}
Proper (Identifier cs) = (length cs ≡ width) × Form cs
Proper (Thread t) = t < 2 ^ 16

-- a command that may stand in a file
pub record Sound (c : Command) : Type 0 where
  pub ticks : 0 < c.gap
  pub fits : c.gap < 2 ^ 32
  pub operand : Proper (command c.event).1

-- the bytes are these commands, one after another, and the end command with their number
pub record Reads (bs : List ℕ) (cs : List Command) : Type 0 where
  pub whole : bs ≡ flat_map encoded cs ++ end_command (length cs)
  pub sound : All Sound cs
  pub few : length cs ≤ most_events

-- the event that a command says, with the number of its identifier
abbrev pub meant : Command → Timed ℕ
meant c = timed_with number c

-- the bytes are a file of these events
pub record FileOf (bs : List ℕ) (es : List (Timed ℕ)) : Type 0 where
  pub commands : List Command
  pub reads : Reads bs commands
  pub events : map meant commands ≡ es

-- how many bytes the command that begins with this byte has
abbrev pub size : ℕ → ℕ
size b = cond (b == 3) 9 (cond (b == 11 || b == 15) 7 5)

-- the number after the first byte of a command: an event's gap, or the end command's count
abbrev pub argument : List ℕ → ℕ
argument bs = from_little (take 4 (drop 1 bs))

abbrev pub in_file : ℕ → ℕ → Parts
in_file number place = four_numbers 1 number 0 place

-- What is refused at a place of a file, after n events, where these bytes are left, in the order in which it is tested.
abbrev pub refusals : ℕ → ℕ → List ℕ → List Rule
refusals n at bs =
    record { when = length bs ≡ 0; gives = in_file 1 at }
    ∷ record { when = 15 < slice_index bs 0; gives = in_file 2 at }
    ∷ record { when = (0 < slice_index bs 0) × (most_events ≤ n); gives = in_file 10 at }
    ∷ record { when = length bs < size (slice_index bs 0); gives = in_file 1 at }
    ∷ record { when = (0 < slice_index bs 0) × (argument bs ≡ 0); gives = in_file 3 at }
    ∷ record { when = (slice_index bs 0 ≡ 3) × (Form (take width (drop 5 bs)) → ⊥); gives = in_file 4 at }
    ∷ record { when = (slice_index bs 0 ≡ 0) × (argument bs ≢ n); gives = in_file 5 at }
    ∷ record { when = (slice_index bs 0 ≡ 0) × (5 < length bs); gives = in_file 6 (at + 5) }
    ∷ []

-- after some sound commands the bytes go on with something that is refused
pub record Refuses (bs : List ℕ) (p : Parts) : Type 0 where
  pub commands : List Command
  pub rest : List ℕ
  pub whole : bs ≡ flat_map encoded commands ++ rest
  pub sound : All Sound commands
  pub few : length commands ≤ most_events
  pub first : First (refusals (length commands) (length (flat_map encoded commands)) rest) p
