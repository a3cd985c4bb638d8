-- What is written of events, and what of them is refused.
use Rattle.std.specs.Prelude.{◌≡◌, ℕ, ◌+◌, ◌^◌, ◌<◌, ◌≤◌, List, [], ◌∷◌, ◌++◌, map, length, take, drop}
use Rattle.std.specs.List.{flat_map}
use Rattle.trace_file.specs.declared.event.Operand.{Operand}
use Rattle.trace_file.specs.declared.event.Operand.TheVariants.{Nothing, Identifier, Thread}
use Rattle.trace_file.specs.declared.event.Timed.{Timed}
use Rattle.trace_file.specs.declared.fault.Parts.{Parts}
use Rattle.trace_file.specs.Event.{command, timed_with}
use Rattle.trace_file.specs.Fault.{Rule, NoneOf, four_numbers}
use Rattle.trace_file.specs.File.{Command, encoded, most_events}
use Rattle.trace_file.specs.Identifier.{padded, greatest}
use Rattle.trace_writer.specs.declared.extent.Extent.{Extent}

-- the bytes with others written over them from a place on
abbrev pub written : List ℕ → ℕ → List ℕ → List ℕ
written out at bs = take at out ++ (bs ++ drop (at + length bs) out)

-- the command that is written of an event: its identifier has zeros on the left
abbrev pub command_for : Timed ℕ → Command
command_for e = timed_with padded e

-- the bytes that are written of events, one after another
abbrev pub bytes_of : List (Timed ℕ) → List ℕ
bytes_of es = flat_map encoded (map command_for es)

-- an operand that an identifier or two bytes can hold
abbrev pub Small : Operand ℕ → Type 0
Small Nothing = Unit {0}
Small (Identifier n) = n ≤ greatest
Small (Thread t) = t < 2 ^ 16

-- an event that a file can hold
pub record Writable (e : Timed ℕ) : Type 0 where
  pub ticks : 0 < e.gap
  pub fits : e.gap < 2 ^ 32
  pub operand : Small (command e.event).1

-- an identifier too great to be written
abbrev pub TooGreat : Operand ℕ → Type 0
TooGreat Nothing = ⊥
TooGreat (Identifier n) = greatest < n
TooGreat (Thread t) = ⊥

abbrev pub in_writer : ℕ → ℕ → Parts
in_writer number place = four_numbers 5 number 0 place

-- What is refused of an event after n events in so many bytes, where there are room bytes, in the order in which it is tested.
abbrev pub put_refusals : ℕ → ℕ → ℕ → Timed ℕ → List Rule
put_refusals n at room e =
    record { when = most_events ≤ n; gives = in_writer 10 at }
    ∷ record { when = e.gap ≡ 0; gives = in_writer 3 at }
    ∷ record { when = TooGreat (command e.event).1; gives = in_writer 4 at }
    ∷ record { when = room < at + length (encoded (command_for e)); gives = in_writer 15 at }
    ∷ []

-- And of the end command.
abbrev pub close_refusals : ℕ → ℕ → List Rule
close_refusals at room = record { when = room < at + 5; gives = in_writer 15 at } ∷ []

-- an event that is not refused, and how far the file comes with it
pub record Admitted (x : Extent) (room : ℕ) (e : Timed ℕ) (y : Extent) : Type 0 where
  pub none : NoneOf (put_refusals x.events x.at room e)
  pub writable : Writable e
  pub at : y.at ≡ x.at + length (encoded (command_for e))
  pub events : y.events ≡ x.events + 1
