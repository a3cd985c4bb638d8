-- What the reader does with each call.
use Rattle.std.specs.Prelude.{◌≡◌, ℕ, ◌+◌, ◌<◌, ◌≤◌, List, [], ◌∷◌, ◌++◌, length, take, drop, All, Some, None, Ok, Err, Option, Result, slice_index}
use Rattle.std.specs.List.{flat_map}
use Rattle.trace_file.specs.declared.event.Event.{Event}
use Rattle.trace_file.specs.declared.event.Operand.{Operand}
use Rattle.trace_file.specs.declared.event.Operand.TheVariants.{Nothing, Identifier as Id, Thread}
use Rattle.trace_file.specs.declared.event.Timed.{Timed}
use Rattle.trace_file.specs.declared.fault.Fault.{Fault}
use Rattle.trace_file.specs.declared.identifier.Identifier.{Identifier}
use Rattle.trace_file.specs.declared.reader.Reader.{Reader}
use Rattle.trace_file.specs.Event.{command, timed_with}
use Rattle.trace_file.specs.Fault.{parts, First}
use Rattle.trace_file.specs.File.{little, from_little, Command, Sound, Reads, Refuses, encoded, end_command, refusals, most_events}
use Rattle.trace_file.specs.Identifier.{Form, number as number_of, width}

-- a number stands in so many bytes at the front
pub record Stands (k n : ℕ) (bs : List ℕ) : Type 0 where
  pub says : n ≡ from_little (take k bs)
  pub bytes : little k n ≡ take k bs

-- the characters of an identifier that was read
abbrev pub chars : Identifier → List ℕ
chars i = i.chars.now

-- the identifier of the command that these bytes begin with, at a place of a file: its characters, their place, and their number
pub record IdentifierAt (at : ℕ) (bs : List ℕ) (i : Identifier) : Type 0 where
  pub part : chars i ≡ take width (drop 5 bs)
  pub form : Form (chars i)
  pub place : i.place ≡ at + 5
  pub number : i.number ≡ number_of (chars i)

-- a command that was read, as it stands in the file
abbrev pub as_read : Timed Identifier → Command
as_read t = timed_with chars t

-- what was read of an operand: the bytes that stand there and, of an identifier, its place and its number
abbrev pub OperandAt : ℕ → List ℕ → Operand Identifier → Type 0
OperandAt at bs Nothing = Unit {0}
OperandAt at bs (Id i) = IdentifierAt at bs i
OperandAt at bs (Thread t) = Stands 2 t (drop 5 bs)

-- the event of the command that these bytes begin with, at a place of a file
pub record EventAt (at : ℕ) (bs : List ℕ) (e : Event Identifier) : Type 0 where
  pub begins : (command e).0 ≡ slice_index bs 0
  pub operand : OperandAt at bs (command e).1

-- a sound command stands at the front of these bytes, at a place of a file, and takes so many of them
pub record Front (at : ℕ) (bs : List ℕ) (t : Timed Identifier) (k : ℕ) : Type 0 where
  pub stands : bs ≡ encoded (as_read t) ++ drop k bs
  pub long : k ≡ length (encoded (as_read t))
  pub sound : Sound (as_read t)
  pub operand : OperandAt at bs (command t.event).1

-- what stands at the front of these bytes, after n events: a command, the end command, or what is first refused
abbrev pub Found : ℕ → ℕ → List ℕ → Result (Option (Timed Identifier × ℕ)) Fault → Type 0
Found n at bs (Ok (Some p)) = Front at bs p.0 p.1 × (n < most_events)
Found n at bs (Ok None) = bs ≡ end_command n
Found n at bs (Err f) = First (refusals n at bs) (parts f)

-- the reader is just after a command that stood where it was
pub record Took (r : Reader) (t : Timed Identifier) (s : Reader) : Type 0 where
  pub front : Front r.at r.rest.now t (length (encoded (as_read t)))
  pub few : r.events < most_events
  pub rest : s.rest.now ≡ drop (length (encoded (as_read t))) r.rest.now
  pub at : s.at ≡ r.at + length (encoded (as_read t))
  pub events : s.events ≡ r.events + 1

-- what a call of `next` does: it takes a command, or stays where it is
abbrev pub Next : Reader → Result (Option (Timed Identifier)) Fault → Reader → Type 0
Next r (Ok (Some t)) s = Took r t s
Next r (Ok None) s = (r.rest.now ≡ end_command r.events) × (s ≡ r)
Next r (Err f) s = First (refusals r.events r.at r.rest.now) (parts f) × (s ≡ r)

-- from the start of a file the reader has read these commands
pub record HasRead (file : List ℕ) (cs : List Command) (r : Reader) : Type 0 where
  pub whole : file ≡ flat_map encoded cs ++ r.rest.now
  pub sound : All Sound cs
  pub few : length cs ≤ most_events
  pub at : r.at ≡ length (flat_map encoded cs)
  pub events : r.events ≡ length cs

-- what a call of `next` says of a file whose commands so far are these
abbrev pub Says : List ℕ → List Command → Result (Option (Timed Identifier)) Fault → Reader → Type 0
Says file cs (Ok (Some t)) s = HasRead file (cs ++ as_read t ∷ []) s
Says file cs (Ok None) s = Reads file cs
Says file cs (Err f) s = Refuses file (parts f)
