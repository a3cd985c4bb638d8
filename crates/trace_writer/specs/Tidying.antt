-- A file written again with every identifier in the writer's padding.
use Rattle.std.specs.Prelude.{◌≡◌, ℕ, ◌+◌, ◌<◌, ◌≤◌, ◌⊎◌, List, [], ◌∷◌, ◌++◌, map, length, take, Ok, Err, Result, ◌≢◌, slice_index}
use Rattle.std.specs.List.{flat_map}
use Rattle.trace_file.specs.declared.event.Operand.{Operand}
use Rattle.trace_file.specs.declared.event.Operand.TheVariants.{Nothing, Identifier as Id, Thread}
use Rattle.trace_file.specs.declared.event.Timed.{Timed}
use Rattle.trace_file.specs.declared.fault.Fault.{Fault}
use Rattle.trace_file.specs.declared.identifier.Identifier.{Identifier}
use Rattle.trace_file.specs.Event.{command, timed_with}
use Rattle.trace_file.specs.Fault.{parts}
use Rattle.trace_file.specs.File.{Command, Reads, Refuses, FileOf, encoded, end_command}
use Rattle.trace_file.specs.Identifier.{number, padded, width, greatest}
use Rattle.trace_writer.specs.Writing.{written, in_writer}

-- a command with its identifier in the writer's padding
abbrev pub tidied : Command → Command
tidied c = timed_with (λ cs. padded (number cs)) c

-- the file of these commands with every identifier in the writer's padding
abbrev pub tidy_file : List Command → List ℕ
tidy_file cs = flat_map encoded (map tidied cs) ++ end_command (length cs)

-- a place of the file at which a character of an identifier stands
pub record InIdentifier (cs : List Command) (k : ℕ) : Type 0 where
  pub before : List Command
  pub at : Command
  pub after : List Command
  pub whole : cs ≡ before ++ at ∷ after
  pub entry : (command at.event).0 ≡ 3
  pub from : length (flat_map encoded before) + 5 ≤ k
  pub to : k < length (flat_map encoded before) + 5 + width

-- The file was written again: the output bytes, all of them, and what they are.
pub record HasTidied (file out : List ℕ) (n : ℕ) (after : List ℕ) : Type 0 where
  pub commands : List Command
  pub reads : Reads file commands
  pub room : length file ≤ length out
  pub answer : n ≡ length file
  pub bytes : after ≡ written out 0 (tidy_file commands)
  -- it has the length of the file, and reads as the file's commands in the writer's padding
  pub long : length (tidy_file commands) ≡ length file
  pub tidy : Reads (take n after) (map tidied commands)
  -- it is a file of the same events
  pub back : (es : List (Timed ℕ)) → FileOf file es → FileOf (take n after) es
  -- it differs from the file in the characters of identifiers alone
  pub alone : (k : ℕ) → k < n → (InIdentifier commands k → ⊥) → slice_index after k ≡ slice_index file k

abbrev pub Tidies : List ℕ → List ℕ → Result ℕ Fault → List ℕ → Type 0
Tidies file out (Ok n) after = HasTidied file out n after
Tidies file out (Err f) after = (Refuses file (parts f) ⊎ (((cs : List Command) × Reads file cs) × (length out < length file) × (parts f ≡ in_writer 15 0))) × (after ≡ out)

-- Tidied again, into any output bytes, what was written stays as it is.
abbrev pub Stays : Result ℕ Fault → List ℕ → Type 0
Stays (Ok n) after = (out : List ℕ) (m : ℕ) (again : List ℕ) → HasTidied (take n after) out m again → again ≡ written out 0 (take n after)
Stays (Err f) after = Unit {0}

-- the bytes once the identifier that was read is written over itself in the writer's padding
abbrev pub over : List ℕ → Operand Identifier → List ℕ
over out Nothing = out
over out (Id i) = written out i.place (padded i.number)
over out (Thread t) = out

-- an identifier that was read is not too great to be written
abbrev pub Short : Operand Identifier → Type 0
Short Nothing = Unit {0}
Short (Id i) = i.number ≤ greatest
Short (Thread t) = Unit {0}

-- an identifier that was read stands among these bytes
abbrev pub Among : List ℕ → Operand Identifier → Type 0
Among out Nothing = Unit {0}
Among out (Id i) = i.place + width ≤ length out
Among out (Thread t) = Unit {0}

-- an identifier that was read is in the writer's padding
abbrev pub IsTidy : Operand Identifier → Type 0
IsTidy Nothing = Unit {0}
IsTidy (Id i) = i.chars.now ≡ padded i.number
IsTidy (Thread t) = Unit {0}

-- so many of these commands have their identifier in another padding
pub data Untidy : List Command → ℕ → Type 0 where
  no_command : Untidy [] 0
  kept : {cs : List Command} {n : ℕ} (c : Command) → Untidy cs n → tidied c ≡ c → Untidy (cs ++ c ∷ []) n
  changed : {cs : List Command} {n : ℕ} (c : Command) → Untidy cs n → (tidied c ≢ c) → Untidy (cs ++ c ∷ []) (n + 1)

-- what is answered of a file whose identifiers are counted: none is to be changed just where the file is tidy
pub record Counted (file : List ℕ) (n : ℕ) : Type 0 where
  pub commands : List Command
  pub reads : Reads file commands
  pub untidy : Untidy commands n
  pub none : n ≡ 0 → tidy_file commands ≡ file
  pub tidy : tidy_file commands ≡ file → n ≡ 0
