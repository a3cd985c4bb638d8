-- What an open writer does with each call.
use Rattle.std.specs.Prelude.{◌≡◌, ℕ, ◌+◌, ◌≤◌, List, [], ◌∷◌, ◌++◌, length, take, All, Ok, Err, Result}
use Rattle.trace_file.specs.declared.event.Timed.{Timed}
use Rattle.trace_file.specs.declared.fault.Fault.{Fault}
use Rattle.trace_file.specs.Fault.{First, NoneOf, parts}
use Rattle.trace_file.specs.File.{FileOf, encoded, end_command, most_events}
use Rattle.trace_writer.specs.declared.writer.Unclosed.{Unclosed}
use Rattle.trace_writer.specs.declared.writer.Writer.{Writer}
use Rattle.trace_writer.specs.Writing.{written, command_for, bytes_of, Writable, put_refusals, close_refusals}

-- the bytes written so far hold these events
pub record Holds (w : Writer) (out : List ℕ) (es : List (Timed ℕ)) : Type 0 where
  pub within : w.extent.at ≤ length out
  pub bytes : take w.extent.at out ≡ bytes_of es
  pub writable : All Writable es
  pub few : length es ≤ most_events
  pub events : w.extent.events ≡ length es

-- an event was put: the writer and the output bytes, all of them, afterwards
pub record HasPut (w : Writer) (out : List ℕ) (e : Timed ℕ) (n : ℕ) (v : Writer) (after : List ℕ) : Type 0 where
  pub none : NoneOf (put_refusals w.extent.events w.extent.at (length out) e)
  pub answer : n ≡ w.extent.events + 1
  pub events : v.extent.events ≡ w.extent.events + 1
  pub at : v.extent.at ≡ w.extent.at + length (encoded (command_for e))
  pub bytes : after ≡ written out w.extent.at (encoded (command_for e))

abbrev pub Put : Writer → List ℕ → Timed ℕ → Result ℕ Fault → Writer → List ℕ → Type 0
Put w out e (Ok n) v after = HasPut w out e n v after
Put w out e (Err f) v after = First (put_refusals w.extent.events w.extent.at (length out) e) (parts f) × (v ≡ w) × (after ≡ out)

-- what a call of `put` makes of the events that the bytes hold
abbrev pub AfterPut : List (Timed ℕ) → Timed ℕ → Result ℕ Fault → Writer → List ℕ → Type 0
AfterPut es e (Ok n) v after = Holds v after (es ++ e ∷ [])
AfterPut es e (Err f) v after = Holds v after es

-- the end command was written: the output bytes, all of them, afterwards
pub record HasClosed (w : Writer) (out : List ℕ) (n : ℕ) (after : List ℕ) : Type 0 where
  pub none : NoneOf (close_refusals w.extent.at (length out))
  pub answer : n ≡ w.extent.at + 5
  pub bytes : after ≡ written out w.extent.at (end_command w.extent.events)

abbrev pub Closed : Writer → List ℕ → Result ℕ Unclosed → List ℕ → Type 0
Closed w out (Ok n) after = HasClosed w out n after
Closed w out (Err u) after = First (close_refusals w.extent.at (length out)) (parts u.fault) × (u.writer ≡ w) × (after ≡ out)

-- what a call of `close` makes of the events that the bytes hold
abbrev pub AfterClose : List (Timed ℕ) → Result ℕ Unclosed → List ℕ → Type 0
AfterClose es (Ok n) after = FileOf (take n after) es
AfterClose es (Err u) after = Holds u.writer after es
