-- What is written of events that are given all at once.
use Rattle.std.specs.Prelude.{◌≡◌, ℕ, ◌+◌, ◌≤◌, ◌⊎◌, List, ◌∷◌, ◌++◌, length, take, All, Ok, Err, Result}
use Rattle.trace_file.specs.declared.event.Timed.{Timed}
use Rattle.trace_file.specs.declared.fault.Fault.{Fault}
use Rattle.trace_file.specs.declared.fault.Parts.{Parts}
use Rattle.trace_file.specs.Fault.{First, NoneOf, parts}
use Rattle.trace_file.specs.File.{FileOf, end_command, most_events}
use Rattle.trace_writer.specs.declared.extent.Extent.{Extent}
use Rattle.trace_writer.specs.Writing.{written, bytes_of, Writable, put_refusals, close_refusals}

-- all these events can be put where there are room bytes
pub record Fitting (room : ℕ) (es : List (Timed ℕ)) : Type 0 where
  pub writable : All Writable es
  pub few : length es ≤ most_events
  pub fits : length (bytes_of es) ≤ room

-- all these events can be put where there are room bytes, and the file comes so far with them
pub record Reaches (room : ℕ) (es : List (Timed ℕ)) (x : Extent) : Type 0 where
  pub fitting : Fitting room es
  pub at : x.at ≡ length (bytes_of es)
  pub events : x.events ≡ length es

-- after some events that can be put comes one that is refused
pub record StopsAt (room : ℕ) (es : List (Timed ℕ)) (p : Parts) : Type 0 where
  pub done : List (Timed ℕ)
  pub event : Timed ℕ
  pub rest : List (Timed ℕ)
  pub whole : es ≡ done ++ event ∷ rest
  pub fitting : Fitting room done
  pub first : First (put_refusals (length done) (length (bytes_of done)) room event) p

-- all events can be put, and the end command is refused
pub record StopsAtEnd (room : ℕ) (es : List (Timed ℕ)) (p : Parts) : Type 0 where
  pub fitting : Fitting room es
  pub first : First (close_refusals (length (bytes_of es)) room) p

-- the events were written and the file closed: the output bytes, all of them, and what they read back as
pub record WroteAll (es : List (Timed ℕ)) (out : List ℕ) (n : ℕ) (after : List ℕ) : Type 0 where
  pub fitting : Fitting (length out) es
  pub none : NoneOf (close_refusals (length (bytes_of es)) (length out))
  pub answer : n ≡ length (bytes_of es) + 5
  pub bytes : after ≡ written out 0 (bytes_of es ++ end_command (length es))
  pub back : FileOf (take n after) es

abbrev pub Wrote : List (Timed ℕ) → List ℕ → Result ℕ Fault → List ℕ → Type 0
Wrote es out (Ok n) after = WroteAll es out n after
Wrote es out (Err f) after = (StopsAt (length out) es (parts f) ⊎ StopsAtEnd (length out) es (parts f)) × (after ≡ out)
