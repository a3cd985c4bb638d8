-- Cases of reading, each with what the definitions give for it.
use Rattle.std.specs.Prelude.{◌≡◌, ℕ, ◌<◌, List, [], ◌∷◌, ◌++◌, length, take, Ok, Err, codes, Result}
use Rattle.std.specs.List.{flat_map}
use Rattle.trace_file.specs.declared.event.Event.{Event}
use Rattle.trace_file.specs.declared.event.Event.TheVariants.{NmiEntry, NmiExit, IrqEntry, IrqExit, LocalIrqDisable, LocalIrqEnable, PreemptDisable, PreemptEnable, PreemptDisableSched, ScheduleEntry, SchedSwitch, ScheduleExit, PreemptEnableSched, NeedResched}
use Rattle.trace_file.specs.declared.event.Timed.{Timed}
use Rattle.trace_file.specs.declared.fault.Parts.{Parts}
use Rattle.trace_file.specs.declared.fault.Fault.{Fault}
use Rattle.trace_file.specs.Fault.{Rule, First, parts}
use Rattle.trace_file.specs.File.{Command, FileOf, Refuses, encoded, end_command, in_file}
use Rattle.trace_writer.specs.Writing.{in_writer, written}

-- what a file gives: its events, or the numbers of its fault
pub data Answer : Type 0 where
  events : List (Timed ℕ) → Answer
  fault : Parts → Answer

pub record Case : Type 0 where
  pub file : List ℕ
  pub answer : Answer

abbrev pub Gives : List ℕ → Answer → Type 0
Gives bs (events es) = FileOf bs es
Gives bs (fault p) = Refuses bs p

abbrev pub IsSo : Case → Type 0
IsSo c = Gives c.file c.answer

abbrev pub after : {I : Type 0} → ℕ → Event I → Timed I
after gap event = record { gap = gap; event = event }

-- a file of one handler's entry, with these characters for its identifier
abbrev pub entry : List ℕ → List ℕ
entry cs = encoded (after 1 (IrqEntry cs)) ++ end_command 1

-- a handler that calls for a thread while preemption is off, the pass that follows, and a handler with an NMI in it
abbrev pub example : List Command
example =
    after 10 PreemptDisable ∷ after 5 (IrqEntry (codes "0033")) ∷ after 4 NeedResched ∷ after 6 IrqExit ∷ after 7 PreemptEnable
    ∷ after 2 PreemptDisableSched ∷ after 3 ScheduleEntry ∷ after 4 LocalIrqDisable ∷ after 5 (SchedSwitch 7) ∷ after 3 LocalIrqEnable
    ∷ after 2 ScheduleExit ∷ after 4 PreemptEnableSched ∷ after 10 (IrqEntry (codes "  33")) ∷ after 1 NmiEntry ∷ after 3 NmiExit ∷ after 2 IrqExit ∷ []

abbrev pub example_events : List (Timed ℕ)
example_events =
    after 10 PreemptDisable ∷ after 5 (IrqEntry 33) ∷ after 4 NeedResched ∷ after 6 IrqExit ∷ after 7 PreemptEnable
    ∷ after 2 PreemptDisableSched ∷ after 3 ScheduleEntry ∷ after 4 LocalIrqDisable ∷ after 5 (SchedSwitch 7) ∷ after 3 LocalIrqEnable
    ∷ after 2 ScheduleExit ∷ after 4 PreemptEnableSched ∷ after 10 (IrqEntry 33) ∷ after 1 NmiEntry ∷ after 3 NmiExit ∷ after 2 IrqExit ∷ []

abbrev pub example_file : List ℕ
example_file = flat_map encoded example ++ end_command 16

abbrev pub cases : List Case
cases =
    record { file = entry (codes "9999"); answer = events (after 1 (IrqEntry 9999) ∷ []) }
    ∷ record { file = entry (codes "33  "); answer = events (after 1 (IrqEntry 33) ∷ []) }
    ∷ record { file = entry (codes "3  3"); answer = fault (in_file 4 0) }
    ∷ record { file = entry (codes " 33 "); answer = fault (in_file 4 0) }
    ∷ record { file = entry (codes "    "); answer = fault (in_file 4 0) }
    ∷ record { file = example_file; answer = events example_events }
    ∷ record { file = take 94 example_file; answer = fault (in_file 1 90) }
    ∷ []

-- what is refused of a file of one call, where there are room bytes
abbrev pub call_refusals : ℕ → ℕ → List Rule
call_refusals gap room =
    record { when = gap ≡ 0; gives = in_writer 3 0 }
    ∷ record { when = room < 5; gives = in_writer 15 0 }
    ∷ record { when = room < 10; gives = in_writer 15 5 }
    ∷ []

-- a file of one call for a thread, and the bytes of the call in it
abbrev pub call : ℕ → List ℕ
call gap = encoded (after gap NeedResched)

-- the output bytes after that file was written, or after it was refused: the call's bytes stand where only the end command was refused
abbrev pub Called : ℕ → List ℕ → Result ℕ Fault → List ℕ → Type 0
Called gap out (Ok n) now = (n ≡ 10) × FileOf (take n now) (after gap NeedResched ∷ []) × (now ≡ written out 0 (call gap ++ end_command 1))
Called gap out (Err f) now = First (call_refusals gap (length out)) (parts f) × ((f.place ≡ 0 → now ≡ out) × (f.place ≡ 5 → now ≡ written out 0 (call gap)))
