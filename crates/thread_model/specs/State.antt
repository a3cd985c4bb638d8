-- What is known of the processor at the start, and after each event.
use Rattle.std.specs.Prelude.{ℕ, Bool, true, false, cond, ◌==◌}
use Rattle.trace_file.specs.declared.event.Event.{Event}
use Rattle.trace_file.specs.declared.event.Event.TheVariants.{NmiEntry, NmiExit, IrqEntry, IrqExit, LocalIrqDisable, LocalIrqEnable, PreemptDisable, PreemptEnable, PreemptDisableSched, ScheduleEntry, SchedSwitch, ScheduleExit, PreemptEnableSched, NeedResched}
use Rattle.trace_file.specs.Event.{command}
use Rattle.thread_model.specs.declared.state.Context.{Context}
use Rattle.thread_model.specs.declared.state.Context.TheVariants.{Thread, Handler, Nmi}
use Rattle.thread_model.specs.declared.state.Preemption.{Preemption}
use Rattle.thread_model.specs.declared.state.Preemption.TheVariants.{On, OffByThread, OffByHandler, OffToSchedule}
use Rattle.thread_model.specs.declared.state.State.{State}
use Rattle.thread_model.specs.declared.state.Step.{Step}
use Rattle.thread_model.specs.declared.state.Step.TheVariants.{Outside, PreemptionOff, Entered, IrqsOff, Switched, IrqsOn, Left}

-- a kind of event stands for all events that have its command, whatever their operands
abbrev pub Kind : Type 0
Kind = Event (Unit {0})

abbrev pub is : {I : Type 0} → Kind → Event I → Bool
is k e = (command k).0 == (command e).0

abbrev pub irq_entry : Kind
irq_entry = IrqEntry tt

abbrev pub sched_switch : Kind
sched_switch = SchedSwitch 0

-- one kind of event makes something so, another ends it, and any other event leaves it
abbrev pub turned : {I : Type 0} → Kind → Kind → Event I → Bool → Bool
turned begins ends e b = cond (is begins e) true (cond (is ends e) false b)

-- the innermost of what has been entered and not left
abbrev pub context : State → Context
context s = cond s.nmi Nmi (cond s.handler Handler Thread)

-- how many of a pass's events have happened
abbrev pub step_number : Step → ℕ
step_number Outside = 0
step_number PreemptionOff = 1
step_number Entered = 2
step_number IrqsOff = 3
step_number Switched = 4
step_number IrqsOn = 5
step_number Left = 6

-- the event of the pass that comes next, and the step that it leads to
abbrev pub due : Step → Kind
due Outside = PreemptDisableSched
due PreemptionOff = ScheduleEntry
due Entered = LocalIrqDisable
due IrqsOff = sched_switch
due Switched = LocalIrqEnable
due IrqsOn = ScheduleExit
due Left = PreemptEnableSched

abbrev pub onward : Step → Step
onward Outside = PreemptionOff
onward PreemptionOff = Entered
onward Entered = IrqsOff
onward IrqsOff = Switched
onward Switched = IrqsOn
onward IrqsOn = Left
onward Left = Outside

abbrev pub step_after : {I : Type 0} → Event I → Step → Step
step_after e p = cond (is (due p) e) (onward p) p

-- preemption after an event, in a handler or not
abbrev pub preemption_after : {I : Type 0} → Event I → Bool → Preemption → Preemption
preemption_after e in_handler p =
    cond (is PreemptDisable e) (cond in_handler OffByHandler OffByThread)
    (cond (is PreemptDisableSched e) OffToSchedule
    (cond (is PreemptEnable e) On
    (cond (is PreemptEnableSched e) On p)))

abbrev pub start : State
start = record { nmi = false; handler = false; masked = false; preemption = On; resched = false; step = Outside }

abbrev pub next : {I : Type 0} → State → Event I → State
next s e = record {
  nmi = turned NmiEntry NmiExit e s.nmi;
  handler = turned irq_entry IrqExit e s.handler;
  masked = turned LocalIrqDisable LocalIrqEnable e s.masked;
  preemption = preemption_after e s.handler s.preemption;
  resched = turned NeedResched sched_switch e s.resched;
  step = step_after e s.step;
}
