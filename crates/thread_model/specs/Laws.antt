-- What the kernel promises of every run, said of the events alone, and the law that each ground stands for.
use Rattle.std.specs.Prelude.{ℕ, Bool, true, false, cond, not, ◌&&◌, ◌||◌, List, [], ◌∷◌, Some, None, Option, ◌==◌}
use Rattle.std.specs.Option.{unwrap_or}
use Rattle.trace_file.specs.declared.event.Event.{Event}
use Rattle.trace_file.specs.declared.event.Event.TheVariants.{NmiEntry, NmiExit, IrqExit, LocalIrqDisable, LocalIrqEnable, PreemptDisable, PreemptEnable, PreemptDisableSched, ScheduleEntry, ScheduleExit, PreemptEnableSched, NeedResched}
use Rattle.trace_file.specs.declared.fault.Ground.{Ground}
use Rattle.trace_file.specs.declared.fault.Ground.TheVariants.{NmiInTurn, ThreadIrqsInTurn, HandlersInTurn, PreemptionInTurn, SchedulerInTurn, NothingInNmi, NoSchedulingInHandler, OneMaskOfIrqs, SchedulerWithIrqsOn, SchedulerWithPreemptionOff, PreemptionKeptInPass, SwitchInPass, WakingWithPreemptionOff, WakingWithIrqsMasked, PassCallsScheduler, SchedulerSwitches, FlagLeadsToSwitch, PreemptionHandedBack}
use Rattle.thread_model.specs.declared.state.Preemption.{Preemption}
use Rattle.thread_model.specs.declared.state.Preemption.TheVariants.{On, OffByThread, OffByHandler, OffToSchedule}
use Rattle.thread_model.specs.declared.state.Step.{Step}
use Rattle.thread_model.specs.declared.state.Step.TheVariants.{Outside, PreemptionOff, Entered, IrqsOff, Switched, IrqsOn, Left}
use Rattle.thread_model.specs.Rules.{is_on, is_off_by_handler, calls, masks, schedules}
use Rattle.thread_model.specs.State.{Kind, is, irq_entry, sched_switch, turned, preemption_after, step_number}

infixr 10 ◌⇒◌
abbrev pub ◌⇒◌ : Bool → Bool → Bool
a ⇒ b = cond a b true

-- an event of the first kind has come, and none of the second since
unfoldable pub between : {I : Type 0} → Kind → Kind → List (Event I) → Bool
between begins ends [] = false
between begins ends (e ∷ past) = turned begins ends e (between begins ends past)

-- who turned preemption off last, and has not turned it on since
unfoldable pub preemption : {I : Type 0} → List (Event I) → Preemption
preemption [] = On
preemption (e ∷ past) = preemption_after e (between irq_entry IrqExit past) (preemption past)

-- preemption as the latest handler found it
unfoldable pub found : {I : Type 0} → List (Event I) → Preemption
found [] = On
found (e ∷ past) = cond (is irq_entry e) (preemption past) (found past)

abbrev pub is_to_schedule : Preemption → Bool
is_to_schedule On = false
is_to_schedule OffByThread = false
is_to_schedule OffByHandler = false
is_to_schedule OffToSchedule = true

abbrev pub is_off_by_thread : Preemption → Bool
is_off_by_thread On = false
is_off_by_thread OffByThread = true
is_off_by_thread OffByHandler = false
is_off_by_thread OffToSchedule = false

-- the step that a pass's event leads to
abbrev pub leads : {I : Type 0} → Event I → Option Step
leads e =
    cond (is PreemptDisableSched e) (Some PreemptionOff)
    (cond (is ScheduleEntry e) (Some Entered)
    (cond (is LocalIrqDisable e) (Some IrqsOff)
    (cond (is sched_switch e) (Some Switched)
    (cond (is LocalIrqEnable e) (Some IrqsOn)
    (cond (is ScheduleExit e) (Some Left) None)))))

-- the latest event of the pass that is under way, while preemption is off to schedule
unfoldable pub latest : {I : Type 0} → List (Event I) → Step
latest [] = Outside
latest (e ∷ past) = cond (is_to_schedule (preemption (e ∷ past))) (unwrap_or (leads e) (latest past)) Outside

-- What the events of a run say.
pub record Seen : Type 0 where
  pub nmi : Bool
  pub handler : Bool
  pub masked : Bool
  pub scheduler : Bool
  pub called : Bool
  pub preemption : Preemption
  pub found : Preemption
  pub step : Step

unfoldable pub seen : {I : Type 0} → List (Event I) → Seen
seen past = record {
  nmi = between NmiEntry NmiExit past;
  handler = between irq_entry IrqExit past;
  masked = between LocalIrqDisable LocalIrqEnable past;
  scheduler = between ScheduleEntry ScheduleExit past;
  called = between NeedResched sched_switch past;
  preemption = preemption past;
  found = found past;
  step = latest past;
}

abbrev pub same : Preemption → Preemption → Bool
same p q = (is_on p ⇒ is_on q) && (is_off_by_thread p ⇒ is_off_by_thread q) && (is_off_by_handler p ⇒ is_off_by_handler q) && (is_to_schedule p ⇒ is_to_schedule q)

abbrev pub in_thread : Seen → Bool
in_thread v = not v.nmi && not v.handler

-- an NMI or a handler starts
abbrev pub interrupts : {I : Type 0} → Event I → Bool
interrupts e = is NmiEntry e || is irq_entry e

-- at a step of the pass the thread's next event, but for calls, is of this kind
abbrev pub leads_to : {I : Type 0} → Seen → ℕ → Kind → Event I → Bool
leads_to v k next e = (in_thread v && step_number v.step == k) ⇒ (interrupts e || calls e || is next e)

abbrev pub keeps : {I : Type 0} → Ground → Seen → Event I → Bool
keeps NmiInTurn v e = (is NmiEntry e ⇒ not v.nmi) && (is NmiExit e ⇒ v.nmi)
keeps ThreadIrqsInTurn v e = (is LocalIrqDisable e ⇒ not v.masked) && (is LocalIrqEnable e ⇒ v.masked)
keeps HandlersInTurn v e = (is irq_entry e ⇒ not v.handler) && (is IrqExit e ⇒ v.handler)
keeps PreemptionInTurn v e =
    ((is PreemptDisable e || is PreemptDisableSched e) ⇒ is_on v.preemption)
    && (is PreemptEnable e ⇒ cond v.handler (is_off_by_handler v.preemption) (is_off_by_thread v.preemption))
    && (is PreemptEnableSched e ⇒ is_to_schedule v.preemption)
keeps SchedulerInTurn v e = (is ScheduleEntry e ⇒ not v.scheduler) && (is ScheduleExit e ⇒ v.scheduler)
keeps NothingInNmi v e = v.nmi ⇒ is NmiExit e
keeps NoSchedulingInHandler v e = v.handler ⇒ not (schedules e)
keeps OneMaskOfIrqs v e = (is irq_entry e ⇒ not v.masked) && (v.handler ⇒ not (masks e))
keeps SchedulerWithIrqsOn v e = ((is PreemptDisableSched e || is ScheduleEntry e || is ScheduleExit e) ⇒ not v.masked) && leads_to v 4 LocalIrqEnable e
keeps SchedulerWithPreemptionOff v e = ((is ScheduleEntry e || is ScheduleExit e) ⇒ is_to_schedule v.preemption) && leads_to v 5 ScheduleExit e && leads_to v 6 PreemptEnableSched e
keeps PreemptionKeptInPass v e = (is_to_schedule v.preemption ⇒ not (is PreemptDisable e || is PreemptEnable e)) && (v.scheduler ⇒ not (is PreemptEnableSched e))
keeps SwitchInPass v e = is sched_switch e ⇒ (v.scheduler && v.masked && is_to_schedule v.preemption)
keeps WakingWithPreemptionOff v e = calls e ⇒ not (is_on v.preemption)
keeps WakingWithIrqsMasked v e = calls e ⇒ (v.masked || v.handler)
keeps PassCallsScheduler v e = leads_to v 1 ScheduleEntry e
keeps SchedulerSwitches v e = leads_to v 2 LocalIrqDisable e && leads_to v 3 sched_switch e
keeps FlagLeadsToSwitch v e = (in_thread v && v.called && is_on v.preemption && not v.masked) ⇒ (interrupts e || is PreemptDisableSched e)
keeps PreemptionHandedBack v e = is IrqExit e ⇒ same v.preemption v.found
