-- The rules against the laws, at every state and every event.
use Rattle.std.proofs.Common.{Bool, true, false, cond, not, ◌&&◌, T, eqb, Some, None, Option, unwrap_or}
use Rattle.trace_file.specs.declared.event.Event.{Event}
use Rattle.trace_file.specs.declared.event.Event.TheVariants.{NmiEntry, NmiExit, IrqEntry, IrqExit, LocalIrqDisable, LocalIrqEnable, PreemptDisable, PreemptEnable, PreemptDisableSched, ScheduleEntry, SchedSwitch, ScheduleExit, PreemptEnableSched, NeedResched, SchedWaking}
use Rattle.trace_file.specs.declared.fault.Ground.{Ground}
use Rattle.trace_file.specs.declared.fault.Ground.TheVariants.{NmiInTurn, ThreadIrqsInTurn, HandlersInTurn, PreemptionInTurn, SchedulerInTurn, NothingInNmi, NoSchedulingInHandler, OneMaskOfIrqs, SchedulerWithIrqsOn, SchedulerWithPreemptionOff, PreemptionKeptInPass, SwitchInPass, WakingWithPreemptionOff, WakingWithIrqsMasked, PassCallsScheduler, SchedulerSwitches, FlagLeadsToSwitch, PreemptionHandedBack}
use Rattle.thread_model.specs.declared.state.Preemption.{Preemption}
use Rattle.thread_model.specs.declared.state.Preemption.TheVariants.{On, OffByThread, OffByHandler, OffToSchedule}
use Rattle.thread_model.specs.declared.state.State.{State}
use Rattle.thread_model.specs.declared.state.Step.{Step}
use Rattle.thread_model.specs.declared.state.Step.TheVariants.{Outside, PreemptionOff, Entered, IrqsOff, Switched, IrqsOn, Left}
use Rattle.thread_model.specs.Laws.{◌⇒◌, Seen, keeps, is_to_schedule, same, leads}
use Rattle.thread_model.specs.Rules.{is_on, is_off_by_handler, verdict}
use Rattle.thread_model.specs.State.{is, irq_entry, next, step_number, turned}

abbrev every_bool : (Bool → Bool) → Bool
every_bool P = P true && P false

abbrev every_preemption : (Preemption → Bool) → Bool
every_preemption P = P On && (P OffByThread && (P OffByHandler && P OffToSchedule))

abbrev every_step : (Step → Bool) → Bool
every_step P = P Outside && (P PreemptionOff && (P Entered && (P IrqsOff && (P Switched && (P IrqsOn && P Left)))))

abbrev every_ground : (Ground → Bool) → Bool
every_ground P =
    P NmiInTurn && (P ThreadIrqsInTurn && (P HandlersInTurn && (P PreemptionInTurn && (P SchedulerInTurn && (P NothingInNmi
    && (P NoSchedulingInHandler && (P OneMaskOfIrqs && (P SchedulerWithIrqsOn && (P SchedulerWithPreemptionOff && (P PreemptionKeptInPass
    && (P SwitchInPass && (P WakingWithPreemptionOff && (P WakingWithIrqsMasked && (P PassCallsScheduler && (P SchedulerSwitches
    && (P FlagLeadsToSwitch && P PreemptionHandedBack))))))))))))))))

abbrev every : (State → Preemption → Bool) → Bool
every P =
    every_bool (λ nmi. every_bool (λ handler. every_bool (λ masked. every_preemption (λ preemption. every_bool (λ resched.
    every_step (λ step. every_preemption (λ f.
    P (record { nmi = nmi; handler = handler; masked = masked; preemption = preemption; resched = resched; step = step }) f)))))))

abbrev inside : Step → Bool
inside Outside = false
inside PreemptionOff = false
inside Entered = true
inside IrqsOff = true
inside Switched = true
inside IrqsOn = true
inside Left = false

abbrev halted : Step → Bool
halted Outside = false
halted PreemptionOff = false
halted Entered = false
halted IrqsOff = true
halted Switched = true
halted IrqsOn = false
halted Left = false

abbrev in_pass : Step → Bool
in_pass p = not (eqb (step_number p) 0)

abbrev agree : Bool → Bool → Bool
agree a b = cond a b (not b)

abbrev seen_of : State → Preemption → Seen
seen_of s f = record { nmi = s.nmi; handler = s.handler; masked = s.masked; scheduler = inside s.step; called = s.resched; preemption = s.preemption; found = f; step = s.step }

abbrev fit : State → Preemption → Bool
fit s f =
    agree (in_pass s.step) (is_to_schedule s.preemption)
    && ((in_pass s.step ⇒ agree s.masked (halted s.step))
    && ((s.handler ⇒ not s.masked)
    && ((is_off_by_handler s.preemption ⇒ s.handler)
    && (s.handler ⇒ cond (is_off_by_handler s.preemption) (is_on f) (same s.preemption f)))))

abbrev goes_well : {I : Type 0} → State → Preemption → Event I → Option Ground → Bool
goes_well s f e None =
    fit (next s e) (cond (is irq_entry e) s.preemption f)
    && (eqb (step_number (next s e).step) (step_number (cond (is_to_schedule (next s e).preemption) (unwrap_or (leads e) s.step) Outside))
    && (agree (inside (next s e).step) (turned ScheduleEntry ScheduleExit e (inside s.step))
    && every_ground (λ g. keeps g (seen_of s f) e)))
goes_well s f e (Some g) = not (keeps g (seen_of s f) e)

abbrev test : {I : Type 0} → Event I → State → Preemption → Bool
test e s f = fit s f ⇒ goes_well s f e (verdict s e)

pub tested : {I : Type 0} (e : Event I) → T (every (test e))
tested NmiEntry = tt
tested NmiExit = tt
tested (IrqEntry i) = tt
tested IrqExit = tt
tested LocalIrqDisable = tt
tested LocalIrqEnable = tt
tested PreemptDisable = tt
tested PreemptEnable = tt
tested PreemptDisableSched = tt
tested ScheduleEntry = tt
tested (SchedSwitch t) = tt
tested ScheduleExit = tt
tested PreemptEnableSched = tt
tested NeedResched = tt
tested (SchedWaking t) = tt
