-- The rules, in their order: the first that applies to a state and an event decides.
use Rattle.std.specs.Prelude.{ℕ, Bool, true, false, cond, not, ◌&&◌, ◌||◌, List, [], ◌∷◌, Some, None, Option, ◌==◌}
use Rattle.trace_file.specs.declared.event.Event.{Event}
use Rattle.trace_file.specs.declared.event.Event.TheVariants.{NmiEntry, NmiExit, IrqExit, LocalIrqDisable, LocalIrqEnable, PreemptDisable, PreemptEnable, PreemptDisableSched, ScheduleEntry, ScheduleExit, PreemptEnableSched, NeedResched, SchedWaking}
use Rattle.trace_file.specs.declared.fault.Ground.{Ground}
use Rattle.trace_file.specs.declared.fault.Ground.TheVariants.{NmiInTurn, ThreadIrqsInTurn, HandlersInTurn, PreemptionInTurn, SchedulerInTurn, NothingInNmi, NoSchedulingInHandler, OneMaskOfIrqs, SchedulerWithIrqsOn, SchedulerWithPreemptionOff, PreemptionKeptInPass, SwitchInPass, WakingWithPreemptionOff, WakingWithIrqsMasked, PassCallsScheduler, SchedulerSwitches, FlagLeadsToSwitch, PreemptionHandedBack}
use Rattle.thread_model.specs.declared.state.Preemption.{Preemption}
use Rattle.thread_model.specs.declared.state.Preemption.TheVariants.{On, OffByThread, OffByHandler, OffToSchedule}
use Rattle.thread_model.specs.declared.state.State.{State}
use Rattle.thread_model.specs.State.{is, irq_entry, sched_switch, step_number, due}

abbrev pub is_on : Preemption → Bool
is_on On = true
is_on OffByThread = false
is_on OffByHandler = false
is_on OffToSchedule = false

abbrev pub is_off_by_handler : Preemption → Bool
is_off_by_handler On = false
is_off_by_handler OffByThread = false
is_off_by_handler OffByHandler = true
is_off_by_handler OffToSchedule = false

-- a thread is called: need_resched or sched_waking
abbrev pub calls : {I : Type 0} → Event I → Bool
calls e = is NeedResched e || is (SchedWaking 0) e

-- a thread masks or unmasks IRQs
abbrev pub masks : {I : Type 0} → Event I → Bool
masks e = is LocalIrqDisable e || is LocalIrqEnable e

-- one of the five scheduling events
abbrev pub schedules : {I : Type 0} → Event I → Bool
schedules e = is PreemptDisableSched e || is ScheduleEntry e || is sched_switch e || is ScheduleExit e || is PreemptEnableSched e

-- k of the pass's events have happened
abbrev pub at : ℕ → State → Bool
at k s = step_number s.step == k

-- where its condition holds, a rule allows the event or denies it on a ground
pub record Rule : Type 0 where
  pub when : Bool
  pub says : Option Ground

abbrev pub allow : Bool → Rule
allow c = record { when = c; says = None }

abbrev pub deny : Bool → Ground → Rule
deny c g = record { when = c; says = Some g }

abbrev pub nmi_rules : {I : Type 0} → State → Event I → List Rule → List Rule
nmi_rules s e others =
    deny (is NmiEntry e && s.nmi) NmiInTurn
    ∷ deny (not (is NmiExit e) && s.nmi) NothingInNmi
    ∷ allow s.nmi
    ∷ deny (is NmiExit e) NmiInTurn
    ∷ allow (is NmiEntry e)
    ∷ others

abbrev pub handler_rules : {I : Type 0} → State → Event I → List Rule → List Rule
handler_rules s e others =
    deny (is irq_entry e && s.handler) HandlersInTurn
    ∷ deny (masks e && s.handler) OneMaskOfIrqs
    ∷ deny (schedules e && s.handler) NoSchedulingInHandler
    ∷ deny (is PreemptDisable e && s.handler && not (is_on s.preemption)) PreemptionInTurn
    ∷ deny (is PreemptEnable e && s.handler && not (is_off_by_handler s.preemption)) PreemptionInTurn
    ∷ deny (calls e && s.handler && is_on s.preemption) WakingWithPreemptionOff
    ∷ deny (is IrqExit e && s.handler && is_off_by_handler s.preemption) PreemptionHandedBack
    ∷ allow s.handler
    ∷ others

abbrev pub interrupt_rules : {I : Type 0} → State → Event I → List Rule → List Rule
interrupt_rules s e others =
    deny (is IrqExit e) HandlersInTurn
    ∷ deny (is irq_entry e && s.masked) OneMaskOfIrqs
    ∷ allow (is irq_entry e)
    ∷ others

abbrev pub flag_rules : {I : Type 0} → State → Event I → List Rule → List Rule
flag_rules s e others =
    deny (not (is PreemptDisableSched e) && at 0 s && s.resched && is_on s.preemption && not s.masked) FlagLeadsToSwitch
    ∷ others

abbrev pub pass_rules : {I : Type 0} → State → Event I → List Rule → List Rule
pass_rules s e others =
    deny (is PreemptDisable e && not (at 0 s)) PreemptionKeptInPass
    ∷ deny (is PreemptEnable e && not (at 0 s)) PreemptionKeptInPass
    ∷ allow (is (due s.step) e && not (at 0 s))
    ∷ allow (calls e && (at 3 s || at 4 s))
    ∷ deny (calls e && not (at 0 s)) WakingWithIrqsMasked
    ∷ deny (at 1 s) PassCallsScheduler
    ∷ deny (at 2 s || at 3 s) SchedulerSwitches
    ∷ deny (at 4 s) SchedulerWithIrqsOn
    ∷ deny (at 5 s || at 6 s) SchedulerWithPreemptionOff
    ∷ others

abbrev pub thread_rules : {I : Type 0} → State → Event I → List Rule
thread_rules s e =
    deny (is PreemptDisable e && not (is_on s.preemption)) PreemptionInTurn
    ∷ deny (is PreemptEnable e && is_on s.preemption) PreemptionInTurn
    ∷ deny (is LocalIrqDisable e && s.masked) ThreadIrqsInTurn
    ∷ deny (is LocalIrqEnable e && not s.masked) ThreadIrqsInTurn
    ∷ deny (is PreemptDisableSched e && not (is_on s.preemption)) PreemptionInTurn
    ∷ deny (is PreemptDisableSched e && s.masked) SchedulerWithIrqsOn
    ∷ deny (is ScheduleEntry e) SchedulerWithPreemptionOff
    ∷ deny (is sched_switch e) SwitchInPass
    ∷ deny (is ScheduleExit e) SchedulerInTurn
    ∷ deny (is PreemptEnableSched e) PreemptionInTurn
    ∷ deny (calls e && is_on s.preemption) WakingWithPreemptionOff
    ∷ deny (calls e && not s.masked) WakingWithIrqsMasked
    ∷ []

abbrev pub rules : {I : Type 0} → State → Event I → List Rule
rules s e = nmi_rules s e (handler_rules s e (interrupt_rules s e (flag_rules s e (pass_rules s e (thread_rules s e)))))

-- what the first rule says whose condition holds; what no rule denies is allowed
abbrev pub first : List Rule → Option Ground
first [] = None
first (r ∷ rs) = cond r.when r.says (first rs)

-- the ground on which an event is denied, if it is
abbrev pub verdict : {I : Type 0} → State → Event I → Option Ground
verdict s e = first (rules s e)
