-- The command table.
use Rattle.std.specs.Prelude.{ℕ, List, [], ◌++◌, codes, decimal, Some, Option}
use Rattle.std.specs.Option.{option_map}
use Rattle.trace_file.specs.declared.event.Event.{Event}
use Rattle.trace_file.specs.declared.event.Event.TheVariants.{NmiEntry, NmiExit, IrqEntry, IrqExit, LocalIrqDisable, LocalIrqEnable, PreemptDisable, PreemptEnable, PreemptDisableSched, ScheduleEntry, SchedSwitch, ScheduleExit, PreemptEnableSched, NeedResched, SchedWaking}
use Rattle.trace_file.specs.declared.event.Operand.{Operand}
use Rattle.trace_file.specs.declared.event.Timed.{Timed}
use Rattle.trace_file.specs.declared.event.Operand.TheVariants.{Nothing, Identifier, Thread}

abbrev pub command : {I : Type 0} → Event I → ℕ × Operand I
command NmiEntry = (1, Nothing)
command NmiExit = (2, Nothing)
command (IrqEntry i) = (3, Identifier i)
command IrqExit = (4, Nothing)
command LocalIrqDisable = (5, Nothing)
command LocalIrqEnable = (6, Nothing)
command PreemptDisable = (7, Nothing)
command PreemptEnable = (8, Nothing)
command PreemptDisableSched = (9, Nothing)
command ScheduleEntry = (10, Nothing)
command (SchedSwitch t) = (11, Thread t)
command ScheduleExit = (12, Nothing)
command PreemptEnableSched = (13, Nothing)
command NeedResched = (14, Nothing)
command (SchedWaking t) = (15, Thread t)

abbrev pub name : {I : Type 0} → Event I → List ℕ
name NmiEntry = codes "nmi_entry"
name NmiExit = codes "nmi_exit"
name (IrqEntry i) = codes "irq_entry"
name IrqExit = codes "irq_exit"
name LocalIrqDisable = codes "local_irq_disable"
name LocalIrqEnable = codes "local_irq_enable"
name PreemptDisable = codes "preempt_disable"
name PreemptEnable = codes "preempt_enable"
name PreemptDisableSched = codes "preempt_disable_sched"
name ScheduleEntry = codes "schedule_entry"
name (SchedSwitch t) = codes "sched_switch"
name ScheduleExit = codes "schedule_exit"
name PreemptEnableSched = codes "preempt_enable_sched"
name NeedResched = codes "need_resched"
name (SchedWaking t) = codes "sched_waking"

-- an operand and an event with the identifier turned into something else
abbrev pub operand_with : {I J : Type 0} → (I → J) → Operand I → Operand J
operand_with f Nothing = Nothing
operand_with f (Identifier i) = Identifier (f i)
operand_with f (Thread t) = Thread t

abbrev pub with : {I J : Type 0} → (I → J) → Event I → Event J
with f NmiEntry = NmiEntry
with f NmiExit = NmiExit
with f (IrqEntry i) = IrqEntry (f i)
with f IrqExit = IrqExit
with f LocalIrqDisable = LocalIrqDisable
with f LocalIrqEnable = LocalIrqEnable
with f PreemptDisable = PreemptDisable
with f PreemptEnable = PreemptEnable
with f PreemptDisableSched = PreemptDisableSched
with f ScheduleEntry = ScheduleEntry
with f (SchedSwitch t) = SchedSwitch t
with f ScheduleExit = ScheduleExit
with f PreemptEnableSched = PreemptEnableSched
with f NeedResched = NeedResched
with f (SchedWaking t) = SchedWaking t

abbrev pub timed_with : {I J : Type 0} → (I → J) → Timed I → Timed J
timed_with f t = record { gap = t.gap; event = with f t.event }

-- how an event is written, where that is known of its identifier: its name and, after a comma, its operand
abbrev pub shown_operand : {I : Type 0} → (I → Option (List ℕ)) → Operand I → Option (List ℕ)
shown_operand output Nothing = Some []
shown_operand output (Identifier i) = option_map (λ bs. codes "," ++ bs) (output i)
shown_operand output (Thread t) = Some (codes "," ++ decimal t)

abbrev pub shown : {I : Type 0} → (I → Option (List ℕ)) → Event I → Option (List ℕ)
shown output e = option_map (λ bs. name e ++ bs) (shown_operand output (command e).1)
