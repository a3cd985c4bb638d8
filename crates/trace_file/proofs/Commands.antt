-- The command table, and the bytes of commands.
use Rattle.std.proofs.lemmas.Grind.{common_steps}
use Rattle.std.proofs.Common.{◌≡◌, ℕ, ◌+◌, ◌^◌, ◌<◌, ◌≤◌, cond, eqb, List, [], ◌∷◌, ◌++◌, length, get_or, take, drop, sym, refl, ap, ◌∙◌, arith}
use Rattle.trace_file.specs.declared.event.Event.{Event}
use Rattle.trace_file.specs.declared.event.Event.TheVariants.{NmiEntry, NmiExit, IrqEntry, IrqExit, LocalIrqDisable, LocalIrqEnable, PreemptDisable, PreemptEnable, PreemptDisableSched, ScheduleEntry, SchedSwitch, ScheduleExit, PreemptEnableSched, NeedResched, SchedWaking}
use Rattle.trace_file.specs.declared.event.Operand.{Operand}
use Rattle.trace_file.specs.declared.event.Operand.TheVariants.{Nothing, Identifier as Id, Thread}
use Rattle.trace_file.specs.declared.event.Timed.{Timed}
use Rattle.trace_file.specs.declared.identifier.Identifier.{Identifier}
use Rattle.trace_file.specs.Event.{command, with, operand_with, timed_with}
use Rattle.trace_file.specs.File.{Command, little, operand_bytes, encoded, end_command, Proper, Sound, size}
use Rattle.trace_file.specs.Reading.{Stands, EventAt, Front}

-- how many bytes an operand takes
abbrev pub operand_size : {I : Type 0} → Operand I → ℕ
operand_size Nothing = 0
operand_size (Id i) = 4
operand_size (Thread t) = 2

pub size-with : {I J : Type 0} (f : I → J) (o : Operand I) → operand_size (operand_with f o) ≡ operand_size o
size-with f o = grind arith

pub size_is : {I : Type 0} (e : Event I) → size (command e).0 ≡ 5 + operand_size (command e).1
size_is e = grind arith

pub command-with : {I J : Type 0} (f : I → J) (e : Event I) → command (with f e) ≡ ((command e).0, operand_with f (command e).1)
command-with f e = grind arith

-- the event that a byte and an operand of the table stand for
abbrev of_command : {I : Type 0} → ℕ → Operand I → Event I
of_command b Nothing =
    get_or (NmiEntry ∷ NmiEntry ∷ NmiExit ∷ NmiEntry ∷ IrqExit ∷ LocalIrqDisable ∷ LocalIrqEnable ∷ PreemptDisable ∷ PreemptEnable ∷ PreemptDisableSched ∷ ScheduleEntry ∷ NmiEntry ∷ ScheduleExit ∷ PreemptEnableSched ∷ NeedResched ∷ []) b NmiEntry
of_command b (Id i) = IrqEntry i
of_command b (Thread t) = cond (eqb b 11) (SchedSwitch t) (SchedWaking t)

of_command_is : {I : Type 0} (e : Event I) → of_command (command e).0 (command e).1 ≡ e
of_command_is e = grind arith

-- no two events have one entry in the table
pub same_event : {I : Type 0} (e f : Event I) → command e ≡ command f → e ≡ f
same_event e f same = sym (of_command_is e) ∙ ap (λ c. of_command c.0 c.1) same ∙ of_command_is f

operand_with-with : {I J K : Type 0} (f : I → J) (g : J → K) (o : Operand I) → operand_with g (operand_with f o) ≡ operand_with (λ i. g (f i)) o
operand_with-with f g o = grind arith

operand_same : {I : Type 0} (o : Operand I) → operand_with (λ i. i) o ≡ o
operand_same o = grind arith

pub with-with : {I J K : Type 0} (f : I → J) (g : J → K) (e : Event I) → with g (with f e) ≡ with (λ i. g (f i)) e
with-with f g e = grind arith

pub with_same : {I : Type 0} (e : Event I) → with (λ i. i) e ≡ e
with_same e = same_event (with (λ i. i) e) e (command-with (λ i. i) e ∙ ap (λ o. ((command e).0, o)) (operand_same (command e).1))

-- what is done to identifiers leaves the bytes of other operands alone
pub same_bytes : (f : List ℕ → List ℕ) (e : Event (List ℕ)) → ((command e).0 ≡ 3 → ⊥) → operand_bytes (operand_with f (command e).1) ≡ operand_bytes (command e).1
same_bytes f e apart = grind arith

-- the bytes of a command whose identifier was turned into another
pub encoded-with : {I : Type 0} (f : I → List ℕ) (t : Timed I) → encoded (timed_with f t) ≡ (command t.event).0 ∷ (little 4 t.gap ++ operand_bytes (operand_with f (command t.event).1))
encoded-with f t = ap (λ c. c.0 ∷ (little 4 t.gap ++ operand_bytes c.1)) (command-with f t.event)

-- bytes that begin with these parts are the parts and what follows them
pub parted : (bs : List ℕ) (b : ℕ) (w o : List ℕ) (k : ℕ) → 5 + k ≤ length bs → b ≡ get_or bs 0 0 → w ≡ take 4 (drop 1 bs) → o ≡ take k (drop 5 bs) → bs ≡ (b ∷ (w ++ o)) ++ drop (5 + k) bs
parted bs b w o k fits first second third = grind (arith, common_steps)

bytes_size : (o : Operand (List ℕ)) → Proper o → length (operand_bytes o) ≡ operand_size o
bytes_size Nothing h = refl
bytes_size (Id cs) h = h.0
bytes_size (Thread t) h = refl

pub length-encoded : (c : Command) → Sound c → length (encoded c) ≡ 5 + operand_size (command c.event).1
length-encoded c h = let e = bytes_size _ h.operand in omega arith

-- a command whose parts were read stands there, whole and sound
pub front : (at : ℕ) (bs : List ℕ) (t : Timed Identifier) (k : ℕ) → k ≡ size (get_or bs 0 0) → k ≤ length bs → (t.gap ≡ 0 → ⊥) → t.gap < 2 ^ 32 → Stands 4 t.gap (drop 1 bs) → EventAt at bs t.event → Front at bs t k
front at bs t k is there some fits gap event = grind (arith, common_steps)

pub end_stands : (bs : List ℕ) (n : ℕ) → get_or bs 0 0 ≡ 0 → length bs ≡ 5 → Stands 4 n (drop 1 bs) → bs ≡ end_command n
end_stands bs n first long h = grind (arith, common_steps)
