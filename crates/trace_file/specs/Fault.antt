-- The numbers that faults carry.
use Rattle.std.specs.Prelude.{◌≡◌, ℕ, ◌⊎◌, List, [], ◌∷◌, ◌++◌, Some, None, Option, codes, decimal}
use Rattle.std.specs.Option.{option_map_or}
use Rattle.trace_file.specs.declared.fault.Fault.{Fault}
use Rattle.trace_file.specs.declared.fault.Parts.{Parts}
use Rattle.trace_file.specs.declared.fault.Layer.{Layer}
use Rattle.trace_file.specs.declared.fault.Layer.TheVariants.{File, Rules, Recording, Bound, Writer}
use Rattle.trace_file.specs.declared.fault.Ground.{Ground}
use Rattle.trace_file.specs.declared.fault.Ground.TheVariants.{NmiInTurn, ThreadIrqsInTurn, HandlersInTurn, PreemptionInTurn, SchedulerInTurn, NothingInNmi, NoSchedulingInHandler, OneMaskOfIrqs, SchedulerWithIrqsOn, SchedulerWithPreemptionOff, PreemptionKeptInPass, SwitchInPass, WakingWithPreemptionOff, WakingWithIrqsMasked, PassCallsScheduler, SchedulerSwitches, FlagLeadsToSwitch, PreemptionHandedBack}
use Rattle.trace_file.specs.declared.fault.Refusal.{Refusal}
use Rattle.trace_file.specs.declared.fault.Refusal.TheVariants.{Truncated, UnknownCommand, StuckClock, BadIdentifier, Miscount, Trailing, OutOfTurn, Overlong, LogFull, TooMany, NoSuchModel, BadHorizon, NoPass, NoBound, NoSpace, Oversize}

abbrev pub layer_number : Layer → ℕ
layer_number File = 1
layer_number Rules = 2
layer_number Recording = 3
layer_number Bound = 4
layer_number Writer = 5

abbrev pub ground_number : Ground → ℕ
ground_number NmiInTurn = 1
ground_number ThreadIrqsInTurn = 2
ground_number HandlersInTurn = 3
ground_number PreemptionInTurn = 6
ground_number SchedulerInTurn = 7
ground_number NothingInNmi = 102
ground_number NoSchedulingInHandler = 103
ground_number OneMaskOfIrqs = 104
ground_number SchedulerWithIrqsOn = 105
ground_number SchedulerWithPreemptionOff = 106
ground_number PreemptionKeptInPass = 107
ground_number SwitchInPass = 109
ground_number WakingWithPreemptionOff = 110
ground_number WakingWithIrqsMasked = 111
ground_number PassCallsScheduler = 112
ground_number SchedulerSwitches = 113
ground_number FlagLeadsToSwitch = 114
ground_number PreemptionHandedBack = 201

abbrev pub refusal_number : Refusal → ℕ
refusal_number Truncated = 1
refusal_number UnknownCommand = 2
refusal_number StuckClock = 3
refusal_number BadIdentifier = 4
refusal_number Miscount = 5
refusal_number Trailing = 6
refusal_number (OutOfTurn g) = 7
refusal_number Overlong = 8
refusal_number LogFull = 9
refusal_number TooMany = 10
refusal_number NoSuchModel = 11
refusal_number BadHorizon = 12
refusal_number NoPass = 13
refusal_number NoBound = 14
refusal_number NoSpace = 15
refusal_number Oversize = 16

abbrev pub refusal_word : Refusal → List ℕ
refusal_word Truncated = codes "truncated"
refusal_word UnknownCommand = codes "unknown"
refusal_word StuckClock = codes "stuck clock"
refusal_word BadIdentifier = codes "identifier"
refusal_word Miscount = codes "miscount"
refusal_word Trailing = codes "trailing"
refusal_word (OutOfTurn g) = codes "out of turn"
refusal_word Overlong = codes "overlong"
refusal_word LogFull = codes "log full"
refusal_word TooMany = codes "too many"
refusal_word NoSuchModel = codes "model"
refusal_word BadHorizon = codes "horizon"
refusal_word NoPass = codes "no pass"
refusal_word NoBound = codes "no bound"
refusal_word NoSpace = codes "no space"
refusal_word Oversize = codes "oversize"

-- the law that an event out of turn would break
abbrev pub refusal_law : Refusal → Option Ground
refusal_law Truncated = None
refusal_law UnknownCommand = None
refusal_law StuckClock = None
refusal_law BadIdentifier = None
refusal_law Miscount = None
refusal_law Trailing = None
refusal_law (OutOfTurn g) = Some g
refusal_law Overlong = None
refusal_law LogFull = None
refusal_law TooMany = None
refusal_law NoSuchModel = None
refusal_law BadHorizon = None
refusal_law NoPass = None
refusal_law NoBound = None
refusal_law NoSpace = None
refusal_law Oversize = None

abbrev pub refusal_ground : Refusal → ℕ
refusal_ground r = option_map_or ground_number (refusal_law r) 0

-- the parts that are these four numbers
abbrev pub four_numbers : (layer : ℕ) (number : ℕ) (ground : ℕ) (place : ℕ) → Parts
four_numbers layer number ground place = record { layer = layer; number = number; ground = ground; place = place }

abbrev pub parts : Fault → Parts
parts f = four_numbers (layer_number f.layer) (refusal_number f.refusal) (refusal_ground f.refusal) f.place

-- how a fault is written: a word and the four numbers, with commas
abbrev pub line_of : Parts → List ℕ
line_of p =
    codes "refused," ++ (decimal p.layer ++ (codes "," ++ (decimal p.number ++ (codes "," ++ (decimal p.ground ++ (codes "," ++ decimal p.place))))))

-- a fault that is given where a condition holds
pub record Rule : Type 1 where
  pub when : Type 0
  pub gives : Parts

-- the first rule whose condition holds gives these numbers
abbrev pub First : List Rule → Parts → Type 0
First [] p = ⊥
First (r ∷ rs) p = (r.when × (p ≡ r.gives)) ⊎ ((r.when → ⊥) × First rs p)

-- no rule's condition holds
abbrev pub NoneOf : List Rule → Type 0
NoneOf [] = Unit {0}
NoneOf (r ∷ rs) = (r.when → ⊥) × NoneOf rs
