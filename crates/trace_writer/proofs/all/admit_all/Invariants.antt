use Rattle.std.proofs.Common.{take}
use Rattle.trace_writer.specs.All.{Reaches}
use Rattle.trace_writer.proofs.all.admit_all.Given as goal

abbrev pub invariant-loop-timed : goal.invariant-loop-timed
invariant-loop-timed l = Reaches l.room (take l.timed-index l.events) l.extent
