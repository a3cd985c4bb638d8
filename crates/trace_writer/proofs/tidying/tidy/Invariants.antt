use Rattle.std.proofs.Common.{List, length}
use Rattle.trace_file.specs.File.{Command}
use Rattle.trace_writer.proofs.Tidied.{Halfway}
use Rattle.trace_writer.proofs.tidying.tidy.Given as goal

abbrev pub invariant-loop-timed : goal.invariant-loop-timed
invariant-loop-timed l = (cs : List Command) × Halfway l.file l.initial.out cs l.reader l.out

abbrev pub decreases-loop-timed : goal.decreases-loop-timed
decreases-loop-timed l = length l.reader.rest.now
