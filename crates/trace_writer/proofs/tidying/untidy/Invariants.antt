use Rattle.std.proofs.Common.{List, length}
use Rattle.trace_file.specs.File.{Command}
use Rattle.trace_file.specs.Reading.{HasRead}
use Rattle.trace_writer.specs.Tidying.{Untidy}
use Rattle.trace_writer.proofs.tidying.untidy.Given as goal

abbrev pub invariant-loop-timed : goal.invariant-loop-timed
invariant-loop-timed l = (cs : List Command) × HasRead l.file cs l.reader × Untidy cs l.count

abbrev pub decreases-loop-timed : goal.decreases-loop-timed
decreases-loop-timed l = length l.reader.rest.now
