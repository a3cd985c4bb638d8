use Rattle.std.proofs.Common.{List, length}
use Rattle.trace_file.specs.File.{Command}
use Rattle.trace_file.specs.Reading.{HasRead}
use Rattle.trace_file.proofs.reading.check.Given as goal

abbrev pub invariant-loop : goal.invariant-loop
invariant-loop l = (cs : List Command) × HasRead l.file cs l.reader

abbrev pub decreases-loop : goal.decreases-loop
decreases-loop l = length l.reader.rest.now
