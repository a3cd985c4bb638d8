use Rattle.std.proofs.Common.{length}
use Rattle.trace.proofs.jobs.show.Given as goal

abbrev pub decreases-loop-gap : goal.decreases-loop-gap
decreases-loop-gap g l = length l.reader.rest.now
