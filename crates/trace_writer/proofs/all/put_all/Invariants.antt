use Rattle.std.proofs.Common.{◌≡◌, length, take}
use Rattle.trace_writer.specs.Writing.{written, bytes_of}
use Rattle.trace_writer.proofs.all.put_all.Given as goal

abbrev pub invariant-loop-timed : goal.invariant-loop-timed
invariant-loop-timed l = (l.out ≡ written l.initial.out 0 (bytes_of (take l.timed-index l.events))) × (l.at ≡ length (bytes_of (take l.timed-index l.events)))
