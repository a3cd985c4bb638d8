use Rattle.std.proofs.Common.{◌≤◌, length, arith}
use Rattle.trace_writer.proofs.Tidied.{copied, four_digits, among_now, one_more, finished, stays}
use Rattle.trace_writer.proofs.tidying.tidy.Goals as goal

pub loop-timed-init : goal.loop-timed-init
loop-timed-init c = (_, copied _ _ _ _ c.copy.ensures c.new-reader.ensures)

pub pad-requires : goal.pad-requires
pad-requires c =
    let took = rw (c.in-Some.is) at c.in_ok-timed.ensures.step in
    let room : length c.args.file.now ≤ length c.copy.new.out = omega arith in
    record { digits = four_digits _ _ _ took; among = among_now _ _ _ _ _ _ c.loop-timed.invariant.1 room _ took }

pub loop-timed-preserved : goal.loop-timed-preserved
loop-timed-preserved c =
    let took = rw (c.in-Some.is) at c.in_ok-timed.ensures.step in
    let room : length c.args.file.now ≤ length c.copy.new.out = omega arith in
    (_, one_more _ _ _ _ _ _ c.loop-timed.invariant.1 room _ took _ c.pad.ensures)

pub returns : goal.returns
returns c =
    let cs = c.loop-timed.invariant.0 in
    let half = c.loop-timed.invariant.1 in
    let reads = rw (c.in_default.is) at (c.in_ok-timed.ensures.law _ cs half.read) in
    let done = finished _ _ _ _ cs _ c.if-out-file.false c.copy.ensures half reads in
    record { outcome = done; stays = stays _ _ _ _ done }
