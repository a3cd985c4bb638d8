use Rattle.std.proofs.lemmas.Result.{err_from_is_err_and}
use Rattle.trace_writer.proofs.Alls.{one_more, stops, all_done}
use Rattle.trace_writer.proofs.all.admit_all.Goals as goal

pub returns-in_err-extent : goal.returns-in_err-extent
returns-in_err-extent c =
    let p = err_from_is_err_and c.from_residual.result c.from_residual.ensures.1 in
    rw (p.1, p.2) (stops _ _ _ c.loop-timed-test.true _ _ c.loop-timed.invariant _ c.in_err-extent.ensures)

pub loop-timed-preserved : goal.loop-timed-preserved
loop-timed-preserved c = one_more _ _ _ c.loop-timed-test.true _ _ c.loop-timed.invariant _ c.in_ok-extent.ensures

pub returns : goal.returns
returns c = all_done _ _ _ _ c.loop-timed.invariant c.loop-timed-test.false
