use Rattle.std.proofs.Common.{arith}
use Rattle.std.proofs.lemmas.Result.{err_from_is_err_and}
use Rattle.std.proofs.lemmas.Bool.{both_ways}
use Rattle.trace_file.proofs.Runs.{one_more}
use Rattle.trace_writer.specs.Tidying.{no_command, kept, changed}
use Rattle.trace_writer.proofs.Tidied.{four_digits, tidy_same, same_tidy, untidy_le, counted}
use Rattle.trace_writer.proofs.tidying.untidy.Goals as goal

pub loop-timed-init : goal.loop-timed-init
loop-timed-init c = (_, c.new-reader.ensures, no_command)

pub returns-in_err-timed : goal.returns-in_err-timed
returns-in_err-timed c =
    let p = err_from_is_err_and c.from_residual.result c.from_residual.ensures.1 in
    let inv = c.loop-timed.invariant in
    rw (p.1, p.2) (c.in_err-timed.ensures.law _ inv.0 inv.1)

pub is_tidy-requires : goal.is_tidy-requires
is_tidy-requires c =
    let took = rw (c.in-Some.is) at c.in_ok-timed.ensures.step in
    four_digits _ _ _ took

pub overflow_add-count : goal.overflow_add-count
overflow_add-count c = record { fits = omega (arith, untidy_le c.loop-timed.invariant.2, c.loop-timed.invariant.1.few) }

pub loop-timed-preserved-then-not-is_tidy : goal.loop-timed-preserved-then-not-is_tidy
loop-timed-preserved-then-not-is_tidy c =
    let took = rw (c.in-Some.is) at c.in_ok-timed.ensures.step in
    let inv = c.loop-timed.invariant in
    (_, one_more _ _ _ inv.1 _ _ took, changed _ inv.2 (λ e. both_ways _ c.if-not-is_tidy.true (c.is_tidy.ensures.1 (same_tidy _ _ _ took e))))

pub loop-timed-preserved : goal.loop-timed-preserved
loop-timed-preserved c =
    let took = rw (c.in-Some.is) at c.in_ok-timed.ensures.step in
    let inv = c.loop-timed.invariant in
    (_, one_more _ _ _ inv.1 _ _ took, kept _ inv.2 (tidy_same _ _ _ took (c.is_tidy.ensures.0 c.if-not-is_tidy.false)))

pub returns : goal.returns
returns c =
    let inv = c.loop-timed.invariant in
    let reads = rw (c.in_default.is) at (c.in_ok-timed.ensures.law _ inv.0 inv.1) in
    counted _ _ _ reads inv.2
