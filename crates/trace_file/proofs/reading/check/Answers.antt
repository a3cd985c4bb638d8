use Rattle.std.proofs.Common.{length, Ok, ap, ◌∙◌}
use Rattle.std.proofs.lemmas.Result.{err_from_is_err_and}
use Rattle.trace_file.proofs.Grammar.{determined, apart, one_refusal}
use Rattle.trace_file.proofs.reading.check.Goals as goal

pub returns-in_err-next : goal.returns-in_err-next
returns-in_err-next c =
    let p = err_from_is_err_and c.from_residual.result c.from_residual.ensures.1 in
    let file = c.args.file.now in
    let refused = c.in_err-next.ensures.law file c.loop.invariant.0 c.loop.invariant.1 in
    rw (p.1, p.2) (record {
      outcome = refused;
      accepts = λ cs reads. absurd (apart file cs _ reads refused);
      refuses = λ q other. one_refusal file _ q refused other;
      determined = determined file;
    })

pub loop-preserved : goal.loop-preserved
loop-preserved c =
    let law = c.in_ok-next.ensures.law c.args.file.now c.loop.invariant.0 c.loop.invariant.1 in
    (_, rw (c.in-Some.is) at law)

pub returns : goal.returns
returns c =
    let file = c.args.file.now in
    let cs = c.loop.invariant.0 in
    let told = c.in_ok-next.ensures in
    let reads = rw (c.in_default.is) at (told.law file cs c.loop.invariant.1) in
    let same = (rw (c.in_default.is) at told.step).1 in
    let count = ap (λ r. r.events) same ∙ c.loop.invariant.1.events in
    record {
      outcome = (cs, reads, count);
      accepts = λ ds other. ap Ok (count ∙ ap length (determined file cs ds reads other));
      refuses = λ p refused. apart file cs p reads refused;
      determined = determined file;
    }
