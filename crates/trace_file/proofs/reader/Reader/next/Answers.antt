use Rattle.std.proofs.Common.{refl}
use Rattle.std.proofs.lemmas.Result.{err_from_is_err_and}
use Rattle.trace_file.proofs.Runs.{took, one_more, refused}
use Rattle.trace_file.proofs.reader.Reader.next.Goals as goal

pub returns-in_err-command : goal.returns-in_err-command
returns-in_err-command c =
    let p = err_from_is_err_and c.from_residual.result c.from_residual.ensures.1 in
    let first = c.in_err-command.ensures in
    rw (p.1, p.2) (record { step = (first, refl); law = λ file cs h. refused file cs _ h _ first })

pub returns : goal.returns
returns c =
    let found = rw (c.in-Some.is) at c.in_ok-command.ensures in
    let step = took c.args.self.now _ _ _ found c.split_at.ensures.back refl refl in
    record { step = step; law = λ file cs h. one_more file cs _ h _ _ step }
