use Rattle.std.proofs.Common.{arith}
use Rattle.trace_file.specs.File.{end_command}
use Rattle.trace_writer.proofs.Alls.{wrote_all}
use Rattle.trace_writer.proofs.Writes.{placed, written_on}
use Rattle.trace_writer.proofs.all.write_all.Goals as goal

pub returns : goal.returns
returns c =
    let able = c.in_ok-extent.ensures in
    let size = c.in_ok-size.ensures in
    let end = placed c.put_all.new.out _ (end_command c.in_ok-extent.extent.events) c.in_ok-extent.extent.at (omega (arith, size, c.put_all.auto.out)) c.write_end.ensures in
    let bytes = written_on _ _ _ _ _ _ c.put_all.ensures able.at end in
    wrote_all _ _ _ _ _ able size.0 size.1 bytes
