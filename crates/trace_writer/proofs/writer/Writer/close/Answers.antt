use Rattle.std.proofs.Common.{arith}
use Rattle.trace_file.specs.File.{end_command}
use Rattle.trace_writer.proofs.Held.{closed_held}
use Rattle.trace_writer.proofs.Writes.{placed}
use Rattle.trace_writer.proofs.writer.Writer.close.Goals as goal

pub returns-in-Ok : goal.returns-in-Ok
returns-in-Ok c =
    let w = c.args.self in
    let size = c.in-Ok.ensures in
    let bytes = placed c.args.out.now _ (end_command w.extent.events) w.extent.at (omega (arith, size)) c.write_end.ensures in
    record {
      outcome = record { none = (λ lt. omega (arith, size), tt); answer = size.0; bytes = bytes };
      law = λ es holds. closed_held w _ es holds _ _ size.0 bytes;
    }
