use Rattle.std.proofs.Common.{arith}
use Rattle.trace_file.specs.File.{encoded}
use Rattle.trace_writer.specs.Writing.{command_for}
use Rattle.trace_writer.proofs.Held.{put_held}
use Rattle.trace_writer.proofs.Writes.{placed}
use Rattle.trace_writer.proofs.writer.Writer.put.Goals as goal

pub returns : goal.returns
returns c =
    let w = c.args.self.now in
    let able = c.in_ok-extent.ensures in
    let bytes = placed c.args.out.now _ (encoded (command_for (record { gap = c.args.gap; event = c.args.event }))) w.extent.at (omega (arith, able.none.1.1.1.0)) c.write.ensures.bytes in
    record {
      outcome = record { none = able.none; answer = able.events; events = able.events; at = able.at; bytes = bytes };
      law = λ es holds. put_held w _ es holds _ _ _ able bytes;
    }
