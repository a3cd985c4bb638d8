use Rattle.std.proofs.Common.{ℕ, length, get_or, take, sym, ap, ◌∙◌, arith, length-append}
use Rattle.std.proofs.lemmas.List.Elements.{All-get_or}
use Rattle.std.proofs.lemmas.List.{take_all}
use Rattle.trace_file.specs.declared.event.Event.TheVariants.{NmiEntry}
use Rattle.trace_file.specs.declared.event.Timed.{Timed}
use Rattle.trace_file.specs.File.{encoded}
use Rattle.trace_writer.specs.Writing.{written, command_for, bytes_of, Writable}
use Rattle.trace_writer.proofs.Alls.{bytes_more, bytes_within}
use Rattle.trace_writer.proofs.Writes.{placed, written_on}
use Rattle.trace_writer.proofs.all.put_all.Goals as goal

-- what is read past the end of a slice of events
absent : Timed ℕ
absent = record { gap = 0; event = NmiEntry }

pub write-at-requires : goal.write-at-requires
unfolding absent
write-at-requires c =
    let lt = c.loop-timed-test.true in
    record {
      small = (All-get_or Writable _ _ absent lt c.requires.writable).operand;
      room = omega (arith, bytes_within c.args.events.now c.loop-timed.timed-index absent lt, c.requires.fits, c.loop-timed.invariant.1, c.loop-timed.auto.out);
    }

pub overflow_add-at : goal.overflow_add-at
unfolding absent
overflow_add-at c = record { fits = omega (arith, bytes_within c.args.events.now c.loop-timed.timed-index absent c.loop-timed-test.true, c.requires.fits, c.loop-timed.invariant.1, c.write-at.ensures.size, c.well_formed) }

pub loop-timed-preserved : goal.loop-timed-preserved
unfolding absent
loop-timed-preserved c =
    let es = c.args.events.now in
    let i = c.loop-timed.timed-index in
    let more = bytes_more es i absent c.loop-timed-test.true in
    let inv = c.loop-timed.invariant in
    let told = c.write-at.ensures in
    let fits = bytes_within es i absent c.loop-timed-test.true in
    let bytes = placed c.loop-timed.out _ (encoded (command_for (get_or es i absent))) c.loop-timed.at (omega (arith, fits, c.requires.fits, inv.1, c.loop-timed.auto.out)) told.bytes in (
      written_on _ _ _ _ _ _ inv.0 inv.1 bytes ∙ ap (written c.args.out.now 0) (sym more),
      omega (arith, inv.1, told.size, ap length more, length-append (bytes_of (take i es)) (encoded (command_for (get_or es i absent)))),
    )

pub returns : goal.returns
returns c = c.loop-timed.invariant.0 ∙ ap (λ l. written c.args.out.now 0 (bytes_of l)) (take_all _ _ c.loop-timed-test.false)
