-- What a writer's bytes hold, from one call to the next.
use Rattle.std.proofs.Common.{◌≡◌, ℕ, ◌+◌, ◌<◌, ◌≤◌, List, [], ◌∷◌, ◌++◌, map, length, take, sym, refl, ap, ◌∙◌, subst, arith}
use mathlib.Core.Path.{fun_ext}
use Rattle.std.specs.List.{All, flat_map}
use Rattle.std.proofs.lemmas.List.Elements.{All-push, All-map, All-weaker}
use Rattle.std.proofs.lemmas.List.{flat_map_more, length_push, length-map, map_push}
use Rattle.trace_file.specs.declared.event.Event.{Event}
use Rattle.trace_file.specs.declared.event.Operand.{Operand}
use Rattle.trace_file.specs.declared.event.Operand.TheVariants.{Nothing, Identifier, Thread}
use Rattle.trace_file.specs.declared.event.Timed.{Timed}
use Rattle.trace_file.specs.Event.{with, operand_with}
use Rattle.trace_file.specs.File.{Sound, Proper, FileOf, meant, encoded, end_command, most_events}
use Rattle.trace_file.specs.Identifier.{number, padded}
use Rattle.trace_file.proofs.Commands.{command-with, with-with, with_same}
use Rattle.trace_file.proofs.Padding.{padded_form, number-padded}
use Rattle.trace_writer.specs.declared.writer.Writer.{Writer}
use Rattle.trace_writer.specs.Putting.{Holds}
use Rattle.trace_writer.specs.Writing.{written, command_for, bytes_of, Small, Writable, Admitted}
use Rattle.trace_writer.proofs.Writes.{length-written, take_written}

proper : (o : Operand ℕ) → Small o → Proper (operand_with padded o)
proper Nothing h = tt
proper (Identifier n) h = (refl, padded_form n h)
proper (Thread t) h = h

-- what is written of an event is a sound command
pub sound_for : (e : Timed ℕ) → Writable e → Sound (command_for e)
sound_for e h = record {
  ticks = h.ticks;
  fits = h.fits;
  operand = subst (λ c. Proper c.1) (sym (command-with padded e.event)) (proper _ h.operand);
}

back : (e : Event ℕ) → with number (with padded e) ≡ e
back e = with-with padded number e ∙ ap (λ f. with f e) (fun_ext number-padded) ∙ with_same e

-- and says that event
pub meant_for : (e : Timed ℕ) → meant (command_for e) ≡ e
meant_for e = λ i. record { gap = e.gap; event = back e.event i }

pub all_sound : (es : List (Timed ℕ)) → All Writable es → All Sound (map command_for es)
all_sound es h = All-map Sound command_for es (All-weaker Writable (λ e. Sound (command_for e)) sound_for es h)

pub all_meant : (es : List (Timed ℕ)) → map meant (map command_for es) ≡ es
all_meant [] = refl
all_meant (e ∷ es) = λ i. meant_for e i ∷ all_meant es i

pub bytes_push : (es : List (Timed ℕ)) (e : Timed ℕ) → bytes_of es ++ encoded (command_for e) ≡ bytes_of (es ++ e ∷ [])
bytes_push es e = flat_map_more encoded [] (map command_for es) (command_for e) ∙ ap (flat_map encoded) (sym (map_push command_for es e))

-- the commands of some events and the end command are a file of these events
pub file_of : (es : List (Timed ℕ)) → All Writable es → length es ≤ most_events → FileOf (bytes_of es ++ end_command (length es)) es
file_of es h few = record {
  commands = map command_for es;
  reads = record {
    whole = ap (λ n. bytes_of es ++ end_command n) (sym (length-map es command_for));
    sound = all_sound es h;
    few = simp length-map few;
  };
  events = all_meant es;
}

module _ (w : Writer) (out : List ℕ) (es : List (Timed ℕ)) (holds : Holds w out es) where
  pub put_held : (e : Timed ℕ) (v : Writer) (after : List ℕ) → Admitted w.extent (length out) e v.extent → after ≡ written out w.extent.at (encoded (command_for e)) → Holds v after (es ++ e ∷ [])
  put_held e v after able bytes =
      let bs = encoded (command_for e) in
      let more : w.extent.events < most_events = omega (arith, able.none.0) in
      let room : w.extent.at + length bs ≤ length out = omega (arith, able.none.1.1.1.0) in
      record {
        within = omega (arith, able.at, ap length bytes, length-written out w.extent.at bs room);
        bytes = ap (λ n. take n after) able.at ∙ ap (take (w.extent.at + length bs)) bytes ∙ take_written out w.extent.at bs holds.within ∙ ap (λ l. l ++ bs) holds.bytes ∙ bytes_push es e;
        writable = All-push Writable es e holds.writable able.writable;
        few = simp length_push (omega (arith, holds.events));
        events = able.events ∙ ap (λ n. n + 1) holds.events ∙ sym (length_push es e);
      }

  pub closed_held : (n : ℕ) (after : List ℕ) → n ≡ w.extent.at + 5 → after ≡ written out w.extent.at (end_command w.extent.events) → FileOf (take n after) es
  closed_held n after answer bytes =
      let file = take_written out w.extent.at (end_command w.extent.events) holds.within ∙ ap (λ l. l ++ end_command w.extent.events) holds.bytes ∙ ap (λ k. bytes_of es ++ end_command k) holds.events in
      subst (λ bs. FileOf bs es) (sym (ap (λ k. take k after) answer ∙ ap (take (w.extent.at + 5)) bytes ∙ file)) (file_of es holds.writable holds.few)
