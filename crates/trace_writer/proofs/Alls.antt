-- Events that are written all at once, one after another.
use Rattle.std.proofs.lemmas.Grind.{common_steps}
use Rattle.std.proofs.Common.{◌≡◌, ℕ, ◌+◌, ◌<◌, ◌≤◌, List, [], ◌∷◌, ◌++◌, length, get_or, take, drop, sym, refl, ap, ◌∙◌, subst, append_assoc, arith, length-append}
use Rattle.std.proofs.lemmas.List.{take_all, take_more, drop_more, take-append-drop}
use Rattle.trace_file.specs.declared.event.Timed.{Timed}
use Rattle.trace_file.specs.declared.fault.Parts.{Parts}
use Rattle.trace_file.specs.Fault.{First}
use Rattle.trace_file.specs.File.{FileOf, encoded, end_command}
use Rattle.trace_writer.specs.declared.extent.Extent.{Extent}
use Rattle.trace_writer.specs.All.{Fitting, Reaches, StopsAt, StopsAtEnd, WroteAll}
use Rattle.trace_writer.specs.Writing.{written, command_for, bytes_of, Admitted, put_refusals, close_refusals}
use Rattle.trace_writer.proofs.Held.{bytes_push, file_of}
use Rattle.trace_writer.proofs.Writes.{take_written}

bytes_append : (xs ys : List (Timed ℕ)) → bytes_of (xs ++ ys) ≡ bytes_of xs ++ bytes_of ys
bytes_append [] ys = refl
bytes_append (x ∷ xs) ys = ap (λ l. encoded (command_for x) ++ l) (bytes_append xs ys) ∙ sym (append_assoc (encoded (command_for x)) (bytes_of xs) (bytes_of ys))

module _ (es : List (Timed ℕ)) (i : ℕ) (d : Timed ℕ) (lt : i < length es) where
  pub bytes_more : bytes_of (take (i + 1) es) ≡ bytes_of (take i es) ++ encoded (command_for (get_or es i d))
  bytes_more = ap bytes_of (take_more es i d lt) ∙ sym (bytes_push (take i es) (get_or es i d))

  pub bytes_within : length (bytes_of (take i es)) + length (encoded (command_for (get_or es i d))) ≤ length (bytes_of es)
  bytes_within =
      let whole = ap length (ap bytes_of (sym (take-append-drop (i + 1) es)) ∙ bytes_append (take (i + 1) es) (drop (i + 1) es) ∙ ap (λ l. l ++ bytes_of (drop (i + 1) es)) bytes_more) in
      omega (arith, whole, length-append (bytes_of (take i es) ++ encoded (command_for (get_or es i d))) (bytes_of (drop (i + 1) es)), length-append (bytes_of (take i es)) (encoded (command_for (get_or es i d))))

  module _ (room : ℕ) (x : Extent) (sofar : Reaches room (take i es) x) where
    pub one_more : (y : Extent) → Admitted x room (get_or es i d) y → Reaches room (take (i + 1) es) y
    one_more y h = grind (arith, common_steps)

    pub stops : (p : Parts) → First (put_refusals x.events x.at room (get_or es i d)) p → StopsAt room es p
    stops p first = record {
      done = take i es;
      event = get_or es i d;
      rest = drop (i + 1) es;
      whole = sym (take-append-drop i es) ∙ ap (λ l. take i es ++ l) (drop_more es i d lt);
      fitting = sofar.fitting;
      first = subst (λ n. First (put_refusals n (length (bytes_of (take i es))) room (get_or es i d)) p) sofar.events (subst (λ n. First (put_refusals x.events n room (get_or es i d)) p) sofar.at first);
    }

pub all_done : (room : ℕ) (es : List (Timed ℕ)) (i : ℕ) (x : Extent) → Reaches room (take i es) x → length es ≤ i → Reaches room es x
all_done room es i x sofar le = subst (λ l. Reaches room l x) (take_all i es le) sofar

pub stops_at_end : (room : ℕ) (es : List (Timed ℕ)) (at : ℕ) (p : Parts) → Fitting room es × (at ≡ length (bytes_of es)) → First (close_refusals at room) p → StopsAtEnd room es p
stops_at_end room es at p done first = record { fitting = done.0; first = subst (λ n. First (close_refusals n room) p) done.1 first }

pub wrote_all : (es : List (Timed ℕ)) (out : List ℕ) (x : Extent) (n : ℕ) (after : List ℕ) → Reaches (length out) es x → n ≡ x.at + 5 → n ≤ length out → after ≡ written out 0 (bytes_of es ++ end_command x.events) → WroteAll es out n after
wrote_all es out x n after done size room bytes =
    let file = bytes_of es ++ end_command (length es) in
    let whole : after ≡ written out 0 file = bytes ∙ ap (λ k. written out 0 (bytes_of es ++ end_command k)) done.events in
    let long : n ≡ 0 + length file = omega (arith, size, done.at, length-append (bytes_of es) (end_command (length es))) in
    record {
      fitting = done.fitting;
      none = (λ lt. omega (arith, size, done.at), tt);
      answer = omega (arith, size, done.at);
      bytes = whole;
      back = subst (λ l. FileOf l es) (sym (ap (take n) whole ∙ ap (λ k. take k (written out 0 file)) long ∙ take_written out 0 file (omega arith))) (file_of es done.fitting.writable done.fitting.few);
    }
