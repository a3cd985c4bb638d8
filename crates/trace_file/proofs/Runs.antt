-- What the reader's steps say of a whole file.
use Rattle.std.proofs.lemmas.Grind.{common_steps}
use Rattle.std.proofs.Common.{◌≡◌, ℕ, ◌+◌, ◌<◌, List, [], ◌∷◌, ◌++◌, length, drop, ap, ◌∙◌, subst, arith}
use Rattle.std.specs.List.{flat_map}
use Rattle.trace_file.specs.declared.event.Timed.{Timed}
use Rattle.trace_file.specs.declared.fault.Parts.{Parts}
use Rattle.trace_file.specs.declared.identifier.Identifier.{Identifier}
use Rattle.trace_file.specs.declared.reader.Reader.{Reader}
use Rattle.trace_file.specs.Fault.{First}
use Rattle.trace_file.specs.File.{Command, Reads, Refuses, encoded, end_command, refusals, most_events}
use Rattle.trace_file.specs.Reading.{as_read, Front, Took, HasRead}

pub took : (r s : Reader) (t : Timed Identifier) (k : ℕ) → Front r.at r.rest.now t k × (r.events < most_events) → s.rest.now ≡ drop k r.rest.now → s.at ≡ r.at + k → s.events ≡ r.events + 1 → Took r t s
took r s t k h h2 h3 h4 = grind arith

module _ (file : List ℕ) (cs : List Command) (r : Reader) (read : HasRead file cs r) where
  pub one_more : (t : Timed Identifier) (s : Reader) → Took r t s → HasRead file (cs ++ as_read t ∷ []) s
  one_more t s h = grind (arith, common_steps)

  pub ended : r.rest.now ≡ end_command r.events → Reads file cs
  ended e = record {
    whole = read.whole ∙ ap (λ l. flat_map encoded cs ++ l) (e ∙ ap end_command read.events);
    sound = read.sound;
    few = read.few;
  }

  pub refused : (p : Parts) → First (refusals r.events r.at r.rest.now) p → Refuses file p
  refused p first = record {
    commands = cs;
    rest = r.rest.now;
    whole = read.whole;
    sound = read.sound;
    few = read.few;
    first = subst (λ n. First (refusals n (length (flat_map encoded cs)) r.rest.now) p) read.events (subst (λ n. First (refusals r.events n r.rest.now) p) read.at first);
  }
