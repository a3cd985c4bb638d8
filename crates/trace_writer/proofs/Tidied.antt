-- Commands with their identifiers in the writer's padding.
use Rattle.std.proofs.lemmas.Grind.{common_steps}
use Rattle.std.proofs.Common.{◌≡◌, ℕ, ◌+◌, ◌-◌, ◌<◌, ◌≤◌, List, [], ◌∷◌, ◌++◌, map, length, get_or, take, sym, refl, ap, ◌∙◌, subst, ⊎_elim, append_assoc, zero-add, arith, length-append}
use Rattle.std.specs.List.{All, flat_map}
use Rattle.std.proofs.lemmas.List.Elements.{All-head, All-tail, All-map, All-weaker}
use Rattle.std.proofs.lemmas.List.{append_cancel_left, same_from_push, length_push, flat_map_more, map_push, get_or_append_left, get_or-append_right, length-map}
use Rattle.std.proofs.lemmas.Bool.{cases_lt}
use Rattle.trace_file.specs.declared.event.Operand.{Operand}
use Rattle.trace_file.specs.declared.event.Operand.TheVariants.{Nothing, Identifier as Id, Thread}
use Rattle.trace_file.specs.declared.event.Timed.{Timed}
use Rattle.trace_file.specs.declared.identifier.Identifier.{Identifier}
use Rattle.trace_file.specs.declared.reader.Reader.{Reader}
use Rattle.trace_file.specs.Event.{command, operand_with}
use Rattle.trace_file.specs.File.{Command, Sound, Proper, Reads, FileOf, meant, little, operand_bytes, encoded, end_command, size as type_size}
use Rattle.trace_file.specs.Identifier.{number, padded}
use Rattle.trace_file.specs.Reading.{as_read, chars, IdentifierAt, OperandAt, Took, HasRead}
use Rattle.trace_file.proofs.Commands.{command-with, encoded-with, size_is, length-encoded}
use Rattle.trace_file.proofs.Forms.{number_small}
use Rattle.trace_file.proofs.Grammar.{determined}
use Rattle.trace_file.proofs.Runs.{one_more as read_more}
use Rattle.trace_file.proofs.Padding.{padded_form}
use Rattle.trace_writer.specs.Writing.{written}
use Rattle.trace_writer.proofs.Writes.{take_written, written_inside, written_again}
use Rattle.trace_writer.specs.Tidying.{tidied, tidy_file, InIdentifier, HasTidied, over, Short, Among, IsTidy, Untidy, no_command, kept, changed, Counted}

proper : (o : Operand (List ℕ)) → Proper o → Proper (operand_with (λ cs. padded (number cs)) o)
proper Nothing h = tt
proper (Id cs) h = (refl, padded_form (number cs) (number_small cs h.1 h.0))
proper (Thread t) h = h

pub sound_tidied : (c : Command) → Sound c → Sound (tidied c)
sound_tidied c h = record {
  ticks = h.ticks;
  fits = h.fits;
  operand = subst (λ x. Proper x.1) (sym (command-with _ c.event)) (proper _ h.operand);
}

pub long_tidied : (c : Command) → Sound c → length (encoded (tidied c)) ≡ length (encoded c)
long_tidied c h = grind arith

pub tidied-tidied : (c : Command) → tidied (tidied c) ≡ tidied c
tidied-tidied c = grind arith

pub meant_tidied : (c : Command) → meant (tidied c) ≡ meant c
meant_tidied c = grind arith

-- one command: only the characters of an identifier differ
alone_one : (c : Command) (k : ℕ) → Sound c → k < length (encoded c) → ((command c.event).0 ≡ 3 → 5 ≤ k → ⊥) → get_or (encoded (tidied c)) k 0 ≡ get_or (encoded c) k 0
alone_one c k h h2 h3 = grind arith

further : (c : Command) (cs : List Command) (k : ℕ) → length (encoded c) ≤ k → InIdentifier cs (k - length (encoded c)) → InIdentifier (c ∷ cs) k
further c cs k le i = record {
  before = c ∷ i.before;
  at = i.at;
  after = i.after;
  whole = ap (λ l. c ∷ l) i.whole;
  entry = i.entry;
  from = omega (arith, length-append (encoded c) (flat_map encoded i.before), i.from);
  to = omega (arith, length-append (encoded c) (flat_map encoded i.before), i.to);
}

alone_run : (cs : List Command) (t : List ℕ) (k : ℕ) → All Sound cs → (InIdentifier cs k → ⊥) → get_or (flat_map encoded (map tidied cs) ++ t) k 0 ≡ get_or (flat_map encoded cs ++ t) k 0
alone_run [] t k h apart = refl
alone_run (c ∷ cs) t k h apart =
    let first = All-head Sound c cs h in
    let long = long_tidied c first in
    let size = length-encoded c first in
    let new = append_assoc (encoded (tidied c)) (flat_map encoded (map tidied cs)) t in
    let old = append_assoc (encoded c) (flat_map encoded cs) t in
    ⊎_elim
    (λ lt. ap (λ l. get_or l k 0) new
    ∙ get_or_append_left (encoded (tidied c)) _ 0 k (omega arith)
    ∙ alone_one c k first lt (λ e ge. apart (record { before = []; at = c; after = cs; whole = refl; entry = e; from = ge; to = omega (arith, size ∙ sym (size_is c.event) ∙ ap type_size e) }))
    ∙ sym (ap (λ l. get_or l k 0) old ∙ get_or_append_left (encoded c) _ 0 k lt))
    (λ ge. ap (λ l. get_or l k 0) new
    ∙ get_or-append_right (encoded (tidied c)) _ (length (encoded c)) k 0 long ge
    ∙ alone_run cs t (k - length (encoded c)) (All-tail Sound c cs h) (λ i. apart (further c cs k ge i))
    ∙ sym (ap (λ l. get_or l k 0) old ∙ get_or-append_right (encoded c) _ (length (encoded c)) k 0 refl ge))
    (cases_lt k (length (encoded c)))

pub long_run : (cs : List Command) → All Sound cs → length (flat_map encoded (map tidied cs)) ≡ length (flat_map encoded cs)
long_run [] h = refl
long_run (c ∷ cs) h =
    length-append (encoded (tidied c)) (flat_map encoded (map tidied cs))
    ∙ (λ i. long_tidied c (All-head Sound c cs h) i + long_run cs (All-tail Sound c cs h) i)
    ∙ sym (length-append (encoded c) (flat_map encoded cs))

map-map : {X : Type 0} (f : Command → X) (cs : List Command) → ((c : Command) → f (tidied c) ≡ f c) → map f (map tidied cs) ≡ map f cs
map-map f [] same = refl
map-map f (c ∷ cs) same = λ i. same c i ∷ map-map f cs same i

module _ (file : List ℕ) (cs : List Command) (reads : Reads file cs) where
  pub tidy_reads : Reads (tidy_file cs) (map tidied cs)
  tidy_reads = record {
    whole = ap (λ n. flat_map encoded (map tidied cs) ++ end_command n) (sym (length-map cs tidied));
    sound = All-map Sound tidied cs (All-weaker Sound (λ c. Sound (tidied c)) sound_tidied cs reads.sound);
    few = simp length-map reads.few;
  }

  pub tidy_long : length (tidy_file cs) ≡ length file
  tidy_long =
      length-append (flat_map encoded (map tidied cs)) (end_command (length cs))
      ∙ ap (λ n. n + length (end_command (length cs))) (long_run cs reads.sound)
      ∙ sym (ap length reads.whole ∙ length-append (flat_map encoded cs) (end_command (length cs)))

  pub tidy_back : (es : List (Timed ℕ)) → FileOf file es → FileOf (tidy_file cs) es
  tidy_back es file_of = record {
    commands = map tidied cs;
    reads = tidy_reads;
    events = map-map meant cs meant_tidied ∙ ap (map meant) (determined file cs file_of.commands reads file_of.reads) ∙ file_of.events;
  }

  pub tidy_alone : (k : ℕ) → (InIdentifier cs k → ⊥) → get_or (tidy_file cs) k 0 ≡ get_or file k 0
  tidy_alone k apart = alone_run cs (end_command (length cs)) k reads.sound apart ∙ ap (λ l. get_or l k 0) (sym reads.whole)

  pub tidy_again : tidy_file (map tidied cs) ≡ tidy_file cs
  tidy_again = λ i. flat_map encoded (map-map tidied cs tidied-tidied i) ++ end_command (length-map cs tidied i)

  pub tidied_whole : (out : List ℕ) (after : List ℕ) → length file ≤ length out → after ≡ written out 0 (tidy_file cs) → HasTidied file out (length file) after
  tidied_whole out after room bytes =
      let part : take (length file) after ≡ tidy_file cs = ap (take (length file)) bytes ∙ ap (λ n. take n (written out 0 (tidy_file cs))) (sym tidy_long ∙ sym (zero-add (length (tidy_file cs)))) ∙ take_written out 0 (tidy_file cs) (omega arith) in
      record {
        commands = cs;
        reads = reads;
        room = room;
        answer = refl;
        bytes = bytes;
        long = tidy_long;
        tidy = subst (λ l. Reads l (map tidied cs)) (sym part) tidy_reads;
        back = λ es file_of. subst (λ l. FileOf l es) (sym part) (tidy_back es file_of);
        alone = λ k lt apart. ap (λ l. get_or l k 0) bytes ∙ get_or_append_left (tidy_file cs) _ 0 k (omega (arith, tidy_long)) ∙ tidy_alone k apart;
      }

-- what was tidied stays as it is when it is tidied again
pub stays : (file out after : List ℕ) (n : ℕ) → HasTidied file out n after → (out₂ : List ℕ) (m : ℕ) (again : List ℕ) → HasTidied (take n after) out₂ m again → again ≡ written out₂ 0 (take n after)
stays file out after n first out₂ m again second =
    let cs = first.commands in
    let same = determined (take n after) second.commands (map tidied cs) second.reads first.tidy in
    second.bytes ∙ ap (λ l. written out₂ 0 (tidy_file l)) same ∙ ap (written out₂ 0) (tidy_again file cs first.reads ∙ (tidy_reads file cs first.reads).whole ∙ sym first.tidy.whole)

-- the output bytes after the first commands were tidied: those, and the rest of the file as it is
pub record Halfway (file out : List ℕ) (cs : List Command) (r : Reader) (now : List ℕ) : Type 0 where
  pub read : HasRead file cs r
  pub bytes : now ≡ written out 0 (flat_map encoded (map tidied cs) ++ r.rest.now)

pub copied : (file out now : List ℕ) (r : Reader) → now ≡ written out 0 file → HasRead file [] r → Halfway file now [] r now
copied file out now r copy read = record {
  read = read;
  bytes = copy ∙ sym (written_again out file file refl) ∙ (λ i. written (sym copy i) 0 (read.whole i));
}

-- the end command was met: the whole file is tidied
pub finished : (file out now after : List ℕ) (cs : List Command) (r : Reader) → length file ≤ length out → now ≡ written out 0 file → Halfway file now cs r after → Reads file cs → HasTidied file out (length file) after
finished file out now after cs r room copy half reads =
    let end : r.rest.now ≡ end_command (length cs) = append_cancel_left (flat_map encoded cs) _ _ (sym half.read.whole ∙ reads.whole) in
    tidied_whole file cs reads out after room
    (half.bytes ∙ ap (λ l. written now 0 (flat_map encoded (map tidied cs) ++ l)) end ∙ ap (λ l. written l 0 (tidy_file cs)) copy ∙ written_again out file (tidy_file cs) (sym (tidy_long file cs reads)))

module _ (r s : Reader) (t : Timed Identifier) (took : Took r t s) where
  -- the bytes of the command as it stands and as it is tidied, by its operand
  stands_as : (o : Operand Identifier) → (command t.event).1 ≡ o → encoded (as_read t) ≡ ((command t.event).0 ∷ little 4 t.gap) ++ operand_bytes (operand_with chars o)
  stands_as o e = encoded-with chars t ∙ ap (λ x. ((command t.event).0 ∷ little 4 t.gap) ++ operand_bytes (operand_with chars x)) e

  becomes : (o : Operand Identifier) → (command t.event).1 ≡ o → encoded (tidied (as_read t)) ≡ ((command t.event).0 ∷ little 4 t.gap) ++ operand_bytes (operand_with (λ i. padded (number (chars i))) o)
  becomes o h = grind arith

  rest_is : r.rest.now ≡ encoded (as_read t) ++ s.rest.now
  rest_is = took.front.stands ∙ ap (λ l. encoded (as_read t) ++ l) (sym took.rest)

  -- an identifier that was read has four characters and stands where it says
  four : (i : Identifier) → (command t.event).1 ≡ Id i → length (chars i) ≡ 4
  four i h = grind arith

  found : (i : Identifier) → (command t.event).1 ≡ Id i → IdentifierAt r.at r.rest.now i
  found i e = subst (OperandAt r.at r.rest.now) e took.front.operand

  small : (o : Operand Identifier) → (command t.event).1 ≡ o → Short o
  small Nothing e = tt
  small (Id i) e = omega (arith, (found i e).number, number_small (chars i) (found i e).form (four i e))
  small (Thread n) e = tt

  pub four_digits : Short (command t.event).1
  four_digits = small (command t.event).1 refl

  pub tidy_same : IsTidy (command t.event).1 → tidied (as_read t) ≡ as_read t
  tidy_same h = grind arith

  pub same_tidy : tidied (as_read t) ≡ as_read t → IsTidy (command t.event).1
  same_tidy h = grind arith

module _ (file out : List ℕ) (cs : List Command) (r s : Reader) (now : List ℕ) (half : Halfway file out cs r now) (room : length file ≤ length out) (t : Timed Identifier) (took : Took r t s) where
  done : List ℕ
  done = flat_map encoded (map tidied cs)

  -- the output bytes once the command is tidied too
  target : List ℕ
  target = written out 0 (flat_map encoded (map tidied cs) ++ (encoded (tidied (as_read t)) ++ s.rest.now))

  among : (o : Operand Identifier) → (command t.event).1 ≡ o → Among now o
  among o h = grind (arith, common_steps)

  padded_now : (i : Identifier) → (command t.event).1 ≡ Id i → written now i.place (padded i.number) ≡ target
  unfolding target done
  padded_now i e =
      let head = (command t.event).0 ∷ little 4 t.gap in
      let new = padded (number (chars i)) in
      let at = found r s t took i e in
      let place : i.place ≡ length (done ++ head) = at.place ∙ ap (λ n. n + 5) (half.read.at ∙ sym (long_run cs half.read.sound)) ∙ sym (length-append done head) in
      let old : done ++ r.rest.now ≡ (done ++ head) ++ (chars i ++ s.rest.now) =
      ap (λ l. done ++ l) (rest_is r s t took ∙ ap (λ l. l ++ s.rest.now) (stands_as r s t took (Id i) e) ∙ append_assoc head (chars i) s.rest.now) ∙ sym (append_assoc done head (chars i ++ s.rest.now)) in
      let back : (done ++ head) ++ (new ++ s.rest.now) ≡ done ++ (encoded (tidied (as_read t)) ++ s.rest.now) =
      append_assoc done head (new ++ s.rest.now) ∙ ap (λ l. done ++ l) (sym (append_assoc head new s.rest.now) ∙ ap (λ l. l ++ s.rest.now) (sym (becomes r s t took (Id i) e))) in
      (λ j. written (half.bytes j) i.place (padded (at.number j)))
      ∙ ap (λ l. written (written out 0 l) i.place new) old
      ∙ written_inside out (done ++ head) (chars i) new s.rest.now i.place place (four r s t took i e)
      ∙ ap (written out 0) back

  plain_now : (o : Operand Identifier) → (command t.event).1 ≡ o → operand_bytes (operand_with chars o) ≡ operand_bytes (operand_with (λ i. padded (number (chars i))) o) → now ≡ target
  unfolding target done
  plain_now o e same =
      let bytes = stands_as r s t took o e ∙ ap (λ l. ((command t.event).0 ∷ little 4 t.gap) ++ l) same ∙ sym (becomes r s t took o e) in
      half.bytes ∙ ap (λ l. written out 0 (done ++ l)) (rest_is r s t took ∙ ap (λ l. l ++ s.rest.now) bytes)

  over_is : (o : Operand Identifier) → (command t.event).1 ≡ o → over now o ≡ target
  over_is Nothing e = plain_now Nothing e refl
  over_is (Id i) e = padded_now i e
  over_is (Thread n) e = plain_now (Thread n) e refl

  pub among_now : Among now (command t.event).1
  among_now = among (command t.event).1 refl

  pub one_more : (after : List ℕ) → after ≡ over now (command t.event).1 → Halfway file out (cs ++ as_read t ∷ []) s after
  unfolding target done
  one_more after is =
      let pushed = flat_map_more encoded [] (map tidied cs) (tidied (as_read t)) ∙ ap (flat_map encoded) (sym (map_push tidied cs (as_read t))) in
      record {
        read = read_more file cs r half.read t s took;
        bytes = is ∙ over_is (command t.event).1 refl ∙ ap (written out 0) (sym (append_assoc (flat_map encoded (map tidied cs)) (encoded (tidied (as_read t))) s.rest.now) ∙ ap (λ l. l ++ s.rest.now) pushed);
      }

pub untidy_le : {cs : List Command} {n : ℕ} → Untidy cs n → n ≤ length cs
untidy_le no_command = omega arith
untidy_le (kept {cs} {n} c u e) = omega (arith, untidy_le u, length_push cs c)
untidy_le (changed {cs} {n} c u e) = omega (arith, untidy_le u, length_push cs c)

none_changed : {cs : List Command} {n : ℕ} → Untidy cs n → n ≡ 0 → map tidied cs ≡ cs
none_changed no_command e = refl
none_changed (kept {cs} {n} c u same) e = map_push tidied cs c ∙ (λ i. none_changed u e i ++ same i ∷ [])
none_changed (changed {cs} {n} c u apart) e = absurd (omega arith)

all_kept : {cs : List Command} {n : ℕ} → Untidy cs n → map tidied cs ≡ cs → n ≡ 0
all_kept no_command e = refl
all_kept (kept {cs} {n} c u same) e = all_kept u (same_from_push (map tidied cs) cs (tidied c) c (sym (map_push tidied cs c) ∙ e)).0
all_kept (changed {cs} {n} c u apart) e = absurd (apart (same_from_push (map tidied cs) cs (tidied c) c (sym (map_push tidied cs c) ∙ e)).1)

pub counted : (file : List ℕ) (cs : List Command) (n : ℕ) → Reads file cs → Untidy cs n → Counted file n
counted file cs n reads u = record {
  commands = cs;
  reads = reads;
  untidy = u;
  none = λ e. ap (λ l. flat_map encoded l ++ end_command (length cs)) (none_changed u e) ∙ sym reads.whole;
  tidy = λ e. all_kept u (determined file (map tidied cs) cs (subst (λ l. Reads l (map tidied cs)) e (tidy_reads file cs reads)) reads);
}
