-- Bytes written after one another, and the bytes of a command.
use Rattle.std.proofs.lemmas.Grind.{common_steps}
use Rattle.std.proofs.Common.{◌≡◌, ℕ, ◌+◌, ◌-◌, ◌/◌, ◌%◌, ◌≤◌, List, [], ◌∷◌, ◌++◌, length, take, drop, sym, ap, ◌∙◌, append_assoc, zero-add, arith, length-append, length-drop}
use Rattle.std.proofs.lemmas.List.{append-nil, take_all, take_at, drop_all, drop_at, drop-drop, length-take-le}
use Rattle.trace_file.specs.declared.event.Event.{Event}
use Rattle.trace_file.specs.declared.event.Operand.{Operand}
use Rattle.trace_file.specs.Event.{command, operand_with}
use Rattle.trace_file.specs.File.{little, operand_bytes, encoded}
use Rattle.trace_file.specs.Identifier.{padded}
use Rattle.trace_file.proofs.Commands.{encoded-with}
use Rattle.trace_writer.specs.Writing.{written, command_for}

pub length-written : (out : List ℕ) (at : ℕ) (xs : List ℕ) → at + length xs ≤ length out → length (written out at xs) ≡ length out
length-written out at xs h = grind (arith, common_steps)

pub written_none : (out : List ℕ) (at : ℕ) → written out at [] ≡ out
written_none out at = grind (arith, common_steps)

module _ (out : List ℕ) (at : ℕ) (xs : List ℕ) (h : at ≤ length out) where
  grouped : written out at xs ≡ (take at out ++ xs) ++ drop (at + length xs) out
  grouped = sym (append_assoc (take at out) xs (drop (at + length xs) out))

  long : length (take at out ++ xs) ≡ at + length xs
  long = length-append (take at out) xs ∙ ap (λ n. n + length xs) (length-take-le at out h)

  pub take_written : take (at + length xs) (written out at xs) ≡ take at out ++ xs
  take_written = ap (take (at + length xs)) grouped ∙ take_at (take at out ++ xs) _ _ long

  pub drop_written : drop (at + length xs) (written out at xs) ≡ drop (at + length xs) out
  drop_written = ap (drop (at + length xs)) grouped ∙ drop_at (take at out ++ xs) _ _ long

  pub written_more : (ys : List ℕ) → written (written out at xs) (at + length xs) ys ≡ written out at (xs ++ ys)
  written_more ys =
      let n = at + length xs in
      let last = sym (drop-drop (length ys) n (written out at xs)) ∙ ap (drop (length ys)) drop_written ∙ drop-drop (length ys) n out in
      let count : n + length ys ≡ at + length (xs ++ ys) = simp length-append (omega arith) in
      (λ i. take_written i ++ (ys ++ last i))
      ∙ append_assoc (take at out) xs (ys ++ drop (n + length ys) out)
      ∙ ap (λ l. take at out ++ l) (sym (append_assoc xs ys (drop (n + length ys) out)) ∙ ap (λ m. (xs ++ ys) ++ drop m out) count)

-- bytes that are written right after others, from the start on
pub written_on : (out p q xs ys : List ℕ) (at : ℕ) → p ≡ written out 0 xs → at ≡ length xs → q ≡ written p at ys → q ≡ written out 0 (xs ++ ys)
written_on out p q xs ys at first long second =
    second ∙ ap (λ l. written l at ys) first ∙ ap (λ n. written (written out 0 xs) n ys) (long ∙ sym (zero-add (length xs))) ∙ written_more out 0 xs (omega arith) ys

-- bytes that are written over some in the middle of those written before
pub written_inside : (out xs ys zs ws : List ℕ) (at : ℕ) → at ≡ length xs → length ys ≡ length zs → written (written out 0 (xs ++ (ys ++ ws))) at zs ≡ written out 0 (xs ++ (zs ++ ws))
written_inside out xs ys zs ws at is same =
    let old = xs ++ (ys ++ ws) in
    let new = xs ++ (zs ++ ws) in
    let rest = drop (0 + length old) out in
    let long : length old ≡ length new = length-append xs (ys ++ ws) ∙ ap (λ n. length xs + n) (length-append ys ws ∙ ap (λ n. n + length ws) same ∙ sym (length-append zs ws)) ∙ sym (length-append xs (zs ++ ws)) in
    let grouped : old ++ rest ≡ xs ++ (ys ++ (ws ++ rest)) = append_assoc xs (ys ++ ws) rest ∙ ap (λ l. xs ++ l) (append_assoc ys ws rest) in
    let front = ap (take at) grouped ∙ take_at xs (ys ++ (ws ++ rest)) at (sym is) in
    let twice : (xs ++ ys) ++ (ws ++ rest) ≡ xs ++ (ys ++ (ws ++ rest)) = append_assoc xs ys (ws ++ rest) in
    let back = ap (drop (at + length zs)) (grouped ∙ sym twice) ∙ drop_at (xs ++ ys) (ws ++ rest) (at + length zs) (omega (arith, length-append xs ys, is, same)) in
    (λ i. front i ++ (zs ++ back i))
    ∙ ap (λ l. xs ++ l) (sym (append_assoc zs ws rest))
    ∙ sym (append_assoc xs (zs ++ ws) rest)
    ∙ ap (λ n. new ++ drop (0 + n) out) long

pub written_again : (out ys zs : List ℕ) → length ys ≡ length zs → written (written out 0 ys) 0 zs ≡ written out 0 zs
written_again out ys zs h = grind (arith, common_steps)

pub little_four : (n : ℕ) → ◌≡◌ {A = List ℕ} (n % 256 ∷ n / 256 % 256 ∷ n / 65536 % 256 ∷ n / 16777216 % 256 ∷ []) (little 4 n)
little_four n = grind arith

-- bytes that are written over the front of the bytes from a place on are written there
pub placed : (out part bs : List ℕ) (at : ℕ) → at + length bs ≤ length out → part ≡ written (take (length out - at) (drop at out)) 0 bs → take at out ++ (part ++ drop (length out - at) (drop at out)) ≡ written out at bs
placed out part bs at fits front =
    let rest : take (length out - at) (drop at out) ≡ drop at out = take_all (length out - at) (drop at out) (omega (arith, length-drop at out)) in
    let none : drop (length out - at) (drop at out) ≡ [] = drop_all (length out - at) (drop at out) (omega (arith, length-drop at out)) in
    let whole : part ≡ bs ++ drop (at + length bs) out = front ∙ ap (λ l. bs ++ drop (0 + length bs) l) rest ∙ ap (λ n. bs ++ drop n (drop at out)) (zero-add (length bs)) ∙ ap (λ l. bs ++ l) (drop-drop (length bs) at out) in
    ap (λ l. take at out ++ (part ++ l)) none ∙ ap (λ l. take at out ++ l) (append-nil part ∙ whole)

module _ (gap : ℕ) (e : Event ℕ) (b : ℕ) (o : Operand ℕ) (is : (b, o) ≡ command e) where
  -- the bytes of a command, by its table entry
  pub bytes_are : encoded (command_for (record { gap = gap; event = e })) ≡ b ∷ (little 4 gap ++ operand_bytes (operand_with padded o))
  bytes_are = encoded-with padded (record { gap = gap; event = e }) ∙ ap (λ c. c.0 ∷ (little 4 gap ++ operand_bytes (operand_with padded c.1))) (sym is)

  pub command_written : (out p q r : List ℕ) (at : ℕ) → at ≤ length out → p ≡ written out at (b ∷ []) → q ≡ written p (at + 1) (little 4 gap) → r ≡ written q (at + 5) (operand_bytes (operand_with padded o)) → r ≡ written out at (encoded (command_for (record { gap = gap; event = e })))
  command_written out p q r at fits first second third =
      let bs = operand_bytes (operand_with padded o) in
      let front = second ∙ ap (λ l. written l (at + 1) (little 4 gap)) first ∙ written_more out at (b ∷ []) fits (little 4 gap) in
      third ∙ ap (λ l. written l (at + 5) bs) front ∙ written_more out at (b ∷ little 4 gap) fits bs ∙ ap (written out at) (sym bytes_are)
