-- The definitions give what each case says.
use Rattle.std.proofs.Common.{◌≡◌, ℕ, ◌+◌, ◌^◌, ◌<◌, ◌≤◌, List, [], ◌∷◌, length, get_or, take, codes, refl, inl, inr, arith, lit<, lit≤}
use Rattle.std.specs.List.{All}
use Rattle.std.proofs.lemmas.List.Elements.{All-from_recursion, All-cons, All-nil}
use Rattle.trace_file.specs.declared.event.Event.TheVariants.{IrqEntry}
use Rattle.trace_file.specs.declared.identifier.Kind.TheVariants.{Blank, Digit}
use Rattle.trace_file.specs.Event.{command}
use Rattle.trace_file.specs.File.{Command, Proper, Sound, FileOf, Refuses, end_command, in_file}
use Rattle.trace_file.specs.Identifier.{kind, number, Form}
use Rattle.trace_file.proofs.Padding.{padded_form}
use Rattle.trace_cases.specs.Cases.{IsSo, cases, after, entry, example, example_file, example_events}

-- a blank between two digits
torn : (cs : List ℕ) (i j k : ℕ) → i < j → j < k → k < length cs → kind (get_or cs i 0) ≡ Digit → kind (get_or cs j 0) ≡ Blank → kind (get_or cs k 0) ≡ Digit → Form cs → ⊥
torn cs i j k h h2 h3 h4 h5 h6 h7 = grind arith

-- a blank at both ends
between_blanks : (cs : List ℕ) (k : ℕ) → length cs ≡ k + 1 → kind (get_or cs 0 0) ≡ Blank → kind (get_or cs k 0) ≡ Blank → Form cs → ⊥
between_blanks cs k h h2 h3 h4 = grind arith

-- a file of one entry whose characters are not an identifier
refused_entry : (a b c d : ℕ) → (Form (a ∷ b ∷ c ∷ d ∷ []) → ⊥) → Refuses (entry (a ∷ b ∷ c ∷ d ∷ [])) (in_file 4 0)
refused_entry a b c d ill = record {
  commands = [];
  rest = entry (a ∷ b ∷ c ∷ d ∷ []);
  whole = refl;
  sound = All-nil Sound;
  few = lit≤ tt;
  first = inr (λ p. omega arith, inr (λ p. omega arith, inr (λ p. omega arith, inr (λ p. omega arith, inr (λ p. omega arith, inl ((refl, ill), refl))))));
}

plain : (c : Command) → 0 < c.gap → c.gap < 2 ^ 32 → Proper (command c.event).1 → Sound c
plain c ticks fits operand = record { ticks = ticks; fits = fits; operand = operand }

two_blanks : Form (codes "  33")
two_blanks = record {
  from = 2;
  to = 4;
  some = lit< tt;
  within = lit≤ tt;
  before = before;
  digits = digits;
  after = λ k le lt. absurd (omega arith);
  one_side = inr refl;
}
  where
    before : (k : ℕ) → k < 2 → kind (get_or (codes "  33") k 0) ≡ Blank
    before k h = grind arith

    digits : (k : ℕ) → 2 ≤ k → k < 4 → kind (get_or (codes "  33") k 0) ≡ Digit
    digits k h h2 = grind arith

example_sound : All Sound example
example_sound = All-from_recursion Sound example (
  plain _ (lit< tt) (lit< tt) tt,
  (
    plain _ (lit< tt) (lit< tt) (refl, padded_form 33 (lit≤ tt)),
    (
      plain _ (lit< tt) (lit< tt) tt,
      (
        plain _ (lit< tt) (lit< tt) tt,
        (
          plain _ (lit< tt) (lit< tt) tt,
          (
            plain _ (lit< tt) (lit< tt) tt,
            (
              plain _ (lit< tt) (lit< tt) tt,
              (
                plain _ (lit< tt) (lit< tt) tt,
                (
                  plain _ (lit< tt) (lit< tt) (lit< tt),
                  (
                    plain _ (lit< tt) (lit< tt) tt,
                    (
                      plain _ (lit< tt) (lit< tt) tt,
                      (
                        plain _ (lit< tt) (lit< tt) tt,
                        (
                          plain _ (lit< tt) (lit< tt) (refl, two_blanks),
                          (
                            plain _ (lit< tt) (lit< tt) tt,
                            (
                              plain _ (lit< tt) (lit< tt) tt,
                              (plain _ (lit< tt) (lit< tt) tt, tt),
                            ),
                          ),
                        ),
                      ),
                    ),
                  ),
                ),
              ),
            ),
          ),
        ),
      ),
    ),
  ),
)

blanks_after : Form (codes "33  ")
blanks_after = record {
  from = 0;
  to = 2;
  some = lit< tt;
  within = lit≤ tt;
  before = λ k lt. absurd (omega arith);
  digits = digits;
  after = blanks;
  one_side = inl refl;
}
  where
    digits : (k : ℕ) → 0 ≤ k → k < 2 → kind (get_or (codes "33  ") k 0) ≡ Digit
    digits k h h2 = grind arith

    blanks : (k : ℕ) → 2 ≤ k → k < 4 → kind (get_or (codes "33  ") k 0) ≡ Blank
    blanks k h h2 = grind arith

-- a file of one entry whose characters are an identifier
entered : (a b c d : ℕ) → Form (a ∷ b ∷ c ∷ d ∷ []) → FileOf (entry (a ∷ b ∷ c ∷ d ∷ [])) (after 1 (IrqEntry (number (a ∷ b ∷ c ∷ d ∷ []))) ∷ [])
entered a b c d form = record {
  commands = after 1 (IrqEntry (a ∷ b ∷ c ∷ d ∷ [])) ∷ [];
  reads = record { whole = refl; sound = All-cons Sound _ [] (plain _ (lit< tt) (lit< tt) (refl, form)) (All-nil Sound); few = lit≤ tt };
  events = refl;
}

whole_example : FileOf example_file example_events
whole_example = record { commands = example; reads = record { whole = refl; sound = example_sound; few = lit≤ tt }; events = refl }

cut_example : Refuses (take 94 example_file) (in_file 1 90)
cut_example = record {
  commands = example;
  rest = take 4 (end_command 16);
  whole = refl;
  sound = example_sound;
  few = lit≤ tt;
  first = inr (λ p. omega arith, inr (λ p. omega arith, inr (λ p. omega arith, inl (lit< tt, refl))));
}

pub all_hold : All IsSo cases
all_hold = All-from_recursion IsSo cases (
  entered _ _ _ _ (padded_form 9999 (lit≤ tt)),
  (
    entered _ _ _ _ blanks_after,
    (
      refused_entry _ _ _ _ (torn (codes "3  3") 0 1 3 (lit< tt) (lit< tt) (lit< tt) refl refl refl),
      (refused_entry _ _ _ _ (between_blanks (codes " 33 ") 3 refl refl refl), (refused_entry _ _ _ _ (between_blanks (codes "    ") 3 refl refl refl), (whole_example, (cut_example, tt)))),
    ),
  ),
)
