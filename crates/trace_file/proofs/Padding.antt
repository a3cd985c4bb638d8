-- A number padded with zeros is an identifier that says that number.
use Rattle.std.proofs.Common.{◌≡◌, ℕ, zero, suc, ◌+◌, ◌*◌, ◌/◌, ◌%◌, ◌<◌, ◌≤◌, List, [], ◌∷◌, get_or, refl, inl, arith, lit<, lit≤}
use Rattle.trace_file.specs.declared.identifier.Kind.TheVariants.{Digit}
use Rattle.trace_file.specs.Identifier.{kind, Form, number, number_after, padded}

kind_digit : (d : ℕ) → d < 10 → kind (48 + d) ≡ Digit
kind_digit d h = grind arith

module _ (n : ℕ) (h : n ≤ 9999) where
  all_digits : (k : ℕ) → 0 ≤ k → k < 4 → kind (get_or (padded n) k 0) ≡ Digit
  all_digits zero p q = kind_digit (n / 1000) (omega arith)
  all_digits (suc zero) p q = kind_digit (n / 100 % 10) (omega arith)
  all_digits (suc (suc zero)) p q = kind_digit (n / 10 % 10) (omega arith)
  all_digits (suc (suc (suc zero))) p q = kind_digit (n % 10) (omega arith)
  all_digits (suc (suc (suc (suc k)))) p q = absurd (omega arith)

  pub padded_form : Form (padded n)
  padded_form = record {
    from = 0;
    to = 4;
    some = lit< tt;
    within = lit≤ tt;
    before = λ k lt. absurd (omega arith);
    digits = all_digits;
    after = λ k le lt. absurd (omega arith);
    one_side = inl refl;
  }

-- one more digit is read
digit_after : (m d : ℕ) (cs : List ℕ) → number_after m ((48 + d) ∷ cs) ≡ number_after (m * 10 + d) cs
digit_after m d cs = grind arith

four_digits : (a b c d : ℕ) → number ((48 + a) ∷ (48 + b) ∷ (48 + c) ∷ (48 + d) ∷ []) ≡ (((0 * 10 + a) * 10 + b) * 10 + c) * 10 + d
four_digits a b c d = grind arith

pub number-padded : (n : ℕ) → number (padded n) ≡ n
number-padded n = grind arith
