-- The characters of an identifier, as runs of one kind.
use Rattle.std.proofs.Common.{◌≡◌, ℕ, suc, ◌+◌, ◌-◌, ◌*◌, ◌^◌, ◌<◌, ◌≤◌, Bool, true, false, cond, eqb, leb, ◌⊎◌, List, [], ◌∷◌, length, get_or, drop, sym, refl, ap, ◌∙◌, inl, inr, ⊎_elim, mul-le-mul_right, mul_assoc, pow-suc, add-one, arith, length-drop}
use native.Mathlib.Nat.{pow-succ'}
use Rattle.std.specs.List.{prefix_len}
use Rattle.std.proofs.lemmas.List.{get_or-drop, at_drop_more, at_drop_all}
use Rattle.std.proofs.lemmas.List.Sums.{prefix_len_passes, prefix_len_stops, prefix_len-le-length}
use Rattle.std.proofs.lemmas.Bool.{false≢true, cases_eq, cases_lt, ne_eqb, eq-eqb, lt-leb, and_right, cond-true, cond-false}
use Rattle.trace_file.specs.declared.identifier.Kind.{Kind}
use Rattle.trace_file.specs.declared.identifier.Kind.TheVariants.{Blank, Digit, Other}
use Rattle.trace_file.specs.Identifier.{kind, Run, Form, number, number_after}

-- whether a kind is another
abbrev pub is_kind : Kind → Kind → Bool
is_kind Blank Blank = true
is_kind Blank Digit = false
is_kind Blank Other = false
is_kind Digit Blank = false
is_kind Digit Digit = true
is_kind Digit Other = false
is_kind Other Blank = false
is_kind Other Digit = false
is_kind Other Other = true

same_kind : (a b : Kind) → is_kind a b ≡ true → a ≡ b
same_kind a b h = grind arith

is_itself : (k : Kind) → is_kind k k ≡ true
is_itself Blank = refl
is_itself Digit = refl
is_itself Other = refl

-- the characters of one kind that the rest begins with are a run
pub run_of : (cs : List ℕ) (from : ℕ) (k : Kind) (n : ℕ) → from ≤ length cs → n ≡ prefix_len (λ c. is_kind (kind c) k) (drop from cs) → Run cs from k (from + n)
run_of cs from k n le e =
    let test : ℕ → Bool = λ c. is_kind (kind c) k in
    let rest : List ℕ = drop from cs in
    let long = length-drop from cs in
    let fits = prefix_len-le-length test rest in
    let here : (i : ℕ) → from ≤ i → get_or rest (i - from) 0 ≡ get_or cs i 0 =
    λ i le. let j : from + (i - from) ≡ i = omega arith in get_or-drop from cs (i - from) 0 ∙ ap (λ m. get_or cs m 0) j in
    record {
      onward = omega arith;
      within = omega (arith, long, fits, e);
      all = λ i le lt. same_kind _ _ (ap test (sym (here i le)) ∙ prefix_len_passes test rest (i - from) 0 (omega (arith, e)));
      stops = λ lt same.
          let stop = prefix_len_stops test rest 0 (omega (arith, long, e)) in
          let at : get_or rest (prefix_len test rest) 0 ≡ get_or cs (from + n) 0 = get_or-drop from cs (prefix_len test rest) 0 ∙ ap (λ m. get_or cs (from + m) 0) (sym e) in
          false≢true (sym stop ∙ ap test at ∙ ap (λ j. is_kind j k) same ∙ is_itself k);
    }

module _ (cs : List ℕ) (from to end : ℕ) (blanks : Run cs 0 Blank from) (digits : Run cs from Digit to) (rest : Run cs to Blank end) where
  -- the digits of an identifier are the run of digits
  same_from : (f : Form cs) → f.from ≡ from
  same_from f = grind arith

  same_to : (f : Form cs) → f.to ≡ to
  same_to f = grind arith

  -- characters with no blank left over are an identifier
  pub formed : from < to → end ≡ length cs → (from ≡ 0) ⊎ (to ≡ length cs) → Form cs
  formed some full side = record {
    from = from;
    to = to;
    some = some;
    within = digits.within;
    before = λ k lt. blanks.all k (omega arith) lt;
    digits = digits.all;
    after = λ k le lt. rest.all k le (omega arith);
    one_side = side;
  }

  -- an identifier has digits, ends with the last run, and has blanks on one side at most
  pub only : Form cs → (from < to) × (end ≡ length cs) × ((from ≡ 0) ⊎ (to ≡ length cs))
  only h = grind arith

other : (c : ℕ) → (c ≡ 32 → ⊥) → 57 < c → kind c ≡ Other
other c ne lt = rw (ne_eqb c 32 ne, and_right (leb 48 c) (leb c 57) (lt-leb c 57 lt))

-- the number said by the characters up to `i` is n
pub record Said (cs : List ℕ) (i n : ℕ) : Type 0 where
  pub small : n < 10 ^ i
  pub rest : number_after n (drop i cs) ≡ number cs

-- one more character is read
module _ (cs : List ℕ) (i n : ℕ) (said : Said cs i n) (lt : i < length cs) where
  step : number_after n (drop i cs) ≡ number_after (cond (eqb (get_or cs i 0) 32) n (n * 10 + (get_or cs i 0 - 48))) (drop (i + 1) cs)
  step = at_drop_more (number_after n) cs i 0 lt

  ten : 10 ^ (i + 1) ≡ 10 ^ i * 10
  ten = rw add-one (pow-suc 10 i)

  pub said_digit : (m : ℕ) → (get_or cs i 0 ≡ 32 → ⊥) → (kind (get_or cs i 0) ≡ Other → ⊥) → m ≡ n * 10 + (get_or cs i 0 - 48) → Said cs (i + 1) m
  said_digit m ne plain e = grind (arith, step, ten)

  pub said_blank : (m : ℕ) → get_or cs i 0 ≡ 32 → m ≡ n → Said cs (i + 1) m
  said_blank m eq e = grind (arith, step, ten)

pub said_all : (cs : List ℕ) (i n : ℕ) → Said cs i n → length cs ≤ i → n ≡ number cs
said_all cs i n said le = sym (at_drop_all (number_after n) cs i le) ∙ said.rest

-- digits say less than one more than there is room for
below_room : (cs : List ℕ) (n : ℕ) → ((i : ℕ) → i < length cs → kind (get_or cs i 0) ≡ Other → ⊥) → number_after n cs < (n + 1) * 10 ^ length cs
below_room [] n h = omega arith
below_room (c ∷ cs) n h =
    let m : ℕ = cond (eqb c 32) n (n * 10 + (c - 48)) in
    let step : m + 1 ≤ (n + 1) * 10 = ⊎_elim (λ e. omega (arith, cond-true (eqb c 32) n (n * 10 + (c - 48)) (eq-eqb c 32 e)))
    (λ ne. let small : c ≤ 57 = ⊎_elim (λ l. absurd (h 0 (omega arith) (other c ne l))) (λ l. l) (cases_lt 57 c) in omega (arith, cond-false (eqb c 32) n (n * 10 + (c - 48)) (ne_eqb c 32 ne)))
    (cases_eq c 32) in
    let more : (m + 1) * 10 ^ length cs ≤ (n + 1) * 10 * 10 ^ length cs = mul-le-mul_right (10 ^ length cs) step in
    omega (arith, below_room cs m (λ i lt. h (suc i) (omega arith)), more, mul_assoc (n + 1) 10 (10 ^ length cs), ap (λ x. (n + 1) * x) (pow-succ' 10 (length cs)))

plain : (k : Kind) → (k ≡ Blank) ⊎ (k ≡ Digit) → k ≡ Other → ⊥
plain k either e = let z : ◌≡◌ {A = ℕ} 0 1 = ⊎_elim (λ p. cc) (λ p. cc) either in omega arith

-- an identifier's number has at most four digits
pub number_small : (cs : List ℕ) → Form cs → length cs ≡ 4 → number cs ≤ 9999
number_small cs f long =
    let each : (i : ℕ) → i < length cs → kind (get_or cs i 0) ≡ Other → ⊥ =
    λ i lt. plain _ (⊎_elim (λ l. inl (f.before i l)) (λ ge. ⊎_elim (λ l. inr (f.digits i ge l)) (λ past. inl (f.after i past lt)) (cases_lt i f.to)) (cases_lt i f.from)) in
    let bound = below_room cs 0 each in
    omega (arith, rw long at bound)
