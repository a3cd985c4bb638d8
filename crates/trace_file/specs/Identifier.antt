-- Interrupt identifiers: which characters are one, which number they say, and how the writer pads.
use Rattle.std.specs.Prelude.{◌≡◌, ℕ, ◌+◌, ◌-◌, ◌*◌, ◌/◌, ◌%◌, ◌<◌, ◌≤◌, cond, ◌&&◌, ◌⊎◌, List, [], ◌∷◌, length, ◌==◌, ◌≢◌, nat_le, slice_index}
use Rattle.trace_file.specs.declared.identifier.Kind.{Kind}
use Rattle.trace_file.specs.declared.identifier.Kind.TheVariants.{Blank, Digit, Other}

-- how many characters an identifier has, and the greatest number that it can say
abbrev pub width : ℕ
width = 4

abbrev pub greatest : ℕ
greatest = 9999

abbrev pub kind : ℕ → Kind
kind c = cond (c == 32) Blank (cond (nat_le 48 c && nat_le c 57) Digit Other)

-- the longest run of characters of one kind from a place on ends at another
pub record Run (cs : List ℕ) (from : ℕ) (k : Kind) (to : ℕ) : Type 0 where
  pub onward : from ≤ to
  pub within : to ≤ length cs
  pub all : (i : ℕ) → from ≤ i → i < to → kind (slice_index cs i) ≡ k
  pub stops : to < length cs → kind (slice_index cs to) ≢ k

-- digits stand from one place up to another, blanks at every other place, and one of the two sides has none
pub record Form (cs : List ℕ) : Type 0 where
  pub from : ℕ
  pub to : ℕ
  pub some : from < to
  pub within : to ≤ length cs
  pub before : (k : ℕ) → k < from → kind (slice_index cs k) ≡ Blank
  pub digits : (k : ℕ) → from ≤ k → k < to → kind (slice_index cs k) ≡ Digit
  pub after : (k : ℕ) → to ≤ k → k < length cs → kind (slice_index cs k) ≡ Blank
  pub one_side : (from ≡ 0) ⊎ (to ≡ length cs)

-- the number that the digits among the characters say, after one that digits before them have said
abbrev pub number_after : ℕ → List ℕ → ℕ
number_after n [] = n
number_after n (c ∷ cs) = number_after (cond (c == 32) n (n * 10 + (c - 48))) cs

abbrev pub number : List ℕ → ℕ
number cs = number_after 0 cs

-- the writer's characters for a number: four digits, zeros on the left
abbrev pub padded : ℕ → List ℕ
padded n = (48 + n / 1000) ∷ (48 + n / 100 % 10) ∷ (48 + n / 10 % 10) ∷ (48 + n % 10) ∷ []
