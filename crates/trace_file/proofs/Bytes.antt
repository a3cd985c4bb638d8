-- Numbers in bytes, and the parts of a list that hold them.
use Rattle.std.proofs.Common.{◌≡◌, ℕ, zero, suc, ◌+◌, ◌*◌, ◌/◌, ◌%◌, ◌^◌, ◌<◌, ◌≤◌, List, [], ◌∷◌, length, get_or, take, drop, sym, refl, ap, ◌∙◌, mod-eq_of_lt, div-lt_iff_lt-mul, add_comm, pow-suc, zero-add, arith, lit<}
use native.Mathlib.Nat.{add-mul-mod_self_left, add-mul-div_left, div-eq_of_lt, div-add-mod}
use Rattle.std.specs.List.{All}
use Rattle.std.proofs.lemmas.List.{drop_more}
use Rattle.std.proofs.lemmas.List.Elements.{All-head, All-tail}
use Rattle.trace_file.specs.File.{little, from_little}
use Rattle.trace_file.specs.Reading.{Stands}

pub take_next : {X : Type 0} (xs : List X) (i k : ℕ) (d : X) → i < length xs → take (suc k) (drop i xs) ≡ get_or xs i d ∷ take k (drop (i + 1) xs)
take_next xs i k d h = rw (drop_more xs i d h)

pub take_two : (xs : List ℕ) (i : ℕ) → i + 2 ≤ length xs → take 2 (drop i xs) ≡ get_or xs i 0 ∷ get_or xs (i + 1) 0 ∷ []
take_two xs i h = take_next xs i 1 0 (omega arith) ∙ ap (λ l. get_or xs i 0 ∷ l) (take_next xs (i + 1) 0 0 (omega arith))

pub take_four : (xs : List ℕ) (i : ℕ) → i + 4 ≤ length xs → take 4 (drop i xs) ≡ get_or xs i 0 ∷ get_or xs (i + 1) 0 ∷ get_or xs (i + 2) 0 ∷ get_or xs (i + 3) 0 ∷ []
take_four xs i h =
    let p : i + 1 + 1 ≡ i + 2 = omega arith in
    let q : i + 2 + 1 ≡ i + 3 = omega arith in
    take_next xs i 3 0 (omega arith)
    ∙ ap (λ l. get_or xs i 0 ∷ l) (take_next xs (i + 1) 2 0 (omega arith)
    ∙ ap (λ l. get_or xs (i + 1) 0 ∷ l) (ap (λ j. take 2 (drop j xs)) p ∙ take_next xs (i + 2) 1 0 (omega arith)
    ∙ ap (λ l. get_or xs (i + 2) 0 ∷ l) (ap (λ j. take 1 (drop j xs)) q ∙ take_next xs (i + 3) 0 0 (omega arith))))

-- bytes are what is written of the number that they say
pub little_from : (bs : List ℕ) → All (λ b. b < 256) bs → little (length bs) (from_little bs) ≡ bs
little_from [] h = refl
little_from (b ∷ bs) h =
    let first = All-head (λ b. b < 256) b bs h in
    let n : ℕ = from_little bs in
    let low : (b + 256 * n) % 256 ≡ b = add-mul-mod_self_left b 256 n ∙ mod-eq_of_lt first in
    let high : (b + 256 * n) / 256 ≡ n = add-mul-div_left b n (lit< tt) ∙ ap (λ q. q + n) (div-eq_of_lt first) ∙ zero-add n in
    ap (λ x. x ∷ little (length bs) ((b + 256 * n) / 256)) low ∙ ap (λ m. b ∷ little (length bs) m) high ∙ ap (λ l. b ∷ l) (little_from bs (All-tail (λ b. b < 256) b bs h))

-- and a number that fits is what its bytes say
pub from_little_fits : (k n : ℕ) → n < 256 ^ k → from_little (little k n) ≡ n
from_little_fits zero n h = omega arith
from_little_fits (suc k) n h =
    let less : n / 256 < 256 ^ k = (div-lt_iff_lt-mul (lit< tt)).1 (rw pow-suc at h) in
    ap (λ m. n % 256 + 256 * m) (from_little_fits k (n / 256) less) ∙ add_comm (n % 256) (256 * (n / 256)) ∙ div-add-mod n 256

pub length-little : (k n : ℕ) → length (little k n) ≡ k
length-little zero n = refl
length-little (suc k) n = ap suc (length-little k (n / 256))

-- a number stands where its bytes do, however many they are
pub stands : (n : ℕ) (bs rest : List ℕ) → take (length bs) rest ≡ bs → All (λ b. b < 256) bs → n ≡ from_little bs → Stands (length bs) n rest
stands n bs rest front small e = record {
  says = e ∙ ap from_little (sym front);
  bytes = ap (little (length bs)) e ∙ little_from bs small ∙ sym front;
}
