-- The commands of a file are determined by its bytes.
use Rattle.std.proofs.Common.{◌≡◌, ℕ, suc, ◌+◌, ◌<◌, ◌≤◌, List, [], ◌∷◌, ◌++◌, length, take, drop, sym, refl, ap, ◌∙◌, subst, ⊎_elim, append_assoc, zero-add, arith, length-append}
use Rattle.std.specs.List.{All, flat_map}
use Rattle.std.proofs.lemmas.List.{take_at, drop_at}
use Rattle.std.proofs.lemmas.List.Elements.{All-head, All-tail}
use Rattle.trace_file.specs.declared.event.Event.{Event}
use Rattle.trace_file.specs.declared.event.Operand.{Operand}
use Rattle.trace_file.specs.declared.fault.Parts.{Parts}
use Rattle.trace_file.specs.Event.{command}
use Rattle.trace_file.specs.Fault.{Rule, First, NoneOf}
use Rattle.trace_file.specs.File.{Command, most_events, little, from_little, operand_bytes, encoded, end_command, Proper, Sound, Reads, Refuses, refusals, size}
use Rattle.trace_file.specs.Identifier.{Form}
use Rattle.trace_file.proofs.Bytes.{from_little_fits}
use Rattle.trace_file.proofs.Commands.{operand_size, size_is, length-encoded, same_event}

-- operands of one size with the same bytes are one
same_operand : (o p : Operand (List ℕ)) → Proper o → Proper p → operand_size o ≡ operand_size p → operand_bytes o ≡ operand_bytes p → o ≡ p
same_operand o p h k size e = grind arith

byte_range : (e : Event (List ℕ)) → (0 < (command e).0) × ((command e).0 ≤ 15)
byte_range e = grind arith

identified : (o : Operand (List ℕ)) → Proper o → operand_size o ≡ 4 → (length (operand_bytes o) ≡ 4) × Form (operand_bytes o)
identified o h size = grind arith

gap_said : (c : Command) → Sound c → from_little (little 4 c.gap) ≡ c.gap
gap_said c h = from_little_fits 4 c.gap h.fits

-- two sound commands at the front of the same bytes are one
pub same_command : (c d : Command) (r s : List ℕ) → Sound c → Sound d → encoded c ++ r ≡ encoded d ++ s → (c ≡ d) × (r ≡ s)
same_command c d r s hc hd e =
    let b : (command c.event).0 ≡ (command d.event).0 = cc in
    let w : little 4 c.gap ≡ little 4 d.gap = cc in
    let t : operand_bytes (command c.event).1 ++ r ≡ operand_bytes (command d.event).1 ++ s = cc in
    let k : length (encoded c) ≡ length (encoded d) = length-encoded c hc ∙ sym (size_is c.event) ∙ ap size b ∙ size_is d.event ∙ sym (length-encoded d hd) in
    let l : length (operand_bytes (command c.event).1) ≡ length (operand_bytes (command d.event).1) = omega (arith, k) in
    let o = sym (take_at _ r _ l) ∙ ap (take _) t ∙ take_at (operand_bytes (command d.event).1) s _ refl in
    let rest = sym (drop_at _ r _ l) ∙ ap (drop _) t ∙ drop_at (operand_bytes (command d.event).1) s _ refl in
    let gap = sym (gap_said c hc) ∙ ap from_little w ∙ gap_said d hd in
    let size : operand_size (command c.event).1 ≡ operand_size (command d.event).1 = omega (arith, length-encoded c hc, length-encoded d hd, k) in
    let event = same_event c.event d.event (λ i. (b i, same_operand _ _ hc.operand hd.operand size o i)) in
    ((λ i. record { gap = gap i; event = event i }), rest)

none_first : (rs : List Rule) (p : Parts) → NoneOf rs → First rs p → ⊥
none_first [] p n f = f
none_first (r ∷ rs) p n f = ⊎_elim (λ h. n.0 h.0) (λ h. none_first rs p n.1 h.1) f

pub first_unique : (rs : List Rule) (p q : Parts) → First rs p → First rs q → p ≡ q
first_unique [] p q f g = absurd f
first_unique (r ∷ rs) p q f g =
    ⊎_elim (λ h. ⊎_elim (λ k. h.1 ∙ sym k.1) (λ k. absurd (k.0 h.0)) g)
    (λ h. ⊎_elim (λ k. absurd (h.0 k.0)) (λ k. first_unique rs p q h.1 k.1) g) f

-- no refusal applies where a sound command stands, as long as events are not too many
sound_passes : (n at : ℕ) (d : Command) (t : List ℕ) → Sound d → n < most_events → NoneOf (refusals n at (encoded d ++ t))
sound_passes n at d t h few =
    let b = byte_range d.event in
    let o = operand_bytes (command d.event).1 in
    let long : length (encoded d) ≡ size (command d.event).0 = length-encoded d h ∙ sym (size_is d.event) in
    let whole = length-append (encoded d) t in (
      λ p. omega arith,
      (
        λ p. omega arith,
        (
          λ p. omega arith,
          (
            λ p. omega arith,
            (
              λ p. let g : d.gap ≡ 0 = sym (gap_said d h) ∙ p.1 in omega (arith, h.ticks),
              (
                λ p. let i = identified _ h.operand (omega (arith, size_is d.event, ap size p.0)) in p.1 (subst Form (sym (take_at o t 4 i.0)) i.1),
                (
                  λ p. omega arith,
                  (λ p. omega arith, tt),
                ),
              ),
            ),
          ),
        ),
      ),
    )

-- nor at the end command with the right number
end_passes : (n at : ℕ) → n ≤ most_events → NoneOf (refusals n at (end_command n))
end_passes n at few = (
  λ p. omega arith,
  (
    λ p. omega arith,
    (
      λ p. omega arith,
      (
        λ p. omega arith,
        (
          λ p. omega arith,
          (
            λ p. omega arith,
            (
              λ p. p.1 (from_little_fits 4 n (omega arith)),
              (λ p. omega arith, tt),
            ),
          ),
        ),
      ),
    ),
  ),
)

-- what is left after some commands of a file, and no command
abbrev Stuck : ℕ → List ℕ → Type 0
Stuck n r = (d : Command) (t : List ℕ) → Sound d → n < most_events → r ≡ encoded d ++ t → ⊥

end_stuck : (n : ℕ) → Stuck n (end_command n)
end_stuck n = grind arith

refused_stuck : (n at : ℕ) (r : List ℕ) (p : Parts) → First (refusals n at r) p → Stuck n r
refused_stuck n at r p f d t h few e =
    none_first (refusals n at (encoded d ++ t)) p (sound_passes n at d t h few) (subst (λ x. First (refusals n at x) p) e f)

same_run : (cs ds : List Command) (n : ℕ) (r s : List ℕ) → All Sound cs → All Sound ds → n + length cs ≤ most_events → n + length ds ≤ most_events → Stuck (n + length cs) r → Stuck (n + length ds) s → flat_map encoded cs ++ r ≡ flat_map encoded ds ++ s → (cs ≡ ds) × (r ≡ s)
same_run [] [] n r s hc hd fc fd x y e = (refl, e)
same_run [] (d ∷ ds) n r s hc hd fc fd x y e = absurd (x d (flat_map encoded ds ++ s) (All-head Sound d ds hd) (omega arith) (e ∙ append_assoc (encoded d) (flat_map encoded ds) s))
same_run (c ∷ cs) [] n r s hc hd fc fd x y e = absurd (y c (flat_map encoded cs ++ r) (All-head Sound c cs hc) (omega arith) (sym e ∙ append_assoc (encoded c) (flat_map encoded cs) r))
same_run (c ∷ cs) (d ∷ ds) n r s hc hd fc fd x y e =
    let both = same_command c d _ _ (All-head Sound c cs hc) (All-head Sound d ds hd) (sym (append_assoc (encoded c) (flat_map encoded cs) r) ∙ e ∙ append_assoc (encoded d) (flat_map encoded ds) s) in
    let p : n + suc (length cs) ≡ suc n + length cs = omega arith in
    let q : n + suc (length ds) ≡ suc n + length ds = omega arith in
    let rest = same_run cs ds (suc n) r s (All-tail Sound c cs hc) (All-tail Sound d ds hd) (omega arith) (omega arith) (subst (λ k. Stuck k r) p x) (subst (λ k. Stuck k s) q y) both.1 in
    ((λ i. both.0 i ∷ rest.0 i), rest.1)

-- The commands that a file reads as are determined by its bytes.
pub determined : (bs : List ℕ) (cs ds : List Command) → Reads bs cs → Reads bs ds → cs ≡ ds
determined bs cs ds x y = (same_run cs ds 0 _ _ x.sound y.sound (omega (arith, x.few)) (omega (arith, y.few)) (ended cs) (ended ds) (sym x.whole ∙ y.whole)).0
  where
    ended : (cs : List Command) → Stuck (0 + length cs) (end_command (length cs))
    ended cs = rw zero-add (end_stuck (length cs))

-- A file that reads as some commands is not refused.
pub apart : (bs : List ℕ) (cs : List Command) (p : Parts) → Reads bs cs → Refuses bs p → ⊥
apart bs cs p x y =
    let same = same_run cs y.commands 0 _ y.rest x.sound y.sound (omega (arith, x.few)) (omega (arith, y.few)) (rw zero-add (end_stuck (length cs))) (rw zero-add (refused_stuck (length y.commands) (length (flat_map encoded y.commands)) y.rest p y.first)) (sym x.whole ∙ y.whole) in
    none_first (refusals (length cs) (length (flat_map encoded cs)) (end_command (length cs))) p (end_passes (length cs) (length (flat_map encoded cs)) x.few)
    (subst (λ ds. First (refusals (length ds) (length (flat_map encoded ds)) (end_command (length cs))) p) (sym same.0)
    (subst (λ r. First (refusals (length y.commands) (length (flat_map encoded y.commands)) r) p) (sym same.1) y.first))

-- A file is refused in one way only.
pub one_refusal : (bs : List ℕ) (p q : Parts) → Refuses bs p → Refuses bs q → p ≡ q
one_refusal bs p q x y =
    let same = same_run x.commands y.commands 0 x.rest y.rest x.sound y.sound (omega (arith, x.few)) (omega (arith, y.few)) (rw zero-add (refused_stuck (length x.commands) (length (flat_map encoded x.commands)) x.rest p x.first)) (rw zero-add (refused_stuck (length y.commands) (length (flat_map encoded y.commands)) y.rest q y.first)) (sym x.whole ∙ y.whole) in
    first_unique (refusals (length y.commands) (length (flat_map encoded y.commands)) y.rest) p q
    (subst (λ ds. First (refusals (length ds) (length (flat_map encoded ds)) y.rest) p) same.0
    (subst (λ r. First (refusals (length x.commands) (length (flat_map encoded x.commands)) r) p) same.1 x.first))
    y.first
