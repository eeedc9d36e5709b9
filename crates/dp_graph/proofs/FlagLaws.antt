-- Rows of flags: set and looked at.
use Rattle.std.specs.Prelude.{◌≡◌, ◌<◌, ◌↔◌, ◌⊎◌, ℕ, ◌*◌, ◌/◌, ◌%◌, ◌^◌, false, List, [], length, get_or, Some, None, IsTrue, slice_get, slice_set, bit_and, bit_or, ◌==◌, refl}
use Rattle.std.specs.Int.{bit_at}
use Rattle.std.proofs.Common.{w64, inl, inr, sym, ap, subst, arith, ◌∙◌, get_or-set_same, get_or-set_other}
use Rattle.std.proofs.lemmas.Bool.{cases_eq}
use Rattle.std.proofs.lemmas.Bool.Decides.{Decides-eqb}
use Rattle.std.proofs.lemmas.List.{get_or_past}
use Rattle.std.proofs.lemmas.Nat.Bits.{bit_at-zero, bit_at_set_same, bit_at_set_other, shr_and_one}
use Rattle.std.proofs.lemmas.Option.{slice_get_read, get_or_from_slice_get}
use Rattle.dp_graph.specs.FlagRows.{IsSet}
use Rattle.dp_graph.proofs.ListPlaces.{none_past}

-- ---- set

-- a word has one bit more
pub set_one : (old new : List ℕ) (k word : ℕ) → k / 64 < length old → word ≡ get_or old (k / 64) word → new ≡ slice_set old (k / 64) (bit_or word (1 * 2 ^ (k % 64) % 2 ^ 64)) → (j : ℕ) → IsSet new j ↔ (IsSet old j ⊎ (j ≡ k))
set_one old new k word lt read is j = elim (cases_eq j k) [
  | inl same ↦ (λ h. inr same, λ h. subst (IsSet new) (sym same) here)
  | inr other ↦ (λ h. inl (sym (kept other) ∙ h), λ h. elim h [ inl e ↦ kept other ∙ e | inr e ↦ absurd (other e) ])
]
  where
    more : ℕ
    more = bit_or word (1 * 2 ^ (k % 64) % 2 ^ 64)

    low : k % 64 < 64
    low = omega arith

    here : IsSet new k
    here = ap (λ z. bit_at (get_or z (k / 64) 0) (k % 64)) is ∙ ap (λ w. bit_at w (k % 64)) (get_or-set_same old (k / 64) more 0 lt) ∙ bit_at_set_same w64 word (k % 64) low

    word_is : word ≡ get_or old (k / 64) 0
    word_is = sym (get_or_from_slice_get old (k / 64) word 0 (slice_get_read old (length old) (k / 64) word refl lt read))

    kept : (j ≡ k → ⊥) → bit_at (get_or new (j / 64) 0) (j % 64) ≡ bit_at (get_or old (j / 64) 0) (j % 64)
    kept other = ap (λ z. bit_at (get_or z (j / 64) 0) (j % 64)) is ∙ (elim (cases_eq (j / 64) (k / 64)) [
      | inl row ↦
          rw row
          (ap (λ w. bit_at w (j % 64)) (get_or-set_same old (k / 64) more 0 lt) ∙ bit_at_set_other w64 word (k % 64) low (j % 64) (λ index. other (omega arith)) ∙ ap (λ w. bit_at w (j % 64)) word_is)
      | inr apart ↦ ap (λ w. bit_at w (j % 64)) (get_or-set_other old (k / 64) (j / 64) more 0 apart)
    ])

-- ---- looked at

pub none_set : (k : ℕ) → IsSet [] k → ⊥
none_set k h = let none : bit_at 0 (k % 64) ≡ 1 = h in absurd (omega (arith, none, bit_at-zero (k % 64)))

pub bit_read : (row : List ℕ) (k word : ℕ) → slice_get row (k / 64) ≡ Some word → IsTrue (bit_and (word / 2 ^ (k % 64)) 1 == 1) ↔ IsSet row k
bit_read row k word there =
    let same : bit_and (word / 2 ^ (k % 64)) 1 ≡ bit_at (get_or row (k / 64) 0) (k % 64) = shr_and_one word (k % 64) ∙ ap (λ w. bit_at w (k % 64)) (sym (get_or_from_slice_get row (k / 64) word 0 there)) in
    let says = Decides-eqb (bit_and (word / 2 ^ (k % 64)) 1) 1 in
    (λ h. sym same ∙ says.0 h, λ h. says.1 (same ∙ h))

pub no_word : (row : List ℕ) (k : ℕ) → slice_get row (k / 64) ≡ None → IsTrue false ↔ IsSet row k
no_word row k none = (
  λ e. absurd cc,
  λ h.
      let past : bit_at (get_or row (k / 64) 0) (k % 64) ≡ bit_at 0 (k % 64) = ap (λ w. bit_at w (k % 64)) (get_or_past row (k / 64) 0 (none_past row (k / 64) none)) in
      absurd (none_set k (sym past ∙ h)),
)
