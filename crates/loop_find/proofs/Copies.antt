-- Copies of rules, renamed apart: as they are read, and one more.
use Rattle.std.proofs.Common.{◌≡◌, ◌<◌, inl, inr, ℕ, List, [], ◌∷◌, ◌++◌, length, length-set, get_or, slice_get, Option, Some, None, ap, sym, ◌∙◌, subst, arith}
use Rattle.std.specs.Prelude.{slice_set}
use Rattle.std.proofs.lemmas.Option.{same_Some, slice_get-get_or}
use Rattle.trs_defs.specs.System.{RewriteRule}
use Rattle.trs_defs.proofs.ListItems.{item_of_more}
use Rattle.crit_pairs.specs.Apart.{renamed_apart}
use Rattle.crit_pairs.proofs.EqualRules.{item_of_set}
use Rattle.loop_find.specs.ApartRules.{AreCopies}

-- no copy yet
pub no_copy_more : (old new : List (Option RewriteRule)) → new ≡ old ++ None ∷ [] → ((k : ℕ) (copy : RewriteRule) → slice_get old k ≡ Some (Some copy) → ⊥)
    → (k : ℕ) (copy : RewriteRule) → slice_get new k ≡ Some (Some copy) → ⊥
no_copy_more old new put none k copy at = elim (item_of_more old None (Some copy) k (subst (λ xs. slice_get xs k ≡ Some (Some copy)) put at)) as (λ _. ⊥) [
  | inl before ↦ none k copy before
  | inr last ↦ let clash : Some copy ≡ None = last.1 in absurd cc
]

module _ (rules : List RewriteRule) (copies : List (Option RewriteRule)) where
  pub no_copy : length copies ≡ length rules → ((k : ℕ) (copy : RewriteRule) → slice_get copies k ≡ Some (Some copy) → ⊥) → AreCopies rules copies
  no_copy count none = record { count = count; each = λ k rule copy at there. absurd (none k copy there) }

  module _ (are : AreCopies rules copies) (k : ℕ) where
    pub copy_read : k < length rules → (found : Option RewriteRule) (copy : RewriteRule) → found ≡ get_or copies k found → found ≡ Some copy → (rule : RewriteRule) → slice_get rules k ≡ Some rule
        → copy ≡ renamed_apart rule
    copy_read less found copy read is rule at =
        let count = are.count in
        let there = slice_get-get_or copies k found (omega (arith, less, count)) in
        are.each k rule copy at (there ∙ ap (λ z. Some z) (sym read ∙ is))

    pub with_copy : (rule copy : RewriteRule) → slice_get rules k ≡ Some rule → copy ≡ renamed_apart rule → AreCopies rules (slice_set copies k (Some copy))
    with_copy rule copy at is = record {
      count = length-set copies k (Some copy) ∙ are.count;
      each = λ i other found there e. elim (item_of_set copies k (Some copy) i (Some found) e) as (λ _. found ≡ renamed_apart other) [
        | inl h ↦
            let same_copy : found ≡ copy = same_Some found copy h.1 in
            let same_rule : other ≡ rule = same_Some other rule (sym there ∙ (ap (slice_get rules) h.0 ∙ at)) in
            same_copy ∙ (is ∙ ap renamed_apart (sym same_rule))
        | inr old ↦ are.each i other found there old
      ];
    }
