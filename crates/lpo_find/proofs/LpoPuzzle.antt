-- The search for a path order by the numbers of its slots.
use Rattle.std.specs.Prelude.{◌≡◌, ◌<◌, ℕ, ◌+◌, ◌*◌, ◌/◌, ◌%◌, Bool, true, ◌||◌, List, [], ◌++◌, length, get_or, map, Some, None, slice_get}
use Rattle.std.proofs.Common.{sym, ap, arith, ◌∙◌}
use Rattle.trs_defs.specs.System.{RewriteRule}
use Rattle.trs_defs.proofs.Members.{in_of_get, in_right}
use Rattle.path_lpo.specs.Table.{PathEntry, rank_in, filter_in}
use Rattle.assign_search.specs.Rest.{reach}
use Rattle.order_search.specs.Ends.{end_among}
use Rattle.order_search.specs.Slots.{Slot, slot, table_of, puzzle_of}
use Rattle.order_search.specs.OrderSpace.{AreCovered, occurs_in, order_search, slots_of, some_falls}
use Rattle.order_search.proofs.Constraints.{truth_falls, truth_last, uses_symbols, uses_all, last_number}
use Rattle.order_search.proofs.LastPlaces.{end_of_all, reach_of_symbols}
use Rattle.order_search.proofs.TwoParts.{many_slots, slot_at}
use Rattle.lpo_find.specs.LpoSpace.{lpo_family, lpo_values, filter_count, path_weak, path_strict}
use Rattle.lpo_find.specs.LpoRow.{lpo_entry}
use Rattle.lpo_find.proofs.Entries.{weak_by_entries, some_by_entries}

module _ (arity : ℕ → ℕ) (symbols : List ℕ) (rules pairs : List RewriteRule) where
  pub slot_count : 2 * length symbols ≡ (puzzle_of (order_search (lpo_family arity) symbols [] rules pairs)).slots
  slot_count = sym (many_slots symbols)

  domain_at : (s : ℕ) → s < 2 * length symbols
      → (puzzle_of (order_search (lpo_family arity) symbols [] rules pairs)).domain s ≡ lpo_values arity (slot (get_or symbols (s / 2) 0) (s % 2))
  domain_at s below = ap (λ (x : Slot). lpo_values arity x) (slot_at symbols s 0 below)

  pub filter_domain : (s : ℕ) → s < 2 * length symbols → s % 2 ≡ 0
      → (puzzle_of (order_search (lpo_family arity) symbols [] rules pairs)).domain s ≡ filter_count (arity (get_or symbols (s / 2) 0))
  filter_domain s below e = domain_at s below ∙ ap (λ (part : ℕ). lpo_values arity (slot (get_or symbols (s / 2) 0) part)) e

  pub rank_domain : (s : ℕ) → s < 2 * length symbols → s % 2 ≡ 1 → (puzzle_of (order_search (lpo_family arity) symbols [] rules pairs)).domain s ≡ 8
  rank_domain s below e = domain_at s below ∙ ap (λ (part : ℕ). lpo_values arity (slot (get_or symbols (s / 2) 0) part)) e

  within : (s : ℕ) → s < 2 * length symbols → s < length (slots_of (λ _. 2) symbols)
  within s below = let many = many_slots symbols in omega (arith, many, below)

  pub reach_of_rule : (c e : ℕ) (r : RewriteRule) → slice_get (rules ++ pairs) c ≡ Some r → e ≡ end_among (λ f. occurs_in f r.left || occurs_in f r.right) symbols
      → 2 * e ≡ reach (puzzle_of (order_search (lpo_family arity) symbols [] rules pairs)) c
  reach_of_rule c e r at is =
      ap (λ (n : ℕ). 2 * n) is
      ∙ sym (reach_of_symbols (puzzle_of (order_search (lpo_family arity) symbols [] rules pairs)) c (λ f. occurs_in f r.left || occurs_in f r.right) symbols (many_slots symbols)
      (λ s below. uses_symbols (lpo_family arity) symbols rules pairs c s r (get_or symbols (s / 2) 0) (s % 2) at (within s below) (slot_at symbols s 0 below)))

  pub reach_of_last : (c : ℕ) → slice_get (rules ++ pairs) c ≡ None → c < (puzzle_of (order_search (lpo_family arity) symbols [] rules pairs)).constraints
      → 2 * length symbols ≡ reach (puzzle_of (order_search (lpo_family arity) symbols [] rules pairs)) c
  reach_of_last c none below =
      ap (λ (n : ℕ). 2 * n) (sym (end_of_all symbols))
      ∙ sym (reach_of_symbols (puzzle_of (order_search (lpo_family arity) symbols [] rules pairs)) c (λ f. true) symbols (many_slots symbols)
      (λ s l. uses_all (lpo_family arity) symbols rules pairs c s (last_number (lpo_family arity) symbols rules pairs c none below) (within s l)))

  -- what the order of the values says is what the values say
  module _ (covered : AreCovered symbols (rules ++ pairs)) (values : List ℕ) (entries : List PathEntry)
      (are : entries ≡ map (lpo_entry arity (table_of (slots_of (λ _. 2) symbols) values)) symbols) where
    pub truth_of_rule : (c : ℕ) (r : RewriteRule) (b : Bool) → slice_get (rules ++ pairs) c ≡ Some r → b ≡ path_weak (rank_in entries) (filter_in entries) r.left r.right
        → b ≡ (puzzle_of (order_search (lpo_family arity) symbols [] rules pairs)).truth c values
    truth_of_rule c r b at e =
        e ∙ (weak_by_entries arity (table_of (slots_of (λ _. 2) symbols) values) symbols entries are r (covered r (in_of_get (rules ++ pairs) c r at))
        ∙ sym (truth_falls (lpo_family arity) symbols rules pairs c values r at))

    pub truth_of_last : (c : ℕ) (b : Bool) → c ≡ length rules + length pairs → b ≡ some_falls (path_strict (rank_in entries) (filter_in entries)) pairs
        → b ≡ (puzzle_of (order_search (lpo_family arity) symbols [] rules pairs)).truth c values
    truth_of_last c b last e =
        e ∙ (some_by_entries arity (table_of (slots_of (λ _. 2) symbols) values) symbols entries are pairs (λ r i. covered r (in_right rules i))
        ∙ sym (truth_last (lpo_family arity) symbols rules pairs c values last))
