-- The search for a Knuth-Bendix order by the numbers of its slots and constraints.
use Rattle.std.specs.Prelude.{◌≡◌, ◌<◌, ◌≤◌, ℕ, ◌+◌, ◌-◌, ◌*◌, ◌/◌, ◌%◌, Bool, true, false, ◌||◌, ◌==◌, if◌then◌else◌, List, [], ◌∷◌, ◌++◌, length, get_or, map, Option, Some, None, slice_get}
use Rattle.std.proofs.Common.{suc, sym, ap, ap₂, arith, ◌∙◌}
use Rattle.std.proofs.lemmas.Bool.Decides.{nat_tests}
use Rattle.std.proofs.lemmas.List.{length-append, length-map}
use Rattle.trs_defs.specs.System.{RewriteRule}
use Rattle.trs_defs.proofs.Members.{in_of_get, in_right}
use Rattle.trs_defs.proofs.ListItems.{image_item}
use Rattle.kbo_order.specs.declared.entries.KboEntry.{KboEntry}
use Rattle.kbo_order.specs.Table.{weight_in, rank_in}
use Rattle.assign_search.specs.Rest.{reach}
use Rattle.order_search.specs.Ends.{end_among}
use Rattle.order_search.specs.Slots.{Slot, slot, table_of, puzzle_of}
use Rattle.order_search.specs.OrderSpace.{OrderConstraint, above, AreCovered, arity_with_mark, slots_of, some_falls, occurs_in, concerns, is_above}
use Rattle.order_search.proofs.Constraints.{past_end, truth_falls, truth_last, uses_all, uses_symbols, last_number, many_constraints}
use Rattle.order_search.proofs.OwnConstraints.{own_and_others, uses_own, truth_own, uses_behind, truth_behind}
use Rattle.order_search.proofs.LastPlaces.{end_of_all, reach_of_symbols}
use Rattle.order_search.proofs.TwoParts.{many_slots, slot_at}
use Rattle.kbo_find.specs.KnuthTest.{knuth_weak, knuth_strict}
use Rattle.kbo_find.specs.KboSpace.{kbo_family, kbo_values, above_each, above_all, tops_of, kbo_tops, weight_count, weight_by, rank_by}
use Rattle.kbo_find.specs.KboRow.{entry_by, kbo_search}
use Rattle.kbo_find.specs.KboPlaces.{asked_of, uses_by, falls_by}
use Rattle.kbo_find.specs.declared.tops.Top.{Top}
use Rattle.kbo_find.proofs.KboEntries.{weak_by_entries, some_by_entries}

test_turned : (a b : ℕ) → (a == b) ≡ (b == a)
test_turned a b = grind (arith, nat_tests)

tests_turned : (f a b : ℕ) → (f == a || f == b) ≡ (a == f || b == f)
tests_turned f a b = ap₂ (λ x y. x || y) (test_turned f a) (test_turned f b)

-- ---- few constraints

each_few : (unary : ℕ) (fs : List ℕ) → length (above_each unary fs) ≤ length fs
each_few unary [] = omega arith
each_few unary (f ∷ fs) = let rest = each_few unary fs in one_or_none (f == unary) (above unary f) (above_each unary fs) (length fs) rest
  where
    one_or_none : (b : Bool) (d : OrderConstraint) (ds : List OrderConstraint) (n : ℕ) → length ds ≤ n → length ((if b then [] else d ∷ []) ++ ds) ≤ suc n
    one_or_none true d ds n h = omega (arith, h)
    one_or_none false d ds n h = omega (arith, h)

module _ (arity : ℕ → ℕ) (symbols : List ℕ) (few : length symbols ≤ 8192) where
  all_few : (f : ℕ) → length (above_all arity symbols f) ≤ 8192
  all_few f = let each = each_few f symbols in all_or_none (arity f == 1) (above_each f symbols) (omega (arith, each, few))
    where
      all_or_none : (b : Bool) (ds : List OrderConstraint) → length ds ≤ 8192 → length (if b then ds else []) ≤ 8192
      all_or_none true ds h = h
      all_or_none false ds h = omega arith

  some_few : (fs : List ℕ) → length (tops_of arity symbols fs) ≤ 8192 * length fs
  some_few [] = omega arith
  some_few (f ∷ fs) =
      let one = all_few f in
      let rest = some_few fs in
      let both = length-append (above_all arity symbols f) (tops_of arity symbols fs) in
      omega (arith, one, rest, both)

  pub few_tops : length (kbo_tops arity symbols) ≤ 67108864
  few_tops = let all = some_few symbols in omega (arith, all, few)

module _ (arities symbols : List ℕ) (rules pairs : List RewriteRule) where
  domain_at : (s : ℕ) → s < 2 * length symbols
      → (puzzle_of (kbo_search arities symbols rules pairs)).domain s ≡ kbo_values (arity_with_mark arities) (slot (get_or symbols (s / 2) 0) (s % 2))
  domain_at s below = ap (λ (x : Slot). kbo_values (arity_with_mark arities) x) (slot_at symbols s 0 below)

  pub weight_domain : (s : ℕ) → s < 2 * length symbols → s % 2 ≡ 0
      → (puzzle_of (kbo_search arities symbols rules pairs)).domain s ≡ weight_count (arity_with_mark arities (get_or symbols (s / 2) 0))
  weight_domain s below e = domain_at s below ∙ ap (λ (part : ℕ). kbo_values (arity_with_mark arities) (slot (get_or symbols (s / 2) 0) part)) e

  pub rank_domain : (s : ℕ) → s < 2 * length symbols → s % 2 ≡ 1 → (puzzle_of (kbo_search arities symbols rules pairs)).domain s ≡ 8
  rank_domain s below e = domain_at s below ∙ ap (λ (part : ℕ). kbo_values (arity_with_mark arities) (slot (get_or symbols (s / 2) 0) part)) e

  pub constraint_count : length (kbo_tops (arity_with_mark arities) symbols) + (length rules + length pairs + 1) ≡ (puzzle_of (kbo_search arities symbols rules pairs)).constraints
  constraint_count =
      let all = own_and_others (kbo_family (arity_with_mark arities)) symbols (kbo_tops (arity_with_mark arities) symbols) rules pairs in
      let others = many_constraints (kbo_family (arity_with_mark arities)) symbols rules pairs in
      omega (arith, all, others)

  module _ (tops : List Top) (are : map asked_of tops ≡ kbo_tops (arity_with_mark arities) symbols) where
    pub count_by_tops : length tops + (length rules + length pairs + 1) ≡ (puzzle_of (kbo_search arities symbols rules pairs)).constraints
    count_by_tops =
        let all = constraint_count in
        let same : length (map asked_of tops) ≡ length (kbo_tops (arity_with_mark arities) symbols) = ap length are in
        let mapped = length-map tops asked_of in
        omega (arith, all, same, mapped)

    number_there : (c : ℕ) (top : Top) → slice_get tops c ≡ Some top → slice_get (kbo_tops (arity_with_mark arities) symbols) c ≡ Some (asked_of top)
    number_there c top e = ap (λ (l : List OrderConstraint). slice_get l c) (sym are) ∙ image_item asked_of tops c top e

    pub number_behind : (c : ℕ) → slice_get tops c ≡ None → c ≡ length (kbo_tops (arity_with_mark arities) symbols) + (c - length tops)
    number_behind c e =
        let past = past_end tops c e in
        let same : length (map asked_of tops) ≡ length (kbo_tops (arity_with_mark arities) symbols) = ap length are in
        let mapped = length-map tops asked_of in
        omega (arith, past, same, mapped)

    pub uses_top : (c s : ℕ) (top : Top) → slice_get tops c ≡ Some top → s < 2 * length symbols
        → (puzzle_of (kbo_search arities symbols rules pairs)).uses c s ≡ concerns (asked_of top) (slot (get_or symbols (s / 2) 0) 0)
    uses_top c s top e h =
        let many = many_slots symbols in
        uses_own (kbo_family (arity_with_mark arities)) symbols (kbo_tops (arity_with_mark arities) symbols) rules pairs c s (asked_of top) (number_there c top e) (omega (arith, many, h))
        ∙ ap (concerns (asked_of top)) (slot_at symbols s 0 h)

    pub reach_top : (c e : ℕ) (top : Top) → slice_get tops c ≡ Some top → e ≡ end_among (λ f. top.unary == f || top.other == f) symbols
        → 2 * e ≡ reach (puzzle_of (kbo_search arities symbols rules pairs)) c
    reach_top c e top at is =
        ap (λ (n : ℕ). 2 * n) is
        ∙ sym (reach_of_symbols (puzzle_of (kbo_search arities symbols rules pairs)) c (λ f. top.unary == f || top.other == f) symbols (many_slots symbols)
        (λ s below. uses_top c s top at below ∙ tests_turned (get_or symbols (s / 2) 0) top.unary top.other))

    pub truth_top : (c : ℕ) (values : List ℕ) (top : Top) → slice_get tops c ≡ Some top
        → (puzzle_of (kbo_search arities symbols rules pairs)).truth c values ≡ is_above (table_of (slots_of (λ _. 2) symbols) values) top.unary top.other
    truth_top c values top e =
        truth_own (kbo_family (arity_with_mark arities)) symbols (kbo_tops (arity_with_mark arities) symbols) rules pairs c values (asked_of top) (number_there c top e)

  module _ (c k : ℕ) (behind : c ≡ length (kbo_tops (arity_with_mark arities) symbols) + k) where
    last_of : slice_get (rules ++ pairs) k ≡ None → c < (puzzle_of (kbo_search arities symbols rules pairs)).constraints → k ≡ length rules + length pairs
    last_of e below =
        let all = own_and_others (kbo_family (arity_with_mark arities)) symbols (kbo_tops (arity_with_mark arities) symbols) rules pairs in
        last_number (kbo_family (arity_with_mark arities)) symbols rules pairs k e (omega (arith, behind, below, all))

    uses_rule : (s : ℕ) (r : RewriteRule) → slice_get (rules ++ pairs) k ≡ Some r → s < 2 * length symbols
        → (puzzle_of (kbo_search arities symbols rules pairs)).uses c s ≡ (occurs_in (get_or symbols (s / 2) 0) r.left || occurs_in (get_or symbols (s / 2) 0) r.right)
    uses_rule s r e h =
        let many = many_slots symbols in
        let within : s < length (slots_of (λ _. 2) symbols) = omega (arith, many, h) in
        uses_behind (kbo_family (arity_with_mark arities)) symbols (kbo_tops (arity_with_mark arities) symbols) rules pairs c k s behind within
        ∙ uses_symbols (kbo_family (arity_with_mark arities)) symbols rules pairs k s r (get_or symbols (s / 2) 0) (s % 2) e within (slot_at symbols s 0 h)

    uses_last : (s : ℕ) → slice_get (rules ++ pairs) k ≡ None → c < (puzzle_of (kbo_search arities symbols rules pairs)).constraints → s < 2 * length symbols
        → (puzzle_of (kbo_search arities symbols rules pairs)).uses c s ≡ true
    uses_last s e below h =
        let many = many_slots symbols in
        let within : s < length (slots_of (λ _. 2) symbols) = omega (arith, many, h) in
        uses_behind (kbo_family (arity_with_mark arities)) symbols (kbo_tops (arity_with_mark arities) symbols) rules pairs c k s behind within
        ∙ uses_all (kbo_family (arity_with_mark arities)) symbols rules pairs k s (last_of e below) within

    pub uses_falling : (s : ℕ) (o : Option RewriteRule) → slice_get (rules ++ pairs) k ≡ o → c < (puzzle_of (kbo_search arities symbols rules pairs)).constraints
        → s < 2 * length symbols → (puzzle_of (kbo_search arities symbols rules pairs)).uses c s ≡ uses_by (get_or symbols (s / 2) 0) o
    uses_falling s (Some r) e below h = uses_rule s r e h
    uses_falling s None e below h = uses_last s e below h

    pub reach_falling : (r : RewriteRule) (e : ℕ) → slice_get (rules ++ pairs) k ≡ Some r → e ≡ end_among (λ f. occurs_in f r.left || occurs_in f r.right) symbols
        → 2 * e ≡ reach (puzzle_of (kbo_search arities symbols rules pairs)) c
    reach_falling r e at is =
        ap (λ (n : ℕ). 2 * n) is
        ∙ sym (reach_of_symbols (puzzle_of (kbo_search arities symbols rules pairs)) c (λ f. occurs_in f r.left || occurs_in f r.right) symbols (many_slots symbols)
        (λ s below. uses_rule s r at below))

    pub reach_last : slice_get (rules ++ pairs) k ≡ None → c < (puzzle_of (kbo_search arities symbols rules pairs)).constraints
        → 2 * length symbols ≡ reach (puzzle_of (kbo_search arities symbols rules pairs)) c
    reach_last none below =
        ap (λ (n : ℕ). 2 * n) (sym (end_of_all symbols))
        ∙ sym (reach_of_symbols (puzzle_of (kbo_search arities symbols rules pairs)) c (λ f. true) symbols (many_slots symbols)
        (λ s l. uses_last s none below l))

    -- by the weights and ranks that the values say
    pub truth_falling : (values : List ℕ) (b : Bool) (o : Option RewriteRule) → slice_get (rules ++ pairs) k ≡ o → c < (puzzle_of (kbo_search arities symbols rules pairs)).constraints
        → b ≡ falls_by (weight_by (arity_with_mark arities) (table_of (slots_of (λ _. 2) symbols) values)) (rank_by (table_of (slots_of (λ _. 2) symbols) values)) pairs o
        → b ≡ (puzzle_of (kbo_search arities symbols rules pairs)).truth c values
    truth_falling values b (Some r) at below e =
        e ∙ sym (truth_behind (kbo_family (arity_with_mark arities)) symbols (kbo_tops (arity_with_mark arities) symbols) rules pairs c k values behind
        ∙ truth_falls (kbo_family (arity_with_mark arities)) symbols rules pairs k values r at)
    truth_falling values b None none below e =
        e ∙ sym (truth_behind (kbo_family (arity_with_mark arities)) symbols (kbo_tops (arity_with_mark arities) symbols) rules pairs c k values behind
        ∙ truth_last (kbo_family (arity_with_mark arities)) symbols rules pairs k values (last_of none below))

    -- what an order with these weights and ranks says is what the values say
    module _ (covered : AreCovered symbols (rules ++ pairs)) (values : List ℕ) (entries : List KboEntry)
        (are : entries ≡ map (entry_by (arity_with_mark arities) (table_of (slots_of (λ _. 2) symbols) values)) symbols) where
      pub truth_of_rule : (r : RewriteRule) (b : Bool) → slice_get (rules ++ pairs) k ≡ Some r → b ≡ knuth_weak (weight_in entries) (rank_in entries) r.left r.right
          → b ≡ (puzzle_of (kbo_search arities symbols rules pairs)).truth c values
      truth_of_rule r b at e =
          e ∙ (weak_by_entries (arity_with_mark arities) (table_of (slots_of (λ _. 2) symbols) values) symbols entries are r (covered r (in_of_get (rules ++ pairs) k r at))
          ∙ sym (truth_behind (kbo_family (arity_with_mark arities)) symbols (kbo_tops (arity_with_mark arities) symbols) rules pairs c k values behind
          ∙ truth_falls (kbo_family (arity_with_mark arities)) symbols rules pairs k values r at))

      pub truth_at_last : (b : Bool) → k ≡ length rules + length pairs → b ≡ some_falls (knuth_strict (weight_in entries) (rank_in entries)) pairs
          → b ≡ (puzzle_of (kbo_search arities symbols rules pairs)).truth c values
      truth_at_last b last e =
          e ∙ (some_by_entries (arity_with_mark arities) (table_of (slots_of (λ _. 2) symbols) values) symbols entries are pairs (λ r i. covered r (in_right rules i))
          ∙ sym (truth_behind (kbo_family (arity_with_mark arities)) symbols (kbo_tops (arity_with_mark arities) symbols) rules pairs c k values behind
          ∙ truth_last (kbo_family (arity_with_mark arities)) symbols rules pairs k values last))
