-- Items are seen one after another to lead to no earlier one.
use Rattle.std.specs.Prelude.{◌≡◌, ◌<◌, ◌≤◌, ℕ, ◌+◌, IsTrue, nat_lt, List, [], ◌∷◌, ◌++◌, take, drop, length, get_or, Result, Ok, Err}
use Rattle.std.proofs.Common.{refl, sym, ap, subst, ◌∙◌, arith}
use Rattle.std.proofs.lemmas.List.{drop_all}
use Rattle.trs_defs.specs.System.{System}
use Rattle.pair_theory.specs.DependencyPair.{dependency_pairs}
use Rattle.rewrite_core.specs.declared.checks.refusals.StepRefused.{StepRefused}
use Rattle.rewrite_core.specs.declared.checks.refusals.CheckFault.{CheckFault}
use Rattle.rewrite_core.specs.declared.checks.refusals.CheckFault.TheVariants.{Refused, OutOfMemory}
use Rattle.rewrite_core.specs.Check.{Refuses, returned, stops, goes_on, each_after}
use Rattle.dp_core.proofs.Collecting.{next_read}
use Rattle.dp_graph.specs.declared.items.GraphItem.{GraphItem}
use Rattle.dp_graph.specs.GroupOrSingle.{GroupOrSingle, item_of, items_of, members_of, all_members}
use Rattle.dp_graph.specs.GraphConditions.{lead_to_none, lead_onward}
use Rattle.dp_graph.proofs.ItemLists.{one_taken}

pub is_below : (a b : ℕ) → a < b → IsTrue (nat_lt a b)
is_below a b h = grind arith

module _ (system : System) (items : List GraphItem) where
  -- the items are seen to lead to none before them
  abbrev After : List GroupOrSingle → List GroupOrSingle → Result (Unit {0}) StepRefused → Type 0
  After before rest = each_after (λ before item. lead_to_none system.rules (dependency_pairs system.rules) (members_of item) (all_members before)) before rest

  abbrev Whole : Result (Unit {0}) StepRefused → Type 0
  Whole = lead_onward system.rules (dependency_pairs system.rules) (items_of items)

  -- the items before number i passed: the whole is answered as the rest is
  abbrev pub OnwardSoFar : ℕ → Type 0
  OnwardSoFar i = (answer : Result (Unit {0}) StepRefused) → After (items_of (take i items)) (items_of (drop i items)) answer → Whole answer

  pub no_item_seen : OnwardSoFar 0
  no_item_seen answer h = h

  module _ (i : ℕ) (item : GraphItem) (lt : i < length items) (is : item ≡ get_or items i item) where
    item_next : items_of (drop i items) ≡ item_of item ∷ items_of (drop (i + 1) items)
    item_next = ap items_of (next_read items i item item lt is)

    mapped : (xs : List GraphItem) → items_of (xs ++ item ∷ []) ≡ items_of xs ++ item_of item ∷ []
    mapped [] = refl
    mapped (x ∷ xs) = ap (λ z. item_of x ∷ z) (mapped xs)

    item_taken : items_of (take (i + 1) items) ≡ items_of (take i items) ++ item_of item ∷ []
    item_taken = ap items_of (one_taken items i item item lt is) ∙ mapped (take i items)

    pub item_seen : lead_to_none system.rules (dependency_pairs system.rules) (members_of (item_of item)) (all_members (items_of (take i items))) (Ok tt) → OnwardSoFar i → OnwardSoFar (i + 1)
    item_seen here before answer h =
        before answer (subst (λ z. After (items_of (take i items)) z answer) (sym item_next)
        (goes_on tt _ here (subst (λ z. After z (items_of (drop (i + 1) items)) answer) item_taken h)))

    pub item_leads_back : (fault : CheckFault) → Refuses (lead_to_none system.rules (dependency_pairs system.rules) (members_of (item_of item)) (all_members (items_of (take i items)))) fault
        → OnwardSoFar i → Refuses (lead_onward system.rules (dependency_pairs system.rules) (items_of items)) fault
    item_leads_back OutOfMemory here before = tt
    item_leads_back (Refused why) here before = before (Err why) (subst (λ z. After (items_of (take i items)) z (Err why)) (sym item_next) (stops why here))

  pub all_items_seen : (i : ℕ) → length items ≤ i → OnwardSoFar i → lead_onward system.rules (dependency_pairs system.rules) (items_of items) (Ok tt)
  all_items_seen i ge before = before (Ok tt) (subst (λ z. After (items_of (take i items)) (items_of z) (Ok tt)) (sym (drop_all i items ge)) returned)
