-- Single pairs are seen one after another to have no edge to themselves, and groups are listed.
use Rattle.std.specs.Prelude.{◌≡◌, ◌<◌, ◌≤◌, ℕ, ◌+◌, List, [], ◌∷◌, ◌++◌, take, drop, length, get_or, Vec, Result, Ok, Err}
use Rattle.std.specs.declared.alloc.Global.{Global}
use Rattle.std.proofs.Common.{refl, sym, ap, subst, ◌∙◌}
use Rattle.std.proofs.lemmas.List.{drop_all, take_all, append-nil}
use Rattle.trs_defs.specs.System.{System}
use Rattle.pair_theory.specs.DependencyPair.{dependency_pairs}
use Rattle.rewrite_core.specs.declared.checks.refusals.StepRefused.{StepRefused}
use Rattle.rewrite_core.specs.declared.checks.refusals.StepRefused.TheVariants.{SelfEdge}
use Rattle.rewrite_core.specs.declared.checks.refusals.CheckFault.{CheckFault}
use Rattle.rewrite_core.specs.declared.checks.refusals.CheckFault.TheVariants.{Refused, OutOfMemory}
use Rattle.rewrite_core.specs.Check.{Check, Refuses, Forbids, returned}
use Rattle.dp_core.proofs.Collecting.{next_read}
use Rattle.dp_graph.specs.declared.items.GraphItem.{GraphItem}
use Rattle.dp_graph.specs.GroupOrSingle.{GroupOrSingle, group, single, item_of, items_of, groups_of, singles_of}
use Rattle.dp_graph.specs.GraphConditions.{HasEdge, have_no_self_edge, lists_of}
use Rattle.dp_graph.proofs.EachOfList.{all_of_both, first_refuses}
use Rattle.dp_graph.proofs.ItemLists.{one_taken}

singles_of_next : (item : GroupOrSingle) (items : List GroupOrSingle) → singles_of (item ∷ items) ≡ singles_of (item ∷ []) ++ singles_of items
singles_of_next (group members) items = refl
singles_of_next (single member) items = refl

groups_of_last : (items : List GraphItem) (item : GraphItem) → groups_of (items_of (items ++ item ∷ [])) ≡ groups_of (items_of items) ++ groups_of (item_of item ∷ [])
groups_of_last [] item = refl
groups_of_last (x ∷ items) item = next (item_of x) (groups_of_last items item)
  where
    next : (y : GroupOrSingle) → groups_of (items_of (items ++ item ∷ [])) ≡ groups_of (items_of items) ++ groups_of (item_of item ∷ [])
        → groups_of (y ∷ items_of (items ++ item ∷ [])) ≡ groups_of (y ∷ items_of items) ++ groups_of (item_of item ∷ [])
    next (group members) e = ap (λ z. members ∷ z) e
    next (single member) e = e

-- one more item
pub one_more_group : (items : List GraphItem) (i : ℕ) (item : GraphItem) (old new : List (Vec ℕ Global)) → i < length items → item ≡ get_or items i item
    → lists_of old ≡ groups_of (items_of (take i items)) → lists_of new ≡ lists_of old ++ groups_of (item_of item ∷ [])
    → lists_of new ≡ groups_of (items_of (take (i + 1) items))
one_more_group items i item old new lt is before grown =
    grown ∙ (ap (λ z. z ++ groups_of (item_of item ∷ [])) before
    ∙ sym (ap (λ z. groups_of (items_of z)) (one_taken items i item item lt is) ∙ groups_of_last (take i items) item))

pub all_groups : (items : List GraphItem) (i : ℕ) (groups : List (Vec ℕ Global)) → length items ≤ i → lists_of groups ≡ groups_of (items_of (take i items))
    → lists_of groups ≡ groups_of (items_of items)
all_groups items i groups ge e = e ∙ ap (λ z. groups_of (items_of z)) (take_all i items ge)

pub group_pushed : (old new : List (Vec ℕ Global)) (item : GroupOrSingle) (members : List ℕ) (pushed : Vec ℕ Global) → item ≡ group members → pushed.items ≡ members
    → new ≡ old ++ pushed ∷ [] → lists_of new ≡ lists_of old ++ groups_of (item ∷ [])
group_pushed old new item members pushed is same grown =
    ap lists_of grown ∙ (listed_last old ∙ (ap (λ z. lists_of old ++ z ∷ []) same ∙ sym (ap (λ z. lists_of old ++ groups_of (z ∷ [])) is)))
  where
    listed_last : (xs : List (Vec ℕ Global)) → lists_of (xs ++ pushed ∷ []) ≡ lists_of xs ++ pushed.items ∷ []
    listed_last [] = refl
    listed_last (x ∷ xs) = ap (λ z. x.items ∷ z) (listed_last xs)

pub no_group_pushed : (old new : List (Vec ℕ Global)) (item : GroupOrSingle) (member : ℕ) → item ≡ single member → new ≡ old → lists_of new ≡ lists_of old ++ groups_of (item ∷ [])
no_group_pushed old new item member is same =
    ap lists_of same ∙ (sym (append-nil (lists_of old)) ∙ sym (ap (λ z. lists_of old ++ groups_of (z ∷ [])) is))

module _ (system : System) (items : List GraphItem) where
  abbrev itself : ℕ → Check (Unit {0})
  itself n = Forbids (HasEdge system.rules (dependency_pairs system.rules) n n) (SelfEdge n)

  abbrev Selves : List GroupOrSingle → Check (Unit {0})
  Selves some = have_no_self_edge system.rules (dependency_pairs system.rules) (singles_of some)

  -- the items before number i passed: the whole is answered as the rest is
  abbrev pub SinglesSoFar : ℕ → Type 0
  SinglesSoFar i =
      (answer : Result (Unit {0}) StepRefused) → have_no_self_edge system.rules (dependency_pairs system.rules) (singles_of (items_of (drop i items))) answer
      → have_no_self_edge system.rules (dependency_pairs system.rules) (singles_of (items_of items)) answer

  pub no_single_seen : SinglesSoFar 0
  no_single_seen answer h = h

  module _ (i : ℕ) (item : GraphItem) (lt : i < length items) (is : item ≡ get_or items i item) where
    singles_next : singles_of (items_of (drop i items)) ≡ singles_of (item_of item ∷ []) ++ singles_of (items_of (drop (i + 1) items))
    singles_next = ap (λ z. singles_of (items_of z)) (next_read items i item item lt is) ∙ singles_of_next (item_of item) (items_of (drop (i + 1) items))

    pub single_seen : have_no_self_edge system.rules (dependency_pairs system.rules) (singles_of (item_of item ∷ [])) (Ok tt) → SinglesSoFar i → SinglesSoFar (i + 1)
    single_seen here before answer h =
        before answer (subst (λ z. have_no_self_edge system.rules (dependency_pairs system.rules) z answer) (sym singles_next)
        (all_of_both itself 0 0 (singles_of (item_of item ∷ [])) (singles_of (items_of (drop (i + 1) items))) answer here h))

    pub single_leads_to_itself : (fault : CheckFault) → Refuses (have_no_self_edge system.rules (dependency_pairs system.rules) (singles_of (item_of item ∷ []))) fault → SinglesSoFar i
        → Refuses (have_no_self_edge system.rules (dependency_pairs system.rules) (singles_of (items_of items))) fault
    single_leads_to_itself OutOfMemory here before = tt
    single_leads_to_itself (Refused why) here before =
        before (Err why) (subst (λ z. have_no_self_edge system.rules (dependency_pairs system.rules) z (Err why)) (sym singles_next)
        (first_refuses itself 0 (singles_of (item_of item ∷ [])) (singles_of (items_of (drop (i + 1) items))) (Err why) here tt))

  pub all_singles_seen : (i : ℕ) → length items ≤ i → SinglesSoFar i → have_no_self_edge system.rules (dependency_pairs system.rules) (singles_of (items_of items)) (Ok tt)
  all_singles_seen i ge before = before (Ok tt) (subst (λ z. have_no_self_edge system.rules (dependency_pairs system.rules) (singles_of (items_of z)) (Ok tt)) (sym (drop_all i items ge)) returned)
