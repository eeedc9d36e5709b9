-- What a found step leaves gives no more tasks than its problem says.
use Rattle.std.specs.Prelude.{◌≡◌, ◌≢◌, ◌⊎◌, ℕ, ◌+◌, ◌-◌, ◌*◌, ◌<◌, ◌≤◌, Bool, true, false, List, [], ◌∷◌, ◌++◌, length, zip, Ok}
use Rattle.std.specs.List.{AllByRecursion}
use Rattle.std.specs.List.Sorted.{IsStrictlyIncreasing}
use Rattle.std.proofs.Common.{suc, inl, inr, refl, sym, ap, subst, arith, ◌∙◌, length-append}
use native.Mathlib.Decide.{ℕ_discrete}
use mathlib.Core.Logic.{dite}
use Rattle.trs_defs.specs.Member.{In, in_first, in_rest}
use Rattle.trs_defs.proofs.Members.{in_or, no_in, in_left, in_right, in_either}
use Rattle.trs_defs.specs.System.{RewriteRule, System}
use Rattle.trs_core.specs.Valid.{IsValid}
use Rattle.pair_theory.specs.DependencyPair.{DependencyPair, dependency_pairs}
use Rattle.rewrite_core.specs.Check.{Check, holds, returned, never, goes_on}
use Rattle.cert_step.specs.dp_core.Numbered.{numbers_from}
use Rattle.cert_step.specs.dp_core.PlacedPairs.{placed_pairs, IsPairAt}
use Rattle.cert_step.specs.dp_core.SubtermConditions.{subterm_conditions, unflagged}
use Rattle.cert_step.specs.dp_core.PairConditions.{Comparing, pair_conditions}
use Rattle.cert_step.proofs.dp_core.AllNumbers.{as_many_numbers, few_pairs}
use Rattle.cert_step.proofs.dp_core.PlacedLaws.{pairs_placed, paired_length}
use Rattle.cert_step.proofs.dp_core.SubtermLaws.{collected_length}
use Rattle.cert_step.specs.dp_graph.GroupOrSingle.{GroupOrSingle, group, single, all_members, groups_of, singles_of}
use Rattle.cert_step.specs.dp_graph.GraphConditions.{are_new, none_is_missing}
use Rattle.cert_step.proofs.dp_graph.ComponentLaws.{Ascends, number, ascends_of}
use Rattle.cert_step.specs.usable_rules.UsableConditions.{usable_conditions}
use Rattle.cert_step.specs.ProofProblem as problem
use Rattle.cert_step.specs.ProofProblem.{ProofProblem, IsWellMadeProblem}
use Rattle.cert_step.specs.ProofStep as step
use Rattle.cert_step.specs.ProofStep.{ProofStep}
use Rattle.cert_step.specs.OnPairs.{on_pairs, problem_if_any}
use Rattle.cert_step.specs.PolyKind.{poly_comparing}
use Rattle.cert_step.specs.LpoKind.{lpo_comparing}
use Rattle.cert_step.specs.KboKind.{kbo_comparing}
use Rattle.cert_step.specs.GraphKind.{IsGraphItem, group_problems}
use Rattle.cert_step.specs.Applies.{Applies}
use Rattle.strategies.specs.declared.strategy.Strategy.{Strategy}
use Rattle.strategies.specs.Rows.{FindsGraph}
use Rattle.strategies.specs.Conditions.{Finds, dp_is_found, graph_is_found, subterm_is_found, poly_is_found, lpo_is_found, kbo_is_found, usable_is_found, loop_is_found, parallel_is_found, strong_is_found, label_is_found, newman_is_found, fork_is_found, confluence_is_found, newman_confluence_is_found, split_is_found}
use Rattle.strategies.specs.TaskBounds.{pairs_in, tasks_below, tasks_of_all}
use Rattle.strategies.proofs.GraphMade.{items_made}

-- ---- pairs are removed

past : {flags : List Bool} → In true (false ∷ flags) → In true flags
past i = elim (in_or i) [ inl e ↦ absurd cc | inr j ↦ j ]

unflagged_le : (xs : List ℕ) (flags : List Bool) → length (unflagged xs flags) ≤ length xs
unflagged_le [] flags = omega arith
unflagged_le (x ∷ xs) [] = omega arith
unflagged_le (x ∷ xs) (true ∷ flags) = omega (arith, unflagged_le xs flags)
unflagged_le (x ∷ xs) (false ∷ flags) = omega (arith, unflagged_le xs flags)

fewer : (xs : List ℕ) (flags : List Bool) → length flags ≤ length xs → In true flags → length (unflagged xs flags) < length xs
fewer [] [] le i = absurd (no_in i)
fewer [] (b ∷ flags) le i = absurd (omega (arith, le))
fewer (x ∷ xs) [] le i = absurd (no_in i)
fewer (x ∷ xs) (true ∷ flags) le i = omega (arith, unflagged_le xs flags)
fewer (x ∷ xs) (false ∷ flags) le i = omega (arith, fewer xs flags (omega (arith, le)) (past i))

zip_le : {A B : Type 0} (xs : List A) (ys : List B) → length (zip xs ys) ≤ length xs
zip_le [] ys = omega arith
zip_le (x ∷ xs) [] = omega arith
zip_le (x ∷ xs) (y ∷ ys) = omega (arith, zip_le xs ys)

subterm_fewer : (all : List DependencyPair) (projection : List (ℕ × ℕ)) (numbers left : List ℕ) → subterm_conditions all projection numbers (Ok left) → length left < length numbers
subterm_fewer all projection numbers _ (goes_on pairs _ t (goes_on _ _ n (goes_on removed _ c (goes_on _ _ (holds i) returned)))) =
    fewer numbers removed (let a = collected_length _ 0 (zip numbers pairs) removed c in let b = zip_le numbers pairs in omega (arith, a, b)) i

order_fewer : (comparing : Comparing) (rules : List RewriteRule) (all : List DependencyPair) (numbers left : List ℕ) → pair_conditions comparing rules all numbers (Ok left) → length left < length numbers
order_fewer comparing rules all numbers _ (goes_on pairs _ t (goes_on _ _ e (goes_on _ _ m (goes_on _ _ w (goes_on removed _ c (goes_on _ _ (holds i) returned)))))) =
    fewer numbers removed (let a = collected_length _ 0 (zip numbers pairs) removed c in let b = zip_le numbers pairs in omega (arith, a, b)) i

usable_fewer : (comparing : Comparing) (rules : List RewriteRule) (all : List DependencyPair) (numbers left : List ℕ) → usable_conditions comparing rules all numbers (Ok left) → length left < length numbers
usable_fewer comparing rules all numbers _ (goes_on pairs _ t (goes_on _ _ u (goes_on _ _ e (goes_on _ _ m (goes_on _ _ w (goes_on removed _ c (goes_on _ _ (holds i) returned))))))) =
    fewer numbers removed (let a = collected_length _ 0 (zip numbers pairs) removed c in let b = zip_le numbers pairs in omega (arith, a, b)) i

if_any_few : (pairs : ℕ) (xs : List ℕ) (n : ℕ) → length xs < n → tasks_of_all pairs (problem_if_any xs) ≤ 12 * (n - 1)
if_any_few pairs [] n lt = omega arith
if_any_few pairs (x ∷ xs) n lt =
    let now : tasks_of_all pairs (problem_if_any (x ∷ xs)) ≡ 6 + 12 * (length (x ∷ xs) - 1) + 0 = refl in
    omega (arith, lt, now)

removal_shrinks : (pairs : ℕ) (conditions : List ℕ → Check (List ℕ)) (numbers : List ℕ) (left : List ProofProblem)
    → ((remain : List ℕ) → conditions numbers (Ok remain) → length remain < length numbers)
    → on_pairs conditions problem_if_any (problem.dp numbers) (Ok left) → tasks_of_all pairs left ≤ tasks_below pairs (problem.dp numbers)
removal_shrinks pairs conditions numbers _ few (goes_on remain _ h returned) = if_any_few pairs remain (length numbers) (few remain h)

-- ---- a problem is split

-- a list without one of its members
remove_one : {x : ℕ} (ys : List ℕ) → In x ys → (rest : List ℕ) × (length ys ≡ suc (length rest)) × ((z : ℕ) → In z ys → z ≢ x → In z rest)
remove_one [] i = elim i [ ]
remove_one (y ∷ ys) in_first = (ys, refl, λ z i ne. elim (in_or i) [ inl e ↦ absurd (ne e) | inr j ↦ j ])
remove_one (y ∷ ys) (in_rest i) =
    let r = remove_one ys i in (
      y ∷ r.0,
      ap suc r.1,
      λ z j ne. elim (in_or j) [ inl e ↦ subst (λ w. In w (y ∷ r.0)) (sym e) in_first | inr k ↦ in_rest (r.2 z k ne) ],
    )

-- members that are each named once are no more than the numbers that were not named before
new_few : (numbers before ms ys : List ℕ) → ((z : ℕ) → In z numbers → (In z before → ⊥) → In z ys) → are_new numbers before ms (Ok tt) → length ms ≤ length ys
new_few numbers before [] ys keep h = omega arith
new_few numbers before (n ∷ ms) ys keep (goes_on _ _ (holds (i, fresh)) h) =
    let r = remove_one ys (keep n i fresh) in
    let rest = new_few numbers (before ++ n ∷ []) ms r.0 (λ z j out. r.2 z (keep z j (λ b. out (in_left (n ∷ []) b)))
    (λ e. out (in_right before (subst (λ w. In w (n ∷ [])) (sym e) in_first)))) h in
    omega (arith, r.1, rest)

in_or_not : (n : ℕ) (xs : List ℕ) → In n xs ⊎ (In n xs → ⊥)
in_or_not n [] = inr (λ i. no_in i)
in_or_not n (x ∷ xs) = dite (ℕ_discrete n x)
    (λ e. inl (subst (λ z. In z (x ∷ xs)) (sym e) in_first))
    (λ ne. elim (in_or_not n xs) [ inl i ↦ inl (in_rest i) | inr none ↦ inr (λ i. elim (in_or i) [ inl e ↦ absurd (ne e) | inr j ↦ none j ]) ])

pub never_missing : (numbers members : List ℕ) → none_is_missing numbers members (Ok tt) → (z : ℕ) → In z numbers → In z members
never_missing numbers members (never h) z i = elim (in_or_not z members) [ inl j ↦ j | inr none ↦ absurd (h z (i, none)) ]

same_head : (x y : ℕ) → (x ≡ y) ⊎ (y < x) → (y ≡ x) ⊎ (x < y) → x ≡ y
same_head x y (inl e) b = e
same_head x y (inr lt) (inl e) = sym e
same_head x y (inr lt) (inr gt) = absurd (omega (arith, lt, gt))

-- numbers that ascend and are the same are so in the same order
pub same_ascending : (xs ys : List ℕ) → Ascends xs → Ascends ys → ((z : ℕ) → In z xs → In z ys) → ((z : ℕ) → In z ys → In z xs) → xs ≡ ys
same_ascending [] [] up_x up_y f g = refl
same_ascending [] (y ∷ ys) up_x up_y f g = absurd (no_in (g y in_first))
same_ascending (x ∷ xs) [] up_x up_y f g = absurd (no_in (f x in_first))
same_ascending (x ∷ xs) (y ∷ ys) (number above_x up_x) (number above_y up_y) f g =
    let head : x ≡ y = same_head x y (elim (in_or (f x in_first)) [ inl e ↦ inl e | inr j ↦ inr (above_y x j) ]) (elim (in_or (g y in_first)) [ inl e ↦ inl e | inr j ↦ inr (above_x y j) ]) in
    let rest : xs ≡ ys = same_ascending xs ys up_x up_y
    (λ z i. elim (in_or (f z (in_rest i))) [ inl e ↦ absurd (let lt = above_x z i in omega (arith, lt, e, head)) | inr j ↦ j ])
    (λ z i. elim (in_or (g z (in_rest i))) [ inl e ↦ absurd (let lt = above_y z i in omega (arith, lt, e, head)) | inr j ↦ j ]) in
    cc

groups_tasks : (pairs : ℕ) (items : List GroupOrSingle) → AllByRecursion IsGraphItem items
    → tasks_of_all pairs (group_problems (groups_of items)) + 6 * length (groups_of items) + 12 * length (singles_of items) ≡ 12 * length (all_members items)
groups_tasks pairs [] made = refl
groups_tasks pairs (group [] ∷ items) made = absurd (made.0.0 refl)
groups_tasks pairs (group (m ∷ ms) ∷ items) made =
    let rest = groups_tasks pairs items made.1 in
    let len : length (all_members (group (m ∷ ms) ∷ items)) ≡ length (m ∷ ms) + length (all_members items) = length-append (m ∷ ms) (all_members items) in
    let now : tasks_of_all pairs (group_problems (groups_of (group (m ∷ ms) ∷ items))) ≡ 6 + 12 * (length (m ∷ ms) - 1) + tasks_of_all pairs (group_problems (groups_of items)) = refl in
    omega (arith, rest, len, now)
groups_tasks pairs (single m ∷ items) made = omega (arith, groups_tasks pairs items made.1)

module _ (pairs : ℕ) (numbers : List ℕ) where
  by_items : (items : List GroupOrSingle) → AllByRecursion IsGraphItem items → length (all_members items) ≤ length numbers
      → ((g : List ℕ) → items ≡ group g ∷ [] → ⊥) → tasks_of_all pairs (group_problems (groups_of items)) ≤ 12 * (length numbers - 1)
  by_items [] made few one = omega arith
  by_items (group g ∷ []) made few one = absurd (one g refl)
  by_items (single m ∷ items) made few one = let t = groups_tasks pairs (single m ∷ items) made in omega (arith, t, few)
  by_items (group g ∷ group f ∷ items) made few one = let t = groups_tasks pairs (group g ∷ group f ∷ items) made in omega (arith, t, few)
  by_items (group g ∷ single m ∷ items) made few one = let t = groups_tasks pairs (group g ∷ single m ∷ items) made in omega (arith, t, few)

module _ (system : System) (numbers : List ℕ) (up : IsStrictlyIncreasing numbers) (items : List GroupOrSingle) (found : FindsGraph system numbers items) where
  -- the components are not one group
  no_one_group : (g : List ℕ) → items ≡ group g ∷ [] → ⊥
  no_one_group g e = found.split (e ∙ ap (λ l. group l ∷ []) same)
    where
      members : all_members items ≡ g ++ []
      members = ap all_members e

      same : g ≡ numbers
      same =
          let c = found.components.components (group g) (subst (In (group g)) (sym e) in_first) in
          let (m, cycle, each) = c.1 in
          same_ascending g numbers (ascends_of g c.0) (ascends_of numbers up) (λ z i. ((each z).0 i).0)
          (λ z i. elim (in_either g [] (subst (In z) members (never_missing numbers (all_members items) found.components.whole z i))) [ inl j ↦ j | inr none ↦ absurd (no_in none) ])

  graph_shrinks : tasks_of_all (pairs_in system) (group_problems (groups_of items)) ≤ 12 * (length numbers - 1)
  graph_shrinks =
      by_items (pairs_in system) numbers items (items_made system.rules (dependency_pairs system.rules) numbers items found.components.components)
      (new_few numbers [] (all_members items) numbers (λ z i out. i) found.components.named) no_one_group

graph_left : (system : System) (numbers : List ℕ) (items : List GroupOrSingle) (left : List ProofProblem) → Applies system (problem.dp numbers) (step.graph items) left
    → left ≡ group_problems (groups_of items)
graph_left system numbers items _ (goes_on _ _ _ (goes_on _ _ (goes_on _ _ _ (goes_on _ _ _ (goes_on _ _ _ (goes_on _ _ _ returned)))) returned)) = refl

-- ---- each row

-- the problems that are left by a found step give no more tasks than stand below its problem
pub found_shrinks : (system : System) (budget : ℕ) (strategy : Strategy) (p : ProofProblem) (s : ProofStep) (left : List ProofProblem)
    → IsWellMadeProblem system p → Finds system budget strategy p s → Applies system p s left
    → tasks_of_all (pairs_in system) left ≤ tasks_below (pairs_in system) p
found_shrinks system budget _ _ _ _ well dp_is_found (goes_on _ _ _ returned) =
    let all = numbers_from 0 (dependency_pairs system.rules) in
    let e : length all ≡ pairs_in system = as_many_numbers 0 (dependency_pairs system.rules) in
    let now : tasks_of_all (pairs_in system) (problem.dp all ∷ []) ≡ 6 + 12 * (length all - 1) + 0 = refl in
    omega (arith, e, now)
found_shrinks system budget _ _ _ left well (graph_is_found {numbers = numbers} {items = items} f) applies =
    subst (λ l. tasks_of_all (pairs_in system) l ≤ 12 * (length numbers - 1)) (sym (graph_left system numbers items left applies)) (graph_shrinks system numbers well.0 items f)
found_shrinks system budget _ _ _ left well (subterm_is_found {numbers = numbers} {projection = projection} f) (goes_on _ _ _ h) =
    removal_shrinks (pairs_in system) (λ ns. subterm_conditions (dependency_pairs system.rules) projection ns) numbers left
    (λ remain c. subterm_fewer (dependency_pairs system.rules) projection numbers remain c) h
found_shrinks system budget _ _ _ left well (poly_is_found {numbers = numbers} {entries = entries} f) (goes_on _ _ _ h) =
    removal_shrinks (pairs_in system) (λ ns. pair_conditions (poly_comparing entries) system.rules (dependency_pairs system.rules) ns) numbers left
    (λ remain c. order_fewer (poly_comparing entries) system.rules (dependency_pairs system.rules) numbers remain c) h
found_shrinks system budget _ _ _ left well (lpo_is_found {numbers = numbers} {entries = entries} f) (goes_on _ _ _ h) =
    removal_shrinks (pairs_in system) (λ ns. pair_conditions (lpo_comparing entries) system.rules (dependency_pairs system.rules) ns) numbers left
    (λ remain c. order_fewer (lpo_comparing entries) system.rules (dependency_pairs system.rules) numbers remain c) h
found_shrinks system budget _ _ _ left well (kbo_is_found {numbers = numbers} {entries = entries} f) (goes_on _ _ _ h) =
    removal_shrinks (pairs_in system) (λ ns. pair_conditions (kbo_comparing entries) system.rules (dependency_pairs system.rules) ns) numbers left
    (λ remain c. order_fewer (kbo_comparing entries) system.rules (dependency_pairs system.rules) numbers remain c) h
found_shrinks system budget _ _ _ left well (usable_is_found {numbers = numbers} {entries = entries} f) (goes_on _ _ _ h) =
    removal_shrinks (pairs_in system) (λ ns. usable_conditions (poly_comparing entries) system.rules (dependency_pairs system.rules) ns) numbers left
    (λ remain c. usable_fewer (poly_comparing entries) system.rules (dependency_pairs system.rules) numbers remain c) h
found_shrinks system budget _ _ _ _ well (loop_is_found f) (goes_on _ _ _ (goes_on _ _ _ returned)) = omega arith
found_shrinks system budget _ _ _ _ well (parallel_is_found f) (goes_on _ _ _ (goes_on _ _ _ returned)) = omega arith
found_shrinks system budget _ _ _ _ well (strong_is_found f) (goes_on _ _ _ (goes_on _ _ _ returned)) = omega arith
found_shrinks system budget _ _ _ _ well (label_is_found f) (goes_on _ _ _ (goes_on _ _ _ returned)) = omega arith
found_shrinks system budget _ _ _ _ well (newman_is_found f) (goes_on _ _ _ (goes_on _ _ _ returned)) =
    let now : tasks_of_all (pairs_in system) (problem.sn ∷ []) ≡ 1 + (6 + 12 * (pairs_in system - 1)) + 0 = refl in omega (arith, now)
found_shrinks system budget _ _ _ _ well (fork_is_found f) (goes_on _ _ _ (goes_on _ _ _ returned)) = omega arith
found_shrinks system budget _ _ _ _ well confluence_is_found (goes_on _ _ _ returned) = omega arith
found_shrinks system budget _ _ _ _ well newman_confluence_is_found (goes_on _ _ _ returned) =
    let now : tasks_of_all (pairs_in system) (problem.cr_newman ∷ []) ≡ 1 + (7 + 12 * (pairs_in system - 1)) + 0 = refl in omega (arith, now)
found_shrinks system budget _ _ _ _ well (split_is_found f) (goes_on _ _ _ (goes_on _ _ _ returned)) = omega arith

-- a system within the limits has few pairs
pub few_pairs_in : (system : System) → IsValid system → pairs_in system ≤ 65536
few_pairs_in system valid =
    let same : length (placed_pairs system.rules) ≡ length (dependency_pairs system.rules) =
    paired_length (IsPairAt system.rules) (placed_pairs system.rules) (dependency_pairs system.rules) (pairs_placed system valid.is_system) in
    let few = few_pairs system.rules in
    let nodes = valid.within_limits.nodes in
    omega (arith, same, few, nodes)
