-- What is found for the pairs of a problem is found for the problem.
use Rattle.std.specs.Prelude.{◌≡◌, ◌<◌, ◌≤◌, ℕ, ◌+◌, ◌^◌, List, ◌++◌, length, map, All, get_or, Result, Ok, Err, IfOk}
use Rattle.std.specs.List.Sorted.{IsStrictlyIncreasing}
use Rattle.std.proofs.Common.{refl, sym, ap, subst, arith, ◌∙◌}
use Rattle.std.proofs.lemmas.List.{length-map}
use Rattle.std.proofs.lemmas.Option.{slice_get-get_or}
use Rattle.trs_defs.specs.Member.{In}
use Rattle.trs_defs.proofs.Members.{in_of_get}
use Rattle.trs_defs.specs.System.{RewriteRule, System, IsSystem}
use Rattle.pair_theory.specs.DependencyPair.{DependencyPair, dependency_pairs}
use Rattle.pair_theory.specs.PairProblem.{IsPair}
use Rattle.pair_theory.specs.ReductionPair.{marked_rule}
use Rattle.assign_search.specs.declared.search.Search.{Search}
use Rattle.assign_search.specs.declared.search.Search.TheVariants.{Found, NotThere, Spent, Stopped}
use Rattle.dp_core.specs.Markable.{IsMarkable}
use Rattle.dp_core.specs.Numbered.{ArePairsOf}
use Rattle.dp_core.specs.Symbols.{symbols_of_rules}
use Rattle.dp_core.specs.SubtermConditions.{roots_of}
use Rattle.dp_core.proofs.OrderConclusions.{root_listed}
use Rattle.dp_core.proofs.Conclusions.{each_in}
use Rattle.order_search.specs.Slots.{Table, puzzle_of}
use Rattle.order_search.specs.Outcome.{IsFinding, IsNotThere, IsSpent}
use Rattle.order_search.proofs.FewPairs.{few_taken, roots_small}
use Rattle.order_search.specs.OrderSpace.{AreCovered}
use Rattle.order_search.specs.OrderRow.{AreSymbols, AreOfOrder, FindsOrder, FailsOrder}
use Rattle.order_search.specs.OrderOver.{SearchOver, search_of, IsOrderOver}
use Rattle.order_search.specs.Distinct.{AreDistinct}
use Rattle.order_search.specs.OrderProblem.{IsOrderProblem, IsSearchable}
use Rattle.order_search.proofs.Covered.{all_covered, few_symbols, plain_small}
use Rattle.order_search.proofs.LowSymbols.{low_symbols}
use Rattle.order_search.proofs.Repeats.{symbols_distinct}

module _ (system : System) (valid : IsSystem system) (few : length system.arities ≤ 4095)
    (good : (p : DependencyPair) → In p (dependency_pairs system.rules) → IsPair system.arities p)
    (numbers : List ℕ) (all taken : List DependencyPair) (of : all ≡ dependency_pairs system.rules) (are : ArePairsOf all numbers taken) where
  pub are_of : ArePairsOf (dependency_pairs system.rules) numbers taken
  are_of = subst (λ (l : List DependencyPair). ArePairsOf l numbers taken) of are

  pub from_all : (p : DependencyPair) → In p taken → In p (dependency_pairs system.rules)
  from_all p i = each_in (dependency_pairs system.rules) numbers taken are_of p i

  pub small_root : (f : ℕ) → In f (roots_of taken) → f < 4096
  small_root f i = roots_small system.arities few taken (λ p j. good p (from_all p j)) f i

  pub small_roots : (listed : List DependencyPair) → listed ≡ taken → (f : ℕ) → In f (roots_of listed) → f < 4096
  small_roots listed same f i = small_root f (subst (λ (l : List DependencyPair). In f (roots_of l)) same i)

  one_markable : (p : DependencyPair) → In p taken → IsMarkable p
  one_markable p i = let roots = root_listed taken p i in record { from = small_root p.from.symbol roots.0; to = small_root p.to.symbol roots.1 }

  pub all_markable : (listed : List DependencyPair) → listed ≡ taken → All IsMarkable listed
  all_markable listed same =
      subst (λ (l : List DependencyPair). All IsMarkable l) (sym same)
      (λ k d within. one_markable (get_or taken k d) (in_of_get taken k (get_or taken k d) (slice_get-get_or taken k d within)))

  module _ (listed : List DependencyPair) (same : listed ≡ taken) (rules : List RewriteRule) (rules_are : rules ≡ system.rules) (symbols items : List ℕ) (is : symbols ≡ items)
      (given : AreSymbols (symbols_of_rules rules) listed items) where
    pub are_symbols : AreSymbols (symbols_of_rules system.rules) taken symbols
    are_symbols =
        subst (λ (l : List RewriteRule). AreSymbols (symbols_of_rules l) taken symbols) rules_are
        (subst (λ (l : List DependencyPair). AreSymbols (symbols_of_rules rules) l symbols) same
        (subst (λ (l : List ℕ). AreSymbols (symbols_of_rules rules) listed l) (sym is) given))

    pub distinct : AreDistinct symbols
    distinct = symbols_distinct (symbols_of_rules system.rules) taken symbols (plain_small system valid few taken small_root symbols are_symbols) are_symbols

    pub few_of_problem : length symbols ≤ 8192
    few_of_problem = few_symbols system valid few taken small_root symbols are_symbols

    module _ (pairs marked : List RewriteRule) (pairs_are : pairs ≡ marked) (marked_are : marked ≡ map marked_rule listed) where
      of_taken : pairs ≡ map marked_rule taken
      of_taken = pairs_are ∙ (marked_are ∙ ap (λ (l : List DependencyPair). map marked_rule l) same)

      pub covered : AreCovered symbols (rules ++ pairs)
      covered =
          subst (λ (l : List RewriteRule). AreCovered symbols (l ++ pairs)) (sym rules_are)
          (subst (λ (l : List RewriteRule). AreCovered symbols (system.rules ++ l)) (sym of_taken) (all_covered system valid taken from_all symbols are_symbols))

      pub few_falling : length system.rules ≤ 4095 → length (dependency_pairs system.rules) ≤ 65536 → IsStrictlyIncreasing numbers
          → All (λ n. n < length (dependency_pairs system.rules)) numbers → length rules + length pairs + 1 < 2 ^ 31
      few_falling few_rules few_all up within =
          let few_pairs = few_taken (dependency_pairs system.rules) numbers taken taken 65536 up within are_of refl few_all in
          let a : length rules ≡ length system.rules = ap length rules_are in
          let b : length pairs ≡ length (map marked_rule taken) = ap length of_taken in
          let c = length-map taken marked_rule in
          omega (arith, few_rules, few_pairs, a, b, c)

      pub is_order_problem : (arities : List ℕ) → arities ≡ system.arities → IsOrderProblem system numbers arities symbols rules pairs
      is_order_problem arities arities_are = record {
        pairs = taken;
        of_problem = record { taken = are_of; are_symbols = are_symbols };
        arities_are = arities_are;
        rules_are = rules_are;
        marked_are = of_taken;
      }

      pub searchable : length system.rules ≤ 4095 → length (dependency_pairs system.rules) ≤ 65536 → IsStrictlyIncreasing numbers
          → All (λ n. n < length (dependency_pairs system.rules)) numbers → IsSearchable symbols rules pairs
      searchable few_rules few_all up within = record {
        distinct = distinct;
        covered = covered;
        small_symbols = low_symbols (symbols_of_rules system.rules) taken symbols (plain_small system valid few taken small_root symbols are_symbols) small_root are_symbols;
        few_symbols = few_of_problem;
        few_falling = few_falling few_rules few_all up within;
      }

-- the same lists
pub searchable_as : (symbols items : List ℕ) (falling rules pairs marked : List RewriteRule) → symbols ≡ items → falling ≡ rules → pairs ≡ marked
    → IsSearchable items rules marked → IsSearchable symbols falling pairs
searchable_as symbols items falling rules pairs marked symbols_are falling_are pairs_are h =
    subst (λ (l : List ℕ). IsSearchable l falling pairs) (sym symbols_are)
    (subst (λ (l : List RewriteRule). IsSearchable items l pairs) (sym falling_are) (subst (λ (l : List RewriteRule). IsSearchable items rules l) (sym pairs_are) h))

module _ {Entry Answer : Type 0} (over : SearchOver) (entry : List ℕ → Table → ℕ → Entry) (entries : Answer → List Entry) (budget : ℕ) (rose : Type 0) where
  -- over these symbols, rules and marked pairs
  abbrev Answered : {E : Type 0} → List ℕ → List ℕ → List RewriteRule → List RewriteRule → Result (Search Answer) E → Type 0
  Answered arities symbols rules pairs result =
      IfOk result (IsFinding (λ order. IsOrderOver (entry arities) (over arities symbols rules pairs) budget symbols (entries order))
      (IsNotThere budget (puzzle_of (over arities symbols rules pairs))) (IsSpent budget (puzzle_of (over arities symbols rules pairs))) rose)

  -- for the problem
  abbrev FoundFor : {E : Type 0} → System → List ℕ → Result (Search Answer) E → Type 0
  FoundFor system numbers result =
      IfOk result (IsFinding (λ order. FindsOrder system numbers (search_of over system) (entry system.arities) budget (entries order))
      (FailsOrder system numbers (search_of over system) (IsNotThere budget)) (FailsOrder system numbers (search_of over system) (IsSpent budget)) rose)

  module _ (system : System) (numbers : List ℕ) (taken : List DependencyPair) (symbols : List ℕ) (of_problem : AreOfOrder system numbers taken symbols) where
    found_here : {E : Type 0} (result : Result (Search Answer) E) → Answered system.arities symbols system.rules (map marked_rule taken) result → FoundFor system numbers result
    found_here (Err e) h = h
    found_here (Ok (Found order)) h = record { pairs = taken; symbols = symbols; of_problem = of_problem; values = h.values; first = h.first; are = h.are }
    found_here (Ok NotThere) h = record { pairs = taken; symbols = symbols; of_problem = of_problem; fails = h }
    found_here (Ok Spent) h = record { pairs = taken; symbols = symbols; of_problem = of_problem; fails = h }
    found_here (Ok Stopped) h = h

  -- what is found over what is looked for in the problem
  pub found_of_problem : {E : Type 0} (system : System) (numbers arities symbols items : List ℕ) (falling rules pairs marked : List RewriteRule) (result : Result (Search Answer) E)
      → symbols ≡ items → falling ≡ rules → pairs ≡ marked → IsOrderProblem system numbers arities items rules marked
      → Answered arities symbols falling pairs result → FoundFor system numbers result
  found_of_problem system numbers arities symbols items falling rules pairs marked result symbols_are falling_are pairs_are is h =
      found_here system numbers is.pairs items is.of_problem result
      (subst (λ (l : List RewriteRule). Answered system.arities items system.rules l result) (pairs_are ∙ is.marked_are)
      (subst (λ (l : List RewriteRule). Answered system.arities items l pairs result) (falling_are ∙ is.rules_are)
      (subst (λ (l : List ℕ). Answered system.arities l falling pairs result) symbols_are
      (subst (λ (l : List ℕ). Answered l symbols falling pairs result) is.arities_are h))))
