-- An order by whose tests the rules and marked pairs fall meets the conditions of a step that removes pairs.
use Rattle.std.specs.Prelude.{◌≡◌, ℕ, ◌+◌, Bool, true, false, ◌||◌, List, [], ◌∷◌, ◌++◌, length, map, zip, Ok}
use Rattle.std.proofs.Common.{sym, ap, subst, arith, ◌∙◌, inl, inr}
use Rattle.trs_defs.specs.Member.{In, in_first, in_rest}
use Rattle.trs_defs.proofs.Members.{in_left, in_right, in_map}
use Rattle.trs_defs.specs.Tree.{Tree}
use Rattle.trs_defs.specs.System.{RewriteRule, System}
use Rattle.pair_theory.specs.Marked.{mark}
use Rattle.pair_theory.specs.DependencyPair.{DependencyPair, dependency_pairs}
use Rattle.pair_theory.specs.ReductionPair.{marked_rule}
use Rattle.rewrite_core.specs.Check.{Asks, returned, goes_on, holds, absent, never, each, collect}
use Rattle.dp_core.specs.Numbered.{ArePairsOf, taken, numbers_from}
use Rattle.dp_core.specs.Symbols.{symbols_of_rules}
use Rattle.dp_core.specs.SubtermConditions.{roots_of, unflagged}
use Rattle.dp_core.specs.PairConditions.{Comparing, rule_is_weak, pair_is_weak, removal_conditions, pair_conditions}
use Rattle.dp_core.proofs.NumberedPairs.{as_many}
use Rattle.assign_search.proofs.Refuting.{true_or_false}
use Rattle.order_search.specs.OrderSpace.{some_falls}

-- what a comparison by tests has to say of the order's
pub record Tests (comparing : Comparing) (weak strict : Tree → Tree → Bool) : Type 0 where
  pub fits : (s t : Tree) → weak s t ≡ true → comparing.is_too_big s t → ⊥
  pub is_weak : (s t : Tree) → weak s t ≡ true → comparing.weak s t
  pub asked : (s t : Tree) → weak s t ≡ true → Asks (comparing.strict s t) (Ok (strict s t))

module _ (comparing : Comparing) (weak strict : Tree → Tree → Bool) (tests : Tests comparing weak strict) where
  -- whether the pair falls strictly
  abbrev falls_strictly : DependencyPair → Bool
  falls_strictly p = strict (mark p.from) (mark p.to)

  abbrev flags : List DependencyPair → List Bool
  flags ps = map falls_strictly ps

  each_weak : (k : ℕ) (numbers : List ℕ) (rules : List RewriteRule) → ((r : RewriteRule) → In r rules → weak r.left r.right ≡ true)
      → each (λ _ item. rule_is_weak comparing item.0 item.1) k (zip numbers rules) (Ok tt)
  each_weak k [] rules fall = returned
  each_weak k (n ∷ numbers) [] fall = returned
  each_weak k (n ∷ numbers) (r ∷ rules) fall =
      goes_on tt _ (goes_on tt _ (absent (tests.fits r.left r.right (fall r in_first))) (holds (tests.is_weak r.left r.right (fall r in_first))))
      (each_weak (k + 1) numbers rules (λ q i. fall q (in_rest i)))

  all_pairs : (k rules : ℕ) (ns : List ℕ) (ps : List DependencyPair) → length ps ≡ length ns
      → ((p : DependencyPair) → In p ps → weak (mark p.from) (mark p.to) ≡ true)
      → collect (λ _ item. pair_is_weak comparing rules item.0 item.1) k (zip ns ps) (Ok (flags ps))
  all_pairs k rules [] [] e fall = returned
  all_pairs k rules [] (p ∷ ps) e fall = absurd (omega (arith, e))
  all_pairs k rules (n ∷ ns) [] e fall = absurd (omega (arith, e))
  all_pairs k rules (n ∷ ns) (p ∷ ps) e fall =
      goes_on _ _
      (goes_on tt _
      (goes_on tt _ (absent (tests.fits (mark p.from) (mark p.to) (fall p in_first))) (holds (tests.is_weak (mark p.from) (mark p.to) (fall p in_first))))
      (tests.asked (mark p.from) (mark p.to) (fall p in_first)))
      (goes_on (flags ps) _ (all_pairs (k + 1) rules ns ps (omega (arith, e)) (λ q i. fall q (in_rest i))) returned)

  some_flag : (ps : List DependencyPair) → some_falls strict (map marked_rule ps) ≡ true → In true (flags ps)
  some_flag [] e = absurd cc
  some_flag (p ∷ ps) e = elim (true_or_false (falls_strictly p)) [
    | inl set ↦ subst (λ b. In true (b ∷ flags ps)) (sym set) in_first
    | inr unset ↦ in_rest (some_flag ps (sym (ap (λ b. b || some_falls strict (map marked_rule ps)) unset) ∙ e))
  ]

  lacks_none : (f : ℕ) → comparing.has_entry f ≡ true → comparing.has_entry f ≡ false → ⊥
  lacks_none f there missing = absurd cc

  -- of so many rules these, which have to be weak, and pairs that have to be weak or strict
  pub removal_applies : (symbols weak_numbers : List ℕ) (weak_rules : List RewriteRule) (many : ℕ) (numbers : List ℕ) (pairs : List DependencyPair) → length pairs ≡ length numbers
      → ((f : ℕ) → In f symbols → comparing.has_entry f ≡ true)
      → ((f : ℕ) → In f (roots_of pairs) → comparing.has_entry (f + 4096) ≡ true)
      → ((r : RewriteRule) → In r (weak_rules ++ map marked_rule pairs) → weak r.left r.right ≡ true)
      → some_falls strict (map marked_rule pairs) ≡ true
      → removal_conditions comparing symbols (zip weak_numbers weak_rules) many numbers pairs (Ok (unflagged numbers (flags pairs)))
  removal_applies symbols weak_numbers weak_rules many numbers pairs as_long plain roots fall some =
      goes_on tt _ (never (λ f (i, e). lacks_none f (plain f i) e))
      (goes_on tt _ (never (λ f (i, e). lacks_none (f + 4096) (roots f i) e))
      (goes_on tt _ (each_weak 0 weak_numbers weak_rules (λ r i. fall r (in_left (map marked_rule pairs) i)))
      (goes_on (flags pairs) _ (all_pairs 0 many numbers pairs as_long (λ p i. fall (marked_rule p) (in_right weak_rules (in_map marked_rule i))))
      (goes_on tt _ (holds (some_flag pairs some)) returned))))

  pub order_applies : (system : System) (numbers : List ℕ) (pairs : List DependencyPair) → ArePairsOf (dependency_pairs system.rules) numbers pairs
      → ((f : ℕ) → In f (symbols_of_rules system.rules) → comparing.has_entry f ≡ true)
      → ((f : ℕ) → In f (roots_of pairs) → comparing.has_entry (f + 4096) ≡ true)
      → ((r : RewriteRule) → In r (system.rules ++ map marked_rule pairs) → weak r.left r.right ≡ true)
      → some_falls strict (map marked_rule pairs) ≡ true
      → pair_conditions comparing system.rules (dependency_pairs system.rules) numbers (Ok (unflagged numbers (flags pairs)))
  order_applies system numbers pairs of plain roots fall some =
      goes_on pairs _ (taken pairs of)
      (removal_applies (symbols_of_rules system.rules) (numbers_from 0 system.rules) system.rules (length system.rules) numbers pairs
      (as_many (dependency_pairs system.rules) numbers pairs of) plain roots fall some)
