-- What a step by an order concludes.
use Rattle.std.specs.Prelude.{◌≡◌, ℕ, ◌+◌, ◌⊎◌, Bool, true, false, List, [], ◌∷◌, ◌++◌, length, zip, Option, Some, None, Ok, slice_get}
use Rattle.std.specs.Option.{option_and_then}
use Rattle.std.proofs.Common.{zero, suc, inl, inr, refl, sym, subst, ◌∙◌}
use Rattle.trs_defs.specs.Member.{In, in_first, in_rest}
use Rattle.trs_defs.proofs.Members.{in_or, no_in, in_left, in_right, in_of_get}
use Rattle.trs_defs.specs.Tree.{Tree, Trees, var, app, nil, cons, items}
use Rattle.trs_defs.specs.Position.{subterm_at, argument_at}
use Rattle.trs_defs.specs.System.{RewriteRule, System, IsSystem}
use Rattle.trs_defs.specs.Path.{PlacedRule}
use Rattle.pair_theory.specs.Erased.{HasEntries, HaveEntries}
use Rattle.pair_theory.specs.Marked.{plain, mark}
use Rattle.pair_theory.specs.DependencyPair.{DependencyPair, dependency_pairs}
use Rattle.pair_theory.specs.PairProblem.{IsFiniteProblem, IsPair}
use Rattle.pair_theory.specs.ReductionPair.{marked_rule}
use Rattle.pair_order.specs.Spoken.{HasSideEntries}
use Rattle.rewrite_core.specs.Check.{Check, never, goes_on, holds, returned, yes_it_does, no_it_does_not, each}
use Rattle.rewrite_core.proofs.CheckLaws.{once}
use Rattle.dp_core.specs.Numbered.{ArePairsOf, taken, numbers_from}
use Rattle.dp_core.specs.Symbols.{symbols_of, symbols_of_all, symbols_of_rules}
use Rattle.dp_core.specs.SubtermConditions.{roots_of, unflagged}
use Rattle.dp_core.specs.PairConditions.{Comparing, rule_is_weak, pair_is_weak, removal_conditions}
use Rattle.dp_core.specs.PlacedPairs.{placed_pairs, IsPairAt}
use Rattle.dp_core.specs.Laws.{IsFiniteOf, Remain, PairStepsConclude, PairStepsAnswerOnce, PairStepsLeaveNumbers}
use Rattle.dp_core.proofs.Comparisons.{is_above}
use Rattle.dp_core.proofs.NumberedPairs.{as_many}
use Rattle.dp_core.proofs.PlacedLaws.{Paired, pairs_placed}
use Rattle.dp_core.proofs.Conclusions.{takes_pairs_once, same_pairs, each_in}
use Rattle.dp_core.proofs.Removed.{each_stays_or_goes, pairs_left, numbers_remain}

-- ---- where the conditions hold

unless_false : (b : Bool) → (b ≡ false → ⊥) → b ≡ true
unless_false true h = refl
unless_false false h = absurd (h refl)

each_holds : {A : Type 0} (check : A → Check (Unit {0})) (n : ℕ) (xs : List A) → each (λ _ x. check x) n xs (Ok tt) → (x : A) → In x xs → check x (Ok tt)
each_holds check n [] h x i = absurd (no_in i)
each_holds check n (y ∷ ys) (goes_on _ _ h k) x i = elim (in_or i) [ inl same ↦ subst (λ z. check z (Ok tt)) (sym same) h | inr later ↦ each_holds check (n + 1) ys k x later ]

-- the symbols have entries, the rules are weak, and each pair stays and is weak or is strict
pub record IsRemoval (comparing : Comparing) (symbols : List ℕ) (weak_rules : List (ℕ × RewriteRule)) (numbers : List ℕ) (pairs : List DependencyPair) (left : List ℕ) : Type 0 where
  pub flags : List Bool
  pub left_are : left ≡ unflagged numbers flags
  pub entries : (f : ℕ) → In f symbols → comparing.has_entry f ≡ true
  pub marked_entries : (f : ℕ) → In f (roots_of pairs) → comparing.has_entry (f + 4096) ≡ true
  pub rules_weak : (k : ℕ) (r : RewriteRule) → In (k, r) weak_rules → comparing.weak r.left r.right
  pub falls : (p : DependencyPair) → In p pairs
      → (In p (unflagged pairs flags) × comparing.weak (mark p.from) (mark p.to)) ⊎ comparing.strict (mark p.from) (mark p.to)

module _ (comparing : Comparing) where
  one_class : (rules n : ℕ) (p : DependencyPair) (flag : Bool) → pair_is_weak comparing rules n p (Ok flag)
      → ((flag ≡ false) × comparing.weak (mark p.from) (mark p.to)) ⊎ comparing.strict (mark p.from) (mark p.to)
  one_class rules n p _ (goes_on _ _ weak (yes_it_does strict)) = inr strict
  one_class rules n p _ (goes_on _ _ weak (no_it_does_not none)) = inl (refl, is_above comparing (mark p.from) (mark p.to) _ _ weak)

  pub removal_met : (symbols : List ℕ) (weak_rules : List (ℕ × RewriteRule)) (rules : ℕ) (numbers : List ℕ) (pairs : List DependencyPair) (left : List ℕ)
      → length pairs ≡ length numbers → removal_conditions comparing symbols weak_rules rules numbers pairs (Ok left)
      → IsRemoval comparing symbols weak_rules numbers pairs left
  removal_met symbols weak_rules rules numbers pairs _ same (goes_on _ _ (never entries) (goes_on _ _ (never marks) (goes_on _ _ weak (goes_on flags _ strict (goes_on _ _ (holds some) returned))))) = record {
    flags = flags;
    left_are = refl;
    entries = λ f i. unless_false (comparing.has_entry f) (λ e. entries f (i, e));
    marked_entries = λ f i. unless_false (comparing.has_entry (f + 4096)) (λ e. marks f (i, e));
    rules_weak = λ k r i. is_above comparing r.left r.right _ _ (each_holds (λ item. rule_is_weak comparing item.0 item.1) 0 weak_rules weak (k, r) i);
    falls = each_stays_or_goes (pair_is_weak comparing rules) (λ p. comparing.weak (mark p.from) (mark p.to)) (λ p. comparing.strict (mark p.from) (mark p.to))
        (one_class rules) 0 numbers pairs flags same strict;
  }

  pub removal_leaves : (symbols : List ℕ) (weak_rules : List (ℕ × RewriteRule)) (rules : ℕ) (numbers : List ℕ) (pairs : List DependencyPair) (left : List ℕ)
      → length pairs ≡ length numbers → removal_conditions comparing symbols weak_rules rules numbers pairs (Ok left) → Remain numbers left
  removal_leaves symbols weak_rules rules numbers pairs left same h =
      let m = removal_met symbols weak_rules rules numbers pairs left same h in
      subst (Remain numbers) (sym m.left_are) (numbers_remain numbers m.flags)

  -- what is left is finite, and so is the problem, if those pairs suffice
  pub removal_concludes : (system : System) (symbols : List ℕ) (weak_rules : List (ℕ × RewriteRule)) (numbers : List ℕ) (pairs : List DependencyPair) (left : List ℕ)
      → ArePairsOf (dependency_pairs system.rules) numbers pairs → (m : IsRemoval comparing symbols weak_rules numbers pairs left)
      → (IsFiniteProblem system (unflagged pairs m.flags) → IsFiniteProblem system pairs) → IsFiniteOf system left → IsFiniteOf system numbers
  removal_concludes system symbols weak_rules numbers pairs left are m suffice finite others are_others =
      let all = dependency_pairs system.rules in
      let same : pairs ≡ others = same_pairs pairs others (sym are ∙ are_others) in
      let remain : IsFiniteOf system (unflagged numbers m.flags) = subst (IsFiniteOf system) m.left_are finite in
      subst (IsFiniteProblem system) same (suffice (remain (unflagged pairs m.flags) (pairs_left all numbers pairs m.flags are)))

-- ---- entries of terms

module _ (has : ℕ → Bool) where
  mutual
    pub symbols_have : (t : Tree) → ((f : ℕ) → In f (symbols_of t) → has f ≡ true) → HasEntries has t
    symbols_have (var x) h = tt
    symbols_have (app f ts) h = (h f in_first, all_symbols_have ts (λ g i. h g (in_rest i)))

    pub all_symbols_have : (ts : Trees) → ((f : ℕ) → In f (symbols_of_all ts) → has f ≡ true) → HaveEntries has ts
    all_symbols_have nil h = tt
    all_symbols_have (cons t ts) h =
        (symbols_have t (λ g i. h g (in_left (symbols_of_all ts) i)), all_symbols_have ts (λ g i. h g (in_right (symbols_of t) i)))

pub root_listed : (pairs : List DependencyPair) (p : DependencyPair) → In p pairs → In p.from.symbol (roots_of pairs) × In p.to.symbol (roots_of pairs)
root_listed [] p i = absurd (no_in i)
root_listed (q ∷ pairs) p i = elim (in_or i) [
  | inl same ↦ (subst (λ (z : DependencyPair). In z.from.symbol (roots_of (q ∷ pairs))) (sym same) in_first, subst (λ (z : DependencyPair). In z.to.symbol (roots_of (q ∷ pairs))) (sym same) (in_rest in_first))
  | inr later ↦ let h = root_listed pairs p later in (in_rest (in_rest h.0), in_rest (in_rest h.1))
]

-- ---- the symbols of rules

pub rule_symbols : (rules : List RewriteRule) (r : RewriteRule) → In r rules → (f : ℕ) → In f (symbols_of r.left ++ symbols_of r.right) → In f (symbols_of_rules rules)
rule_symbols [] r i f m = absurd (no_in i)
rule_symbols (rule ∷ rules) r i f m = elim (in_or i) [
  | inl same ↦ in_left (symbols_of_rules rules) (subst (λ (z : RewriteRule). In f (symbols_of z.left ++ symbols_of z.right)) same m)
  | inr later ↦ in_right (symbols_of rule.left ++ symbols_of rule.right) (rule_symbols rules r later f m)
]

pub item_symbols : (ts : Trees) (k : ℕ) (a : Tree) → slice_get (items ts) k ≡ Some a → (f : ℕ) → In f (symbols_of a) → In f (symbols_of_all ts)
item_symbols nil k a e f i = absurd cc
item_symbols (cons t ts) zero a e f i = let same : t ≡ a = cc in in_left (symbols_of_all ts) (subst (λ z. In f (symbols_of z)) (sym same) i)
item_symbols (cons t ts) (suc k) a e f i = in_right (symbols_of t) (item_symbols ts k a e f i)

pub argument_symbols : (t : Tree) (place : ℕ) (a : Tree) → argument_at t place ≡ Some a → (f : ℕ) → In f (symbols_of a) → In f (symbols_of t)
argument_symbols (var x) place a e f i = absurd cc
argument_symbols (app g ts) zero a e f i = absurd cc
argument_symbols (app g ts) (suc k) a e f i = in_rest (item_symbols ts k a e f i)

pub at_place_symbols : (p : List ℕ) (t s : Tree) → subterm_at p t ≡ Some s → (f : ℕ) → In f (symbols_of s) → In f (symbols_of t)
at_place_symbols [] t s e f i = let same : t ≡ s = cc in subst (λ z. In f (symbols_of z)) (sym same) i
at_place_symbols (place ∷ p) t s e f i = go (argument_at t place) refl e (λ a d. at_place_symbols p a s d f i)
  where
    go : (o : Option Tree) → argument_at t place ≡ o → option_and_then (subterm_at p) o ≡ Some s → ((a : Tree) → subterm_at p a ≡ Some s → In f (symbols_of a)) → In f (symbols_of t)
    go None is d below = absurd cc
    go (Some a) is d below = argument_symbols t place a is f (below a d)

pub paired_first : {A B : Type 0} (R : A → B → Type 0) (xs : List A) (ys : List B) → Paired R xs ys → (y : B) → In y ys → (x : A) × R x y
paired_first R [] [] h y i = absurd (no_in i)
paired_first R [] (z ∷ ys) h y i = absurd h
paired_first R (x ∷ xs) [] h y i = absurd h
paired_first R (x ∷ xs) (z ∷ ys) h y i = elim (in_or i) [ inl same ↦ (x, subst (R x) (sym same) h.0) | inr later ↦ paired_first R xs ys h.1 y later ]

module _ (system : System) (valid : IsSystem system) (p : DependencyPair) (i : In p (dependency_pairs system.rules)) where
  of_rule : (s : PlacedRule) × IsPairAt system.rules s p
  of_rule = paired_first (IsPairAt system.rules) (placed_pairs system.rules) (dependency_pairs system.rules) (pairs_placed system valid) p i

  pub from_symbols : (f : ℕ) → In f (symbols_of_all p.from.args) → In f (symbols_of_rules system.rules)
  from_symbols f m =
      let h = of_rule.1 in
      let left : In f (symbols_of h.rule.left) = subst (λ t. In f (symbols_of t)) (sym h.left) (in_rest m) in
      rule_symbols system.rules h.rule (in_of_get system.rules of_rule.0.rule h.rule h.numbered) f (in_left (symbols_of h.rule.right) left)

  pub to_symbols : (f : ℕ) → In f (symbols_of_all p.to.args) → In f (symbols_of_rules system.rules)
  to_symbols f m =
      let h = of_rule.1 in
      let right : In f (symbols_of h.rule.right) = at_place_symbols of_rule.0.place h.rule.right (plain p.to) h.right f (in_rest m) in
      rule_symbols system.rules h.rule (in_of_get system.rules of_rule.0.rule h.rule h.numbered) f (in_right (symbols_of h.rule.left) right)

-- ---- steps where all rules are weak

numbered_in : (rules : List RewriteRule) (n : ℕ) (r : RewriteRule) → In r rules → (k : ℕ) × In (k, r) (zip (numbers_from n rules) rules)
numbered_in [] n r i = absurd (no_in i)
numbered_in (rule ∷ rules) n r i = elim (in_or i) [
  | inl same ↦ (n, subst (λ z. In (n, z) ((n, rule) ∷ zip (numbers_from (n + 1) rules) rules)) (sym same) in_first)
  | inr later ↦ let h = numbered_in rules (n + 1) r later in (h.0, in_rest h.1)
]

-- the theorem on removal of pairs
abbrev pub Suffices : Comparing → (List ℕ → Type 0) → Type 0
Suffices comparing speaks_over =
    (system : System) (pairs stays : List DependencyPair) → IsSystem system → ((p : DependencyPair) → In p pairs → IsPair system.arities p)
    → speaks_over system.arities → ((r : RewriteRule) → In r system.rules → HasSideEntries comparing.has_entry r)
    → ((p : DependencyPair) → In p pairs → HasSideEntries comparing.has_entry (marked_rule p))
    → ((r : RewriteRule) → In r system.rules → comparing.weak r.left r.right)
    → ((p : DependencyPair) → In p pairs → (In p stays × comparing.weak (mark p.from) (mark p.to)) ⊎ comparing.strict (mark p.from) (mark p.to))
    → IsFiniteProblem system stays → IsFiniteProblem system pairs

module _ (comparing : Comparing) where
  pub pair_steps_conclude : (speaks_over : List ℕ → Type 0)
      → ((system : System) → IsSystem system → (p : DependencyPair) → In p (dependency_pairs system.rules) → IsPair system.arities p)
      → Suffices comparing speaks_over → PairStepsConclude comparing speaks_over
  pair_steps_conclude speaks_over good suffices system numbers left valid over (goes_on pairs _ (taken _ are) h) =
      let all = dependency_pairs system.rules in
      let symbols = symbols_of_rules system.rules in
      let weak_rules = zip (numbers_from 0 system.rules) system.rules in
      let m = removal_met comparing symbols weak_rules (length system.rules) numbers pairs left (as_many all numbers pairs are) h in
      let has = comparing.has_entry in
      removal_concludes comparing system symbols weak_rules numbers pairs left are m
      (suffices system pairs (unflagged pairs m.flags) valid (λ p i. good system valid p (each_in all numbers pairs are p i)) over
      (λ r i. record {
        left = symbols_have has r.left (λ f j. m.entries f (rule_symbols system.rules r i f (in_left (symbols_of r.right) j)));
        right = symbols_have has r.right (λ f j. m.entries f (rule_symbols system.rules r i f (in_right (symbols_of r.left) j)));
      })
      (λ p i.
      let roots = root_listed pairs p i in
      let there = each_in all numbers pairs are p i in
      record {
        left = (m.marked_entries p.from.symbol roots.0, all_symbols_have has p.from.args (λ f j. m.entries f (from_symbols system valid p there f j)));
        right = (m.marked_entries p.to.symbol roots.1, all_symbols_have has p.to.args (λ f j. m.entries f (to_symbols system valid p there f j)));
      })
      (λ r i. let n = numbered_in system.rules 0 r i in m.rules_weak n.0 r n.1) m.falls)

  pub pair_steps_once : PairStepsAnswerOnce comparing
  pair_steps_once rules all numbers = search (once, takes_pairs_once) depth 30

  pub pair_steps_leave : PairStepsLeaveNumbers comparing
  pair_steps_leave rules all numbers left (goes_on pairs _ (taken _ are) h) =
      removal_leaves comparing (symbols_of_rules rules) (zip (numbers_from 0 rules) rules) (length rules) numbers pairs left (as_many all numbers pairs are) h
