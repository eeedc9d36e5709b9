-- The symbols of the rules and of the marked pairs of a problem are those that an order needs values for.
use Rattle.std.specs.Prelude.{◌≡◌, ◌≤◌, ◌<◌, ℕ, ◌+◌, true, ◌||◌, ◌==◌, List, [], ◌∷◌, ◌++◌, length, map, All, get_or}
use Rattle.std.specs.List.Sorted.{IsStrictlyIncreasing}
use Rattle.std.proofs.Common.{inl, inr, refl, sym, ap, subst, arith}
use Rattle.std.proofs.lemmas.List.{length-append, length-map}
use Rattle.trs_defs.specs.Member.{In, in_first, in_rest}
use Rattle.trs_defs.specs.Variable.{is_listed}
use Rattle.trs_defs.proofs.Members.{in_or, no_in, in_left, in_right, in_either, in_map, of_map}
use Rattle.trs_defs.specs.Tree.{Tree, Trees, var, app, nil, cons}
use Rattle.trs_defs.specs.System.{RewriteRule, System, IsSystem}
use Rattle.pair_theory.specs.Marked.{Marked, mark}
use Rattle.pair_theory.specs.DependencyPair.{DependencyPair, dependency_pairs}
use Rattle.pair_theory.specs.ReductionPair.{marked_rule}
use Rattle.assign_search.proofs.Refuting.{or_left, or_right}
use Rattle.dp_core.specs.Symbols.{symbols_of, symbols_of_all, symbols_of_rules}
use Rattle.dp_core.specs.SubtermConditions.{roots_of}
pub use Rattle.dp_core.proofs.SymbolBounds.{symbol_within_all, symbols_within, rule_well}
use Rattle.dp_core.proofs.OrderConclusions.{root_listed, rule_symbols, from_symbols, to_symbols}
use Rattle.order_search.proofs.Tests.{self_test, same_number, either}
use Rattle.order_search.proofs.FewPairs.{length_below}
use Rattle.order_search.proofs.RootSets.{in_at}
use Rattle.order_search.specs.OrderSpace.{occurs_in, occurs_in_some, AreCovered}
use Rattle.order_search.specs.OrderRow.{AreSymbols}

mutual
  pub listed_symbol : (f : ℕ) (t : Tree) → occurs_in f t ≡ true → In f (symbols_of t)
  listed_symbol f (var x) e = absurd cc
  listed_symbol f (app g ts) e = elim (either (g == f) (occurs_in_some f ts) e) [
    | inl same ↦ subst (λ (x : ℕ). In f (x ∷ symbols_of_all ts)) (sym (same_number g f same)) in_first
    | inr below ↦ in_rest (listed_below f ts below)
  ]

  listed_below : (f : ℕ) (ts : Trees) → occurs_in_some f ts ≡ true → In f (symbols_of_all ts)
  listed_below f nil e = absurd cc
  listed_below f (cons t ts) e = elim (either (occurs_in f t) (occurs_in_some f ts) e) [
    | inl here ↦ in_left (symbols_of_all ts) (listed_symbol f t here)
    | inr later ↦ in_right (symbols_of t) (listed_below f ts later)
  ]

-- ---- of rules and pairs

pub listed_of : (f : ℕ) (xs : List ℕ) → In f xs → is_listed f xs ≡ true
listed_of f [] i = absurd (no_in i)
listed_of f (x ∷ xs) i = elim (in_or i) [
  | inl same ↦ or_left (x == f) (is_listed f xs) (subst (λ (y : ℕ). (y == f) ≡ true) same (self_test f))
  | inr later ↦ or_right (x == f) (is_listed f xs) (listed_of f xs later)
]

module _ (unmarked : List ℕ) (pairs : List DependencyPair) (symbols : List ℕ) (are : AreSymbols unmarked pairs symbols) where
  pub plain_symbol : (f : ℕ) → In f unmarked → In f symbols
  plain_symbol f i = subst (λ (l : List ℕ). In f l) (sym are.together) (in_left (map (λ g. g + 4096) are.roots) ((are.are_plain.each f).1 i))

  pub root_symbol : (f : ℕ) → In f (roots_of pairs) → In (f + 4096) symbols
  root_symbol f i = subst (λ (l : List ℕ). In (f + 4096) l) (sym are.together) (in_right are.plain (in_map (λ (g : ℕ). g + 4096) ((are.are_roots.each f).1 i)))

  side_covered : (m : Marked) → In m.symbol (roots_of pairs) → ((f : ℕ) → In f (symbols_of_all m.args) → In f unmarked)
      → (f : ℕ) → In f (symbols_of (mark m)) → In f symbols
  side_covered m root below f i = elim (in_or i) [
    | inl same ↦ subst (λ (x : ℕ). In x symbols) (sym same) (root_symbol m.symbol root)
    | inr later ↦ plain_symbol f (below f later)
  ]

  of_sides : (r : RewriteRule) → ((f : ℕ) → In f (symbols_of r.left) → In f symbols) → ((f : ℕ) → In f (symbols_of r.right) → In f symbols)
      → (f : ℕ) → occurs_in f r.left || occurs_in f r.right ≡ true → is_listed f symbols ≡ true
  of_sides r left right f e = elim (either (occurs_in f r.left) (occurs_in f r.right) e) [
    | inl here ↦ listed_of f symbols (left f (listed_symbol f r.left here))
    | inr there ↦ listed_of f symbols (right f (listed_symbol f r.right there))
  ]

  rule_covered : (r : RewriteRule) → ((f : ℕ) → In f (symbols_of r.left ++ symbols_of r.right) → In f unmarked)
      → (f : ℕ) → occurs_in f r.left || occurs_in f r.right ≡ true → is_listed f symbols ≡ true
  rule_covered r unmarked_in =
      of_sides r (λ f j. plain_symbol f (unmarked_in f (in_left (symbols_of r.right) j)))
      (λ f j. plain_symbol f (unmarked_in f (in_right (symbols_of r.left) j)))

  pair_covered : (p : DependencyPair) → In p pairs → ((f : ℕ) → In f (symbols_of_all p.from.args ++ symbols_of_all p.to.args) → In f unmarked)
      → (f : ℕ) → occurs_in f (mark p.from) || occurs_in f (mark p.to) ≡ true → is_listed f symbols ≡ true
  pair_covered p i below =
      let roots = root_listed pairs p i in
      of_sides (marked_rule p) (side_covered p.from roots.0 (λ f j. below f (in_left (symbols_of_all p.to.args) j)))
      (side_covered p.to roots.1 (λ f j. below f (in_right (symbols_of_all p.from.args) j)))

  -- the symbols of the rules, and those below the roots of the pairs, are among the unmarked ones
  pub covers : (rules : List RewriteRule) → ((r : RewriteRule) → In r rules → (f : ℕ) → In f (symbols_of r.left ++ symbols_of r.right) → In f unmarked)
      → ((p : DependencyPair) → In p pairs → (f : ℕ) → In f (symbols_of_all p.from.args ++ symbols_of_all p.to.args) → In f unmarked)
      → AreCovered symbols (rules ++ map marked_rule pairs)
  covers rules of_rules of_pairs r i = elim (in_either rules (map marked_rule pairs) i) [
    | inl rule ↦ rule_covered r (of_rules r rule)
    | inr pair ↦
        (let (p, j, same) = of_map marked_rule pairs pair in
        subst (λ (x : RewriteRule). (f : ℕ) → occurs_in f x.left || occurs_in f x.right ≡ true → is_listed f symbols ≡ true) (sym same) (pair_covered p j (of_pairs p j)))
  ]

pub symbols_below : (system : System) → IsSystem system → (p : DependencyPair) → In p (dependency_pairs system.rules) → (f : ℕ)
    → In f (symbols_of_all p.from.args ++ symbols_of_all p.to.args) → In f (symbols_of_rules system.rules)
symbols_below system valid p i f m = elim (in_either (symbols_of_all p.from.args) (symbols_of_all p.to.args) m) [
  | inl left ↦ from_symbols system valid p i f left
  | inr right ↦ to_symbols system valid p i f right
]

pub all_covered : (system : System) → IsSystem system → (pairs : List DependencyPair) → ((p : DependencyPair) → In p pairs → In p (dependency_pairs system.rules)) → (symbols : List ℕ)
    → AreSymbols (symbols_of_rules system.rules) pairs symbols → AreCovered symbols (system.rules ++ map marked_rule pairs)
all_covered system valid pairs from_all symbols are =
    covers (symbols_of_rules system.rules) pairs symbols are system.rules (rule_symbols system.rules) (λ p i. symbols_below system valid p (from_all p i))

-- ---- few of them

pub few_listed : (listed : List ℕ) (most : ℕ) → IsStrictlyIncreasing listed → ((f : ℕ) → In f listed → f < most) → length listed ≤ most
few_listed listed most up small = length_below listed most up (λ k d within. small (get_or listed k d) (in_at listed k d (get_or listed k d) within refl))

module _ (system : System) (valid : IsSystem system) (few : length system.arities ≤ 4095) (pairs : List DependencyPair)
    (small : (f : ℕ) → In f (roots_of pairs) → f < 4096) (symbols : List ℕ) (are : AreSymbols (symbols_of_rules system.rules) pairs symbols) where
  pub plain_small : (f : ℕ) → In f (symbols_of_rules system.rules) → f < 4096
  plain_small f i = let h = symbols_within system.arities system.rules (rule_well system valid) f i in omega (arith, h, few)

  pub few_symbols : length symbols ≤ 8192
  few_symbols =
      let a = few_listed are.plain 4096 are.are_plain.increasing (λ f i. plain_small f ((are.are_plain.each f).0 i)) in
      let b = few_listed are.roots 4096 are.are_roots.increasing (λ f i. small f ((are.are_roots.each f).0 i)) in
      let both = length-append are.plain (map (λ f. f + 4096) are.roots) in
      let marked = length-map are.roots (λ f. f + 4096) in
      let all : length symbols ≡ length (are.plain ++ map (λ f. f + 4096) are.roots) = ap length are.together in
      omega (arith, a, b, both, marked, all)

pub all_small : (listed : List ℕ) (most : ℕ) → ((f : ℕ) → In f listed → f < most) → All (λ f. f < most) listed
all_small listed most small k d within = small (get_or listed k d) (in_at listed k d (get_or listed k d) within refl)
