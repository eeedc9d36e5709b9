-- The symbols that an order has entries for are those of the system, plain or marked, and stand once each.
use Rattle.std.specs.Prelude.{◌≡◌, ◌<◌, ◌≤◌, ℕ, ◌+◌, ◌-◌, Bool, true, false, nat_lt, if◌then◌else◌, List, [], ◌∷◌, ◌++◌, map, length, Option, Some, None, slice_get, unwrap_or}
use Rattle.std.proofs.Common.{refl, subst, arith, inl, inr}
use Rattle.std.proofs.lemmas.Bool.Decides.{nat_tests}
use Rattle.std.proofs.lemmas.Option.{slice_get-get_or}
use Rattle.trs_defs.specs.Member.{In, in_first, in_rest}
use Rattle.trs_defs.proofs.Members.{no_in, in_either, of_map}
use Rattle.trs_defs.specs.System.{RewriteRule, System, IsSystem}
use Rattle.pair_theory.specs.DependencyPair.{DependencyPair, dependency_pairs}
use Rattle.pair_theory.specs.PairProblem.{IsPair}
use Rattle.pair_theory.proofs.PairList.{listed_are_pairs}
use Rattle.order_theory.specs.KnuthBendix.{arity_with_marks}
use Rattle.cert_step.specs.dp_core.Numbered.{ArePairsOf}
use Rattle.cert_step.specs.dp_core.Symbols.{symbols_of_all, symbols_of_rules, symbols_below_roots}
use Rattle.order_find.specs.order_search.OrderSpace.{arity_with_mark}
use Rattle.order_find.specs.order_search.OrderRow.{AreSymbols, AreOfOrder}
use Rattle.order_find.proofs.order_search.Covered.{symbol_within_all, symbols_within, rule_well}
use Rattle.order_find.proofs.order_search.Repeats.{symbols_distinct}
use Rattle.order_find.specs.poly_find.UsableRow.{AreOfUsable}
use Rattle.order_find.proofs.poly_find.NoPairing.{roots_within}
use Rattle.order_find.proofs.poly_find.OfUsable.{items_in}
use Rattle.order_find.proofs.order_search.dp_core.Conclusions.{each_in}
use Rattle.cert_step.specs.Entries.{AreDistinct}
use Rattle.strategies.proofs.Distinctness.{listed_distinct}

-- ---- symbols below the roots of pairs

module _ (arities : List ℕ) where
  below_within : (pairs : List DependencyPair) → ((p : DependencyPair) → In p pairs → IsPair arities p) → (f : ℕ) → In f (symbols_below_roots pairs) → f < length arities
  below_within [] well f i = absurd (no_in i)
  below_within (p ∷ pairs) well f i =
      let here = well p in_first in
      elim (in_either (symbols_of_all p.from.args ++ symbols_of_all p.to.args) (symbols_below_roots pairs) i) [
        | inl args ↦ elim (in_either (symbols_of_all p.from.args) (symbols_of_all p.to.args) args) [
          | inl from ↦ symbol_within_all arities p.from.args here.from_well_formed.1 f from
          | inr to ↦ symbol_within_all arities p.to.args here.to_well_formed.1 f to
        ]
        | inr later ↦ below_within pairs (λ q j. well q (in_rest j)) f later
      ]

-- ---- the arity of a symbol, plain or marked

some_is : (o : Option ℕ) (n : ℕ) → o ≡ Some n → o ≡ Some (unwrap_or o 0)
some_is None n e = absurd cc
some_is (Some m) n e = refl

read_there : (arities : List ℕ) (g : ℕ) → g < length arities → slice_get arities g ≡ Some (unwrap_or (slice_get arities g) 0)
read_there arities g below = some_is (slice_get arities g) _ (slice_get-get_or arities g 0 below)

arity_by : (arities : List ℕ) (f : ℕ) (b : Bool) → (b ≡ true → f < length arities) → (b ≡ false → f - 4096 < length arities)
    → (if b then slice_get arities f else slice_get arities (f - 4096)) ≡ Some (unwrap_or (slice_get arities (if b then f else f - 4096)) 0)
arity_by arities f true small great = read_there arities f (small refl)
arity_by arities f false small great = read_there arities (f - 4096) (great refl)

is_small : (f : ℕ) → nat_lt f 4096 ≡ true → f < 4096
is_small f e = grind (arith, nat_tests)

is_great : (f : ℕ) → nat_lt f 4096 ≡ false → 4096 ≤ f
is_great f e = grind (arith, nat_tests)

module _ (arities : List ℕ) (few : length arities ≤ 4095) (unmarked : List ℕ) (pairs : List DependencyPair) (symbols : List ℕ)
    (plain_within : (f : ℕ) → In f unmarked → f < length arities) (pair_well : (p : DependencyPair) → In p pairs → IsPair arities p)
    (are : AreSymbols unmarked pairs symbols) where
  symbol_there : (f : ℕ) → In f symbols → (nat_lt f 4096 ≡ true → f < length arities) × (nat_lt f 4096 ≡ false → f - 4096 < length arities)
  symbol_there f i = elim (in_either are.plain (map (λ g. g + 4096) are.roots) (subst (λ (l : List ℕ). In f l) are.together i)) [
    | inl here ↦
        (let below = plain_within f ((are.are_plain.each f).0 here) in
        (λ e. below, λ e. (let great = is_great f e in absurd (omega (arith, below, few, great)))))
    | inr marked ↦
        (let (g, j, same) = of_map (λ (x : ℕ). x + 4096) are.roots marked in
        let below = roots_within arities pairs pair_well g ((are.are_roots.each g).0 j) in
        (λ e. (let small = is_small f e in absurd (omega (arith, same, small))), λ e. omega (arith, same, below)))
  ]

  arity_known : (f : ℕ) → In f symbols → arity_with_marks arities f ≡ Some (arity_with_mark arities f)
  arity_known f i = let there = symbol_there f i in arity_by arities f (nat_lt f 4096) there.0 there.1

  once_each : AreDistinct symbols
  once_each = listed_distinct symbols (symbols_distinct unmarked pairs symbols (λ f i. (let below = plain_within f i in omega (arith, below, few))) are)

-- ---- over all rules, and over the usable ones

module _ (system : System) (valid : IsSystem system) where
  pair_of : (numbers : List ℕ) (pairs : List DependencyPair) → ArePairsOf (dependency_pairs system.rules) numbers pairs → (p : DependencyPair) → In p pairs → IsPair system.arities p
  pair_of numbers pairs are p i = listed_are_pairs system valid p (each_in (dependency_pairs system.rules) numbers pairs are p i)

  rule_symbols_within : (f : ℕ) → In f (symbols_of_rules system.rules) → f < length system.arities
  rule_symbols_within = symbols_within system.arities system.rules (rule_well system valid)

  usable_symbols_within : (numbers : List ℕ) (pairs : List DependencyPair) (rules : List RewriteRule) (symbols : List ℕ) → AreOfUsable system numbers pairs rules symbols
      → (f : ℕ) → In f (symbols_of_rules rules ++ symbols_below_roots pairs) → f < length system.arities
  usable_symbols_within numbers pairs rules symbols of f i = elim (in_either (symbols_of_rules rules) (symbols_below_roots pairs) i) [
    | inl rule ↦ symbols_within system.arities rules (λ r j. rule_well system valid r (items_in system.rules of.rule_numbers rules of.chosen r j)) f rule
    | inr pair ↦ below_within system.arities pairs (pair_of numbers pairs of.taken) f pair
  ]

module _ (system : System) (valid : IsSystem system) (few : length system.arities ≤ 4095) (numbers : List ℕ) (pairs : List DependencyPair) (symbols : List ℕ)
    (of : AreOfOrder system numbers pairs symbols) where
  pub arity_there : (f : ℕ) → In f symbols → arity_with_marks system.arities f ≡ Some (arity_with_mark system.arities f)
  arity_there =
      arity_known system.arities few (symbols_of_rules system.rules) pairs symbols (rule_symbols_within system valid)
      (pair_of system valid numbers pairs of.taken) of.are_symbols

  pub all_distinct : AreDistinct symbols
  all_distinct =
      once_each system.arities few (symbols_of_rules system.rules) pairs symbols (rule_symbols_within system valid)
      (pair_of system valid numbers pairs of.taken) of.are_symbols

module _ (system : System) (valid : IsSystem system) (few : length system.arities ≤ 4095) (numbers : List ℕ) (pairs : List DependencyPair) (rules : List RewriteRule)
    (symbols : List ℕ) (of : AreOfUsable system numbers pairs rules symbols) where
  pub usable_arity_there : (f : ℕ) → In f symbols → arity_with_marks system.arities f ≡ Some (arity_with_mark system.arities f)
  usable_arity_there =
      arity_known system.arities few (symbols_of_rules rules ++ symbols_below_roots pairs) pairs symbols (usable_symbols_within system valid numbers pairs rules symbols of)
      (pair_of system valid numbers pairs of.taken) of.are_symbols

  pub usable_distinct : AreDistinct symbols
  usable_distinct =
      once_each system.arities few (symbols_of_rules rules ++ symbols_below_roots pairs) pairs symbols (usable_symbols_within system valid numbers pairs rules symbols of)
      (pair_of system valid numbers pairs of.taken) of.are_symbols
