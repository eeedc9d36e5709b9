-- The conditions of a step that removes pairs by an order. (Arts and Giesl, 2000; Giesl, Thiemann and Schneider-Kamp,
-- 2005.)
use Rattle.std.specs.Prelude.{◌≡◌, ℕ, ◌+◌, Bool, true, false, List, length, zip}
use Rattle.trs_defs.specs.Member.{In}
use Rattle.trs_defs.specs.Tree.{Tree}
use Rattle.trs_defs.specs.System.{RewriteRule}
use Rattle.pair_theory.specs.Marked.{mark}
use Rattle.pair_theory.specs.DependencyPair.{DependencyPair}
use Rattle.rewrite_core.specs.declared.checks.refusals.StepRefused.{StepRefused}
use Rattle.rewrite_core.specs.declared.checks.refusals.StepRefused.TheVariants.{NoEntry, TooBig, RuleNotWeak, PairNotWeak, NothingRemoved}
use Rattle.rewrite_core.specs.Check.{Check, Returns, Needs, Forbids, ForbidsAny, Asks, each, collect, ◌>>=◌, ◌>>◌}
use Rattle.dp_core.specs.Numbered.{TakesPairs, numbers_from}
use Rattle.dp_core.specs.Symbols.{symbols_of_rules}
use Rattle.dp_core.specs.SubtermConditions.{roots_of, unflagged}

-- how an order compares: which symbols have entries, where a comparison is too big, and the weak and the strict order
pub record Comparing : Type 1 where
  pub has_entry : ℕ → Bool
  pub is_too_big : Tree → Tree → Type 0
  pub weak : Tree → Tree → Type 0
  pub strict : Tree → Tree → Type 0

abbrev pub comparing_by : (ℕ → Bool) → (Tree → Tree → Type 0) → (Tree → Tree → Type 0) → (Tree → Tree → Type 0) → Comparing
comparing_by has_entry is_too_big weak strict =
    record { has_entry = has_entry; is_too_big = is_too_big; weak = weak; strict = strict }

-- one of the symbols, and it has no entry
abbrev pub LacksEntry : Comparing → List ℕ → ℕ → Type 0
LacksEntry comparing symbols f = In f symbols × (comparing.has_entry f ≡ false)

-- one of the symbols, and the marked symbol, whose number is greater by 4,096, has no entry
abbrev pub LacksMarkedEntry : Comparing → List ℕ → ℕ → Type 0
LacksMarkedEntry comparing symbols f = In f symbols × (comparing.has_entry (f + 4096) ≡ false)

-- the first term is weakly above the second one; it is refused for this reason where it is not
abbrev pub is_weakly_above : Comparing → Tree → Tree → ℕ → StepRefused → Check (Unit {0})
is_weakly_above comparing s t item otherwise = do
  Forbids (comparing.is_too_big s t) (TooBig item)
  Needs (comparing.weak s t) otherwise

-- rule number k
abbrev pub rule_is_weak : Comparing → ℕ → RewriteRule → Check (Unit {0})
rule_is_weak comparing k rule = is_weakly_above comparing rule.left rule.right k (RuleNotWeak k)

-- pair number n, whose comparison has the number of all rules plus n; whether it is strict is the value
abbrev pub pair_is_weak : Comparing → ℕ → ℕ → DependencyPair → Check Bool
pair_is_weak comparing rules n p = do
  is_weakly_above comparing (mark p.from) (mark p.to) (rules + n) (PairNotWeak n)
  Asks (comparing.strict (mark p.from) (mark p.to))

-- where these symbols have entries, and of so many rules these, with their numbers, are weak; the value is the numbers
-- of the pairs that remain
abbrev pub removal_conditions : Comparing → List ℕ → List (ℕ × RewriteRule) → ℕ → List ℕ → List DependencyPair → Check (List ℕ)
removal_conditions comparing symbols weak_rules rules numbers pairs = do
  ForbidsAny (LacksEntry comparing symbols) NoEntry
  ForbidsAny (LacksMarkedEntry comparing (roots_of pairs)) NoEntry
  each (λ _ item. rule_is_weak comparing item.0 item.1) 0 weak_rules
  removed ← collect (λ _ item. pair_is_weak comparing rules item.0 item.1) 0 (zip numbers pairs)
  Needs (In true removed) NothingRemoved
  Returns (unflagged numbers removed)

-- of the pairs of the numbers, where all rules are weak
abbrev pub pair_conditions : Comparing → List RewriteRule → List DependencyPair → List ℕ → Check (List ℕ)
pair_conditions comparing rules all numbers = do
  pairs ← TakesPairs all numbers
  removal_conditions comparing (symbols_of_rules rules) (zip (numbers_from 0 rules) rules) (length rules) numbers pairs
