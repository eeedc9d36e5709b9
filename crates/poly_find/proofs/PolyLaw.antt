-- The interpretation that is found meets the conditions of a step by a linear interpretation.
use Rattle.std.specs.Prelude.{◌≡◌, ◌<◌, ℕ, ◌+◌, Bool, true, false, List, ◌++◌, length, map, Ok}
use Rattle.std.proofs.Common.{refl, arith, ◌∙◌}
use Rattle.std.proofs.lemmas.List.{length-append}
use Rattle.std.proofs.lemmas.Option.{slice_get_within}
use Rattle.trs_defs.specs.Member.{In}
use Rattle.trs_defs.specs.Tree.{Tree}
use Rattle.trs_defs.proofs.Members.{get_of_in}
use Rattle.trs_defs.specs.System.{RewriteRule}
use Rattle.pair_theory.specs.DependencyPair.{DependencyPair, dependency_pairs}
use Rattle.pair_theory.specs.ReductionPair.{marked_rule}
use Rattle.pair_theory.proofs.PairList.{listed_are_pairs}
use Rattle.order_theory.specs.LinearInterpretation.{LinearWeak, LinearStrict}
use Rattle.poly_lin.specs.pair_order.Entries.{has_entry}
use Rattle.poly_lin.specs.Table.{symbol_of, coefficient_in}
use Rattle.poly_lin.specs.TooBig.{EitherIsBig}
use Rattle.rewrite_core.specs.Check.{Asks, yes_it_does, no_it_does_not}
use Rattle.order_search.specs.dp_core.Symbols.{symbols_of_rules}
use Rattle.order_search.specs.dp_core.PairConditions.{Comparing, comparing_by}
use Rattle.trs_defs.specs.Variable.{is_listed}
use Rattle.order_search.specs.Slots.{table_of, puzzle_of}
use Rattle.order_search.specs.Outcome.{IsFirst}
use Rattle.order_search.proofs.Solutions.{solved}
use Rattle.order_search.specs.OrderSpace.{AreCovered, arity_with_mark, slots_of, some_falls}
use Rattle.order_search.proofs.Constraints.{many_constraints}
use Rattle.order_search.proofs.Covered.{all_covered, plain_symbol, root_symbol, listed_of}
use Rattle.order_search.proofs.SaidEntries.{entry_is_there}
use Rattle.order_search.proofs.OrderLaw.{Tests, order_applies}
use Rattle.order_search.proofs.dp_core.Conclusions.{each_in}
use Rattle.poly_find.specs.LinearTest.{linear_weak, linear_strict}
use Rattle.poly_find.specs.PolySpace.{poly_family}
use Rattle.poly_find.specs.PolyRow.{poly_search, poly_entry}
use Rattle.poly_find.specs.PolyPlaces.{parts_by}
use Rattle.poly_find.specs.Laws.{FoundOrdersApply}
use Rattle.poly_find.proofs.LinearDecides.{weak_fits, weak_is, strict_is, is_strict}
use Rattle.poly_find.proofs.NoPairing.{no_pairing}
use Rattle.poly_find.proofs.PolyPuzzle.{truth_of_rule, truth_of_last}

module _ (entries : List (ℕ × List ℕ)) where
  abbrev pub comparing : Comparing
  comparing =
      comparing_by (has_entry symbol_of entries) (EitherIsBig (coefficient_in entries)) (LinearWeak (coefficient_in entries)) (LinearStrict (coefficient_in entries))

  asked_by : (s t : Tree) (b : Bool) → linear_weak (coefficient_in entries) s t ≡ true → linear_strict (coefficient_in entries) s t ≡ b
      → Asks (LinearStrict (coefficient_in entries) s t) (Ok b)
  asked_by s t true e d = yes_it_does (strict_is (coefficient_in entries) s t d)
  asked_by s t false e d =
      no_it_does_not (λ h. let set = is_strict (coefficient_in entries) s t (weak_fits (coefficient_in entries) s t e) h in absurd cc)

  pub tests : Tests comparing (linear_weak (coefficient_in entries)) (linear_strict (coefficient_in entries))
  tests = record {
    fits = λ s t e. weak_fits (coefficient_in entries) s t e;
    is_weak = λ s t e. weak_is (coefficient_in entries) s t e;
    asked = λ s t e. asked_by s t (linear_strict (coefficient_in entries) s t) e refl;
  }

-- what is found over symbols, rules and marked pairs
module _ (arities symbols : List ℕ) (rules marked : List RewriteRule) (none : is_listed 8191 symbols ≡ false) (covered : AreCovered symbols (rules ++ marked))
    (budget : ℕ) (values : List ℕ) (entries : List (ℕ × List ℕ)) (first : IsFirst budget values (puzzle_of (poly_search arities symbols rules marked)))
    (are : entries ≡ map (poly_entry arities (table_of (slots_of (parts_by arities) symbols) values)) symbols) where
  many : length rules + length marked + 1 ≡ (puzzle_of (poly_search arities symbols rules marked)).constraints
  many = many_constraints (poly_family (arity_with_mark arities)) symbols rules marked

  pub all_fall : (r : RewriteRule) → In r (rules ++ marked) → linear_weak (coefficient_in entries) r.left r.right ≡ true
  all_fall r i =
      let s = solved (puzzle_of (poly_search arities symbols rules marked)) values first.0 in
      let both = length-append rules marked in
      let (c, at) = get_of_in i in
      let below : c < length (rules ++ marked) = slice_get_within (rules ++ marked) c r at in
      truth_of_rule arities symbols rules marked none covered values entries are c r _ at refl ∙ s.meets c (omega (arith, below, both, many))

  pub some_strict_pair : some_falls (linear_strict (coefficient_in entries)) marked ≡ true
  some_strict_pair =
      let s = solved (puzzle_of (poly_search arities symbols rules marked)) values first.0 in
      let last = length rules + length marked in
      truth_of_last arities symbols rules marked none covered values entries are last _ refl refl ∙ s.meets last (omega (arith, many))

  pub entry_there : (f : ℕ) → In f symbols → has_entry symbol_of entries f ≡ true
  entry_there f i =
      entry_is_there symbol_of (poly_entry arities (table_of (slots_of (parts_by arities) symbols) values)) (λ f. refl) symbols entries are f (listed_of f symbols i)

pub found_apply : FoundOrdersApply
found_apply system numbers budget entries valid few h =
    let pairs = h.pairs in
    let symbols = h.symbols in
    let marked = map marked_rule pairs in
    let syms = h.of_problem.are_symbols in
    let from_all : (p : DependencyPair) → In p pairs → In p (dependency_pairs system.rules) = λ p i. each_in (dependency_pairs system.rules) numbers pairs h.of_problem.taken p i in
    let covered = all_covered system valid pairs from_all symbols syms in
    let none = no_pairing system valid few pairs (λ p i. listed_are_pairs system valid p (from_all p i)) symbols syms in
    let there : (f : ℕ) → In f symbols → has_entry symbol_of entries f ≡ true =
    entry_there system.arities symbols system.rules marked none covered budget h.values entries h.first h.are in (
      _,
      order_applies (comparing entries) (linear_weak (coefficient_in entries)) (linear_strict (coefficient_in entries)) (tests entries)
          system numbers pairs h.of_problem.taken
          (λ f i. there f (plain_symbol (symbols_of_rules system.rules) pairs symbols syms f i))
          (λ f i. there (f + 4096) (root_symbol (symbols_of_rules system.rules) pairs symbols syms f i))
          (all_fall system.arities symbols system.rules marked none covered budget h.values entries h.first h.are)
          (some_strict_pair system.arities symbols system.rules marked none covered budget h.values entries h.first h.are),
    )
