-- The order that is found meets the conditions of a step by a Knuth-Bendix order.
use Rattle.std.specs.Prelude.{◌≡◌, ◌<◌, ℕ, ◌+◌, Bool, true, false, List, ◌++◌, length, map, Ok}
use Rattle.std.proofs.Common.{refl, arith, ◌∙◌}
use Rattle.std.proofs.lemmas.List.{length-append}
use Rattle.std.proofs.lemmas.Option.{slice_get_within}
use Rattle.trs_defs.specs.Member.{In}
use Rattle.trs_defs.specs.Tree.{Tree}
use Rattle.trs_defs.proofs.Members.{get_of_in}
use Rattle.trs_defs.specs.System.{RewriteRule}
use Rattle.pair_theory.specs.DependencyPair.{DependencyPair, dependency_pairs}
use Rattle.pair_theory.specs.ReductionPair.{marked_rule}
use Rattle.order_theory.specs.KnuthBendix.{KnuthWeak, KnuthGreater}
use Rattle.kbo_order.specs.pair_order.Entries.{has_entry}
use Rattle.kbo_order.specs.declared.entries.KboEntry.{KboEntry}
use Rattle.kbo_order.specs.Table.{symbol_of, weight_in, rank_in}
use Rattle.kbo_order.specs.TooBig.{EitherIsBig}
use Rattle.rewrite_core.specs.Check.{Asks, yes_it_does, no_it_does_not}
use Rattle.order_search.specs.dp_core.Symbols.{symbols_of_rules}
use Rattle.order_search.specs.dp_core.PairConditions.{Comparing, comparing_by}
use Rattle.order_search.specs.Slots.{Table, table_of, puzzle_of}
use Rattle.order_search.proofs.Solutions.{solved}
use Rattle.order_search.specs.OrderSpace.{arity_with_mark, slots_of, some_falls}
use Rattle.order_search.specs.OrderOver.{search_of}
use Rattle.order_search.proofs.Covered.{all_covered, plain_symbol, root_symbol, listed_of}
use Rattle.order_search.proofs.SaidEntries.{entry_is_there}
use Rattle.order_search.proofs.OrderLaw.{Tests, order_applies}
use Rattle.order_search.proofs.dp_core.Conclusions.{each_in}
use Rattle.kbo_find.specs.KnuthTest.{knuth_weak, knuth_strict}
use Rattle.kbo_find.specs.KboSpace.{kbo_tops}
use Rattle.kbo_find.specs.KboRow.{kbo_search, kbo_entry}
use Rattle.kbo_find.specs.Laws.{FoundOrdersApply}
use Rattle.kbo_find.proofs.KnuthDecides.{weak_fits, weak_is, strict_is, is_strict}
use Rattle.kbo_find.proofs.KboPuzzle.{constraint_count, truth_of_rule, truth_at_last}

module _ (entries : List KboEntry) where
  abbrev comparing : Comparing
  comparing =
      comparing_by (has_entry symbol_of entries) (EitherIsBig (weight_in entries)) (KnuthWeak (weight_in entries) (rank_in entries))
      (KnuthGreater (weight_in entries) (rank_in entries))

  abbrev weak : Tree → Tree → Bool
  weak s t = knuth_weak (weight_in entries) (rank_in entries) s t

  abbrev strict : Tree → Tree → Bool
  strict s t = knuth_strict (weight_in entries) (rank_in entries) s t

  asked_by : (s t : Tree) (b : Bool) → weak s t ≡ true → strict s t ≡ b → Asks (KnuthGreater (weight_in entries) (rank_in entries) s t) (Ok b)
  asked_by s t true e d = yes_it_does (strict_is (weight_in entries) (rank_in entries) s t d)
  asked_by s t false e d =
      no_it_does_not (λ h.
      let set = is_strict (weight_in entries) (rank_in entries) s t (weak_fits (weight_in entries) (rank_in entries) s t e) h in absurd cc)

  tests : Tests comparing (knuth_weak (weight_in entries) (rank_in entries)) (knuth_strict (weight_in entries) (rank_in entries))
  tests = record {
    fits = λ s t e. weak_fits (weight_in entries) (rank_in entries) s t e;
    is_weak = λ s t e. weak_is (weight_in entries) (rank_in entries) s t e;
    asked = λ s t e. asked_by s t (strict s t) e refl;
  }

pub found_apply : FoundOrdersApply
found_apply system numbers budget entries valid h =
    let pairs = h.pairs in
    let symbols = h.symbols in
    let values = h.values in
    let marked = map marked_rule pairs in
    let arity = arity_with_mark system.arities in
    let s = solved (puzzle_of (search_of kbo_search system pairs symbols)) values h.first.0 in
    let from_all : (p : DependencyPair) → In p pairs → In p (dependency_pairs system.rules) = λ p i. each_in (dependency_pairs system.rules) numbers pairs h.of_problem.taken p i in
    let syms = h.of_problem.are_symbols in
    let covered = all_covered system valid pairs from_all symbols syms in
    let many = constraint_count system.arities symbols system.rules marked in
    let both = length-append system.rules marked in
    let table : Table = table_of (slots_of (λ _. 2) symbols) values in
    let before = length (kbo_tops arity symbols) in
    let fall : (r : RewriteRule) → In r (system.rules ++ marked) → knuth_weak (weight_in entries) (rank_in entries) r.left r.right ≡ true = λ r i.
    (let (c, at) = get_of_in i in
    let below : c < length (system.rules ++ marked) = slice_get_within (system.rules ++ marked) c r at in
    truth_of_rule system.arities symbols system.rules marked (before + c) c refl covered values entries h.are r _ at refl
    ∙ s.meets (before + c) (omega (arith, below, both, many))) in
    let last = length system.rules + length marked in
    let some : some_falls (knuth_strict (weight_in entries) (rank_in entries)) marked ≡ true =
    truth_at_last system.arities symbols system.rules marked (before + last) last refl covered values entries h.are _ refl refl
    ∙ s.meets (before + last) (omega (arith, many)) in
    let there : (f : ℕ) → In f symbols → has_entry symbol_of entries f ≡ true = λ f i.
    entry_is_there symbol_of (kbo_entry system.arities table) (λ f. refl) symbols entries h.are f (listed_of f symbols i) in (
      _,
      order_applies (comparing entries) (knuth_weak (weight_in entries) (rank_in entries)) (knuth_strict (weight_in entries) (rank_in entries)) (tests entries)
          system numbers pairs h.of_problem.taken
          (λ f i. there f (plain_symbol (symbols_of_rules system.rules) pairs symbols syms f i))
          (λ f i. there (f + 4096) (root_symbol (symbols_of_rules system.rules) pairs symbols syms f i))
          fall some,
    )
