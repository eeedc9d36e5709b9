-- The conditions of a step by an order, one after another.
use Rattle.std.specs.Prelude.{◌≡◌, ℕ, Bool, List, length, zip, Result, Ok}
use Rattle.std.proofs.Common.{◌∙◌}
use Rattle.trs_defs.specs.System.{RewriteRule}
use Rattle.pair_theory.specs.DependencyPair.{DependencyPair}
use Rattle.rewrite_core.specs.declared.checks.refusals.StepRefused.TheVariants.{NoEntry}
use Rattle.rewrite_core.specs.declared.checks.refusals.CheckFault.{CheckFault}
use Rattle.rewrite_core.specs.Check.{Check, Refuses, AnswersBy, ForbidsAny, Then, each, collect}
use Rattle.rewrite_core.proofs.Answering.{refused_first, refused_later, then_answers}
use Rattle.dp_core.specs.Numbered.{ArePairsOf, TakesPairs, taken}
use Rattle.dp_core.specs.SubtermConditions.{roots_of}
use Rattle.dp_core.specs.PairConditions.{Comparing, LacksEntry, LacksMarkedEntry, rule_is_weak, pair_is_weak, removal_conditions}
use Rattle.dp_core.proofs.NumberedPairs.{zip_length}
use Rattle.dp_core.proofs.SubtermLaws.{collected_length, Leaves}

module _ (comparing : Comparing) (symbols : List ℕ) (weak_rules : List (ℕ × RewriteRule)) (rules : ℕ) (numbers : List ℕ) (pairs : List DependencyPair) where
  abbrev pub Entries : Check (Unit {0})
  Entries = ForbidsAny (LacksEntry comparing symbols) NoEntry

  abbrev pub Marks : Check (Unit {0})
  Marks = ForbidsAny (LacksMarkedEntry comparing (roots_of pairs)) NoEntry

  abbrev pub WeakRules : Check (Unit {0})
  WeakRules = each (λ _ item. rule_is_weak comparing item.0 item.1) 0 weak_rules

  abbrev pub StrictPairs : Check (List Bool)
  StrictPairs = collect (λ _ item. pair_is_weak comparing rules item.0 item.1) 0 (zip numbers pairs)

  abbrev pub Removal : Check (List ℕ)
  Removal = removal_conditions comparing symbols weak_rules rules numbers pairs

  pub entries_refuse : (fault : CheckFault) → Refuses Entries fault → Refuses Removal fault
  entries_refuse fault h = refused_first Entries _ fault h

  pub marks_refuse : (fault : CheckFault) → Entries (Ok tt) → Refuses Marks fault → Refuses Removal fault
  marks_refuse fault entries h = refused_later Entries _ fault tt entries (refused_first Marks _ fault h)

  pub rules_refuse : (fault : CheckFault) → Entries (Ok tt) → Marks (Ok tt) → Refuses WeakRules fault → Refuses Removal fault
  rules_refuse fault entries marks h =
      refused_later Entries _ fault tt entries (refused_later Marks _ fault tt marks (refused_first WeakRules _ fault h))

  pub pairs_refuse : (fault : CheckFault) → Entries (Ok tt) → Marks (Ok tt) → WeakRules (Ok tt) → Refuses StrictPairs fault → Refuses Removal fault
  pairs_refuse fault entries marks weak h =
      refused_later Entries _ fault tt entries (refused_later Marks _ fault tt marks
      (refused_later WeakRules _ fault tt weak (refused_first StrictPairs _ fault h)))

  pub removal_answers : {Y : Type 0} (seen : Y → List ℕ) (strict : List Bool) (r : Result Y CheckFault) → Entries (Ok tt) → Marks (Ok tt) → WeakRules (Ok tt)
      → StrictPairs (Ok strict) → AnswersBy seen (Leaves numbers strict) r → AnswersBy seen Removal r
  removal_answers seen strict r entries marks weak pairs h =
      then_answers Entries _ seen tt r entries (then_answers Marks _ seen tt r marks
      (then_answers WeakRules _ seen tt r weak (then_answers StrictPairs _ seen strict r pairs h)))

  pub strict_counted : (flags : List Bool) → length pairs ≡ length numbers → StrictPairs (Ok flags) → length flags ≡ length numbers
  strict_counted flags same h =
      collected_length (λ _ item. pair_is_weak comparing rules item.0 item.1) 0 (zip numbers pairs) flags h ∙ zip_length numbers pairs same

-- the pairs of the numbers are there
pub of_taken : {Y : Type 0} (all : List DependencyPair) (numbers : List ℕ) (pairs : List DependencyPair) (later : List DependencyPair → Check (List ℕ)) (seen : Y → List ℕ)
    (r : Result Y CheckFault) → ArePairsOf all numbers pairs → AnswersBy seen (later pairs) r → AnswersBy seen (Then (TakesPairs all numbers) later) r
of_taken all numbers pairs later seen r are h = then_answers (TakesPairs all numbers) later seen pairs r (taken pairs are) h
