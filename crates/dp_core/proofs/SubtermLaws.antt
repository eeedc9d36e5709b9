-- The conditions of a step by the subterm criterion, one after another.
use Rattle.std.specs.Prelude.{◌≡◌, ℕ, ◌+◌, Bool, true, List, [], ◌∷◌, length, zip, Result, Ok, Err}
use Rattle.std.proofs.Common.{suc, refl, sym, ap, subst, ◌∙◌}
use Rattle.trs_defs.specs.Member.{In}
use Rattle.pair_theory.specs.DependencyPair.{DependencyPair}
use Rattle.rewrite_core.specs.declared.checks.refusals.StepRefused.TheVariants.{NoEntry, NothingRemoved}
use Rattle.rewrite_core.specs.declared.checks.refusals.CheckFault.{CheckFault}
use Rattle.rewrite_core.specs.Check.{Check, Refuses, AnswersBy, ForbidsAny, Needs, Returns, Then, returned, stops, goes_on, holds, lacks, collect}
use Rattle.rewrite_core.proofs.Answering.{refused_first, refused_later, then_answers}
use Rattle.dp_core.specs.Numbered.{ArePairsOf, TakesPairs, taken}
use Rattle.dp_core.proofs.NumberedPairs.{as_many, zip_length}
use Rattle.dp_core.specs.LeastMissing.{IsMissing}
use Rattle.dp_core.specs.SubtermConditions.{roots_of, projects_within, unflagged, subterm_conditions}

pub collected_length : {A B : Type 0} (check : ℕ → A → Check B) (n : ℕ) (xs : List A) (ys : List B) → collect check n xs (Ok ys) → length ys ≡ length xs
collected_length check n [] _ returned = refl
collected_length check n (x ∷ xs) _ (goes_on y _ h (goes_on zs _ k returned)) = ap suc (collected_length check (n + 1) xs zs k)

-- a pair must go; the numbers of those that do not are the value
abbrev pub Leaves : List ℕ → List Bool → Check (List ℕ)
Leaves numbers removed = Then (Needs (In true removed) NothingRemoved) (λ _. Returns (unflagged numbers removed))

pub none_leaves : (numbers : List ℕ) (flags : List Bool) → (In true flags → ⊥) → Leaves numbers flags (Err NothingRemoved)
none_leaves numbers flags none = stops _ (lacks none)

pub some_leave : (numbers : List ℕ) (flags : List Bool) (left : List ℕ) → In true flags → left ≡ unflagged numbers flags → Leaves numbers flags (Ok left)
some_leave numbers flags left some is = subst (λ l. Leaves numbers flags (Ok l)) (sym is) (goes_on tt _ (holds some) returned)

module _ (all : List DependencyPair) (projection : List (ℕ × ℕ)) (numbers : List ℕ) (pairs : List DependencyPair) (are : ArePairsOf all numbers pairs) where
  abbrev pub Entries : Check (Unit {0})
  Entries = ForbidsAny (IsMissing projection (roots_of pairs)) NoEntry

  abbrev pub Removals : Check (List Bool)
  Removals = collect (λ _ item. projects_within projection item.0 item.1) 0 (zip numbers pairs)

  pub entries_refuse : (fault : CheckFault) → Refuses Entries fault → Refuses (subterm_conditions all projection numbers) fault
  entries_refuse fault h = refused_later (TakesPairs all numbers) _ fault pairs (taken pairs are) (refused_first Entries _ fault h)

  pub removals_refuse : (fault : CheckFault) → Entries (Ok tt) → Refuses Removals fault → Refuses (subterm_conditions all projection numbers) fault
  removals_refuse fault entries h =
      refused_later (TakesPairs all numbers) _ fault pairs (taken pairs are) (refused_later Entries _ fault tt entries (refused_first Removals _ fault h))

  pub subterm_answers : {Y : Type 0} (seen : Y → List ℕ) (flags : List Bool) (r : Result Y CheckFault) → Entries (Ok tt) → Removals (Ok flags)
      → AnswersBy seen (Leaves numbers flags) r → AnswersBy seen (subterm_conditions all projection numbers) r
  subterm_answers seen flags r entries removals h =
      then_answers (TakesPairs all numbers) _ seen pairs r (taken pairs are) (then_answers Entries _ seen tt r entries (then_answers Removals _ seen flags r removals h))

  pub flags_counted : (flags : List Bool) → Removals (Ok flags) → length flags ≡ length numbers
  flags_counted flags h = collected_length (λ _ item. projects_within projection item.0 item.1) 0 (zip numbers pairs) flags h ∙ zip_length numbers pairs (as_many all numbers pairs are)
