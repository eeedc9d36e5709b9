-- What reading a list answers.
use Rattle.std.specs.Prelude.{◌≡◌, ◌≤◌, ◌<◌, ◌⊎◌, ℕ, List, ◌++◌, length, map, Vec, Result, Ok, Err}
use Rattle.std.specs.declared.alloc.Global.{Global}
use denote.Ref.{Bor}
use Rattle.trsbatch.specs.ListText.{SaysNames, IsListRefused, IsGoodLine, bare, named, most_names}
use Rattle.trsbatch.specs.declared.list.ListFault.{ListFault}
use Rattle.trsbatch.specs.declared.list.ListFault.TheVariants as fault

-- names as texts
abbrev pub texts : Vec (Bor (List ℕ)) Global → List (List ℕ)
texts names = map (λ n. n.now) names.items

-- the names that a text says, or the number of the line at which it is refused
abbrev pub AnswersList : Result (Vec (Bor (List ℕ)) Global) ListFault → List ℕ → Type 0
AnswersList (Ok names) text = SaysNames text (texts names)
AnswersList (Err (fault.Line number)) text = IsListRefused text number
AnswersList (Err fault.OutOfMemory) text = Unit {0}

-- the name on a line was taken, or the line is refused behind those that were taken
abbrev pub TakesLine : {X : Type 0} → Result X ListFault → List ℕ → ℕ → List (List ℕ) → List (List ℕ) → Type 0
TakesLine (Ok x) line number before now =
    IsGoodLine line × (now ≡ before ++ named (bare line)) × (length now ≤ most_names)
TakesLine (Err (fault.Line n)) line number before now =
    (n ≡ number) × ((IsGoodLine line → ⊥) ⊎ (most_names < length (before ++ named (bare line))))
TakesLine (Err fault.OutOfMemory) line number before now = Unit {0}
