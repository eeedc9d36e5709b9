-- Why names do not fit a system.
use Rattle.std.specs.Prelude.{◌≡◌, ℕ, ◌==◌, ◌&&◌, not, List, [], ◌∷◌, ◌++◌, length, position, Option, Some, None, option_map, is_none, Result, Ok, Err, if◌then◌else◌}
use Rattle.std.specs.Option.{option_or}
use Rattle.trs_defs.specs.System.{RewriteRule, System}
use Rattle.names_text.specs.Names.{number_among}
use Rattle.names_text.specs.Named.{is_word, is_shallow, is_numbered}
use Rattle.names_text.specs.declared.names_fault.NamesFault.{NamesFault}
use Rattle.names_text.specs.declared.names_fault.NamesFault.TheVariants.{Count, BadName, TooDeep, BadNumbering, OutOfMemory}

-- the number of the first name that is no word, or stands before it; some names stand before all of them
abbrev pub first_bad_name : List (List ℕ) → List (List ℕ) → Option ℕ
first_bad_name before [] = None
first_bad_name before (n ∷ ns) =
    if is_word n && is_none (number_among before n) then first_bad_name (before ++ n ∷ []) ns
    else Some (length before)

-- the fault of rules: the first one with a side that is too deep, and else the first one whose variables are not numbered
-- in order
abbrev pub rules_fault : List RewriteRule → Option NamesFault
rules_fault rules =
    option_or (option_map (λ i. TooDeep i) (position (λ r. not (is_shallow r)) rules))
    (option_map (λ i. BadNumbering i) (position (λ r. not (is_numbered r)) rules))

-- the fault of names for a system: a wrong number of names, and else the first bad name, and else the fault of the rules
abbrev pub names_fault : List (List ℕ) → System → Option NamesFault
names_fault names system =
    if length names == length system.arities
    then option_or (option_map (λ f. BadName f) (first_bad_name [] names)) (rules_fault system.rules) else Some Count

-- an answer is that fault, or memory ran out
abbrev pub FailsBy : NamesFault → Option NamesFault → Type 0
FailsBy OutOfMemory fault = Unit {0}
FailsBy Count fault = fault ≡ Some Count
FailsBy (BadName f) fault = fault ≡ Some (BadName f)
FailsBy (TooDeep i) fault = fault ≡ Some (TooDeep i)
FailsBy (BadNumbering i) fault = fault ≡ Some (BadNumbering i)

-- a value comes exactly where there is no fault
abbrev pub AnswersBy : {X : Type 0} → Result X NamesFault → Option NamesFault → Type 0
AnswersBy (Ok x) fault = fault ≡ None
AnswersBy (Err e) fault = FailsBy e fault
