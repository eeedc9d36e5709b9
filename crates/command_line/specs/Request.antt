-- What the words of the command line ask for.
use Rattle.std.specs.Prelude.{◌≡◌, ◌≤◌, ℕ, zero, suc, true, List, [], ◌∷◌, Option, Some, None, Result, Ok, Err, codes, option_map, if◌then◌else◌}
use Rattle.std.specs.Str.{bytes_eq}
use Rattle.clap.specs.Words.{App, Row, Rule, Text, Kinds, fault_of, first_of, matches_of, new_app, new_rule, with_rule}
use Rattle.clap.specs.Simple.{on_top}
use Rattle.numerals.specs.Numerals.{numeral_value}
use Rattle.command_line.specs.declared.Request.{Request}
use Rattle.command_line.specs.declared.Request.TheVariants as request
use Rattle.command_line.specs.declared.Wanted.{Wanted}
use Rattle.command_line.specs.declared.Wanted.TheVariants.{Claim, VersionTwo}
use Rattle.command_line.specs.declared.Question.{Question}
use Rattle.command_line.specs.declared.Question.TheVariants.{Termination, Confluence, Unique}
use Rattle.command_line.specs.declared.Action.{Action}
use Rattle.command_line.specs.declared.Action.TheVariants as action
use Rattle.command_line.specs.declared.Refused.{Refused}
use Rattle.command_line.specs.declared.Refused.TheVariants.{Usage, OutOfMemory}

abbrev pub required_rule : Text → Rule
required_rule id = record (new_rule id) { required = true }

abbrev pub option_rule : Text → Rule
option_rule id = record (new_rule id) { long = Some id }

-- no word names the program, and there is no help and no version flag
abbrev pub plain_app : App
plain_app =
    on_top (λ s. record s { no_binary_name = true; disable_help_flag = true; disable_version_flag = true })
    (new_app (codes "trsprove"))

-- the simple command <action> <problem> [certificate] [--workers N] [--budget B]
unfoldable pub command_app : App
command_app =
    with_rule (with_rule (with_rule (with_rule (with_rule plain_app
    (required_rule (codes "action"))) (required_rule (codes "problem"))) (new_rule (codes "certificate")))
    (option_rule (codes "workers"))) (option_rule (codes "budget"))

-- what is asked for, with words as texts
pub data Asked : Type 0 where
  certifies : (wanted : Wanted) (problem certificate : Text) → Asked
  proves : (question : Question) (problem : Text) (workers budget : ℕ) → Asked
  completes : (problem order : Text) (budget : ℕ) → Asked
  samples : (size workers budget : ℕ) → Asked

abbrev pub not_zero : Option ℕ → Option ℕ
not_zero None = None
not_zero (Some zero) = None
not_zero (Some (suc n)) = Some (suc n)

-- a whole number from 1 to a limit
abbrev pub positive : ℕ → Text → Option ℕ
positive limit w = not_zero (numeral_value limit w)

-- the value of an option, or what stands for it where it is left out
abbrev pub number_or : ℕ → ℕ → Option Text → Option ℕ
number_or limit default None = Some default
number_or limit default (Some w) = positive limit w

abbrev pub action_of : Text → Option Action
action_of word =
    if bytes_eq word (codes "certify") then Some (action.Certify Claim)
    else if bytes_eq word (codes "upgrade") then Some (action.Certify VersionTwo)
    else if bytes_eq word (codes "termination") then Some (action.Prove Termination)
    else if bytes_eq word (codes "confluence") then Some (action.Prove Confluence)
    else if bytes_eq word (codes "unique") then Some (action.Prove Unique)
    else if bytes_eq word (codes "complete") then Some action.Complete
    else if bytes_eq word (codes "sample") then Some action.Sample
    else None

-- an action on a certificate has one, completion has an order in its place, and the others have none; a sample has a size
-- from 1 to 512 in place of a problem
abbrev pub requested : Action → Text → Option Text → ℕ → ℕ → Option Asked
requested (action.Certify wanted) problem (Some certificate) workers budget = Some (certifies wanted problem certificate)
requested (action.Prove question) problem None workers budget = Some (proves question problem workers budget)
requested action.Complete problem (Some order) workers budget = Some (completes problem order budget)
requested action.Sample size None workers budget = option_map (λ n. samples n workers budget) (positive 512 size)
requested _ _ _ _ _ = None

-- what is asked for with an action, if it is one
abbrev pub requested_by : Option Action → Text → Option Text → ℕ → ℕ → Option Asked
requested_by None problem certificate workers budget = None
requested_by (Some a) problem certificate workers budget = requested a problem certificate workers budget

abbrev pub asked_with : Option ℕ → Option ℕ → Option Text → Option Text → Option Text → Option Asked
asked_with (Some workers) (Some budget) (Some word) (Some problem) certificate =
    requested_by (action_of word) problem certificate workers budget
asked_with _ _ _ _ _ = None

-- What the values that clap matched ask for. There are 1 to 16 workers, by default 1, and a budget of 1 to 1,000,000, by
-- default 20,000.
abbrev pub asked_by : List Row → Option Asked
asked_by rows =
    asked_with (number_or 16 1 (first_of (codes "workers") rows)) (number_or 1000000 20000 (first_of (codes "budget") rows))
    (first_of (codes "action") rows) (first_of (codes "problem") rows) (first_of (codes "certificate") rows)

-- nothing, where clap has a fault to find
abbrev pub where_none : Kinds → Option Asked → Option Asked
where_none [] asked = asked
where_none (k ∷ ks) asked = None

-- what the words ask for, if anything
unfoldable pub request_of : List Text → Option Asked
request_of words = where_none (fault_of command_app words) (asked_by (matches_of command_app words))

abbrev pub request_view : Request → Asked
request_view (request.Certify wanted problem certificate) = certifies wanted problem.now certificate.now
request_view (request.Prove question problem workers budget) = proves question problem.now workers budget
request_view (request.Complete problem order budget) = completes problem.now order.now budget
request_view (request.Sample size workers budget) = samples size workers budget

abbrev pub IsFrom1To : ℕ → ℕ → Type 0
IsFrom1To limit n = (1 ≤ n) × (n ≤ limit)

-- the numbers of what is asked for are within their limits
abbrev pub IsInRange : Request → Type 0
IsInRange (request.Certify wanted problem certificate) = Unit {0}
IsInRange (request.Prove question problem workers budget) = IsFrom1To 16 workers × IsFrom1To 1000000 budget
IsInRange (request.Complete problem order budget) = IsFrom1To 1000000 budget
IsInRange (request.Sample size workers budget) = IsFrom1To 512 size × IsFrom1To 16 workers × IsFrom1To 1000000 budget

abbrev pub Answers : Result Request Refused → Option Asked → Type 0
Answers (Ok r) asked = asked ≡ Some (request_view r)
Answers (Err Usage) asked = asked ≡ None
Answers (Err OutOfMemory) asked = Unit {0}
