-- What `complete` answers, as contracts see it.
use Rattle.std.specs.Prelude.{◌≡◌, ℕ, List}
use Rattle.trs_core.specs.View.{tree}
use Rattle.completion.specs.declared.endings.Completion.{Completion}
use Rattle.completion.specs.declared.endings.Completion.TheVariants as completion
use Rattle.completion.specs.Endings.{Ending, Done, Unorientable, Spent, Limit}

abbrev pub plain_ending : Completion → Ending
plain_ending (completion.Done system) = Done system.rules
plain_ending (completion.Unorientable s t) = Unorientable (tree s) (tree t)
plain_ending completion.Spent = Spent
plain_ending completion.Limit = Limit

-- a system that is answered has this arity table
abbrev pub HasArities : List ℕ → Completion → Type 0
HasArities arities (completion.Done system) = system.arities ≡ arities
HasArities arities (completion.Unorientable s t) = Unit {0}
HasArities arities completion.Spent = Unit {0}
HasArities arities completion.Limit = Unit {0}
