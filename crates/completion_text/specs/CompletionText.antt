-- The text of how completion ends. (docs/COMPLETION.md)
use Rattle.std.specs.Prelude.{◌≡◌, ℕ, List, [], ◌∷◌, ◌++◌, codes}
use Rattle.sexp_core.specs.Printed.{text_of, lines}
use Rattle.trs_defs.specs.Tree.{Tree}
use Rattle.names_text.specs.Named.{NamedSystem}
use Rattle.names_text.specs.VariableNames.{underscores}
use Rattle.term_text.specs.PrintedTerm.{term_item}
use Rattle.ari_text.specs.PrintedProblem.{problem_items}
use Rattle.path_lpo.specs.Table.{PathEntry}
use Rattle.completion.specs.GreaterBy.{GreaterBy}
use Rattle.completion.specs.CompletionRun.{Completes}
use Rattle.completion.specs.Endings.{Ending, Done, Unorientable, Spent, Limit, with_rules, IsRightEnding}

abbrev pub term_text : NamedSystem → Tree → List ℕ
term_text named t = text_of (term_item (underscores named.names) named.names t)

-- a complete system is printed as a problem text over the same symbols
abbrev pub ending_text : NamedSystem → Ending → List ℕ
ending_text named (Done rules) = codes "COMPLETE\n" ++ lines (problem_items (record { names = named.names; system = with_rules named.system rules }))
ending_text named (Unorientable s t) = codes "UNORIENTABLE " ++ (term_text named s ++ 32 ∷ (term_text named t ++ 10 ∷ []))
ending_text named Spent = codes "SPENT\n"
ending_text named Limit = codes "LIMIT\n"

-- the text of the run of completion by an order within a budget, whose ending is right
pub record IsCompletionText (named : NamedSystem) (order : List PathEntry) (budget : ℕ) (text : List ℕ) : Type 0 where
  pub ending : Ending
  pub run : Completes named.system (GreaterBy order) budget ending
  pub right : IsRightEnding named.system (GreaterBy order) ending
  pub written : text ≡ ending_text named ending
