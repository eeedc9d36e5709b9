-- Completed systems over the symbols of the equations, and their texts.
use Rattle.std.proofs.Common.{◌≡◌, ◌++◌, ℕ, List, codes, ap, ap₂, ◌∙◌}
use Rattle.sexp_core.specs.Printed.{lines}
use Rattle.trs_defs.specs.System.{System}
use Rattle.names_text.specs.Named.{NamedSystem}
use Rattle.ari_text.specs.PrintedProblem.{problem_items}
use Rattle.path_lpo.specs.Table.{PathEntry}
use Rattle.completion.specs.GreaterBy.{GreaterBy}
use Rattle.completion.specs.CompletionRun.{Completes}
use Rattle.completion.specs.Endings.{Ending, Done, with_rules, IsRightEnding}
use Rattle.ari_text.specs.Problem.{SaysSystem}
use Rattle.completion_text.specs.OrderText.{SaysOrder}
use Rattle.completion_text.specs.CompletionText.{ending_text, IsCompletionText}
use Rattle.completion_text.specs.Answers.{IsCompleted, IsOrderAnswer, IsCompletionAnswer}
use Rattle.completion_text.specs.declared.answering.CompletionAnswer.{CompletionAnswer}
use Rattle.completion_text.specs.declared.answering.CompletionAnswer.TheVariants.{Ended, ProblemRefused, OrderRefused}

same_rules : (rules : System) (arities : List ℕ) → rules.arities ≡ arities → rules ≡ record { arities = arities; rules = rules.rules }
same_rules rules arities e = ap (λ (a : List ℕ). let s : System = record { arities = a; rules = rules.rules } in s) e

over_symbols : (named : NamedSystem) (names : List (List ℕ)) (rules : System) → names ≡ named.names → rules.arities ≡ named.system.arities
    → (let s : NamedSystem = record { names = names; system = rules } in s) ≡ record { names = named.names; system = with_rules named.system rules.rules }
over_symbols named names rules e f = ap₂ (λ (n : List (List ℕ)) (s : System). let t : NamedSystem = record { names = n; system = s } in t) e (same_rules rules named.system.arities f)

pub complete_text : (named completed : NamedSystem) (names : List (List ℕ)) (rules : System) (text : List ℕ) → completed ≡ record { names = names; system = rules } → names ≡ named.names
    → rules.arities ≡ named.system.arities → text ≡ lines (problem_items completed) → codes "COMPLETE\n" ++ text ≡ ending_text named (Done rules.rules)
complete_text named completed names rules text is e f written =
    ap (λ t. codes "COMPLETE\n" ++ t) (written ∙ ap (λ s. lines (problem_items s)) (is ∙ over_symbols named names rules e f))

pub text_of_run : (named : NamedSystem) (order : List PathEntry) (budget : ℕ) (ending : Ending) (text : List ℕ) → Completes named.system (GreaterBy order) budget ending
    → IsRightEnding named.system (GreaterBy order) ending → text ≡ ending_text named ending → IsCompletionText named order budget text
text_of_run named order budget ending text run right written = record { ending = ending; run = run; right = right; written = written }

pub is_completed : (named : NamedSystem) (order_text : List ℕ) (budget : ℕ) (order : List PathEntry) (text : List ℕ) → SaysOrder named order_text order
    → IsCompletionText named order budget text → IsCompleted named order_text budget text
is_completed named order_text budget order text says completion = record { order = order; says = says; completion = completion }

-- the answer for a system is that for each text that says it
pub for_problem : (problem order : List ℕ) (budget : ℕ) (named : NamedSystem) → SaysSystem problem named → (answer : CompletionAnswer) → IsOrderAnswer named order budget answer
    → IsCompletionAnswer problem order budget answer
for_problem problem order budget named says (Ended text) h = record { named = named; says = says; answered = h }
for_problem problem order budget named says (ProblemRefused fault) h = absurd h
for_problem problem order budget named says (OrderRefused at) h = record { named = named; says = says; answered = h }
