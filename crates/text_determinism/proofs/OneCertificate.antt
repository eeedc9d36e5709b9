-- The steps of a goal are the same in trees that are the same but for the numbers of variables, and are printed alike.
use Rattle.std.proofs.Common.{◌≡◌, ℕ, ◌+◌, List, [], ◌∷◌, ◌++◌, map, Option, Some, None, slice_get, codes, refl, sym, ap, ◌∙◌, subst}
use Rattle.std.specs.Option.{option_map}
use Rattle.std.proofs.lemmas.Option.{slice_get-map}
use Rattle.sexp_core.specs.Items.{Item, item, items_of}
use Rattle.sexp_core.specs.Printed.{lines}
use Rattle.text_reading.specs.Printed.{word_item, number_item, list_item}
use Rattle.names_text.specs.Named.{NamedSystem}
use Rattle.names_text.specs.VariableNames.{underscores}
use Rattle.term_text.specs.PrintedTerm.{term_item}
use Rattle.path_text.specs.Paths.{position_item, path_item}
use Rattle.conclusion.specs.report_text.strategies.cert_step.declared.claim.Claim.{Claim}
use Rattle.conclusion.specs.report_text.strategies.cert_step.ProofStep as step
use Rattle.conclusion.specs.report_text.strategies.cert_step.ProofStep.{ProofStep, ProofNodeStep}
use Rattle.conclusion.specs.step_text.Steps.{method_item, step_item}
use Rattle.conclusion.specs.cert_text.Head.{headline_word, head_item}
use Rattle.conclusion.specs.cert_text.Headline.{headline_of}
use Rattle.conclusion.specs.Concludes.{proof_lines}
use Rattle.conclusion.specs.tree_definitions.States.{TreeNode, Decided}
use Rattle.conclusion.specs.tree_definitions.Reports.{Walks, ends, stays, goes_on, children_of, steps_from, with_step, decision_at}
use Rattle.conclusion.proofs.tree_definitions.Lookups.{one_value}
use Rattle.text_determinism.specs.AnswerLaws.{renumbered}
use Rattle.text_determinism.proofs.Renumbering.{renumbered_decided, renumbered_decision, renumbered_node, renumbered_nodes, there_again}

-- ---- how steps are printed

-- a step whose loop has its variables numbered in the order of their first occurrences
abbrev printed : NamedSystem → ProofStep → Item
printed named (step.loop start path place) =
    list_item (word_item (codes "loop") ∷ term_item (underscores named.names) named.names start ∷ path_item [] path ∷ position_item place ∷ [])
printed named s = method_item named [] s

printed_again : (named : NamedSystem) (s : ProofStep) → method_item named [] s ≡ printed named (renumbered s)
printed_again named step.dp = refl
printed_again named (step.graph items) = refl
printed_again named (step.subterm projection) = refl
printed_again named (step.poly entries) = refl
printed_again named (step.lpo entries) = refl
printed_again named (step.kbo entries) = refl
printed_again named (step.usable_poly entries) = refl
printed_again named (step.loop start path place) = refl
printed_again named (step.newman items) = refl
printed_again named (step.parallel items) = refl
printed_again named (step.strong items) = refl
printed_again named (step.label ranks items) = refl
printed_again named (step.fork start left right test) = refl
printed_again named step.confluence = refl

abbrev pub renumbered_step : ProofNodeStep → ProofNodeStep
renumbered_step s = record { node = s.node; step = renumbered s.step }

abbrev printed_step : NamedSystem → ProofNodeStep → Item
printed_step named s = list_item (word_item (codes "step") ∷ number_item s.node ∷ printed named s.step ∷ [])

items_again : (named : NamedSystem) (steps : List ProofNodeStep)
    → map (step_item named []) steps ≡ map (printed_step named) (map renumbered_step steps)
items_again named [] = refl
items_again named (s ∷ steps) =
    let first = printed_again named s.step in
    let rest = items_again named steps in
    λ i. list_item (word_item (codes "step") ∷ number_item s.node ∷ first i ∷ []) ∷ rest i

pub same_items : (named : NamedSystem) (steps others : List ProofNodeStep) → map renumbered_step steps ≡ map renumbered_step others
    → map (step_item named []) steps ≡ map (step_item named []) others
same_items named steps others same = items_again named steps ∙ ap (map (printed_step named)) same ∙ sym (items_again named others)

pub same_lines : (named : NamedSystem) (claim : Claim) (steps others : List ProofNodeStep) → map renumbered_step steps ≡ map renumbered_step others
    → proof_lines named claim steps ≡ proof_lines named claim others
same_lines named claim steps others same =
    ap (λ (is : List Item). lines (item (word_item (headline_word (headline_of claim))) (item (head_item 1 claim) (items_of is))))
    (same_items named steps others same)

-- ---- the walk

pub walks_once : (nodes : List TreeNode) (waiting order other : List ℕ) → Walks nodes waiting order → Walks nodes waiting other → order ≡ other
walks_once nodes _ _ _ ends ends = refl
walks_once nodes _ _ _ (stays n node rest order there is_open w) (stays _ x _ other at open_x v) =
    ap (λ o. n ∷ o) (walks_once nodes rest order other w v)
walks_once nodes _ _ _ (stays n node rest order there is_open w) (goes_on _ x d _ other at decided v) =
    let same = one_value (slice_get nodes n) node x there at in
    let some : node.decision ≡ Some d = subst (λ (y : TreeNode). y.decision ≡ Some d) (sym same) decided in
    absurd cc
walks_once nodes _ _ _ (goes_on n node d rest order there decided w) (stays _ x _ other at open_x v) =
    let same = one_value (slice_get nodes n) node x there at in
    let some : x.decision ≡ Some d = subst (λ (y : TreeNode). y.decision ≡ Some d) same decided in
    absurd cc
walks_once nodes _ _ _ (goes_on n node d rest order there decided w) (goes_on _ x e _ other at decided_x v) =
    let same = one_value (slice_get nodes n) node x there at in
    let some : x.decision ≡ Some d = subst (λ (y : TreeNode). y.decision ≡ Some d) same decided in
    let d_is : e ≡ d = one_value x.decision e d decided_x some in
    let v_d = subst (λ (z : Decided). Walks nodes (rest ++ children_of z) other) d_is v in
    ap (λ o. n ∷ o) (walks_once nodes (rest ++ children_of d) order other w v_d)

module _ (nodes : List TreeNode) where
  walks_again : (waiting order : List ℕ) → Walks nodes waiting order → Walks (renumbered_nodes nodes) waiting order
  walks_again _ _ ends = ends
  walks_again _ _ (stays n node rest order there is_open w) =
      stays n (renumbered_node node) rest order (there_again nodes n node there) (ap renumbered_decision is_open) (walks_again rest order w)
  walks_again _ _ (goes_on n node d rest order there decided w) =
      goes_on n (renumbered_node node) (renumbered_decided d) rest order (there_again nodes n node there) (ap renumbered_decision decided)
      (walks_again (rest ++ children_of d) order w)

  -- ---- the steps of the walk

  decision_there : (o : Option TreeNode) → decision_at (option_map renumbered_node o) ≡ renumbered_decision (decision_at o)
  decision_there None = refl
  decision_there (Some node) = refl

  one_step : (i : ℕ) (d : Option Decided) (steps : List ProofNodeStep)
      → with_step i (renumbered_decision d) (map renumbered_step steps) ≡ map renumbered_step (with_step i d steps)
  one_step i None steps = refl
  one_step i (Some d) steps = refl

  steps_again : (i : ℕ) (order : List ℕ) → steps_from (renumbered_nodes nodes) i order ≡ map renumbered_step (steps_from nodes i order)
  steps_again i [] = refl
  steps_again i (n ∷ order) =
      let decision : decision_at (slice_get (renumbered_nodes nodes) n) ≡ renumbered_decision (decision_at (slice_get nodes n)) =
      ap decision_at (slice_get-map renumbered_node nodes n) ∙ decision_there (slice_get nodes n) in
      let rest = steps_again (i + 1) order in
      (λ j. with_step i (decision j) (rest j)) ∙ one_step i (decision_at (slice_get nodes n)) (steps_from nodes (i + 1) order)

-- the order is one, and the steps are one, but for the numbers of variables
module _ (xs ys : List TreeNode) (same : renumbered_nodes xs ≡ renumbered_nodes ys) (g : ℕ) (order other : List ℕ) (w : Walks xs (g ∷ []) order)
    (v : Walks ys (g ∷ []) other) where
  pub one_order : order ≡ other
  one_order = walks_once (renumbered_nodes ys) (g ∷ []) order other
      (subst (λ (ns : List TreeNode). Walks ns (g ∷ []) order) same (walks_again xs (g ∷ []) order w)) (walks_again ys (g ∷ []) other v)

  pub same_steps : (steps others : List ProofNodeStep) → steps ≡ steps_from xs 0 order → others ≡ steps_from ys 0 other
      → map renumbered_step steps ≡ map renumbered_step others
  same_steps steps others a b =
      ap (map renumbered_step) a ∙ sym (steps_again xs 0 order) ∙ (λ i. steps_from (same i) 0 (one_order i))
      ∙ steps_again ys 0 other ∙ ap (map renumbered_step) (sym b)
