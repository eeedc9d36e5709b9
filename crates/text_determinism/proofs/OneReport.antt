-- The reports of trees that are the same but for the numbers of variables are printed alike.
use Rattle.std.proofs.Common.{◌≡◌, ℕ, suc, ◌<◌, List, [], ◌∷◌, ◌++◌, map, length, Some, slice_get, codes, refl, sym, ap, ◌∙◌, subst, arith}
use Rattle.std.proofs.lemmas.Option.{slice_get_within}
use Rattle.trs_defs.specs.System.{System}
use Rattle.trs_core.specs.Valid.{IsValid}
use Rattle.sexp_core.specs.Items.{Item, items_of}
use Rattle.sexp_core.specs.Printed.{lines}
use Rattle.text_reading.specs.Printed.{word_item, list_item}
use Rattle.names_text.specs.Named.{NamedSystem}
use Rattle.conclusion.specs.report_text.strategies.cert_step.ProofProblem.{ProofProblem}
use Rattle.conclusion.specs.report_text.strategies.declared.failure.Failure.{Failure}
use Rattle.conclusion.specs.report_text.strategies.declared.strategy.Strategy.{Strategy}
use Rattle.conclusion.specs.report_text.strategies.Kinds.{strategies_for}
use Rattle.conclusion.specs.report_text.strategies.Runs.{failed}
use Rattle.conclusion.specs.report_text.GoalLines.{goal_words, stuck_item, failed_item, goal_item, goal_items}
use Rattle.conclusion.specs.Concludes.{maybe_text}
use Rattle.conclusion.specs.tree_definitions.declared.question.Question.{Question}
use Rattle.conclusion.specs.tree_definitions.Questions.{goal_count}
use Rattle.conclusion.specs.tree_definitions.States.{TreeNode}
use Rattle.conclusion.specs.tree_definitions.Verdicts.{IsStuck}
use Rattle.conclusion.specs.tree_definitions.Reports.{Part, AllFail, IsTruePart, IsTrueReport, IsStuckAt, IsPartOf, ArePartsOf}
use Rattle.conclusion.proofs.tree_definitions.Lookups.{one_value}
use Rattle.conclusion.proofs.tree_definitions.Roots.{root_below}
use Rattle.text_determinism.specs.AnswerLaws.{AnswersAreOne}
use Rattle.text_determinism.proofs.Renumbering.{renumbered_node, renumbered_nodes, there_again, there_before, stuck_again, stuck_before}
use Rattle.conclusion.proofs.tree_core.OneFollower.{one_least}
use Rattle.text_determinism.proofs.OneCertificate.{renumbered_step, same_items, one_order, same_steps}

-- ---- how strategies fail

module _ (answers : AnswersAreOne) (system : System) (valid : IsValid system) (budget : ℕ) where
  one_failure : (p : ProofProblem) (ss : List Strategy) (fs gs : List (Strategy × Failure)) → AllFail system budget p ss fs
      → AllFail system budget p ss gs → fs ≡ gs
  one_failure p [] [] [] a b = refl
  one_failure p [] [] (g ∷ gs) a b = absurd b
  one_failure p [] (f ∷ fs) gs a b = absurd a
  one_failure p (s ∷ ss) [] gs a b = absurd a
  one_failure p (s ∷ ss) (f ∷ fs) [] a b = absurd b
  one_failure p (s ∷ ss) (f ∷ fs) (g ∷ gs) a b =
      let named : f.0 ≡ g.0 = a.0 ∙ sym b.0 in
      let reason : f.1 ≡ g.1 = answers system budget s p (failed f.1) (failed g.1) valid a.1 b.1 in
      let rest = one_failure p ss fs gs a.2 b.2 in
      λ i. (named i, reason i) ∷ rest i

  -- ---- the part of a goal

  -- a node is the same, but for the numbers of variables
  same_node : (xs ys : List TreeNode) → renumbered_nodes xs ≡ renumbered_nodes ys → (n : ℕ) (x y : TreeNode) → slice_get xs n ≡ Some x
      → slice_get ys n ≡ Some y
      → renumbered_node x ≡ renumbered_node y
  same_node xs ys same n x y at_x at_y =
      let at = subst (λ (ns : List TreeNode). slice_get ns n ≡ Some (renumbered_node x)) same (there_again xs n x at_x) in
      one_value (slice_get (renumbered_nodes ys) n) (renumbered_node x) (renumbered_node y) at (there_again ys n y at_y)

  stuck_same : (xs ys : List TreeNode) → renumbered_nodes xs ≡ renumbered_nodes ys → (n : ℕ) → IsStuckAt xs n → IsStuckAt ys n
  stuck_same xs ys same n s =
      let at = subst (λ (ns : List TreeNode). slice_get ns n ≡ Some (renumbered_node s.node)) same (there_again xs n s.node s.there) in
      let y = there_before ys n (renumbered_node s.node) at in
      record { node = y.0; there = y.1; stuck = stuck_before y.0 (subst IsStuck y.2 (stuck_again s.node s.stuck)) }

  module _ (xs ys : List TreeNode) (same : renumbered_nodes xs ≡ renumbered_nodes ys) (root : ProofProblem) (g : ℕ) (p q : Part)
      (true_p : IsTruePart system budget root p) (true_q : IsTruePart system budget root q) (a : IsPartOf xs g p) (b : IsPartOf ys g q) where
    order_is : a.order ≡ b.order
    order_is = one_order xs ys same g a.order b.order a.walks b.walks

    steps_are : map renumbered_step p.steps ≡ map renumbered_step q.steps
    steps_are = same_steps xs ys same g a.order b.order a.walks b.walks p.steps q.steps a.steps_are b.steps_are

    node_is : p.node ≡ q.node
    node_is = one_least p.node q.node
        (λ lt. b.least p.node a.n lt (subst (λ (o : List ℕ). slice_get o p.node ≡ Some a.n) order_is a.there) (stuck_same xs ys same a.n a.stuck))
        (λ lt. a.least q.node b.n lt (subst (λ (o : List ℕ). slice_get o q.node ≡ Some b.n) (sym order_is) b.there)
        (stuck_same ys xs (sym same) b.n b.stuck))

    n_is : a.n ≡ b.n
    n_is = one_value (slice_get b.order q.node) a.n b.n
        (subst (λ (k : ℕ). slice_get b.order k ≡ Some a.n) node_is (subst (λ (o : List ℕ). slice_get o p.node ≡ Some a.n) order_is a.there)) b.there

    problem_is : p.problem ≡ q.problem
    problem_is =
        let at = subst (λ (k : ℕ). slice_get xs k ≡ Some a.stuck.node) n_is a.stuck.there in
        a.problem_is ∙ ap (λ (x : TreeNode). x.problem) (same_node xs ys same b.n a.stuck.node b.stuck.node at b.stuck.there) ∙ sym b.problem_is

    failed_is : p.failed ≡ q.failed
    failed_is = one_failure q.problem (strategies_for q.problem) p.failed q.failed
        (subst (λ (r : ProofProblem). AllFail system budget r (strategies_for r) p.failed) problem_is true_p.failed) true_q.failed

    pub part_printed : (named : NamedSystem) (word : List ℕ) → goal_item named word p ≡ goal_item named word q
    part_printed named word =
        let items = same_items named p.steps q.steps steps_are in
        λ i. list_item (word_item (codes "goal") ∷ word_item word ∷ items i ++ stuck_item (node_is i) (problem_is i) ∷ map failed_item (failed_is i))

  -- ---- the whole report

  parts_printed : (named : NamedSystem) (words : List (List ℕ)) (ps qs : List Part) → length ps ≡ length qs
      → ((k : ℕ) (p q : Part) → slice_get ps k ≡ Some p → slice_get qs k ≡ Some q → (word : List ℕ) → goal_item named word p ≡ goal_item named word q)
      → goal_items named words ps ≡ goal_items named words qs
  parts_printed named [] ps qs count each = refl
  parts_printed named (word ∷ words) [] [] count each = refl
  parts_printed named (word ∷ words) [] (q ∷ qs) count each = absurd (omega (arith, count))
  parts_printed named (word ∷ words) (p ∷ ps) [] count each = absurd (omega (arith, count))
  parts_printed named (word ∷ words) (p ∷ ps) (q ∷ qs) count each =
      let first = each 0 p q refl refl word in
      let rest = parts_printed named words ps qs (omega (arith, count)) (λ k x y at_x at_y. each (suc k) x y at_x at_y) in
      λ i. first i ∷ rest i

  pub same_report : (named : NamedSystem) (question : Question) (xs ys : List TreeNode) → renumbered_nodes xs ≡ renumbered_nodes ys
      → (ps qs : List Part)
      → IsTrueReport system question budget ps → IsTrueReport system question budget qs → ArePartsOf xs ps → ArePartsOf ys qs
      → maybe_text named question ps ≡ maybe_text named question qs
  same_report named question xs ys same ps qs true_p true_q are_p are_q =
      let each : (k : ℕ) (p q : Part) → slice_get ps k ≡ Some p → slice_get qs k ≡ Some q → (word : List ℕ)
      → goal_item named word p ≡ goal_item named word q =
      λ k p q at_p at_q word.
      let lt : k < goal_count question = let w = slice_get_within ps k p at_p in let c = true_p.count in omega (arith, w, c) in
      let root = root_below question k lt in
      part_printed xs ys same root.0 k p q (true_p.each k root.0 p root.1 at_p).1 (true_q.each k root.0 q root.1 at_q).1
      (are_p k p at_p) (are_q k q at_q) named word in
      ap (λ (is : List Item). codes "MAYBE\n" ++ lines (items_of is))
      (parts_printed named (goal_words question) ps qs (true_p.count ∙ sym true_q.count) each)
