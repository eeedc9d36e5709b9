-- A step that applies does so with the variables of its terms numbered anew.
use Rattle.std.specs.Prelude.{ℕ, List, [], ◌∷◌, Some, Ok, IsTrue}
use Rattle.std.proofs.Common.{ap, sym, ◌∙◌, subst}
use Rattle.trs_defs.specs.Tree.{Tree, var}
use Rattle.trs_defs.specs.Variable.{variables_of}
use Rattle.trs_defs.specs.Substitution.{apply, IsInstance}
use Rattle.trs_defs.specs.Position.{replaced_at}
use Rattle.trs_defs.specs.System.{RewriteRule}
use Rattle.trs_defs.specs.Path.{PlacedRule, StepsAt, Follows}
use Rattle.trs_defs.proofs.Substitutions.{apply_apply, same_instance}
use Rattle.rewrite_core.specs.Check.{goes_on, holds, there, absent}
use Rattle.rewrite_core.specs.PathCheck.{followed}
use Rattle.rewrite_core.specs.LoopConditions.{loop_conditions}
use Rattle.trs_defs.proofs.InstancePlaces.{subterm_image, replaced_image}
use Rattle.cert_text.specs.cert_step.ProofStep as step
use Rattle.cert_text.specs.cert_step.Applies.{Applies}
use Rattle.term_text.specs.Renumbered.{number_among, in_order}
use Rattle.conclusion.specs.InOrder.{StepsApplyInOrder}
use Rattle.conclusion.proofs.Renaming.{renamed, with_numbers_renamed, renamed_within, numbered, numbered_again, in_order_already}

module _ (rules : List RewriteRule) (r : ℕ → ℕ) where
  step_renamed : (p : List ℕ) (k : ℕ) (t u : Tree) → StepsAt rules p k t u → StepsAt rules p k (renamed r t) (renamed r u)
  step_renamed p k t u h = record {
    rule = h.rule;
    numbered = h.numbered;
    substitution = λ v. renamed r (h.substitution v);
    from = subterm_image (λ v. var (r v)) p t _ h.from ∙ ap (λ x. Some x) (apply_apply (λ v. var (r v)) h.substitution h.rule.left);
    to =
        ap (λ x. replaced_at p (renamed r t) x) (sym (apply_apply (λ v. var (r v)) h.substitution h.rule.right))
        ∙ replaced_image (λ v. var (r v)) p t _ u h.to;
  }

  pub follows_renamed : (path : List PlacedRule) (t v : Tree) → Follows rules path t v → Follows rules path (renamed r t) (renamed r v)
  follows_renamed [] t v e = ap (renamed r) e
  follows_renamed (s ∷ path) t v (u, one, small, rest) =
      (renamed r u, step_renamed s.place s.rule t u one, subst IsTrue (sym (renamed_within r u)) small, follows_renamed path u v rest)

-- an instance of the start is one of the start with other numbers
instance_in_order : (start part : Tree) → IsInstance start part → IsInstance (in_order start) (renamed (number_among (variables_of start)) part)
instance_in_order start part (σ, is) =
    let vs = variables_of start in
    let r = number_among vs in
    let back : ℕ → Tree = λ k. renamed r (σ (numbered vs k)) in (
      back,
      ap (apply back) (with_numbers_renamed vs start)
          ∙ apply_apply back (λ v. var (r v)) start
          ∙ same_instance (λ v. back (r v)) (λ v. renamed r (σ v)) start (λ v h. ap (λ w. renamed r (σ w)) (numbered_again start v h))
          ∙ sym (apply_apply (λ v. var (r v)) σ start)
          ∙ ap (renamed r) is,
    )

loop_in_order : (rules : List RewriteRule) (start : Tree) (path : List PlacedRule) (place : List ℕ)
    → loop_conditions rules start path place (Ok tt) → loop_conditions rules (in_order start) path place (Ok tt)
loop_in_order rules start path place (goes_on _ _ (absent some) (goes_on _ _ (followed end follows) (goes_on _ _ (there part at) (holds is)))) =
    let r = number_among (variables_of start) in
    let new = with_numbers_renamed (variables_of start) start in
    let follows' : Follows rules path (in_order start) (renamed r end) = subst (λ t. Follows rules path t (renamed r end)) (sym new) (follows_renamed rules r path start end follows) in
    goes_on _ _ (absent some) (goes_on _ _ (followed (renamed r end) follows')
    (goes_on _ _ (there (renamed r part) (subterm_image (λ v. var (r v)) place end part at)) (holds (instance_in_order start part is))))

pub applies_in_order : StepsApplyInOrder
applies_in_order system p (step.loop start path place) subproblems o (goes_on u _ (holds is) (goes_on v _ conditions leaves)) =
    goes_on u _ (holds is) (goes_on v _ (loop_in_order system.rules start path place conditions) leaves)
applies_in_order system p (step.fork start left right test) subproblems o h =
    subst (λ t. Applies system p (step.fork t left right test) subproblems) (sym (in_order_already start o)) h
applies_in_order system p step.dp subproblems o h = h
applies_in_order system p (step.graph items) subproblems o h = h
applies_in_order system p (step.subterm projection) subproblems o h = h
applies_in_order system p (step.poly entries) subproblems o h = h
applies_in_order system p (step.lpo entries) subproblems o h = h
applies_in_order system p (step.kbo entries) subproblems o h = h
applies_in_order system p (step.usable_poly entries) subproblems o h = h
applies_in_order system p (step.newman items) subproblems o h = h
applies_in_order system p (step.parallel items) subproblems o h = h
applies_in_order system p (step.strong items) subproblems o h = h
applies_in_order system p (step.label ranks items) subproblems o h = h
applies_in_order system p step.confluence subproblems o h = h
