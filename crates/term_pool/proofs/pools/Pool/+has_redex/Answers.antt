use Rattle.std.proofs.Common.{ℕ, refl}
use Rattle.term_pool.specs.Pooled.{tree_at}
use Rattle.term_pool.specs.Redex.{HasRedex}
use Rattle.term_pool.specs.Known.{IsKnown}
use Rattle.term_pool.proofs.NormalForms.{redex_at_root}
use Rattle.term_pool.proofs.PassedIds.{root_then_arguments, no_redex_in_variable, no_arguments}
use Rattle.term_pool.proofs.PoolPlaces.{id_tree, id_variable}
use Rattle.term_pool.proofs.pools.Pool.+has_redex.Goals.{Joined-node, in-App+else-loop-arg-test, in_default}
use Rattle.term_pool.proofs.pools.Pool.+has_redex.Goals as goal

pub returns-then-branch-clause-redex : goal.returns-then-branch-clause-redex
returns-then-branch-clause-redex t c =
    (λ _. redex_at_root c.args.by_root.now.rules (tree_at c.args.self.now c.args.id) (c.in_ok-is_redex.ensures.redex.0 c.if-branch.true), λ _. refl)

pub loop-arg-init : goal.loop-arg-init
loop-arg-init t c =
    let is = id_tree c.args.self.now c.args.id c.in-App.field-0 c.node.result.now c.in-App.args c.as_slice-arg-items.result.now c.node.ensures.is c.in-App.is c.as_slice-arg-items.ensures in
    record {
      same = root_then_arguments c.args.by_root.now.rules (tree_at c.args.self.now c.args.id) c.in-App.field-0 _ is (λ r. let e = c.in_ok-is_redex.ensures.redex.1 r in absurd (cc (e, c.if-branch.false)));
      known = c.in_ok-is_redex.ensures.known;
    }

-- neither the root nor an argument is or has a redex
no_redex : (t : ℕ) (c : Joined-node t) → HasRedex c.args.by_root.now.rules (tree_at c.args.self.now c.args.id) → ⊥
no_redex t c = elim c.match-node.branch as (λ _. HasRedex c.args.by_root.now.rules (tree_at c.args.self.now c.args.id) → ⊥) [
  | in-App+else-loop-arg-test w ↦ λ h. no_arguments c.args.by_root.now.rules c.args.self.now w.as_slice-arg-items.result.now w.loop-arg.arg-index w.loop-arg-test.false (w.loop-arg.invariant.same.1 h)
  | in_default w ↦
      let is = id_variable c.args.self.now c.args.id w.in_default.field-0 c.node.result.now c.node.ensures.is w.in_default.is in
      no_redex_in_variable c.args.by_root.now.rules (tree_at c.args.self.now c.args.id) w.in_default.field-0 is (λ r. let e = c.in_ok-is_redex.ensures.redex.1 r in absurd (cc (e, c.if-branch.false)))
]

-- what is known after the root and the arguments
known : (t : ℕ) (c : Joined-node t) → IsKnown c.args.by_root.now.rules c.args.self.now c.match-node.known
known t c = elim c.match-node.branch as (λ _. IsKnown c.args.by_root.now.rules c.args.self.now c.match-node.known) [
  | in-App+else-loop-arg-test w ↦ rw w.known-is w.loop-arg.invariant.known
  | in_default w ↦ rw w.known-is c.in_ok-is_redex.ensures.known
]

pub pass-requires-clause-normal : goal.pass-requires-clause-normal
pass-requires-clause-normal t c = no_redex t (goal.at.pass-requires-clause-normal t c).Joined-node

pub pass-requires-clause-known : goal.pass-requires-clause-known
pass-requires-clause-known t c = known t (goal.at.pass-requires-clause-known t c).Joined-node

pub returns-clause-redex : goal.returns-clause-redex
returns-clause-redex t c = (λ e. absurd cc, λ h. absurd (no_redex t (goal.at.returns-clause-redex t c).Joined-node h))
