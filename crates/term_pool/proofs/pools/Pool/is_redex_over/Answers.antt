use Rattle.std.proofs.Common.{◌↔◌, ◌∙◌, IsTrue, IfOk, sym, subst}
use Rattle.trs_defs.specs.Substitution.{IsInstance}
use Rattle.trs_defs.specs.System.{RewriteRule}
use Rattle.term_pool.specs.Pooled.{tree_at}
use Rattle.term_pool.proofs.KnownLaws.{on_ok}
use Rattle.term_pool.proofs.LeftSideLaws.{last_failed, side_refuted, side_within}
use Rattle.term_pool.proofs.pools.Pool.is_redex_over.Goals as goal

pub may_be_instance-requires-clause-pattern : goal.may_be_instance-requires-clause-pattern
may_be_instance-requires-clause-pattern c =
    side_within c.args.by_root.now.rules c.args.self.now c.args.sides.now c.args.k c.in-Some.side c.args.rule.now c.requires.sides (sym c.id.ensures ∙ c.in-Some.is) c.requires.rule

pub returns-then-not-may_be_instance-clause-redex : goal.returns-then-not-may_be_instance-clause-redex
returns-then-not-may_be_instance-clause-redex c = (
  λ e. absurd cc,
  λ inst. absurd (side_refuted c.args.by_root.now.rules c.args.self.now c.args.sides.now c.args.k c.in-Some.side c.args.rule.now (tree_at c.args.self.now c.args.id) c.requires.sides (sym c.id.ensures ∙ c.in-Some.is) c.requires.rule
      (c.may_be_instance.ensures c.if-not-may_be_instance.true) inst),
)

pub returns-then-is_same-clause-redex : goal.returns-then-is_same-clause-redex
returns-then-is_same-clause-redex c = (
  λ e. absurd cc,
  λ inst. absurd (side_refuted c.args.by_root.now.rules c.args.self.now c.args.sides.now c.args.k c.in-Some.side c.args.rule.now (tree_at c.args.self.now c.args.id) c.requires.sides
      (sym c.id.ensures ∙ c.in-Some.is) c.requires.rule (last_failed (λ side. IsInstance (tree_at c.args.self.now side) (tree_at c.args.self.now c.args.id) → ⊥) c.args.last c.in-Some.side
      (c.is_same.ensures c.if-is_same.true) c.requires.last) inst),
)

pub returns-clause-redex : goal.returns-clause-redex
returns-clause-redex c =
    let P : RewriteRule → Type 0 = λ r. IfOk c.is_instance_of.result (λ yes. IsTrue yes ↔ IsInstance r.left (tree_at c.args.self.now c.args.id)) in
    subst P c.rule.view_is c.is_instance_of.ensures

pub returns-clause-known : goal.returns-clause-known
returns-clause-known c = on_ok c.is_instance_of.result c.requires.known
