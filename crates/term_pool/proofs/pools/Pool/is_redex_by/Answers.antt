use Rattle.std.proofs.Common.{◌∙◌, ◌↔◌, IsTrue, IfOk, refl, sym, subst}
use Rattle.trs_defs.specs.Substitution.{IsInstance}
use Rattle.trs_defs.specs.System.{RewriteRule}
use Rattle.term_pool.specs.Pooled.{tree_at}
use Rattle.term_pool.proofs.KnownLaws.{too_small, redex_known, on_ok}
use Rattle.term_pool.proofs.pools.Pool.is_redex_by.Goals as goal

pub returns-then-branch-size-clause-redex : goal.returns-then-branch-size-clause-redex
returns-then-branch-size-clause-redex c = (
  λ e. absurd cc,
  λ h. absurd (too_small c.args.rule.now.left (tree_at c.args.self.now c.args.id) c.in_ok-left_size.field-0 c.measure-size.result.size
      (c.in_ok-left_size.ensures.size c.args.by_root.now.rules c.args.self.now c.requires.rule c.requires.known) c.measure-size.ensures.size c.if-branch-size.true h),
)

pub returns-then-branch-size-clause-known : goal.returns-then-branch-size-clause-known
returns-then-branch-size-clause-known c = c.in_ok-left_size.ensures.known c.args.by_root.now.rules c.args.self.now c.requires.rule c.requires.known

pub returns-then-contains_key-clause-redex : goal.returns-then-contains_key-clause-redex
returns-then-contains_key-clause-redex c = (
  λ _. redex_known c.args.by_root.now.rules c.args.self.now c.left_size.new.self c.args.id c.args.k c.args.rule.now
      (c.in_ok-left_size.ensures.known c.args.by_root.now.rules c.args.self.now c.requires.rule c.requires.known) c.requires.rule (sym c.contains_key.ensures ∙ c.if-contains_key.true),
  λ _. refl,
)

pub returns-then-contains_key-clause-known : goal.returns-then-contains_key-clause-known
returns-then-contains_key-clause-known c = c.in_ok-left_size.ensures.known c.args.by_root.now.rules c.args.self.now c.requires.rule c.requires.known

pub returns-clause-redex : goal.returns-clause-redex
returns-clause-redex c =
    let P : RewriteRule → Type 0 = λ r. IfOk c.is_instance_of.result (λ yes. IsTrue yes ↔ IsInstance r.left (tree_at c.args.self.now c.args.id)) in
    subst P c.rule.view_is c.is_instance_of.ensures

pub returns-clause-known : goal.returns-clause-known
returns-clause-known c = on_ok c.is_instance_of.result (c.in_ok-left_size.ensures.known c.args.by_root.now.rules c.args.self.now c.requires.rule c.requires.known)
