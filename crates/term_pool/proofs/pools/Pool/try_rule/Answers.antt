use Rattle.std.proofs.Common.{inl, [], ◌∷◌, ◌++◌, ap, ◌∙◌}
use Rattle.term_pool.proofs.pools.Pool.try_rule.Goals as goal

pub returns-in_ok-push-clause-tried : goal.returns-in_ok-push-clause-tried
returns-in_ok-push-clause-tried c = inl (
  c.in_ok-is_redex_by.ensures.redex.0 c.if-branch.true,
  c.in_ok-push.ensures.items ∙ ap (λ p. c.args.found.now.items ++ record { place = p; rule = c.args.k } ∷ []) c.in_ok-place.ensures,
)
