use Rattle.std.proofs.Common.{◌≡◌, List, Some, length, slice_get, refl, subst}
use Rattle.std.proofs.lemmas.Option.{slice_get_read}
use Rattle.trs_defs.specs.System.{RewriteRule}
use Rattle.term_pool.specs.LeftSides.{IsGround}
use Rattle.term_pool.specs.Pooled.{tree_at}
use Rattle.join_find.proofs.RootRules.{ground_leads}
use Rattle.join_find.proofs.root_rule.leads.Goals as goal

pub returns-then-is_ground-clause-leads : goal.returns-then-is_ground-clause-leads
returns-then-is_ground-clause-leads c =
    let k = c.args.k in
    let rule = c.in-Some.rule.now in
    let read : slice_get c.rules.result.now k ≡ Some rule = slice_get_read c.rules.result.now (length c.rules.result.now) k rule refl c.in-Some.ensures.lookup.3.0 c.in-Some.ensures.lookup.1 in
    let N : List RewriteRule → Type 0 = λ rules. slice_get rules k ≡ Some rule in
    let numbered : slice_get c.args.trs.now.rules k ≡ Some rule = subst N c.rules.ensures.rules read in
    let ground : IsGround rule.right = rw (← c.rule.view_is) (c.is_ground.ensures c.if-is_ground.true) in
    let both = c.in_ok-both_match.ensures.0 c.if-not-branch.false in
    let leads = ground_leads c.args.trs.now.rules k (tree_at c.args.pool.now c.args.ids.0) (tree_at c.args.pool.now c.args.ids.1) rule numbered ground both in
    (λ _. leads, λ _. cc)
