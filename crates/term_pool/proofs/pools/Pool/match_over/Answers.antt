use Rattle.trs_core.specs.View.{tree}
use Rattle.term_pool.specs.Pooled.{tree_at}
use Rattle.term_pool.specs.Bindings.{bound_terms}
use Rattle.term_pool.proofs.MatchSteps.{agrees_bound}
use Rattle.term_pool.proofs.OutlineLaws.{parts_there, named_agrees, none_over}
use Rattle.term_pool.proofs.pools.Pool.match_over.Goals as goal

pub match_more-requires-clause-ids : goal.match_more-requires-clause-ids
match_more-requires-clause-ids c = parts_there c.args.self.now c.with_parts-found.result c.len.result c.len.ensures.len c.with_parts-found.ensures

pub returns-then-branch-clause-parts : goal.returns-then-branch-clause-parts
returns-then-branch-clause-parts c =
    let pool = c.args.self.now in
    let new = c.match_more.new.found in
    let narrows = rw c.if-branch.true at c.in_ok-match_more.ensures.matches in
    named_agrees pool c.with_parts-found.result c.len.result c.len.ensures.len c.with_parts-found.ensures (bound_terms pool new) (narrows.sound (bound_terms pool new) (agrees_bound pool new)).0

pub returns-else-branch-clause-none : goal.returns-else-branch-clause-none
returns-else-branch-clause-none c =
    none_over c.args.self.now c.with_parts-found.result c.len.result c.len.ensures.len c.with_parts-found.ensures (tree c.args.pattern.now) (tree_at c.args.self.now c.args.id)
    (rw c.if-branch.false at c.in_ok-match_more.ensures.matches)
