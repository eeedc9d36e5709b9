use Rattle.std.proofs.Common.{refl}
use Rattle.term_pool.specs.Pooled.{tree_at}
use Rattle.term_pool.proofs.RootRules.{AreProper, proper_sides, Matches, one_more_not, none_at_end}
use Rattle.completion.proofs.RootSearch.{next_rule, none_at_variable, first_with_root, none_with_root}
use Rattle.completion.proofs.searching.root_redex.Goals.{After-growing_systems_are_valid}
use Rattle.completion.proofs.searching.root_redex.Goals as goal

proper : (c : After-growing_systems_are_valid) → AreProper c.args.system.now.rules
proper c = proper_sides c.args.system.now c.args.system.now.rules refl c.growing_systems_are_valid.ensures.valid

pub returns-in_default : goal.returns-in_default
returns-in_default c =
    none_at_variable c.args.system.now.rules c.args.system.now.rules (tree_at c.args.pool.now c.args.id) refl (proper (goal.at.returns-in_default c).After-growing_systems_are_valid) c.in_default.ensures.none

pub is_redex_by-requires-clause-rule : goal.is_redex_by-requires-clause-rule
is_redex_by-requires-clause-rule c = c.with_root-k-items.ensures.within c.loop-k.k-index 0 c.loop-k-test.true

pub returns-then-branch : goal.returns-then-branch
returns-then-branch c =
    let rules = c.args.system.now.rules in
    let ks = c.with_root-k-items.result.now in
    let (rule, there) = next_rule rules ks c.loop-k.k-index c.with_root-k-items.ensures.within c.loop-k-test.true in
    first_with_root rules rules (tree_at c.args.pool.now c.args.id) c.in-Some.f refl (proper (goal.at.returns-then-branch c).After-growing_systems_are_valid) c.in-Some.ensures.some
    ks c.with_root-k-items.ensures.numbers c.loop-k.k-index c.loop-k-test.true rule there ((c.in_ok-is_redex_by.ensures rule there).0 c.if-branch.true) c.loop-k.invariant

pub loop-k-preserved : goal.loop-k-preserved
loop-k-preserved c =
    let rules = c.args.system.now.rules in
    let ks = c.with_root-k-items.result.now in
    let (rule, there) = next_rule rules ks c.loop-k.k-index c.with_root-k-items.ensures.within c.loop-k-test.true in
    one_more_not (Matches (tree_at c.args.pool.now c.args.id)) rules ks c.loop-k.k-index rule c.loop-k-test.true there
    (λ inst. let e = (c.in_ok-is_redex_by.ensures rule there).1 inst in absurd (cc (e, c.if-branch.false))) c.loop-k.invariant

pub returns : goal.returns
returns c =
    let rules = c.args.system.now.rules in
    none_with_root rules rules (tree_at c.args.pool.now c.args.id) c.in-Some.f refl (proper (goal.at.returns c).After-growing_systems_are_valid) c.in-Some.ensures.some
    (none_at_end (Matches (tree_at c.args.pool.now c.args.id)) c.in-Some.f rules rules c.with_root-k-items.result.now c.loop-k.k-index refl
    c.with_root-k-items.ensures.numbers c.loop-k-test.false c.loop-k.invariant)
