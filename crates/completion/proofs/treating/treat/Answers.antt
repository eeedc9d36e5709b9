use Rattle.std.proofs.Common.{IfOk, subst, sym, ◌∙◌}
use Rattle.trs_defs.specs.Tree.{Tree}
use Rattle.trs_core.specs.View.{tree}
use Rattle.term_pool.specs.Pooled.{tree_at}
use Rattle.term_pool.proofs.PoolTrees.{stands_at}
use Rattle.rewrite_core.proofs.PathLemmas.{is_empty}
use Rattle.completion.specs.CompletionRun.{Treats}
use Rattle.completion.specs.GreaterBy.{GreaterBy}
use Rattle.completion.specs.Treating.{pair_of, IsOutcome}
use Rattle.completion.proofs.FirstSteps.{its_own_form}
use Rattle.completion.proofs.SearchLaws.{when_ok}
use Rattle.completion.proofs.TreatLaws.{treated_if_ok}
use Rattle.completion.proofs.MetLaws.{base_itself, id_over, id_still_over, base_kept}
use Rattle.completion.proofs.PairLaws.{keeps_on, keeps_then}
use Rattle.completion.proofs.treating.treat.Goals as goal

pub returns-then-is_empty-clause-outcome : goal.returns-then-is_empty-clause-outcome
returns-then-is_empty-clause-outcome c =
    let rules = c.args.system.now.rules in
    let left = tree c.args.left.now in
    let right = tree c.args.right.now in
    let units = c.args.units in
    let none = sym c.rules.ensures.rules ∙ is_empty c.rules.result.now c.is_empty.result c.is_empty.ensures c.if-is_empty.true in
    treated_if_ok (GreaterBy c.args.order.now) c.args.system.now units left right left units (its_own_form rules units left none) right units (its_own_form rules units right none)
    c.compare.result c.compare.ensures

pub returns-then-is_empty-clause-kept : goal.returns-then-is_empty-clause-kept
returns-then-is_empty-clause-kept c = when_ok c.compare.result _ (base_itself c.args.met.now)

pub make_room-requires : goal.make_room-requires
make_room-requires c = c.requires.met.within

pub treat_ids-requires-clause-left : goal.treat_ids-requires-clause-left
treat_ids-requires-clause-left c =
    id_still_over c.args.system.now.arities c.intern.new.self.pool c.intern-2.new.self.pool c.in_ok-s.s c.in_ok-t.ensures.kept
    (id_over c.args.system.now.arities c.intern.new.self.pool c.in_ok-s.s (tree c.args.left.now) c.in_ok-s.ensures.id c.requires.left)

pub treat_ids-requires-clause-right : goal.treat_ids-requires-clause-right
treat_ids-requires-clause-right c =
    id_over c.args.system.now.arities c.intern-2.new.self.pool c.in_ok-t.t (tree c.args.right.now) c.in_ok-t.ensures.id c.requires.right

pub treat_ids-requires-clause-met : goal.treat_ids-requires-clause-met
treat_ids-requires-clause-met c = c.in_ok-t.ensures.met _ (c.in_ok-s.ensures.met _ (c.make_room.ensures.met _ c.requires.met))

pub returns-clause-outcome : goal.returns-clause-outcome
returns-clause-outcome c =
    let pool = c.intern-2.new.self.pool in
    let left = stands_at pool c.in_ok-s.s (tree c.args.left.now) (c.in_ok-t.ensures.kept.kept c.in_ok-s.s (tree c.args.left.now) c.in_ok-s.ensures.id) in
    let right = stands_at pool c.in_ok-t.t (tree c.args.right.now) c.in_ok-t.ensures.id in
    let L : Tree → Type 0 = λ s. IfOk c.treat_ids.result (IsOutcome (Treats c.args.system.now.arities (GreaterBy c.args.order.now) c.args.system.now.rules c.args.units (pair_of s (tree_at pool c.in_ok-t.t)))) in
    let R : Tree → Type 0 = λ t. IfOk c.treat_ids.result (IsOutcome (Treats c.args.system.now.arities (GreaterBy c.args.order.now) c.args.system.now.rules c.args.units (pair_of (tree c.args.left.now) t))) in
    subst R right (subst L left c.treat_ids.ensures.outcome)

pub returns-clause-kept : goal.returns-clause-kept
returns-clause-kept c =
    let first = base_kept c.make_room.new.self c.intern.new.self c.in_ok-s.ensures.base c.in_ok-s.ensures.kept in
    let second = base_kept c.intern.new.self c.intern-2.new.self c.in_ok-t.ensures.base c.in_ok-t.ensures.kept in
    keeps_then c.args.met.now c.intern-2.new.self c.treat_ids.new.met c.treat_ids.result
    (keeps_on c.args.met.now c.intern.new.self c.intern-2.new.self (keeps_on c.args.met.now c.make_room.new.self c.intern.new.self c.make_room.ensures.kept first) second)
    c.treat_ids.ensures.kept c.treat_ids.ensures.base
