use Rattle.std.specs.Prelude.{◌≡◌, ◌↔◌, IsTrue, IfOk}
use Rattle.std.proofs.Common.{subst}
use Rattle.trs_defs.specs.Tree.{Tree}
use Rattle.trs_defs.specs.Joinable.{IsJoinable}
use Rattle.trs_defs.specs.Step.{Step}
use Rattle.trs_core.specs.View.{tree}
use Rattle.term_pool.specs.Pooled.{tree_at}
use Rattle.term_pool.proofs.PoolTrees.{stands_at, stands_within}
use Rattle.nonjoin.specs.Apart.{AreApart}
use Rattle.nonjoin.proofs.comparing.apart.Goals.{In_ok-second}
use Rattle.nonjoin.proofs.comparing.apart.Goals as goal

-- the ids stand for the terms
first_is : (c : In_ok-second) → tree_at c.intern-2.new.self c.in_ok-first.first ≡ tree c.args.a.now
first_is c = stands_at c.intern-2.new.self c.in_ok-first.first (tree c.args.a.now) (c.intern-2.ensures.kept.kept c.in_ok-first.first (tree c.args.a.now) c.in_ok-first.ensures.id)

second_is : (c : In_ok-second) → tree_at c.intern-2.new.self c.in_ok-second.second ≡ tree c.args.b.now
second_is c = stands_at c.intern-2.new.self c.in_ok-second.second (tree c.args.b.now) c.in_ok-second.ensures.id

pub apart_in_pool-requires-clause-first : goal.apart_in_pool-requires-clause-first
apart_in_pool-requires-clause-first c =
    stands_within c.intern-2.new.self c.in_ok-first.first (tree c.args.a.now) (c.intern-2.ensures.kept.kept c.in_ok-first.first (tree c.args.a.now) c.in_ok-first.ensures.id)

pub apart_in_pool-requires-clause-second : goal.apart_in_pool-requires-clause-second
apart_in_pool-requires-clause-second c = stands_within c.intern-2.new.self c.in_ok-second.second (tree c.args.b.now) c.in_ok-second.ensures.id

pub returns-clause-caps : goal.returns-clause-caps
returns-clause-caps c =
    let a = (goal.at.returns-clause-caps c).In_ok-second in
    let P : Tree → Tree → Type 0 = λ t u. IfOk c.apart_in_pool.result (λ yes. IsTrue yes ↔ AreApart c.args.trs.now.rules t u) in
    subst (λ t. P t (tree c.args.b.now)) (first_is a) (subst (P (tree_at c.intern-2.new.self c.in_ok-first.first)) (second_is a) c.apart_in_pool.ensures.caps)

pub returns-clause-not_joinable : goal.returns-clause-not_joinable
returns-clause-not_joinable c =
    let a = (goal.at.returns-clause-not_joinable c).In_ok-second in
    let P : Tree → Tree → Type 0 = λ t u. IfOk c.apart_in_pool.result (λ yes. IsTrue yes → IsJoinable (Step c.args.trs.now.rules) t u → ⊥) in
    subst (λ t. P t (tree c.args.b.now)) (first_is a) (subst (P (tree_at c.intern-2.new.self c.in_ok-first.first)) (second_is a) c.apart_in_pool.ensures.not_joinable)
