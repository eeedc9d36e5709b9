use Rattle.std.proofs.Common.{◌≡◌, ℕ, ◌+◌, ◌≤◌, length, arith}
use Rattle.std.proofs.lemmas.Result.{IfOk-weaker}
use Rattle.term_pool.specs.Pooled.{tree_at}
use Rattle.term_pool.proofs.Extending.{extends_on, same_tree_at}
use Rattle.term_pool.proofs.pools.Pool.run.Goals.{In_ok-outlines}
use Rattle.term_pool.proofs.pools.Pool.run.Goals as goal

-- the start keeps its term
same : (c : In_ok-outlines) → tree_at c.outlines_of.new.self c.args.id ≡ tree_at c.args.self.now c.args.id
same c = same_tree_at c.args.self.now c.outlines_of.new.self c.in_ok-outlines.ensures.kept c.args.id c.requires

pub follow-requires-clause-there : goal.follow-requires-clause-there
follow-requires-clause-there c =
    let longer = c.in_ok-outlines.ensures.kept.longer in
    omega (arith, c.requires, longer)

pub returns-clause-end : goal.returns-clause-end
returns-clause-end c = rw (same (goal.at.returns-clause-end c).In_ok-outlines) at c.follow.ensures.end

pub returns-clause-fault : goal.returns-clause-fault
returns-clause-fault c = rw (same (goal.at.returns-clause-fault c).In_ok-outlines) at c.follow.ensures.fault

pub returns-clause-only : goal.returns-clause-only
returns-clause-only c = λ u h. c.follow.ensures.only u (rw (same (goal.at.returns-clause-only c).In_ok-outlines) h)

pub returns-clause-kept : goal.returns-clause-kept
returns-clause-kept c = extends_on c.args.self.now c.outlines_of.new.self c.follow.new.self c.in_ok-outlines.ensures.kept c.follow.ensures.kept

pub returns-clause-few : goal.returns-clause-few
returns-clause-few c =
    let few = c.in_ok-outlines.ensures.few in
    IfOk-weaker c.follow.result (λ (_ : ℕ). length c.follow.new.self ≤ length c.outlines_of.new.self + 1048576) (λ (_ : ℕ). length c.follow.new.self ≤ length c.args.self.now + 1048576 + 65536)
    (λ _ h. omega (arith, few, h)) c.follow.ensures.few
