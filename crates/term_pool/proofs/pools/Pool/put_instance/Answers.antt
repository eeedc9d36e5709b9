use Rattle.std.proofs.Common.{◌≡◌, ◌∙◌, ap, sym, take}
use Rattle.trs_core.specs.View.{tree}
use Rattle.term_pool.specs.Bindings.{instance_of}
use Rattle.term_pool.specs.Pooled.{tree_at}
use Rattle.term_pool.proofs.Contracta.{has_put, is_placed, is_too_large}
use Rattle.term_pool.proofs.Extending.{cut_back, extends_itself, extends_on}
use Rattle.term_pool.proofs.pools.Pool.put_instance.Goals.{After-release}
use Rattle.term_pool.proofs.pools.Pool.put_instance.Goals as goal

pub put-requires-clause-put : goal.put-requires-clause-put
put-requires-clause-put c =
    has_put c.args.self.now c.instance.new.self c.args.places.now c.args.id c.in_ok-by.by (tree_at c.args.self.now c.args.part) (instance_of c.args.self.now c.args.found.now (tree c.args.t.now))
    c.requires.id c.in_ok-by.ensures.kept c.in_ok-by.ensures.id c.requires.there

pub returns-then-not-keeps_limits-clause-none : goal.returns-then-not-keeps_limits-clause-none
returns-then-not-keeps_limits-clause-none c =
    is_too_large c.args.self.now c.instance.new.self c.args.places.now c.args.id c.in_ok-by.by (tree_at c.args.self.now c.args.part) (instance_of c.args.self.now c.args.found.now (tree c.args.t.now))
    c.requires.id c.in_ok-by.ensures.kept c.in_ok-by.ensures.id c.requires.there c.put.new.self c.in_ok-new.new c.in_ok-new.ensures.id
    (sym c.keeps_limits.ensures ∙ c.if-not-keeps_limits.true)

unchanged : (c : After-release) → c.release.new.self ≡ c.args.self.now
unchanged c =
    let made = extends_on c.args.self.now c.instance.new.self c.put.new.self c.in_ok-by.ensures.kept c.in_ok-new.ensures.kept in
    c.release.ensures ∙ (ap (λ k. take k c.put.new.self) c.mark-mark.ensures ∙ cut_back c.args.self.now c.put.new.self made)

pub returns-then-not-keeps_limits-clause-unchanged : goal.returns-then-not-keeps_limits-clause-unchanged
returns-then-not-keeps_limits-clause-unchanged c = unchanged (goal.at.returns-then-not-keeps_limits-clause-unchanged c).After-release

pub returns-then-not-keeps_limits-clause-kept : goal.returns-then-not-keeps_limits-clause-kept
returns-then-not-keeps_limits-clause-kept c = rw (unchanged (goal.at.returns-then-not-keeps_limits-clause-kept c).After-release) (extends_itself c.args.self.now)

pub returns-clause-put : goal.returns-clause-put
returns-clause-put c =
    is_placed c.args.self.now c.instance.new.self c.args.places.now c.args.id c.in_ok-by.by (tree_at c.args.self.now c.args.part) (instance_of c.args.self.now c.args.found.now (tree c.args.t.now))
    c.requires.id c.in_ok-by.ensures.kept c.in_ok-by.ensures.id c.requires.there c.put.new.self c.in_ok-new.new c.in_ok-new.ensures.id
    (sym c.keeps_limits.ensures ∙ c.if-not-keeps_limits.false)
    c.in_ok-new.ensures.there c.in_ok-by.ensures.few c.in_ok-new.ensures.few
