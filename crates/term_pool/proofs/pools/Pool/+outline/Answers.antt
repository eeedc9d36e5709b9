use Rattle.std.proofs.Common.{◌≡◌, ℕ, refl}
use Rattle.std.proofs.lemmas.Result.{IfOk-weaker}
use Rattle.trs_defs.specs.Tree.{app}
use Rattle.trs_core.specs.declared.terms.Term.{Term}
use Rattle.trs_core.specs.View.{tree, forest}
use Rattle.term_pool.specs.Outlines.{IsOutlineOf}
use Rattle.term_pool.proofs.OutlineLaws.{one_outlined, whole_outlined}
use Rattle.term_pool.proofs.pools.Pool.+outline.Goals.{After-deref-arg-items}
use Rattle.term_pool.proofs.pools.Pool.+outline.Goals as goal

-- the term is its symbol over its arguments
node : (t : ℕ) (c : After-deref-arg-items t) → tree c.args.t.now ≡ app c.in-App.f (forest c.deref-arg-items.result.now)
node t c = rw (c.in-App.is, ← c.args-in-App.view_is, c.deref-arg-items.ensures.value) refl

pub loop-arg-preserved : goal.loop-arg-preserved
loop-arg-preserved t c =
    rw c.in_ok-push-in-App.ensures.items (one_outlined c.args.self.now c.loop-arg.self c.deref-arg-items.result.now c.loop-arg.items.items c.loop-arg.arg-index c.loop-arg.invariant
    c.outline.new.self c.arg-item.result c.in_ok-outline-in-App.field-0 c.loop-arg-test.true c.arg-item.is c.in_ok-outline-in-App.ensures.kept c.in_ok-outline-in-App.ensures.outline c.in_ok-outline-in-App.ensures.few)

pub returns-after-loop-arg-clause-outline : goal.returns-after-loop-arg-clause-outline
returns-after-loop-arg-clause-outline t c =
    IfOk-weaker c.close.result (λ o. IsOutlineOf c.close.new.self (app c.in-App.f (forest c.loop-arg.items.items)) (tree o)) (λ o. IsOutlineOf c.close.new.self (tree c.args.t.now) (tree o))
    (λ (o : Term). whole_outlined c.args.self.now c.loop-arg.self c.deref-arg-items.result.now c.loop-arg.items.items c.loop-arg.arg-index c.loop-arg.invariant c.loop-arg-test.false
    (tree c.args.t.now) c.in-App.f (node t (goal.at.returns-after-loop-arg-clause-outline t c).After-deref-arg-items) c.close.new.self (tree o) c.close.ensures.kept)
    c.close.ensures.outline
