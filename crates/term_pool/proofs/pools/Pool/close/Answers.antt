use Rattle.std.proofs.Common.{◌≡◌, All, ◌<◌, map, length, sym, subst}
use Rattle.std.proofs.lemmas.Result.{IfOk-weaker}
use Rattle.trs_defs.specs.Tree.{Tree, app}
use Rattle.trs_core.specs.declared.terms.Term.{Term}
use Rattle.trs_core.specs.View.{tree, forest}
use Rattle.term_pool.specs.Outlines.{IsOutlineOf, part_variable}
use Rattle.term_pool.proofs.OutlineLaws.{part_closed}
use Rattle.term_pool.proofs.pools.Pool.close.Goals as goal

pub returns-clause-outline : goal.returns-clause-outline
returns-clause-outline c =
    let P : Tree → Type 0 = λ o. IsOutlineOf c.add.new.self (app c.args.f (forest c.args.items.items)) o in
    let variables : map part_variable c.in-Some.ids.items ≡ map tree c.args.items.items = cc (rw c.in-Some.is at c.in_ok-ids.ensures.variables) in
    let below : All (λ i. i < length c.args.self.now) c.in-Some.ids.items =
    subst (λ n. All (λ i. i < n) c.in-Some.ids.items) c.len.ensures.len (rw c.in-Some.is at c.in_ok-ids.ensures.below) in
    let closed : P (part_variable c.in_ok-id.id) =
    part_closed c.args.self.now c.add.new.self c.args.f c.in_ok-id.id c.args.items.items c.in-Some.ids.items variables below c.in_ok-id.ensures.kept c.in_ok-id.ensures.id in
    IfOk-weaker c.variable_for.result (λ t. tree t ≡ part_variable c.in_ok-id.id) (λ t. P (tree t)) (λ (t : Term) (is : tree t ≡ part_variable c.in_ok-id.id). subst P (sym is) closed)
    c.variable_for.ensures
