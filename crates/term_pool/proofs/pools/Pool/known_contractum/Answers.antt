use Rattle.std.proofs.Common.{◌∙◌, IfSome, sym, subst}
use Rattle.trs_defs.specs.Path.{PlacedRule}
use Rattle.term_pool.specs.Pooled.{tree_at}
use Rattle.term_pool.specs.Known.{IsContractumAt}
use Rattle.term_pool.proofs.KnownLaws.{contractum_read}
use Rattle.term_pool.proofs.pools.Pool.known_contractum.Goals as goal

pub returns : goal.returns
returns c = λ rules known.
    let pool = c.args.self.now in
    let t = tree_at pool c.args.id in
    let s : PlacedRule = record { place = c.step.inside.place; rule = c.step.inside.rule } in
    let P : PlacedRule → Type 0 = λ s. IfSome c.copied.result (IsContractumAt rules pool t s) in
    subst P c.step.view_is (contractum_read rules pool c.args.known.now t s c.in-Some.part c.copied.result known
    (rw c.places.ensures.places at (sym c.in-Some.ensures.is)) (c.copied.ensures ∙ c.get.ensures.value))
