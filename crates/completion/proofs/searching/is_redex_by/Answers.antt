use Rattle.std.proofs.Common.{◌≡◌, ◌<◌, ◌∙◌, Some, length, slice_get, refl, sym, ap, arith}
use Rattle.std.proofs.lemmas.Bool.{eqb-true, eq-eqb}
use Rattle.std.proofs.lemmas.Option.{slice_get_read}
use Rattle.term_pool.specs.Pooled.{tree_at}
use Rattle.completion.proofs.MetLaws.{ground_instance}
use Rattle.completion.proofs.SearchLaws.{none_at_root, instance_if_ok}
use Rattle.completion.proofs.searching.is_redex_by.Goals as goal

pub returns-then-k-known : goal.returns-then-k-known
returns-then-k-known c = λ r there. (
  λ yes. absurd cc,
  λ inst. absurd (none_at_root c.args.system.now.rules c.args.known c.args.k (tree_at c.args.pool.now c.args.id) c.requires.none c.if-k-known.true r there inst),
)

pub returns-in-Some : goal.returns-in-Some
returns-in-Some c = λ r there.
    let (one, other) = ground_instance c.args.system.now.rules c.args.pool.now c.args.sides.now c.args.k c.in-Some.side c.args.id c.ids_are_distinct.ensures c.requires.sides c.in-Some.ensures
    c.requires.there r there in (
      λ yes. one (eqb-true c.in-Some.side c.args.id yes),
      λ inst. eq-eqb c.in-Some.side c.args.id (other inst),
    )

pub returns-in-None : goal.returns-in-None
returns-in-None c =
    let same = c.rules-rules.ensures.rules in
    let inside : c.args.k < length c.rules-rules.result.now = omega (arith, c.requires.rule, ap length same) in
    let there : slice_get c.args.system.now.rules c.args.k ≡ Some c.index-rules-k.result =
    ap (λ rs. slice_get rs c.args.k) (sym same) ∙ slice_get_read c.rules-rules.result.now (length c.rules-rules.result.now) c.args.k c.index-rules-k.result refl inside c.index-rules-k.is in
    instance_if_ok c.is_instance.result c.args.system.now.rules c.args.k c.index-rules-k.result (tree_at c.args.pool.now c.args.id) there c.is_instance.ensures
