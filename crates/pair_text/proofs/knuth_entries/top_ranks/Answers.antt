use Rattle.std.proofs.Common.{length, ◌≤◌, refl, sym, subst, ◌∙◌, arith}
use Rattle.sexp_core.specs.Items.{views}
use Rattle.pair_text.proofs.TopRankLaws.{IsTelling, tell_more, tell_all}
use Rattle.pair_text.proofs.knuth_entries.top_ranks.Goals as goal

pub loop-item-init : goal.loop-item-init
loop-item-init c = record { ordered = tt; tell = λ f rank. refl }

pub loop-item-preserved : goal.loop-item-preserved
loop-item-preserved c =
    let named = c.args.system.now in
    rw c.with_read-top.ensures
    (tell_more named c.loop-item.top c.args.items.now c.item-item.result c.loop-item.item-index _ c.read_stated.result c.loop-item-test.true c.item-item.is c.read_stated.ensures c.loop-item.invariant)

pub returns : goal.returns
returns c =
    let past : length c.args.items.now ≤ c.loop-item.item-index = omega (arith, c.loop-item-test.false) in
    tell_all c.args.system.now c.loop-item.top c.args.items.now c.loop-item.item-index _ past c.loop-item.invariant
