use Rattle.std.proofs.Common.{◌<◌, length, map, ap}
use Rattle.std.proofs.lemmas.List.Elements.{All-nil, All-push}
use Rattle.term_pool.specs.Pooled.{tree_at}
use Rattle.conf_find.proofs.NumberedCaps.{no_more_items, one_more_item, all_items}
use Rattle.conf_find.proofs.caps.arguments.Goals as goal

pub loop-i-init : goal.loop-i-init
loop-i-init c = record {
  terms = λ f ts is. ap (map (tree_at c.args.pool.now)) c.new-ids.ensures.items;
  there = rw c.new-ids.ensures.items (All-nil (λ j. j < length c.args.pool.now));
}

pub returns-in_default-clause-terms : goal.returns-in_default-clause-terms
returns-in_default-clause-terms c = λ f ts is.
    no_more_items c.args.pool.now c.args.id c.loop-i.i c.argument.result c.argument.ensures.is f ts is c.loop-i.ids.items c.in_default.is (c.loop-i.invariant.terms f ts is)

pub loop-i-preserved : goal.loop-i-preserved
loop-i-preserved c = record {
  terms = λ f ts is. one_more_item c.args.pool.now c.args.id c.loop-i.i c.argument.result c.argument.ensures.is f ts is c.loop-i.ids.items c.push.new.self.items c.in-Some.arg
      c.in-Some.is (c.loop-i.invariant.terms f ts is) c.in_ok-push.ensures.items;
  there = rw c.in_ok-push.ensures.items (All-push (λ j. j < length c.args.pool.now) c.loop-i.ids.items c.in-Some.arg c.loop-i.invariant.there (rw c.in-Some.is at c.argument.ensures.there));
}

pub returns-clause-terms : goal.returns-clause-terms
returns-clause-terms c = λ f ts is.
    all_items c.args.pool.now (tree_at c.args.pool.now c.args.id) f ts c.loop-i.ids.items c.loop-i.i c.loop-i-test.false c.requires.narrow.narrow is (c.loop-i.invariant.terms f ts is)
