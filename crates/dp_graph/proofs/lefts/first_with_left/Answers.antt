use Rattle.std.proofs.Common.{◌≡◌, [], length, ap, sym, subst, arith, refl}
use Rattle.std.proofs.lemmas.Option.{slice_get_read}
use Rattle.trs_defs.specs.System.{RewriteRule}
use Rattle.dp_core.specs.PlacedPairs.{defined_places}
use Rattle.dp_graph.proofs.LeftLaws.{no_lefts, one_more_left, one_more_own, one_more_other, no_pairs_of, all_lefts}
use Rattle.dp_graph.proofs.lefts.first_with_left.Goals as goal

pub loop-k-init : goal.loop-k-init
loop-k-init c = record {
  low = omega arith;
  same = no_lefts c.args.rules.now c.new-pool.result c.new-seen.result.items c.in_ok-firsts.firsts.items c.new-seen.ensures.items c.in_ok-firsts.ensures.items;
}

pub loop-k-preserved : goal.loop-k-preserved
loop-k-preserved c = record {
  low = omega (arith, c.loop-k-test.true);
  same = one_more_left c.args.rules.now c.loop-k.pool c.intern.new.self c.loop-k.seen.items c.noted_or.new.seen.items c.loop-k.firsts.items c.push-in-loop-k.new.self.items c.loop-k.k c.in_ok-id.id c.in_ok-noted_or.field-0 c.index-rules-k.result
      c.loop-k.invariant.same (slice_get_read c.args.rules.now (length c.args.rules.now) c.loop-k.k c.index-rules-k.result refl c.loop-k-test.true c.index-rules-k.is) c.in_ok-id.ensures.kept
      (rw (ap (λ (r : RewriteRule). r.left) c.rule.view_is) at c.in_ok-id.ensures.id) c.in_ok-noted_or.ensures.number c.in_ok-noted_or.ensures.notes c.in_ok-push-3.ensures.items;
}

pub loop-k-preserved-then-not-has_defined : goal.loop-k-preserved-then-not-has_defined
loop-k-preserved-then-not-has_defined c =
    let none : defined_places c.args.rules.now c.index-rules-k.result.right ≡ [] =
    subst (λ z. defined_places z c.index-rules-k.result.right ≡ []) (sym c.requires) (rw (ap (λ (r : RewriteRule). r.right) c.rule.view_is) at (c.has_defined.ensures.0 c.if-not-has_defined.true)) in
    record {
      low = omega (arith, c.loop-k-test.true);
      same = one_more_other c.args.rules.now c.loop-k.pool c.loop-k.seen.items c.loop-k.firsts.items c.push.new.self.items c.loop-k.k c.index-rules-k.result c.loop-k.invariant.same
          (slice_get_read c.args.rules.now (length c.args.rules.now) c.loop-k.k c.index-rules-k.result refl c.loop-k-test.true c.index-rules-k.is) (no_pairs_of c.args.rules.now c.index-rules-k.result.left c.index-rules-k.result.right none) c.in_ok-push.ensures.items;
    }

pub loop-k-preserved-then-has_own_root : goal.loop-k-preserved-then-has_own_root
loop-k-preserved-then-has_own_root c = record {
  low = omega (arith, c.loop-k-test.true);
  same = one_more_own c.args.rules.now c.loop-k.pool c.loop-k.seen.items c.loop-k.firsts.items c.push-then-has_own_root.new.self.items c.loop-k.k c.index-rules-k.result c.loop-k.invariant.same
      (slice_get_read c.args.rules.now (length c.args.rules.now) c.loop-k.k c.index-rules-k.result refl c.loop-k-test.true c.index-rules-k.is) c.in_ok-push-2.ensures.items;
}

pub returns : goal.returns
returns c =
    let low = c.loop-k.invariant.low in
    all_lefts c.args.rules.now c.loop-k.pool c.loop-k.seen.items c.loop-k.firsts.items c.loop-k.k c.loop-k.invariant.same (omega (arith, low, c.loop-k-test.false))
