use Rattle.std.proofs.Common.{◌≡◌, ◌-◌, ◌++◌, ◌∷◌, [], false, length, take, drop, arith, refl, sym, ap, subst, ◌∙◌, append_assoc}
use Rattle.trs_defs.specs.Tree.{app}
use Rattle.trs_core.specs.View.{tree, forest}
use Rattle.term_pool.proofs.ArgumentIds.{next_smaller}
use Rattle.trs_caps.specs.View.{holed_all}
use Rattle.trs_caps.specs.HoledTree.{symbol}
use Rattle.trs_caps.proofs.CapSteps.{whole_cap}
use Rattle.dp_graph.specs.CapRows.{AreMore, HasKey, IsCapped}
use Rattle.dp_graph.proofs.CapRowLaws.{no_parts, one_more_part, parts_key, whole_capped, variable_numbered, begun_within, begun_longer, with_end_long, key_behind}
use Rattle.dp_graph.proofs.cap_rows.CapRows.+cap_of.Goals as goal

pub loop-arg-init : goal.loop-arg-init
loop-arg-init t c = record {
  caps = (
    c.in-App.f ∷ [],
    rw c.from.ensures at c.in_ok-push-in-App.ensures.items,
    λ all are.
        no_parts c.args.by_root.now.rules c.args.lefts.now c.args.self.now all c.in-App.f c.deref-arg-items.result.now c.in_ok-parts-in-App.parts.items c.begin.new.ends.items are
        c.in_ok-parts-in-App.ensures.items,
  );
  kept = λ n flags h. h;
  longer = omega arith;
}

pub cap_of-requires : goal.cap_of-requires
cap_of-requires t c =
    let is : tree c.args.t.now ≡ app c.in-App.f (forest c.deref-arg-items.result.now) = rw (c.in-App.is, ← c.args-in-App.view_is, c.deref-arg-items.ensures.value) refl in
    let smaller = next_smaller tree c.deref-arg-items.result.now c.loop-arg.arg-index c.arg-item.result c.loop-arg-test.true c.arg-item.is (tree c.args.t.now) c.in-App.f is in
    (omega (arith, smaller, c.decreases), c.requires)

pub loop-arg-preserved : goal.loop-arg-preserved
loop-arg-preserved t c = record {
  caps =
      let (key, behind, caps) = c.loop-arg.invariant.caps in
      let n = c.in_ok-part-in-App.part.number in (
        key ++ n ∷ [],
        rw c.from-in-loop-arg.ensures at c.in_ok-push-in-App-3.ensures.items ∙ (ap (λ z. z ++ n ∷ []) (c.in_ok-part-in-App.ensures.words ∙ behind) ∙ append_assoc c.args.words.now.items key (n ∷ [])),
        λ all are.
            let so_far = caps all are in
            one_more_part c.args.by_root.now.rules c.args.lefts.now c.loop-arg.self c.cap_of.new.self all c.in-App.f c.deref-arg-items.result.now c.loop-arg.parts.items c.push-in-loop-arg.new.self.items key
            c.begin.new.ends.items c.loop-arg.ends.items c.cap_of.new.ends.items c.loop-arg.arg-index c.arg-item.result c.in_ok-part-in-App.part c.loop-arg-test.true c.arg-item.is c.in_ok-push-in-App-2.ensures.items so_far
            (c.in_ok-part-in-App.ensures.cap so_far.all so_far.are),
      );
  kept = λ n flags h. c.in_ok-part-in-App.ensures.kept n flags (c.loop-arg.invariant.kept n flags h);
  longer = (let a = c.loop-arg.invariant.longer in let b = c.in_ok-part-in-App.ensures.longer in omega (arith, a, b));
}

pub finish-requires : goal.finish-requires
finish-requires t c = begun_within c.args.by_root.now.rules c.in-App.f (length c.loop-arg.ends.items) c.args.ends.now.items c.begin.new.ends.items c.in_ok-place-in-App.place c.in_ok-place-in-App.ensures c.loop-arg.invariant.longer

pub returns-in-Var-clause-cap : goal.returns-in-Var-clause-cap
returns-in-Var-clause-cap t c = λ all are. variable_numbered c.args.by_root.now.rules c.args.lefts.now c.args.self.now all (tree c.args.t.now) c.in-Var.field-0 _ c.args.ends.now.items are (ap tree c.in-Var.is) refl refl

pub returns-in_ok-found-in-App-clause-cap : goal.returns-in_ok-found-in-App-clause-cap
returns-in_ok-found-in-App-clause-cap t c = λ all are.
    let args = c.deref-arg-items.result.now in
    let is : tree c.args.t.now ≡ app c.in-App.f (forest args) = rw (c.in-App.is, ← c.args-in-App.view_is, c.deref-arg-items.ensures.value) refl in
    let (words, behind, caps) = c.loop-arg.invariant.caps in
    let so_far = caps all are in
    let rules = c.args.by_root.now.rules in
    let cs = holed_all c.loop-arg.parts.items in
    let whole = whole_cap rules false (tree c.args.t.now) c.in-App.f args c.loop-arg.parts.items c.loop-arg.arg-index is (omega arith) so_far.each in
    let slice = c.deref.result.now in
    let named : take (length slice - c.len-start.result) (drop c.len-start.result slice) ≡ words =
    key_behind c.args.words.now.items slice words c.len-start.result (c.len-start.ensures ∙ c.args.words.now.ok.0) (c.deref.ensures.value ∙ behind) in
    let key = subst (HasKey so_far.all (symbol c.in-App.f cs)) (sym named) (parts_key rules c.args.lefts.now c.loop-arg.self all c.in-App.f _ cs words c.begin.new.ends.items c.loop-arg.ends.items so_far) in
    subst (λ ends. AreMore rules c.args.lefts.now c.close.new.self all (IsCapped rules (tree c.args.t.now) c.in_ok-found-in-App.found c.args.ends.now.items ends)) (sym c.finish.ensures)
    (whole_capped rules c.args.lefts.now c.loop-arg.self c.close.new.self all (tree c.args.t.now) c.in-App.f args c.loop-arg.arg-index cs words c.args.ends.now.items c.begin.new.ends.items c.loop-arg.ends.items
    c.in_ok-place-in-App.place c.in_ok-found-in-App.found is (omega arith) c.in_ok-place-in-App.ensures so_far (c.in_ok-found-in-App.ensures.cap so_far.all (tree c.args.t.now) so_far.are whole key))

pub returns-in_ok-found-in-App-clause-longer : goal.returns-in_ok-found-in-App-clause-longer
returns-in_ok-found-in-App-clause-longer t c =
    let a = begun_longer c.args.by_root.now.rules c.in-App.f c.args.ends.now.items c.begin.new.ends.items c.in_ok-place-in-App.place c.in_ok-place-in-App.ensures in
    let b = c.loop-arg.invariant.longer in
    let d = ap length c.finish.ensures in
    let e = with_end_long c.in_ok-place-in-App.place c.in-App.f c.in_ok-found-in-App.found.whole c.loop-arg.ends.items in
    omega (arith, a, b, d, e)

pub returns-in_ok-found-in-App-clause-kept : goal.returns-in_ok-found-in-App-clause-kept
returns-in_ok-found-in-App-clause-kept t c = λ n flags h. c.in_ok-found-in-App.ensures.kept n flags (c.loop-arg.invariant.kept n flags h)
