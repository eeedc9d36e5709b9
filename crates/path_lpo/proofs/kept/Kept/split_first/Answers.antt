use Rattle.std.proofs.Common.{◌≡◌, ◌-◌, ◌+◌, map, ap, sym, ◌∙◌, refl, arith, length, length-drop, get_or, slice_get, Some}
use Rattle.std.specs.Option.{option_map, option_copied}
use Rattle.trs_defs.specs.Tree.{cons}
use Rattle.trs_core.specs.View.{tree, forest}
use Rattle.order_theory.specs.ArgumentFilter.{select}
use Rattle.path_lpo.specs.Kept.{kept_of}
use Rattle.path_lpo.proofs.Keeping.{passed, reached, size_of_found}
use Rattle.path_lpo.proofs.kept.Kept.split_first.Goals as goal

pub returns-in-Some : goal.returns-in-Some
returns-in-Some c =
    let places = c.args.self.places.now in
    let ts = map tree c.args.self.args.now in
    let there : slice_get ts (get_or places c.loop-k.k 0 - 1) ≡ Some (tree c.in-Some.first.now) =
    sym c.argument.ensures ∙ ap (λ o. option_map tree (option_copied o)) c.in-Some.is in
    record {
      kept_are =
          reached places ts c.loop-k.k c.loop-k-test.true (kept_of c.args.self) (tree c.in-Some.first.now) there c.loop-k.invariant
          ∙ ap (λ ps. cons (tree c.in-Some.first.now) (select ps (forest c.args.self.args.now))) (sym c.behind.ensures);
      size = size_of_found (get_or places c.loop-k.k 0 - 1) ts (tree c.in-Some.first.now) there;
      same_args = refl;
      fewer_places = omega (arith, ap length c.behind.ensures, length-drop (c.loop-k.k + 1) places, c.loop-k-test.true);
    }

pub loop-k-preserved : goal.loop-k-preserved
loop-k-preserved c =
    passed c.args.self.places.now (map tree c.args.self.args.now) c.loop-k.k c.loop-k-test.true (kept_of c.args.self)
    (sym c.argument.ensures ∙ ap (λ o. option_map tree (option_copied o)) c.in_default.is) c.loop-k.invariant
