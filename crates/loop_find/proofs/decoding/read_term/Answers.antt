use Rattle.std.proofs.Common.{◌≡◌, map, reverse, drop, arith, ap, sym, ◌∙◌}
use Rattle.std.proofs.lemmas.List.{map_push}
use Rattle.trs_core.specs.View.{tree}
use Rattle.loop_find.specs.Flat.{terms_of}
use Rattle.loop_find.proofs.TokenWalks.{first_of_reverse}
use Rattle.loop_find.proofs.decoding.read_term.Goals as goal

pub returns : goal.returns
returns c =
    let none : c.loop-at.at ≡ 0 = omega (arith, c.loop-at-test.false) in
    first_of_reverse (terms_of c.args.tokens.now) (map tree c.pop.new.self.items) (tree c.in-Some.t)
    (sym (map_push tree c.pop.new.self.items c.in-Some.t) ∙ (ap (map tree) (sym c.in-Some.ensures.items) ∙ (c.loop-at.invariant.read ∙ ap (λ n. reverse (terms_of (drop n c.args.tokens.now))) none)))
