use Rattle.std.proofs.Common.{◌≡◌, ◌-◌, List, Option, None, ap, sym, arith, ◌∙◌, drop, take, map, length, slice_get, length-drop}
use Rattle.std.proofs.lemmas.List.{drop-map, length-map, take_all}
use Rattle.std.proofs.lemmas.Option.{slice_get_past}
use Rattle.trs_defs.specs.System.{RewriteRule}
use Rattle.order_search.specs.OrderSpace.{some_falls}
use Rattle.kbo_find.specs.Balanced.{rule_of}
use Rattle.kbo_find.specs.KboPlaces.{falls_by}
use Rattle.kbo_find.specs.KnuthTest.{knuth_strict}
use Rattle.kbo_find.specs.declared.balance.Balance.{Balance}
use Rattle.kbo_find.proofs.comparing.falls.Goals as goal

pub returns-in-None : goal.returns-in-None
returns-in-None g c =
    let balances = c.args.balances.now in
    let rules = c.args.rules in
    let weights = g.W.Weighting.weights c.args.order.now in
    let ranks = g.W.Weighting.ranks c.args.order.now in
    let behind : take (length balances - rules) (drop rules balances) ≡ drop rules balances =
    take_all (length balances - rules) (drop rules balances) (omega (arith, length-drop rules balances)) in
    let none : slice_get (map rule_of balances) c.args.number ≡ None =
    slice_get_past (map rule_of balances) c.args.number (omega (arith, length-map balances rule_of, c.in-None.ensures.lookup.3)) in
    c.some_falls_strictly.ensures
    ∙ (ap (λ (l : List Balance). some_falls (knuth_strict weights ranks) (map rule_of l)) behind
    ∙ (ap (λ (l : List RewriteRule). some_falls (knuth_strict weights ranks) l) (sym (drop-map rule_of rules balances))
    ∙ ap (λ (o : Option RewriteRule). falls_by weights ranks (drop rules (map rule_of balances)) o) (sym none)))
