use Rattle.std.proofs.Common.{◌≡◌, ◌++◌, ◌-◌, ◌∙◌, take, drop, length, ap, arith, length-drop}
use Rattle.std.proofs.lemmas.List.{take_all}
use Rattle.trs_defs.specs.Tree.{trees}
use Rattle.crit_pairs.proofs.SameAround.{grown_list, same_inside}
use Rattle.crit_pairs.proofs.contracting.+copy_around.Goals as goal

pub returns-in_ok-push_copies-in-App-2 : goal.returns-in_ok-push_copies-in-App-2
returns-in_ok-push_copies-in-App-2 t c =
    let ts = c.args-in-App.inside.items.items in
    let index = c.from-index.result in
    let u = c.in_ok-copy_around-in-App.field-0 in
    let first : c.push_copies.new.list.items ≡ c.in_ok-items-in-App.items.items ++ take (index - 1) ts = rw c.deref.ensures.value at c.in_ok-push_copies-in-App.ensures in
    let last : c.push_copies-in-App.new.list.items ≡ c.push.new.self.items ++ take (length ts - index) (drop index ts) = rw c.deref-in-App.ensures.value at c.in_ok-push_copies-in-App-2.ensures in
    let whole : take (length ts - index) (drop index ts) ≡ drop index ts = take_all (length ts - index) (drop index ts) (omega (arith, length-drop index ts)) in
    let made = grown_list _ _ _ _ _ _ u c.in_ok-items-in-App.ensures.items first c.in_ok-push-in-App.ensures.items (last ∙ ap (λ us. c.push.new.self.items ++ us) whole) in
    rw c.in-App.is (same_inside c.args.place.now c.in-App.f ts c.push_copies-in-App.new.list.items _ index c.index.result.now u (omega (arith, c.in-len1-up.len_at_least)) (ap trees c.args-in-App.view_is)
    c.from-index.ensures c.if-index-eq0.false (omega (arith, c.if-count-index.false, c.len-count.ensures, c.args-in-App.inside.items.ok.0)) c.index.ensures made c.in_ok-copy_around-in-App.ensures)
