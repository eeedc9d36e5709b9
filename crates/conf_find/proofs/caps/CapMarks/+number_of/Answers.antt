use Rattle.std.proofs.Common.{◌≡◌, ◌<◌, All, length, map, true, sym, subst, arith}
use Rattle.std.proofs.lemmas.List.Elements.{All-nil}
use Rattle.trs_defs.specs.Tree.{trees, items}
use Rattle.term_pool.specs.Pooled.{tree_at}
use Rattle.term_pool.proofs.MatchSteps.{read_again}
use Rattle.trs_caps.specs.HoledCap.{IsHoledCap}
use Rattle.conf_find.specs.SharedCaps.{cap_at}
use Rattle.conf_find.proofs.SharedCapLaws.{keeps_itself, keeps_on}
use Rattle.conf_find.proofs.NumberedCaps.{term_is, argument_smaller, argument_narrow, no_parts, next_part, all_parts, below_still, caps_grown, caps_noted, own_cap, own_over}
use Rattle.conf_find.proofs.caps.CapMarks.+number_of.Goals as goal

pub returns-in-Some-clause-number : goal.returns-in-Some-clause-number
returns-in-Some-clause-number t c = sym c.in-Some.ensures.value

pub returns-in-Some-clause-kept : goal.returns-in-Some-clause-kept
returns-in-Some-clause-kept t c = keeps_itself c.args.self.now.shared

-- ---- a variable

pub add-requires : goal.add-requires
add-requires t c = own_over c.args.pool.now c.args.id (length c.args.self.now.shared) c.in_ok-node-in-None.node c.in_ok-node-in-None.ensures

pub returns-in_ok-number-in-None-clause-caps : goal.returns-in_ok-number-in-None-clause-caps
returns-in_ok-number-in-None-clause-caps t c =
    let rules = c.args.by_root.now.rules in
    let pool = c.args.pool.now in
    let node = c.in_ok-node-in-None in
    let number = c.in_ok-number-in-None in
    caps_noted rules pool _ c.note.new.self c.args.id number.number c.note.ensures.shared c.note.result c.note.ensures.noted
    (caps_grown rules pool c.args.self.now c.add.new.self c.requires.caps number.ensures.kept) c.requires.narrow.there number.ensures.there
    (own_cap rules pool c.args.id number.number node.node c.args.self.now.shared c.add.new.self node.ensures number.ensures.cap)

-- ---- a symbol

pub loop-arg-init : goal.loop-arg-init
loop-arg-init t c = record {
  caps = c.requires.caps;
  still = λ i h. h;
  kept = keeps_itself c.args.self.now.shared;
  below = rw c.in_ok-parts-in-Some-root.ensures.items (All-nil (λ k. k < length c.args.self.now.shared));
  parts = no_parts c.args.by_root.now.rules c.args.pool.now c.args.self.now.shared c.in_ok-parts-in-Some-root.parts.items c.in_ok-parts-in-Some-root.ensures.items;
}

pub number_of-requires : goal.number_of-requires
number_of-requires t c =
    let pool = c.args.pool.now in
    let ids = c.deref-arg-items.result.now in
    let some = c.in-Some-root.ensures.some in
    let terms : map (tree_at pool) ids ≡ items some.0 = rw c.deref-arg-items.ensures.value (c.in_ok-ids-in-Some-root.ensures.terms c.in-Some-root.f some.0 some.1) in
    let is = term_is pool (tree_at pool c.args.id) c.in-Some-root.f some.0 ids some.1 terms in
    let at = read_again ids c.loop-arg.arg-index c.loop-arg-test.true in
    let smaller = argument_smaller pool (tree_at pool c.args.id) c.in-Some-root.f ids is c.loop-arg.arg-index _ c.loop-arg-test.true at in
    let narrow = argument_narrow pool (tree_at pool c.args.id) c.in-Some-root.f ids is c.loop-arg.arg-index _ c.loop-arg-test.true at c.requires.narrow.narrow in
    let there : All (λ j. j < length pool) ids = rw c.deref-arg-items.ensures.value c.in_ok-ids-in-Some-root.ensures.there in
    (omega (arith, smaller, c.decreases), (record { there = there c.loop-arg.arg-index 0 c.loop-arg-test.true; narrow = narrow }, c.loop-arg.invariant.caps))

pub loop-arg-preserved : goal.loop-arg-preserved
loop-arg-preserved t c =
    let rules = c.args.by_root.now.rules in
    let pool = c.args.pool.now in
    let h = c.loop-arg.invariant in
    let one = c.in_ok-number_of-in-Some-root in
    let caps = one.ensures.caps in
    record {
      caps = caps;
      still = λ i k. one.ensures.still i (h.still i k);
      kept = keeps_on c.args.self.now.shared c.loop-arg.self.shared c.number_of.new.self.shared h.kept one.ensures.kept;
      below = below_still rules pool c.loop-arg.self.shared c.number_of.new.self.shared c.loop-arg.parts.items c.push.new.self.items one.field-0 one.ensures.kept h.below (caps.number _ one.field-0 one.ensures.number) c.in_ok-push-in-Some-root.ensures.items;
      parts = next_part rules pool c.loop-arg.self.shared c.number_of.new.self.shared c.deref-arg-items.result.now c.loop-arg.parts.items c.push.new.self.items c.loop-arg.arg-index _ one.field-0
          c.loop-arg-test.true (read_again c.deref-arg-items.result.now c.loop-arg.arg-index c.loop-arg-test.true) one.ensures.kept h.below h.parts (caps.cap _ one.field-0 one.ensures.number) c.in_ok-push-in-Some-root.ensures.items;
    }

pub returns-in_ok-number-in-Some-root-clause-caps : goal.returns-in_ok-number-in-Some-root-clause-caps
returns-in_ok-number-in-Some-root-clause-caps t c =
    let rules = c.args.by_root.now.rules in
    let pool = c.args.pool.now in
    let ids = c.deref-arg-items.result.now in
    let some = c.in-Some-root.ensures.some in
    let terms : map (tree_at pool) ids ≡ items some.0 = rw c.deref-arg-items.ensures.value (c.in_ok-ids-in-Some-root.ensures.terms c.in-Some-root.f some.0 some.1) in
    let is = term_is pool (tree_at pool c.args.id) c.in-Some-root.f some.0 ids some.1 terms in
    let parts = all_parts rules pool c.loop-arg.self.shared ids c.loop-arg.parts.items c.loop-arg.arg-index c.loop-arg-test.false c.loop-arg.invariant.parts in
    let number = c.in_ok-number-in-Some-root in
    let cap = number.ensures.cap (trees (map (tree_at pool) ids)) parts in
    caps_noted rules pool _ c.note-in-Some-root.new.self c.args.id number.number c.note-in-Some-root.ensures.shared c.note-in-Some-root.result c.note-in-Some-root.ensures.noted
    (caps_grown rules pool c.loop-arg.self c.add_symbol.new.self c.loop-arg.invariant.caps number.ensures.kept) c.requires.narrow.there number.ensures.there
    (subst (λ z. IsHoledCap rules true z (cap_at c.add_symbol.new.self number.number)) (sym is) cap)
