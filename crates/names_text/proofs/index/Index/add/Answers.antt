use Rattle.std.proofs.Common.{◌≡◌, ◌<◌, ◌∙◌, length, slice_get, refl, sym, ap, rules, arith}
use Rattle.std.proofs.lemmas.Bool.{false≢true}
use Rattle.std.proofs.lemmas.Result.{err_from_is_err_and}
use Rattle.names_text.specs.NameTable.{free, hash_of, second_hash_of, slot_of}
use Rattle.names_text.proofs.NameSlots.{in_first, in_second, in_trees, new_to_trees, same_trees}
use Rattle.names_text.proofs.index.Index.add.Goals as goal

pub returns-then-is_free-clause-ok : goal.returns-then-is_free-clause-ok
returns-then-is_free-clause-ok c ns is count fresh =
    let small : length ns < free = omega (arith, c.requires, count) in
    let own : c.slot-first.result ≡ slot_of (length c.args.self.now.slots.items) (hash_of c.args.name.now) = search rules in
    in_first ns c.args.name.now small fresh c.args.self.now is _ c.slot-first.result c.args.number count (c.is_free.ensures.0 c.if-is_free.true) refl own

pub returns-then-is_free-2-clause-ok : goal.returns-then-is_free-2-clause-ok
returns-then-is_free-2-clause-ok c ns is count fresh =
    let small : length ns < free = omega (arith, c.requires, count) in
    let slots = c.args.self.now.slots.items in
    let first : c.slot-first.result ≡ slot_of (length slots) (hash_of c.args.name.now) = search rules in
    let own : c.slot-second.result ≡ slot_of (length slots) (second_hash_of c.args.name.now) = search rules in
    in_second ns c.args.name.now small fresh c.args.self.now is _ c.slot-second.result c.args.number count (c.is_free-2.ensures.0 c.if-is_free-2.true) refl own
    (λ empty. false≢true (sym c.if-is_free.false ∙ c.is_free.ensures.1 (ap (slice_get slots) first ∙ empty)))

pub returns-clause-ok : goal.returns-clause-ok
returns-clause-ok c ns is count fresh =
    let small : length ns < free = omega (arith, c.requires, count) in
    let slots = c.args.self.now.slots.items in
    let first : c.slot-first.result ≡ slot_of (length slots) (hash_of c.args.name.now) = search rules in
    let second : c.slot-second.result ≡ slot_of (length slots) (second_hash_of c.args.name.now) = search rules in
    in_trees ns c.args.name.now small fresh c.args.self.now is _
    (λ empty. false≢true (sym c.if-is_free.false ∙ c.is_free.ensures.1 (ap (slice_get slots) first ∙ empty)))
    (λ empty. false≢true (sym c.if-is_free-2.false ∙ c.is_free-2.ensures.1 (ap (slice_get slots) second ∙ empty)))
    (c.in_ok-add.ensures.ok ns is.within (new_to_trees ns c.args.name.now small fresh c.args.self.now is) count)

pub returns-in_err-add-clause-err : goal.returns-in_err-add-clause-err
returns-in_err-add-clause-err c =
    let p = err_from_is_err_and c.from_residual.result c.from_residual.ensures.1 in
    rw p.1 (λ ns is. same_trees ns c.args.self.now c.add.new.self is (c.in_err-add.ensures.within ns is.within) (c.in_err-add.ensures.err ns))
