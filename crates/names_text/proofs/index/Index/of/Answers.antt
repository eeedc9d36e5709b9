use Rattle.std.proofs.Common.{◌≡◌, ◌<◌, ◌∙◌, [], length, length-take, get_or, take, sym, ap, arith, rules}
use Rattle.std.proofs.lemmas.List.{get_or-map, length-map}
use Rattle.names_text.specs.Names.{number_among}
use Rattle.names_text.proofs.NameKeys.{Key, texts}
use Rattle.names_text.proofs.NameLists.{next_new}
use Rattle.names_text.proofs.NameSlots.{next_in}
use Rattle.names_text.proofs.index.Index.of.Goals as goal

pub loop-number-preserved : goal.loop-number-preserved
loop-number-preserved c =
    let ns = texts c.args.names.now in
    let i = c.loop-number.number in
    let within : i < length c.args.names.now = search rules in
    let lt : i < length ns = omega (arith, within, length-map c.args.names.now (λ (k : Key). k.items)) in
    let name : c.deref.result.now ≡ get_or ns i [] =
    c.deref.ensures.value ∙ ap (λ (k : Key). k.items) c.index-names-number.is
    ∙ sym (get_or-map (λ (k : Key). k.items) c.args.names.now i c.index-names-number.result [] within) in
    let count : length (take i ns) ≡ i = omega (arith, length-take i ns, lt) in
    next_in ns i c.deref.result.now c.add.new.self lt name
    (c.in_ok-add.ensures.ok (take i ns) c.loop-number.invariant count (ap (number_among (take i ns)) name ∙ next_new ns i c.requires.distinct lt))
