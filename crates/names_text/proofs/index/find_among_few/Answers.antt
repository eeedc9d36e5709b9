use Rattle.std.proofs.Common.{◌≡◌, ◌∙◌, ◌<◌, length, get_or, sym, ap, arith, rules}
use Rattle.std.proofs.lemmas.List.{get_or-map, length-map}
use Rattle.names_text.proofs.NameKeys.{Key, texts}
use Rattle.names_text.proofs.NameLists.{name_found, name_passed_over}
use Rattle.names_text.proofs.index.find_among_few.Goals.{After-is_same}
use Rattle.names_text.proofs.index.find_among_few.Goals as goal

within : (c : After-is_same) → c.loop-number.number < length (texts c.args.names.now)
within c =
    let inside : c.loop-number.number < length c.args.names.now = search rules in
    omega (arith, inside, length-map c.args.names.now (λ (k : Key). k.items))

there : (c : After-is_same) → c.deref.result.now ≡ get_or (texts c.args.names.now) c.loop-number.number c.deref.result.now
there c =
    let inside : c.loop-number.number < length c.args.names.now = search rules in
    c.deref.ensures.value ∙ ap (λ (k : Key). k.items) c.index-names-number.is
    ∙ sym (get_or-map (λ (k : Key). k.items) c.args.names.now c.loop-number.number c.index-names-number.result c.deref.result.now inside)

pub returns-then-is_same : goal.returns-then-is_same
returns-then-is_same c =
    let at = (goal.at.returns-then-is_same c).After-is_same in
    name_found (texts c.args.names.now) c.args.name.now c.deref.result.now c.loop-number.number (within at) (there at) c.loop-number.invariant (sym c.is_same.ensures ∙ c.if-is_same.true)

pub loop-number-preserved : goal.loop-number-preserved
loop-number-preserved c =
    let at = (goal.at.loop-number-preserved c).After-is_same in
    name_passed_over (texts c.args.names.now) c.args.name.now c.deref.result.now c.loop-number.number (within at) (there at) c.loop-number.invariant (sym c.is_same.ensures ∙ c.if-is_same.false)
