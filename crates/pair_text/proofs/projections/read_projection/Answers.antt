use Rattle.std.proofs.Common.{◌≡◌, ℕ, ◌<◌, List, [], ◌∷◌, length, Ok, Err, refl, sym, ap, ◌∙◌, arith}
use Rattle.sexp_core.specs.declared.sexp.Sexp.{Sexp}
use Rattle.sexp_core.specs.Items.{Item, a_list, Items, item, views}
use Rattle.names_text.specs.Named.{NamedSystem}
use Rattle.names_text.specs.declared.table.Symbol.{Symbol}
use Rattle.text_reading.specs.Reading.{Read, ◌<*>◌, ended, form}
use Rattle.text_reading.proofs.SeenParts.{first, last, as_it_is}
use Rattle.text_reading.proofs.Members.{list_seen}
use Rattle.pair_text.specs.Symbols.{symbol, argument_place}
use Rattle.pair_text.specs.Entries.{new_symbol, by_symbol}
use Rattle.pair_text.proofs.LongListLaws.{two_views}
use Rattle.pair_text.specs.Projections.{projected, place_parts, projection}
use Rattle.pair_text.proofs.projections.read_projection.Goals as goal

-- a list that lacks a member
lacking : (named : NamedSystem) (known : List ℕ) (at : ℕ) (xs : List Sexp) → length xs < 2 → projection named known (a_list (views xs) at) ≡ Err at
lacking named known at [] lt = refl
lacking named known at (x ∷ []) lt = refl
lacking named known at (x ∷ y ∷ ys) lt = absurd (omega arith)

-- a new symbol
new_seen : (named : NamedSystem) (known : List ℕ) (x name argument : Item) (more : Items) (at : ℕ) (s : Symbol) → x ≡ a_list (item name (item argument more)) at
    → new_symbol known at (symbol named name) ≡ Ok s → projection named known x ≡ ended (Ok (projected s) <*> argument_place s.arity argument) more
new_seen named known x name argument more at s shape found =
    ap (projection named known) shape ∙ ap (λ (r : Read Symbol). by_symbol r (λ t. form (place_parts t) (projected t)) at (item argument more)) found

pub returns-in_default-members-clause-entry : goal.returns-in_default-members-clause-entry
returns-in_default-members-clause-entry c =
    let named = c.args.system.now in
    let shape = list_seen c.args.item.now c.in-List.at c.in-List.members _ c.in-List.is refl in
    sym (ap (projection named c.args.known.now) shape ∙ lacking named c.args.known.now c.in-List.at c.in-List.members.now c.in_default-members.len_below)

pub returns-in-Ok-clause-entry : goal.returns-in-Ok-clause-entry
returns-in-Ok-clause-entry c =
    let named = c.args.system.now in
    let s = c.in-Ok.symbol in
    let members = two_views c.in-List.members.now c.name-item.result c.argument-item.result c.in-len2-up.len_at_least c.name-item.is c.argument-item.is in
    let shape = list_seen c.args.item.now c.in-List.at c.in-List.members _ c.in-List.is members in
    let found = ap (new_symbol c.args.known.now c.in-List.at) (sym c.read_symbol.ensures.symbol) ∙ sym c.in_ok-symbol.ensures.symbol ∙ c.in-Ok.is in
    let argument = first (projected s) (λ n. n) c.read_argument_place-argument.result _ (as_it_is _ _ c.read_argument_place-argument.ensures) in
    c.projection_of.ensures.value ∙ last (projected s) c.read_argument_place-argument.result c.refuse_more.result _ _ argument c.refuse_more.ensures
    ∙ sym (new_seen named c.args.known.now _ _ _ _ c.in-List.at s shape found)
