use Rattle.std.proofs.Common.{◌≡◌, ◌≢◌, ℕ, ◌-◌, ◌<◌, ◌≤◌, false, List, length, take, drop, Ok, IfOk, refl, sym, ap, subst, ◌∙◌, length-take, length-drop, arith}
use Rattle.std.proofs.lemmas.Bool.{eqb-true, eqb-false}
use Rattle.sexp_core.specs.Items.{views}
use Rattle.names_text.specs.declared.table.Symbol.{Symbol}
use Rattle.text_reading.specs.Reading.{Read, form}
use Rattle.text_reading.specs.Seen.{seen}
use Rattle.text_reading.proofs.Members.{list_seen}
use Rattle.poly_lin.specs.Plain.{plain}
use Rattle.pair_text.specs.LongLists.{lacks}
use Rattle.pair_text.specs.Entries.{new_symbol}
use Rattle.pair_text.proofs.LongListLaws.{two_views, lacks_views}
use Rattle.pair_text.proofs.EntrySeen.{entry_lacks, entry_seen}
use Rattle.pair_text.specs.LinearEntries.{polynomial, coefficients, linear_entry}
use Rattle.pair_text.proofs.linear_entries.read_linear_entry.Goals as goal

pub returns-in_default-members-clause-entry : goal.returns-in_default-members-clause-entry
returns-in_default-members-clause-entry c =
    let named = c.args.system.now in
    let known = c.args.known.now in
    let xs = c.in-List.members.now in
    let shape = list_seen c.args.item.now c.in-List.at c.in-List.members _ c.in-List.is refl in
    let few : length xs < 3 = omega (arith, c.in_default-members.len_below) in
    sym (ap (linear_entry named known) shape ∙ entry_lacks named 1 (λ s. form (coefficients s) (polynomial s)) known c.in-List.at xs few)

pub returns-then-is_empty-clause-entry : goal.returns-then-is_empty-clause-entry
returns-then-is_empty-clause-entry c =
    let named = c.args.system.now in
    let known = c.args.known.now in
    let xs = c.in-List.members.now in
    let shape = list_seen c.args.item.now c.in-List.at c.in-List.members _ c.in-List.is refl in
    let none : length (take (length xs - 2) (drop 2 xs)) ≡ 0 = eqb-true _ _ (sym c.is_empty.ensures ∙ c.if-is_empty.true) in
    let few : length xs < 3 = omega (arith, none, length-take (length xs - 2) (drop 2 xs), length-drop 2 xs) in
    sym (ap (linear_entry named known) shape ∙ entry_lacks named 1 (λ s. form (coefficients s) (polynomial s)) known c.in-List.at xs few)

pub returns-in-Ok-clause-entry : goal.returns-in-Ok-clause-entry
returns-in-Ok-clause-entry c =
    let named = c.args.system.now in
    let known = c.args.known.now in
    let s = c.in-Ok.symbol in
    let xs = c.in-List.members.now in
    let numbers = take (length xs - 2) (drop 2 xs) in
    let members = two_views xs c.head-item.result c.name-item.result c.in-len2-up.len_at_least c.head-item.is c.name-item.is in
    let shape = list_seen c.args.item.now c.in-List.at c.in-List.members _ c.in-List.is members in
    let some : length numbers ≢ 0 = eqb-false _ _ (sym c.is_empty.ensures ∙ c.if-is_empty.false) in
    let long : lacks 1 (views numbers) ≡ false = lacks_views 1 numbers (omega arith) in
    let found = sym c.in-Ok.is ∙ c.in_ok-symbol.ensures.symbol ∙ ap (new_symbol known c.in-List.at) c.read_marked_symbol.ensures in
    let same = entry_seen named 1 (λ t. form (coefficients t) (polynomial t)) known _ _ _ (views numbers) c.in-List.at (Ok s) shape long found in
    let T : Read (ℕ × List ℕ) → Type 0 = λ a. IfOk c.read_coefficients.result (λ r. seen plain r ≡ a) in
    subst T (sym same) c.read_coefficients.ensures.value
