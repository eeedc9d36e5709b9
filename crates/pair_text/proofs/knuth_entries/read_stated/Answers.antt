use Rattle.std.proofs.Common.{[], ◌∙◌, Ok, refl, sym, ap, arith}
use Rattle.text_reading.proofs.SeenParts.{first, next, as_it_is}
use Rattle.text_reading.proofs.Members.{four_views, list_seen}
use Rattle.pair_text.specs.Entries.{new_symbol}
use Rattle.pair_text.proofs.EntrySeen.{entry_lacks, entry_seen}
use Rattle.pair_text.specs.KnuthEntries.{weighed, stated_form, stated_entry}
use Rattle.pair_text.proofs.knuth_entries.read_stated.Goals as goal

pub returns-in_default-members : goal.returns-in_default-members
returns-in_default-members c =
    let named = c.args.system.now in
    let shape = list_seen c.args.item.now c.in-List.at c.in-List.members _ c.in-List.is refl in
    sym (ap (stated_entry named) shape ∙ entry_lacks named 2 stated_form [] c.in-List.at c.in-List.members.now c.in_default-members.len_below)

pub returns-in-Ok : goal.returns-in-Ok
returns-in-Ok c =
    let named = c.args.system.now in
    let s = c.in-Ok.symbol in
    let members = four_views c.in-List.members.now c.head-item.result c.name-item.result c.weight-item.result c.rank-item.result c.in-len4-up.len_at_least c.head-item.is c.name-item.is c.weight-item.is c.rank-item.is in
    let shape = list_seen c.args.item.now c.in-List.at c.in-List.members _ c.in-List.is members in
    let found = sym (ap (new_symbol [] c.in-List.at) (sym c.read_marked_symbol.ensures ∙ c.in-Ok.is)) in
    let weight = first (weighed s) (λ n. n) c.read_number.result _ (as_it_is _ _ c.read_number.ensures.value) in
    let numbers = next _ (λ n. n) c.read_number.result c.read_number-in-Ok.result c.both-numbers.result _ _ weight (as_it_is _ _ c.read_number-in-Ok.ensures.value) c.both-numbers.ensures in
    c.weigh.ensures.value ∙ numbers ∙ sym (entry_seen named 2 stated_form [] _ _ _ _ c.in-List.at (Ok s) shape refl found)
