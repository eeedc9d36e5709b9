use Rattle.std.proofs.Common.{◌∙◌, Ok, refl, sym, ap, arith}
use Rattle.text_reading.specs.Reading.{form}
use Rattle.text_reading.proofs.SeenParts.{first, next, last, as_it_is}
use Rattle.text_reading.proofs.Members.{four_views, list_seen}
use Rattle.path_lpo.specs.Plain.{plain_filter}
use Rattle.pair_text.specs.Entries.{new_symbol}
use Rattle.pair_text.proofs.EntrySeen.{entry_lacks, entry_seen}
use Rattle.pair_text.specs.PathEntries.{path_entry_of, rank_and_filter, path_entry}
use Rattle.pair_text.proofs.path_entries.read_path_entry.Goals as goal

pub returns-in_default-members-clause-entry : goal.returns-in_default-members-clause-entry
returns-in_default-members-clause-entry c =
    let named = c.args.system.now in
    let known = c.args.known.now in
    let shape = list_seen c.args.item.now c.in-List.at c.in-List.members _ c.in-List.is refl in
    sym (ap (path_entry named known) shape ∙ entry_lacks named 2 (λ s. form (rank_and_filter s) (path_entry_of s)) known c.in-List.at c.in-List.members.now c.in_default-members.len_below)

pub returns-in_ok-kept-in-Ok-clause-entry : goal.returns-in_ok-kept-in-Ok-clause-entry
returns-in_ok-kept-in-Ok-clause-entry c =
    let named = c.args.system.now in
    let known = c.args.known.now in
    let s = c.in-Ok.symbol in
    let members = four_views c.in-List.members.now c.head-item.result c.name-item.result c.rank-item.result c.kept-item.result c.in-len4-up.len_at_least c.head-item.is c.name-item.is c.rank-item.is c.kept-item.is in
    let shape = list_seen c.args.item.now c.in-List.at c.in-List.members _ c.in-List.is members in
    let found = sym c.in-Ok.is ∙ c.in_ok-symbol.ensures.symbol ∙ ap (new_symbol known c.in-List.at) c.read_marked_symbol.ensures in
    let rank = first (path_entry_of s) (λ n. n) c.read_number-rank.result _ (as_it_is _ _ c.read_number-rank.ensures.value) in
    let parts = next _ plain_filter c.read_number-rank.result c.in_ok-kept-in-Ok.kept c.both.result _ _ rank c.in_ok-kept-in-Ok.ensures c.both.ensures in
    c.path_entry_of.ensures.value ∙ last _ c.both.result c.refuse_more.result _ _ parts c.refuse_more.ensures
    ∙ sym (entry_seen named 2 (λ t. form (rank_and_filter t) (path_entry_of t)) known _ _ _ _ c.in-List.at (Ok s) shape refl found)
