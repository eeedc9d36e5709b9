use Rattle.std.proofs.Common.{◌≡◌, ◌∙◌, refl, sym, ap}
use Rattle.std.proofs.lemmas.Result.{IfOk-weaker}
use Rattle.sexp_core.specs.Items.{view}
use Rattle.text_reading.specs.Seen.{seen}
use Rattle.text_reading.proofs.SeenParts.{first, last, as_it_is}
use Rattle.text_reading.proofs.Members.{three_views, list_seen}
use Rattle.path_lpo.specs.Plain.{plain}
use Rattle.pair_text.specs.Entries.{new_symbol}
use Rattle.completion_text.specs.OrderText.{ranked, entry}
use Rattle.completion_text.proofs.SeenEntries.{entry_lacks, entry_new}
use Rattle.completion_text.proofs.entries.read_entry.Goals as goal

pub returns-in_default-members-clause-entry : goal.returns-in_default-members-clause-entry
returns-in_default-members-clause-entry c =
    let named = c.args.system.now in
    let known = c.args.known.now in
    let shape = list_seen c.args.item.now c.in-List.at c.in-List.members _ c.in-List.is refl in
    sym (ap (entry named known) shape ∙ entry_lacks named known c.in-List.at c.in-List.members.now c.in_default-members.len_below)

pub returns-in-Ok-clause-entry : goal.returns-in-Ok-clause-entry
returns-in-Ok-clause-entry c =
    let named = c.args.system.now in
    let known = c.args.known.now in
    let s = c.in-Ok.symbol in
    let members = three_views c.in-List.members.now c.head-item.result c.name-item.result c.rank-item.result c.in-len3-up.len_at_least c.head-item.is c.name-item.is c.rank-item.is in
    let shape = list_seen c.args.item.now c.in-List.at c.in-List.members _ c.in-List.is members in
    let found = ap (new_symbol known c.in-List.at) (sym c.read_plain_symbol.ensures) ∙ sym c.in_ok-symbol.ensures.symbol ∙ c.in-Ok.is in
    let rank = first (ranked s) (λ n. n) c.read_number-rank.result _ (as_it_is _ _ c.read_number-rank.ensures.value) in
    let parts = last (ranked s) c.read_number-rank.result c.refuse_more.result _ _ rank c.refuse_more.ensures in
    IfOk-weaker c.ranked_if_read.result (λ r. seen plain r ≡ seen (λ n. ranked s n) c.refuse_more.result) (λ r. seen plain r ≡ entry named known (view c.args.item.now))
    (λ r h. h ∙ parts ∙ sym (entry_new named known _ _ _ _ _ c.in-List.at s shape found)) c.ranked_if_read.ensures.value
