use Rattle.std.proofs.Common.{◌∙◌, Ok, codes, refl, sym, ap}
use Rattle.text_reading.specs.Reading.{done, keyword, word}
use Rattle.text_reading.proofs.SeenParts.{first, next, last, as_it_is}
use Rattle.text_reading.proofs.Members.{three_views, three_lack, list_seen}
use Rattle.path_text.specs.Paths.{position, used, use_list}
use Rattle.path_text.proofs.parts.read_use_list.Goals as goal

pub returns-in_default-members : goal.returns-in_default-members
returns-in_default-members c =
    let definitions = c.args.definitions.now in
    sym (ap (use_list definitions) (list_seen c.args.item.now c.in-List.at c.in-List.members _ c.in-List.is refl)
    ∙ three_lack (keyword (codes "use")) position (word definitions) done c.in-List.at (Ok used) c.in-List.members.now c.in_default-members.len_below)

pub returns : goal.returns
returns c =
    let members = three_views c.in-List.members.now c.head-item.result c.position-item.result c.word-item.result c.in-len3-up.len_at_least c.head-item.is c.position-item.is c.word-item.is in
    let shape = list_seen c.args.item.now c.in-List.at c.in-List.members _ c.in-List.is members in
    let head = first used (λ x. x) c.keyword-head.result _ (as_it_is _ _ c.keyword-head.ensures) in
    let place = next _ (λ x. x) c.keyword-head.result c.in_ok-position.position c.both.result _ _ head (as_it_is _ _ c.in_ok-position.ensures) c.both.ensures in
    let path = next _ (λ p. p.now) c.both.result c.read_defined_word-path.result c.both-2.result _ _ place c.read_defined_word-path.ensures c.both-2.ensures in
    c.without_head.ensures ∙ last _ c.both-2.result c.refuse_more.result _ _ path c.refuse_more.ensures ∙ sym (ap (use_list c.args.definitions.now) shape)
