use Rattle.std.proofs.Common.{◌∙◌, refl, sym, ap}
use Rattle.sexp_core.specs.Items.{view}
use Rattle.text_reading.specs.Seen.{seen}
use Rattle.text_reading.proofs.SeenParts.{first, next, last, as_it_is}
use Rattle.text_reading.proofs.Members.{three_views, list_seen}
use Rattle.path_text.specs.Sharing.{with_definition}
use Rattle.path_text.specs.Defining.{definition, define}
use Rattle.path_text.specs.Defined.{definition_seen, one_more_defined}
use Rattle.path_text.proofs.DefinedOnce.{read_is_new, read_is_added, define_lacks, if_seen, seen_twice}
use Rattle.path_text.proofs.defining.read_define.Goals as goal

pub returns-in_default-members : goal.returns-in_default-members
returns-in_default-members c =
    let shared = c.args.shared.now in
    sym (ap (λ x. seen (with_definition shared) (define shared x)) (list_seen c.args.item.now c.in-List.at c.in-List.members _ c.in-List.is refl)
    ∙ ap (seen (with_definition shared)) (define_lacks shared c.in-List.at c.in-List.members.now c.in_default-members.len_below))

pub add_definition-requires : goal.add_definition-requires
add_definition-requires c =
    let shared = c.args.shared.now in
    let head = first definition (λ x. x) c.keyword-head.result _ (as_it_is _ _ c.keyword-head.ensures) in
    let word = next _ (λ w. w.items) c.keyword-head.result c.in_ok-word.word c.both.result _ _ head c.in_ok-word.ensures c.both.ensures in
    let path = next _ (λ p. p) c.both.result c.in_ok-path.path c.both-2.result _ _ word (as_it_is _ _ c.in_ok-path.ensures.read) c.both-2.ensures in
    let all = c.definition_of-definition.ensures ∙ last _ c.both-2.result c.refuse_more.result _ _ path c.refuse_more.ensures in
    if_seen definition_seen _ c.definition_of-definition.result
    (read_is_new shared c.read_shared_path.new.shared _ (view c.word-item.result) _ _ c.in_ok-path.ensures.left _ all)

pub returns : goal.returns
returns c =
    let shared = c.args.shared.now in
    let mid = c.read_shared_path.new.shared in
    let members = three_views c.in-List.members.now c.head-item.result c.word-item.result c.path-item.result c.in-len3-up.len_at_least c.head-item.is c.word-item.is c.path-item.is in
    let shape = list_seen c.args.item.now c.in-List.at c.in-List.members _ c.in-List.is members in
    let head = first definition (λ x. x) c.keyword-head.result _ (as_it_is _ _ c.keyword-head.ensures) in
    let word = next _ (λ w. w.items) c.keyword-head.result c.in_ok-word.word c.both.result _ _ head c.in_ok-word.ensures c.both.ensures in
    let path = next _ (λ p. p) c.both.result c.in_ok-path.path c.both-2.result _ _ word (as_it_is _ _ c.in_ok-path.ensures.read) c.both-2.ensures in
    let all = c.definition_of-definition.ensures ∙ last _ c.both-2.result c.refuse_more.result _ _ path c.refuse_more.ensures in
    c.in_ok-added.ensures
    ∙ seen_twice (one_more_defined mid) definition_seen c.definition_of-definition.result
    ∙ read_is_added shared mid _ (view c.word-item.result) _ _ c.in_ok-path.ensures.left _ all
    ∙ ap (seen (with_definition shared)) all
    ∙ sym (ap (λ x. seen (with_definition shared) (define shared x)) shape)
