use Rattle.std.proofs.Common.{◌∙◌, Ok, refl, sym, ap}
use Rattle.sexp_core.specs.Items.{view}
use Rattle.text_reading.specs.Reading.{keyword, done}
use Rattle.text_reading.proofs.SeenParts.{first, next, last, as_it_is}
use Rattle.text_reading.proofs.Members.{three_views, list_seen}
use Rattle.path_text.specs.Paths.{path}
use Rattle.path_text.proofs.InTurn.{if_read}
use Rattle.peak_text.specs.TwoPaths.{two_paths, two_behind}
use Rattle.peak_text.proofs.TwoPathsLaws.{two_left, two_lack}
use Rattle.peak_text.proofs.two_paths.read_two.Goals as goal

pub returns-in_default-members-clause-read : goal.returns-in_default-members-clause-read
returns-in_default-members-clause-read c =
    let word = c.args.word.now in
    let sharing = c.args.sharing.now in
    sym (ap (two_behind word sharing) (list_seen c.args.item.now c.in-List.at c.in-List.members _ c.in-List.is refl)
    ∙ two_lack word sharing c.in-List.at c.in-List.members.now c.in_default-members.len_below)

pub returns-clause-read : goal.returns-clause-read
returns-clause-read c =
    let members = three_views c.in-List.members.now c.head-item.result c.left-item.result c.right-item.result c.in-len3-up.len_at_least c.head-item.is c.left-item.is c.right-item.is in
    let shape = list_seen c.args.item.now c.in-List.at c.in-List.members _ c.in-List.is members in
    let head = first two_paths (λ x. x) c.keyword-head.result _ (as_it_is _ _ c.keyword-head.ensures) in
    let left = next _ (λ v. v.items) c.keyword-head.result c.in_ok-left.left c.both.result _ _ head c.in_ok-left.ensures.read c.both.ensures in
    let second = c.in_ok-right.ensures.read ∙ ap (λ s. path s (view c.right-item.result)) c.in_ok-left.ensures.left in
    let right = next _ (λ v. v.items) c.both.result c.in_ok-right.right c.both-2.result _ _ left second c.both-2.ensures in
    c.join_of.ensures ∙ last _ c.both-2.result c.refuse_more.result _ _ right c.refuse_more.ensures ∙ sym (ap (two_behind c.args.word.now c.args.sharing.now) shape)

pub returns-clause-left : goal.returns-clause-left
returns-clause-left c =
    let head = first two_paths (λ x. x) c.keyword-head.result _ (as_it_is _ _ c.keyword-head.ensures) in
    let left = next _ (λ v. v.items) c.keyword-head.result c.in_ok-left.left c.both.result _ _ head c.in_ok-left.ensures.read c.both.ensures in
    let right = next _ (λ v. v.items) c.both.result c.in_ok-right.right c.both-2.result _ _ left c.in_ok-right.ensures.read c.both-2.ensures in
    let all = c.join_of.ensures ∙ last _ c.both-2.result c.refuse_more.result _ _ right c.refuse_more.ensures in
    if_read (λ j. j) _ c.join_of.result _ (as_it_is _ _ all) (λ j e. two_left c.args.sharing.now c.read_path.new.sharing c.read_path-2.new.sharing _ _ _ _ j c.in_ok-left.ensures.left c.in_ok-right.ensures.left e)
