use Rattle.std.proofs.Common.{◌∙◌, Ok, refl, sym, ap}
use Rattle.sexp_core.specs.Items.{view}
use Rattle.text_reading.specs.Reading.{◌<*>◌, done}
use Rattle.text_reading.proofs.SeenParts.{first, next, last, as_it_is}
use Rattle.text_reading.proofs.Members.{four_views}
use Rattle.path_text.specs.Paths.{path}
use Rattle.path_text.proofs.InTurn.{if_read}
use Rattle.peak_text.specs.FourPaths.{four_paths, paths_behind_pair}
use Rattle.peak_text.proofs.FourPathsLaws.{four_left, four_lack, in_this_order}
use Rattle.peak_text.proofs.four_paths.read_four_paths.Goals as goal

pub returns-in_default-clause-read : goal.returns-in_default-clause-read
returns-in_default-clause-read c =
    sym (four_lack c.args.sharing.now c.args.at c.args.head c.args.paths.now c.in_default.len_below)

pub returns-clause-read : goal.returns-clause-read
returns-clause-read c =
    let members = four_views c.args.paths.now c.left_u-item.result c.right_u-item.result c.right_v-item.result c.left_v-item.result c.in-len4-up.len_at_least c.left_u-item.is c.right_u-item.is c.right_v-item.is c.left_v-item.is in
    let to2 = c.in_ok-left_u.ensures.left in
    let to3 = c.in_ok-right_u.ensures.left in
    let to4 = c.in_ok-right_v.ensures.left in
    let head = first four_paths (λ x. x) c.args.head _ (as_it_is _ _ refl) in
    let a = next _ (λ v. v.items) c.args.head c.in_ok-left_u.left_u c.both.result _ _ head c.in_ok-left_u.ensures.read c.both.ensures in
    let b = next _ (λ v. v.items) c.both.result c.in_ok-right_u.right_u c.both-first_half.result _ _ a c.in_ok-right_u.ensures.read c.both-first_half.ensures in
    let d = next _ (λ v. v.items) c.both-first_half.result c.in_ok-right_v.right_v c.both-2.result _ _ b c.in_ok-right_v.ensures.read c.both-2.ensures in
    let e = next _ (λ v. v.items) c.both-2.result c.in_ok-left_v.left_v c.both-3.result _ _ d c.in_ok-left_v.ensures.read c.both-3.ensures in
    let all = c.four_of.ensures ∙ last _ c.both-3.result c.refuse_more.result _ _ e c.refuse_more.ensures in
    all ∙ in_this_order c.args.sharing.now c.read_path.new.sharing c.read_path-2.new.sharing c.read_path-3.new.sharing c.args.head (view c.left_u-item.result) (view c.right_u-item.result) (view c.right_v-item.result) (view c.left_v-item.result) _ to2 to3 to4 c.args.at ∙ sym (ap (paths_behind_pair c.args.sharing.now c.args.at (Ok four_paths <*> c.args.head)) members)

pub returns-clause-left : goal.returns-clause-left
returns-clause-left c =
    let head = first four_paths (λ x. x) c.args.head _ (as_it_is _ _ refl) in
    let a = next _ (λ v. v.items) c.args.head c.in_ok-left_u.left_u c.both.result _ _ head c.in_ok-left_u.ensures.read c.both.ensures in
    let b = next _ (λ v. v.items) c.both.result c.in_ok-right_u.right_u c.both-first_half.result _ _ a c.in_ok-right_u.ensures.read c.both-first_half.ensures in
    let d = next _ (λ v. v.items) c.both-first_half.result c.in_ok-right_v.right_v c.both-2.result _ _ b c.in_ok-right_v.ensures.read c.both-2.ensures in
    let e = next _ (λ v. v.items) c.both-2.result c.in_ok-left_v.left_v c.both-3.result _ _ d c.in_ok-left_v.ensures.read c.both-3.ensures in
    let all = c.four_of.ensures ∙ last _ c.both-3.result c.refuse_more.result _ _ e c.refuse_more.ensures in
    if_read (λ f. f) _ c.four_of.result _ (as_it_is _ _ all)
    (λ f is. four_left c.args.sharing.now c.read_path.new.sharing c.read_path-2.new.sharing c.read_path-3.new.sharing c.read_path-4.new.sharing _ _ _ _ _ _ f c.in_ok-left_u.ensures.left c.in_ok-right_u.ensures.left c.in_ok-right_v.ensures.left c.in_ok-left_v.ensures.left is)
