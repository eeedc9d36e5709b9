use Rattle.std.proofs.Common.{◌≡◌, ap, length, subst, sym, refl, ◌∙◌}
use Rattle.std.proofs.lemmas.Option.{slice_get_read, slice_get_within, same_Some}
use Rattle.trs_defs.specs.Tree.{Tree}
use Rattle.trs_defs.specs.System.{RewriteRule}
use Rattle.trs_defs.specs.Substitution.{apply}
use Rattle.trs_core.specs.View.{tree}
use Rattle.term_pool.proofs.Extending.{extends_itself}
use Rattle.crit_pairs.specs.Overlapping.{substitution}
use Rattle.crit_pairs.specs.MadePairs.{CountsTop}
use Rattle.crit_pairs.proofs.MadePairs.{pair_there}
use Rattle.crit_pairs.proofs.making.make_pair.Goals as goal

pub bounds-rules-j : goal.bounds-rules-j
bounds-rules-j c = slice_get_within c.args.rules.now c.args.j c.requires.unifier.outer c.requires.unifier.outer_numbered

pub returns-in_ok-total-in-Some-clause-made : goal.returns-in_ok-total-in-Some-clause-made
returns-in_ok-total-in-Some-clause-made c =
    let u = c.requires.unifier in
    let within = slice_get_within c.args.rules.now c.args.j u.outer u.outer_numbered in
    let same = same_Some c.index-rules-j.result u.outer (sym (slice_get_read c.args.rules.now (length c.args.rules.now) c.args.j c.index-rules-j.result refl within c.index-rules-j.is) ∙ u.outer_numbered) in
    let left_is : tree c.outer.inside.left ≡ u.outer.left = ap (λ (r : RewriteRule). r.left) (c.outer.view_is ∙ same) in
    let found = c.in-Some.found in
    let C : Tree → Type 0 = λ t. CountsTop (apply (substitution c.args.unifier.now) t) found.left.size found.right.size c.args.nodes c.in_ok-total-in-Some.total in
    pair_there c.args.rules.now c.args.j c.args.i c.args.place.now (substitution c.args.unifier.now) u c.requires.small c.args.rights.now c.args.pool.now found.left found.right c.requires.rights
    (rw c.in-Some.is at c.ground_results.ensures) c.args.nodes _ refl refl (subst C left_is c.in_ok-total-in-Some.ensures.counted)

pub returns-in_ok-total-in-Some-clause-kept : goal.returns-in_ok-total-in-Some-clause-kept
returns-in_ok-total-in-Some-clause-kept c = extends_itself c.args.pool.now
