use Rattle.std.proofs.Common.{◌≡◌, ℕ, List, Some, get_or, length, refl, slice_get, subst, sym, ◌∙◌}
use Rattle.std.proofs.lemmas.Option.{slice_get_read, slice_get_within, same_Some}
use Rattle.trs_defs.specs.System.{RewriteRule}
use Rattle.trs_core.specs.SystemLimits.{HasSmallVariables}
use Rattle.trs_core.specs.View.{tree}
use Rattle.trs_defs.specs.Substitution.{apply}
use Rattle.crit_pairs.specs.InOrder.{in_order}
use Rattle.crit_pairs.specs.Overlapping.{substitution}
use Rattle.crit_pairs.proofs.MadePairs.{pair_opened}
use Rattle.crit_pairs.proofs.SpotWalk.{small_of}
use Rattle.crit_pairs.proofs.making.build_pair.Goals.{After-index-rules-i}
use Rattle.crit_pairs.proofs.making.build_pair.Goals as goal

pub bounds-rules-j : goal.bounds-rules-j
bounds-rules-j c = slice_get_within c.args.rules.now c.args.j c.requires.unifier.outer c.requires.unifier.outer_numbered

pub bounds-rules-i : goal.bounds-rules-i
bounds-rules-i c = slice_get_within c.args.rules.now c.args.i c.requires.unifier.inner c.requires.unifier.inner_numbered

-- a rule, as it is read
read : (rules : List RewriteRule) (k : ℕ) (numbered r : RewriteRule) → slice_get rules k ≡ Some numbered → r ≡ get_or rules k r → r ≡ numbered
read rules k numbered r there is = same_Some r numbered (sym (slice_get_read rules (length rules) k r refl (slice_get_within rules k numbered there) is) ∙ there)

inner_read : (c : After-index-rules-i) → c.index-rules-i.result ≡ c.requires.unifier.inner
inner_read c = read c.args.rules.now c.args.i c.requires.unifier.inner c.index-rules-i.result c.requires.unifier.inner_numbered c.index-rules-i.is

pub contract-requires-clause-small : goal.contract-requires-clause-small
contract-requires-clause-small c =
    let u = c.requires.unifier in
    let same = inner_read (goal.at.contract-requires-clause-small c).After-index-rules-i in
    subst (λ (r : RewriteRule). HasSmallVariables r.right) (sym same) (small_of c.args.rules.now c.args.i u.inner c.requires.small u.inner_numbered).1

pub returns-clause-made : goal.returns-clause-made
returns-clause-made c =
    let a = (goal.at.returns-clause-made c).After-index-rules-i in
    let unifier = substitution c.args.unifier.now in
    let outer_read = read c.args.rules.now c.args.j c.requires.unifier.outer c.index-rules-j.result c.requires.unifier.outer_numbered c.index-rules-j.is in
    pair_opened c.args.rules.now c.args.j c.args.i c.args.place.now unifier c.requires.unifier c.requires.small c.index-rules-i.result c.index-rules-j.result (tree c.outer.inside.left)
    (tree c.outer.inside.right) (tree c.in_ok-reduct.reduct) (in_order (apply unifier (tree c.outer.inside.left))) (tree c.in_ok-sides.sides.0) (tree c.in_ok-sides.sides.1) (inner_read a) outer_read
    c.outer.view_is c.in_ok-reduct.ensures c.in_ok-sides.ensures c.intern_pair.new.pool c.args.nodes _ c.in_ok-total.ensures.limits c.in_ok-pair.ensures.left c.in_ok-pair.ensures.right
