use Rattle.std.proofs.Common.{◌≡◌, ◌≢◌, Some, None, ap, sym, subst, ◌∙◌}
use Rattle.trs_defs.specs.Position.{subterm_at, replaced_at}
use Rattle.trs_defs.specs.System.{RewriteRule}
use Rattle.trs_core.specs.View.{tree}
use Rattle.crit_pairs.specs.Apart.{renamed_apart}
use Rattle.crit_pairs.proofs.SameAround.{put_around}
use Rattle.crit_pairs.proofs.contracting.contract.Goals as goal

pub returns : goal.returns
returns c =
    let place = c.args.place.now in
    let made = tree c.put-2.new.self in
    let left : tree c.outer.inside.left ≡ c.args.outer.now.left = ap (λ (r : RewriteRule). r.left) c.outer.view_is in
    let right : tree c.in_ok-right.right ≡ (renamed_apart c.args.inner.now).right = c.in_ok-right.ensures ∙ ap (λ r. (renamed_apart r).right) c.inner.view_is in
    let there : subterm_at place (tree c.outer.inside.left) ≢ None = subst (λ t. subterm_at place t ≢ None) (sym left) c.requires.there in
    let put : replaced_at place (tree c.outer.inside.left) (tree c.in_ok-right.right) ≡ Some made =
    put_around place _ (tree c.in_ok-reduct.reduct) _ made c.put-2.result there c.in_ok-reduct.ensures (rw c.in_ok-of.ensures at c.put-2.ensures.put) in
    subst (λ t. replaced_at place t (renamed_apart c.args.inner.now).right ≡ Some made) left (subst (λ t. replaced_at place (tree c.outer.inside.left) t ≡ Some made) right put)
