use Rattle.std.proofs.Common.{◌≡◌, arith, ap, refl, sym, subst, ◌∙◌, ◌<◌}
use Rattle.trs_defs.specs.Size.{size_of}
use Rattle.trs_defs.specs.Substitution.{apply}
use Rattle.trs_defs.specs.System.{RewriteRule}
use Rattle.trs_core.specs.View.{tree}
use Rattle.loop_find.proofs.Narrowings.{clashing, large_without, large_alone}
use Rattle.loop_find.proofs.narrowing.is_refused.Goals as goal

pub returns-then-clash : goal.returns-then-clash
returns-then-clash c = λ _ place left right counted there left_low right_low.
    let left_is : tree c.rule.inside.left ≡ c.args.rule.now.left = ap (λ (r : RewriteRule). r.left) c.rule.view_is in
    clashing c.args.rule.now place left right (tree c.args.part.now) there left_low right_low (λ σ τ e. c.if-clash.ensures refl σ τ (e ∙ ap (apply τ) (sym left_is)))

pub returns-then-is_large_without : goal.returns-then-is_large_without
returns-then-is_large_without c = λ _ place left right counted there left_low right_low.
    large_without c.args.rule.now place left right (tree c.args.part.now) there (let more = c.if-is_large_without.ensures refl in omega (arith, more, counted))

pub returns : goal.returns
returns c = λ large place left right counted there left_low right_low.
    let right_is : tree c.rule.inside.right ≡ c.args.rule.now.right = ap (λ (r : RewriteRule). r.right) c.rule.view_is in
    large_alone c.args.rule.now place left right (tree c.args.part.now) there (subst (λ t. 256 < size_of t) right_is (c.is_large.ensures large))
