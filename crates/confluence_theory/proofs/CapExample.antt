-- Caps apart: f(x, y) -> x, f(x, y) -> y, from f(x, y). With x and y read as two constants no term fits both caps.
use Rattle.std.specs.Prelude.{◌≡◌, ℕ, [], ◌∷◌}
use Rattle.std.proofs.Common.{zero, suc, refl, subst, arith}
use Rattle.trs_defs.specs.Member.{In, in_first, in_rest}
use Rattle.trs_defs.specs.Tree.{Tree, Trees, var, app, nil, cons}
use Rattle.trs_defs.specs.Substitution.{apply}
use Rattle.trs_defs.specs.System.{RewriteRule, System, Among}
use Rattle.trs_defs.specs.Step.{here}
use Rattle.trs_defs.specs.Cap.{Fits, fits_symbol, Cap, cap_symbol, caps_nil, constants_from}
use Rattle.trs_defs.specs.Claims.{IsForked}
use Rattle.confluence_theory.proofs.CapClash.{clash_apart}
use Rattle.confluence_theory.proofs.CapsApart.{caps_apart_forked}
use Rattle.confluence_theory.proofs.ForkExamples.{constant}

abbrev pair : Tree
pair = app 0 (cons (var 0) (cons (var 1) nil))

abbrev first_rule : RewriteRule
first_rule = record { left = pair; right = var 0 }

abbrev second_rule : RewriteRule
second_rule = record { left = pair; right = var 1 }

abbrev choice : System
choice = record { arities = 2 ∷ []; rules = first_rule ∷ second_rule ∷ [] }

same_symbol : (f g : ℕ) (cs ts : Trees) → Fits (app f cs) (app g ts) → f ≡ g
same_symbol f g cs ts (fits_symbol p) = refl

left_of : (r : RewriteRule) → In r choice.rules → r.left ≡ pair
left_of r in_first = refl
left_of r (in_rest in_first) = refl
left_of r (in_rest (in_rest h)) = elim h [ ]

constant_cap : (f : ℕ) → Cap (Among choice.rules) (constant (suc f)) (constant (suc f))
constant_cap f = cap_symbol caps_nil (λ l r σ h p.
    let is_pair : l ≡ pair = left_of (record { left = l; right = r }) h in
    let q : Fits (constant (suc f)) (apply σ pair) = subst (λ z. Fits (constant (suc f)) (apply σ z)) is_pair p in
    let e : suc f ≡ zero = same_symbol (suc f) 0 nil (cons (σ 0) (cons (σ 1) nil)) q in
    absurd (omega arith))

none_fits_both : (v : Tree) → Fits (constant 1) v → Fits (constant 2) v → ⊥
none_fits_both v = clash_apart (constant 1) (constant 2) v refl

choice_forked : IsForked choice
choice_forked =
    caps_apart_forked choice pair (var 0) (var 1) (constant 1) (constant 2) (constants_from 1) (refl, (tt, (tt, tt)))
    (1, (var 0, here (pair, var 0, λ v. var v, in_first, refl, refl), refl))
    (1, (var 1, here (pair, var 1, λ v. var v, in_rest in_first, refl, refl), refl))
    (constant_cap 0) (constant_cap 1) none_fits_both
