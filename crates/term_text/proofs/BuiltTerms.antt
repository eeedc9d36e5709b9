-- Terms that are built one by one.
use Rattle.std.proofs.Common.{◌≡◌, List, [], ◌∷◌, ◌++◌, refl, sym, ap, ◌∙◌}
use Rattle.trs_defs.specs.Tree.{Tree, Trees, nil, cons}
use Rattle.trs_core.specs.declared.terms.Term.{Term}
use Rattle.trs_core.specs.View.{tree, forest}

-- terms and then further terms
abbrev pub behind : Trees → Trees → Trees
behind nil us = us
behind (cons t ts) us = cons t (behind ts us)

pub behind_none : (ts : Trees) → behind ts nil ≡ ts
behind_none nil = refl
behind_none (cons t ts) = ap (cons t) (behind_none ts)

pub behind_one : (ts : Trees) (t : Tree) (us : Trees) → behind (behind ts (cons t nil)) us ≡ behind ts (cons t us)
behind_one nil t us = refl
behind_one (cons x ts) t us = ap (cons x) (behind_one ts t us)

pub behind_push : (ts : List Term) (t : Term) (us : Trees) → behind (forest (ts ++ t ∷ [])) us ≡ behind (forest ts) (cons (tree t) us)
behind_push [] t us = refl
behind_push (x ∷ ts) t us = ap (cons (tree x)) (behind_push ts t us)

pub forest_push : (ts : List Term) (t : Term) → forest (ts ++ t ∷ []) ≡ behind (forest ts) (cons (tree t) nil)
forest_push ts t = sym (behind_none (forest (ts ++ t ∷ []))) ∙ behind_push ts t nil
