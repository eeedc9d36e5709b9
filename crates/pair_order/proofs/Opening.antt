-- A term that is opened at its root.
use Rattle.std.proofs.Common.{◌≡◌, ℕ, List, map, ap, sym, ◌∙◌}
use Rattle.trs_defs.specs.Tree.{Tree, app, trees}
use Rattle.trs_core.specs.declared.terms.Term.{Term}
use Rattle.trs_core.specs.View.{tree, forest}

pub application : (f : ℕ) (t : Tree) (args : List Tree) (ts us : List Term) → t ≡ app f (trees args) → map tree ts ≡ args → us ≡ ts
    → t ≡ app f (forest us)
application f t args ts us is opened same = is ∙ ap (λ vs. app f (trees vs)) (sym opened) ∙ ap (λ vs. app f (forest vs)) (sym same)
