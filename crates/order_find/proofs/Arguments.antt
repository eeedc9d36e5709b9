-- The argument at a place.
use Rattle.std.specs.Prelude.{◌≡◌, ℕ, ◌+◌, ◌-◌, List, Option, slice_get}
use Rattle.std.specs.Option.{option_map, option_copied}
use Rattle.std.proofs.Common.{Bor, sym, ap, subst, arith, ◌∙◌}
use Rattle.trs_defs.specs.Tree.{Trees, app}
use Rattle.trs_defs.specs.Position.{argument_at}
use Rattle.trs_core.specs.declared.terms.Term.{Term}
use Rattle.trs_core.specs.View.{tree, forest}
use Rattle.trs_core.proofs.Lookups.{argument_at_past}
use Rattle.pair_theory.specs.Marked.{Marked, marked, plain}

at_value : (f : ℕ) (args : Trees) (v : ℕ) (ts : List Term) → forest ts ≡ args → option_map tree (slice_get ts v) ≡ argument_at (app f args) (v + 1)
at_value f args v ts same =
    let before : (v + 1) - 1 ≡ v = omega arith in
    let positive : v + 1 ≡ 0 → ⊥ = λ e. omega (arith, e) in
    ap (λ (i : ℕ). option_map tree (slice_get ts i)) (sym before) ∙ sym (argument_at_past f ts args (v + 1) same positive)

pub argument_value : (m : Marked) (f : ℕ) (args : Trees) → marked f args ≡ m → (v : ℕ) (ts : List Term) (got : Option (Bor Term)) → forest ts ≡ args
    → option_copied got ≡ slice_get ts v → option_map tree (option_copied got) ≡ argument_at (plain m) (v + 1)
argument_value m f args is v ts got same found =
    subst (λ (x : Marked). option_map tree (option_copied got) ≡ argument_at (plain x) (v + 1)) is (ap (λ o. option_map tree o) found ∙ at_value f args v ts same)
