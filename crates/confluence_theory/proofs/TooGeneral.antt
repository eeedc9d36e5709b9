-- A top that is too general is that of no critical peak: of f(x, x) -> a and f(x, x) -> b it is f(x, x), not f(x, y).
use Rattle.std.specs.Prelude.{◌≡◌, ℕ, []}
use Rattle.std.proofs.Common.{refl}
use Rattle.trs_defs.specs.Tree.{Tree, var, app, nil, cons}
use Rattle.trs_defs.specs.System.{RewriteRule}
use Rattle.confluence_theory.specs.Peak.{Peak}
use Rattle.confluence_theory.specs.CriticalPeak.{IsCriticalPeak}
use Rattle.confluence_theory.proofs.Constants.{constant}

abbrev f : Tree → Tree → Tree
f t u = app 2 (cons t (cons u nil))

abbrev twice : ℕ → RewriteRule
twice n = record { left = f (var 0) (var 0); right = constant n }

abbrev too_general : Peak
too_general = record { inner = 0; outer = 1; top = f (var 0) (var 1); left = constant 0; right = constant 1 }

none_too_general : IsCriticalPeak (twice 0) (twice 1) [] too_general → ⊥
none_too_general c =
    let e : f (c.unifier 0) (c.unifier 0) ≡ f (var (c.names 0)) (var (c.names 1)) = c.top in
    let same : c.names 0 ≡ c.names 1 = cc e in
    let k : 0 ≡ 1 = c.different 0 1 refl refl same in
    absurd (cc k)
