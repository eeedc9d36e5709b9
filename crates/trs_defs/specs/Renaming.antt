-- Terms renamed apart from others.
use Rattle.std.specs.Prelude.{ℕ, ◌+◌}
use Rattle.trs_defs.specs.Tree.{Tree, var}
use Rattle.trs_defs.specs.Substitution.{apply}

-- k more on each variable
abbrev pub shifted : ℕ → Tree → Tree
shifted k t = apply (λ v. var (k + v)) t
