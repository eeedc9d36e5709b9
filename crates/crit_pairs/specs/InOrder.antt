-- Terms whose variables are numbered in order of first occurrence.
use Rattle.std.specs.Prelude.{◌==◌}
use Rattle.std.specs.List.{position_or_len}
use Rattle.trs_defs.specs.Tree.{Tree, var}
use Rattle.trs_defs.specs.Variable.{variables_of}
use Rattle.trs_defs.specs.Substitution.{apply}

-- each variable gets its place among the variables of the term
abbrev pub in_order : Tree → Tree
in_order t = apply (λ v. var (position_or_len (λ n. n == v) (variables_of t))) t
