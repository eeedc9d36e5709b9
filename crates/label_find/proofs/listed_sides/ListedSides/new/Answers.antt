use Rattle.std.proofs.Common.{ℕ, List, ap, nat_eq}
use Rattle.std.specs.Map.{lookup}
use Rattle.label_find.proofs.PathsOfSides.{none_listed}
use Rattle.label_find.proofs.NumberedSides.{none_numbered}
use Rattle.label_find.proofs.listed_sides.ListedSides.new.Goals as goal

pub returns-clause-sides : goal.returns-clause-sides
returns-clause-sides c =
    λ rules from. none_listed rules from (record { pool = c.new.result; known = c.new-2.result; ends = c.new-3.result; lists = c.new-4.result; numbers = c.new-5.result }) c.new-4.ensures
    (c.new-2.ensures from c.new.result) (c.new-3.ensures rules c.new.result)

pub returns-clause-numbers : goal.returns-clause-numbers
returns-clause-numbers c =
    λ table. none_numbered (record { pool = c.new.result; known = c.new-2.result; ends = c.new-3.result; lists = c.new-4.result; numbers = c.new-5.result }) table
    (λ id. ap (λ (es : List (ℕ × ℕ)). lookup (nat_eq id) es) c.new-5.ensures.empty)
