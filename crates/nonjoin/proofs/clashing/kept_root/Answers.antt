use Rattle.std.proofs.Common.{length, sym, ◌∙◌}
use Rattle.std.proofs.lemmas.Bool.{eqb-true}
use Rattle.std.proofs.lemmas.List.{nil_from_length}
use Rattle.nonjoin.proofs.clashing.kept_root.Goals as goal

pub returns-then-is_empty-clause-root : goal.returns-then-is_empty-clause-root
returns-then-is_empty-clause-root c =
    let none = eqb-true (length c.with_root.result.now) 0 (sym c.is_empty.ensures ∙ c.if-is_empty.true) in
    record { args = c.in-Some.ensures.some.0; term = c.in-Some.ensures.some.1; kept = sym c.with_root.ensures.numbers ∙ nil_from_length c.with_root.result.now none }
