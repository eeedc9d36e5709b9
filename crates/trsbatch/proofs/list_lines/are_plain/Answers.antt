use Rattle.std.proofs.Common.{rules, arith, subst, take_all}
use Rattle.std.specs.List.{All}
use Rattle.std.proofs.lemmas.List.Elements.{All-more}
use Rattle.trsbatch.specs.ListText.{IsPlain}
use Rattle.trsbatch.proofs.list_lines.are_plain.Goals as goal

pub loop-byte-preserved : goal.loop-byte-preserved
loop-byte-preserved c =
    All-more IsPlain c.args.bytes.now c.loop-byte.byte-index 0 c.loop-byte-test.true c.loop-byte.invariant (search rules, search rules)

pub returns-clause-yes : goal.returns-clause-yes
returns-clause-yes c = λ e.
    subst (λ xs. All IsPlain xs) (take_all c.loop-byte.byte-index c.args.bytes.now (omega (arith, c.loop-byte-test.false))) c.loop-byte.invariant
