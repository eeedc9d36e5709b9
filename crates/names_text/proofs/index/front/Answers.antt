use Rattle.std.proofs.Common.{sym, arith}
use Rattle.std.proofs.lemmas.List.{take_all, length-take-le}
use Rattle.names_text.proofs.index.front.Goals as goal

pub returns-then-name-le-HASHED : goal.returns-then-name-le-HASHED
returns-then-name-le-HASHED c = sym (take_all 256 c.args.name.now (omega (arith, c.if-name-le-HASHED.true)))

pub slice_bounds-result-end : goal.slice_bounds-result-end
slice_bounds-result-end c = sym (length-take-le 256 c.args.name.now (omega (arith, c.if-name-le-HASHED.false)))
