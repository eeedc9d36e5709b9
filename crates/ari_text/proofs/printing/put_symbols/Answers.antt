use Rattle.std.proofs.Common.{◌++◌, get_or, rules}
use Rattle.sexp_core.specs.Items.{no_items}
use Rattle.sexp_core.specs.Printed.{lines}
use Rattle.ari_text.specs.PrintedProblem.{symbol_items}
use Rattle.ari_text.proofs.PrintedText.{symbols_step}
use Rattle.ari_text.proofs.printing.put_symbols.Goals as goal

pub loop-f-preserved : goal.loop-f-preserved
loop-f-preserved c =
    let system = c.args.system.now in
    rw c.in_ok-put_symbol.ensures
    (symbols_step system.names system.system.arities c.loop-f.f c.name.result.now (get_or c.args.arities.now c.loop-f.f 0) c.loop-f.out.items
    (c.args.out.now.items ++ lines (symbol_items system.names system.system.arities no_items))
    c.name.ensures (search rules) (search rules) c.loop-f.invariant)
