use Rattle.trs_defs.specs.System.{RewriteRule}
use Rattle.std.proofs.Common.{subst, ◌++◌, OnOk}
use Rattle.trs_core.specs.View.{tree}
use Rattle.dp_core.specs.Symbols.{symbols_of}
use Rattle.order_search.specs.SymbolSets.{Adds}
use Rattle.order_search.proofs.Growing.{sides_added}
use Rattle.order_search.proofs.symbols.add_sides.Goals as goal

pub returns : goal.returns
returns c =
    subst (λ (r : RewriteRule). OnOk c.add_symbols-2.result (Adds c.args.set.now.items c.add_symbols-2.new.set.items (symbols_of r.left ++ symbols_of r.right))) c.rule.view_is
    (sides_added c.args.set.now.items c.add_symbols.new.set.items c.add_symbols-2.new.set.items (symbols_of (tree c.rule.inside.left)) (symbols_of (tree c.rule.inside.right)) c.add_symbols-2.result
    c.in_ok-add_symbols.ensures c.add_symbols-2.ensures)
