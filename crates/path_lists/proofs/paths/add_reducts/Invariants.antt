use Rattle.std.proofs.Common.{List, take}
use Rattle.trs_defs.specs.Tree.{Tree}
use Rattle.trs_defs.specs.System.{RewriteRule}
use Rattle.term_pool.specs.ListedIds.{listed}
use Rattle.term_pool.specs.Reach.{AreReducts}
use Rattle.path_lists.specs.Adding.{AddsPaths}
use Rattle.path_lists.specs.KnownEnds.{LeadsOn}
use Rattle.path_lists.proofs.paths.add_reducts.Given as goal

abbrev pub invariant-loop-i : goal.invariant-loop-i
invariant-loop-i l = (rules : List RewriteRule) (pool : List Tree) → LeadsOn rules pool l.fn.paths.items (listed pool l.entry) l.reducts
    → AddsPaths (AreReducts rules 4096 (listed pool l.entry) (take l.i l.reducts.steps.items)) pool pool l.fn.paths.items l.paths.items
