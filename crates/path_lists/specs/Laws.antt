-- Listed paths lead to their ends, and a term has at most one list of paths.
use Rattle.std.specs.Prelude.{◌≡◌, List}
use Rattle.trs_defs.specs.Member.{In}
use Rattle.trs_defs.specs.Tree.{Tree}
use Rattle.trs_defs.specs.System.{System, IsSystem, RewriteRule}
use Rattle.trs_defs.specs.Path.{Follows}
use Rattle.term_pool.specs.Listed.{Listed}
use Rattle.path_lists.specs.PathList.{IsPathList}

abbrev pub ListedPathsLead : Type 0
ListedPathsLead = (rules : List RewriteRule) (t : Tree) (es : List Listed) → IsPathList rules t es → (e : Listed) → In e es
    → Follows rules e.path t e.term

abbrev pub PathListsAreOne : Type 0
PathListsAreOne = (system : System) (t : Tree) (es fs : List Listed) → IsSystem system → IsPathList system.rules t es
    → IsPathList system.rules t fs → es ≡ fs
