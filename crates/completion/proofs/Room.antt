-- Whether a new rule fits behind others.
use Rattle.std.proofs.Common.{◌≡◌, ◌≤◌, ◌↔◌, ◌+◌, List, [], ◌∷◌, ◌++◌, length-append, arith}
use Rattle.std.proofs.lemmas.List.Elements.{All-push}
use Rattle.trs_defs.specs.Size.{depth_of}
use Rattle.trs_defs.specs.System.{RewriteRule, System}
use Rattle.trs_core.specs.SystemLimits.{IsWithinLimits, IsShallow, nodes_of}
use Rattle.completion.specs.Orienting.{Fits}
use Rattle.completion.specs.Treating.{HasRoom}

pub nodes_append : (rules more : List RewriteRule) → nodes_of (rules ++ more) ≡ nodes_of rules + nodes_of more
nodes_append [] more = omega arith
nodes_append (r ∷ rules) more = omega (arith, nodes_append rules more)

-- both sides are shallow, and there is room
pub fits_law : (system : System) (r : RewriteRule) → IsWithinLimits system
    → (((depth_of r.left ≤ 256) × (depth_of r.right ≤ 256)) × HasRoom system.rules r) ↔ Fits system.arities system.rules r
fits_law system r limits = (
  (λ h. record {
    limits = record {
      symbols = limits.symbols;
      rules = omega (arith, h.1.0, length-append system.rules (r ∷ []));
      nodes = omega (arith, h.1.1, nodes_append system.rules (r ∷ []));
      shallow = All-push IsShallow system.rules r limits.shallow (omega (arith, h.0.0), omega (arith, h.0.1));
    };
    left_shallow = h.0.0;
    right_shallow = h.0.1;
  }),
  (λ f. (
    (f.left_shallow, f.right_shallow),
    (omega (arith, f.limits.rules, length-append system.rules (r ∷ [])), omega (arith, f.limits.nodes, nodes_append system.rules (r ∷ []))),
  )),
)
