-- How a goal begins, what it claims, and its name in reports.
use Rattle.std.specs.Prelude.{ℕ, List, codes}
use Rattle.strategies.specs.cert_step.ProofProblem.{ProofProblem, sn, loop, cr, cr_newman, fork, unr, unr_newman, split}
use Rattle.strategies.specs.cert_step.declared.claim.Claim.{Claim}
use Rattle.strategies.specs.cert_step.declared.claim.Claim.TheVariants as claim
use Rattle.tree_definitions.specs.declared.goal.Goal.{Goal}
use Rattle.tree_definitions.specs.declared.goal.Goal.TheVariants.{Terminating, Nonterminating, Confluent, ConfluentNewman, Nonconfluent, Unique, UniqueNewman, Nonunique}

-- the problem with which a goal begins
abbrev pub goal_root : Goal → ProofProblem
goal_root Terminating = sn
goal_root Nonterminating = loop
goal_root Confluent = cr
goal_root ConfluentNewman = cr_newman
goal_root Nonconfluent = fork
goal_root Unique = unr
goal_root UniqueNewman = unr_newman
goal_root Nonunique = split

-- what it claims
abbrev pub goal_claim : Goal → Claim
goal_claim Terminating = claim.Terminating
goal_claim Nonterminating = claim.Nonterminating
goal_claim Confluent = claim.Confluent
goal_claim ConfluentNewman = claim.Confluent
goal_claim Nonconfluent = claim.Nonconfluent
goal_claim Unique = claim.Unique
goal_claim UniqueNewman = claim.Unique
goal_claim Nonunique = claim.Nonunique

abbrev pub goal_word : Goal → List ℕ
goal_word Terminating = codes "terminating"
goal_word Nonterminating = codes "nonterminating"
goal_word Confluent = codes "confluent"
goal_word ConfluentNewman = codes "confluent-newman"
goal_word Nonconfluent = codes "nonconfluent"
goal_word Unique = codes "unique"
goal_word UniqueNewman = codes "unique-newman"
goal_word Nonunique = codes "nonunique"
