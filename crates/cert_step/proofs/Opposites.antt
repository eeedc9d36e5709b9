-- Opposite claims exclude each other.
use Rattle.pair_theory.proofs.Termination.{endless_not_terminating}
use Rattle.confluence_theory.proofs.NormalForms.{forked_not_confluent, split_not_unique}
use Rattle.cert_step.specs.declared.claim.Claim.TheVariants.{Terminating, Nonterminating, Confluent, Nonconfluent, Unique, Nonunique}
use Rattle.cert_step.specs.Opposites.{OppositeClaimsExclude}

pub claims_exclude : OppositeClaimsExclude
claims_exclude system Terminating terminating endless = endless_not_terminating system endless terminating
claims_exclude system Nonterminating endless terminating = endless_not_terminating system endless terminating
claims_exclude system Confluent confluent forked = forked_not_confluent system forked confluent
claims_exclude system Nonconfluent forked confluent = forked_not_confluent system forked confluent
claims_exclude system Unique unique split = split_not_unique system split unique
claims_exclude system Nonunique split unique = split_not_unique system split unique
