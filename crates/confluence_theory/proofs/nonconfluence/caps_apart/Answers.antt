use Rattle.confluence_theory.proofs.CapsApart.{caps_apart_not_joinable, caps_apart_forked}
use Rattle.confluence_theory.proofs.nonconfluence.caps_apart.Goals as goal

pub returns : goal.returns
returns c = record { apart = caps_apart_not_joinable; forked = caps_apart_forked }
