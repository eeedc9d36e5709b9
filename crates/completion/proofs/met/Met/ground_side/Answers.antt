use Rattle.std.proofs.Common.{List, ◌∙◌, sym, subst, take}
use Rattle.trs_defs.specs.Tree.{Tree}
use Rattle.trs_core.specs.View.{tree}
use Rattle.term_pool.specs.Pooled.{Extends, StandsFor}
use Rattle.term_pool.proofs.Extending.{extends_itself, extends_on}
use Rattle.crit_pairs.proofs.GroundRights.{no_variable}
use Rattle.completion.proofs.MetLaws.{whole_pool}
use Rattle.completion.proofs.met.Met.ground_side.Goals as goal

pub returns-clause-id : goal.returns-clause-id
returns-clause-id c =
    let S : List Tree → Type 0 = λ ts. StandsFor ts c.in_ok-id.id (tree c.args.t.now) in
    subst S (sym (whole_pool c.intern.new.self c.raise_base.new.self c.raise_base.ensures.pool c.raise_base.ensures.base)) c.in_ok-id.ensures.id

pub returns-clause-ground : goal.returns-clause-ground
returns-clause-ground c = no_variable (tree c.args.t.now) (sym c.least_variable-least.ensures ∙ c.in_default.is)

pub returns-in-Some-clause-kept : goal.returns-in-Some-clause-kept
returns-in-Some-clause-kept c = extends_itself _

pub returns-clause-kept : goal.returns-clause-kept
returns-clause-kept c =
    let before = take c.args.self.now.base c.args.self.now.pool in
    let S : List Tree → Type 0 = Extends before in
    subst S (sym (whole_pool c.intern.new.self c.raise_base.new.self c.raise_base.ensures.pool c.raise_base.ensures.base))
    (extends_on before c.forget_over.new.self.pool c.intern.new.self.pool c.forget_over.ensures.kept.kept c.in_ok-id.ensures.kept)

pub returns-clause-met : goal.returns-clause-met
returns-clause-met c = λ rules h. c.raise_base.ensures.met rules (c.in_ok-id.ensures.met rules (c.forget_over.ensures.met rules h))
