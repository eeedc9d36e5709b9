use Rattle.trsprove.proofs.samples.sample.Goals as goal

pub returns-in-Ok-clause-line : goal.returns-in-Ok-clause-line
returns-in-Ok-clause-line c = record { is_true = c.in-Ok.ensures.line; serial = λ one. c.in-Ok.ensures.serial }
