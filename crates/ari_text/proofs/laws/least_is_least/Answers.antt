use Rattle.ari_text.proofs.Leasts.{is_among, is_least, is_none}
use Rattle.ari_text.proofs.laws.least_is_least.Goals as goal

pub returns-clause-found : goal.returns-clause-found
returns-clause-found c = is_among

pub returns-clause-least : goal.returns-clause-least
returns-clause-least c = is_least

pub returns-clause-none : goal.returns-clause-none
returns-clause-none c = is_none
