use Rattle.std.proofs.Common.{ap, ◌∙◌, rules}
use Rattle.sexp_core.specs.Items.{a_list, views}
use Rattle.sexp_core.proofs.Viewing.{view_list}
use Rattle.sexp_core.proofs.reading.kept_list.Goals as goal

pub returns : goal.returns
returns c = view_list c.args.place _ ∙ ap (λ xs. a_list (views xs) c.args.place) (search rules)
