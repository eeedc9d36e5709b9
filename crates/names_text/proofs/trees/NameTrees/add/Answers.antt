use Rattle.std.proofs.Common.{◌≡◌, refl, rules}
use Rattle.names_text.proofs.NameKeys.{with_first, with_other, not_there}
use Rattle.names_text.proofs.trees.NameTrees.add.Goals as goal

pub returns-in_ok-insert-clause-ok : goal.returns-in_ok-insert-clause-ok
returns-in_ok-insert-clause-ok c ns within none count =
    let same : c.in_ok-key.key.items ≡ c.args.name.now = search rules in
    with_other ns c.args.name.now c.args.self.now _ within c.args.number count c.in_ok-key.key.items same none refl
    c.in_ok-insert.ensures.updates

pub returns-in_ok-insert-2-clause-ok : goal.returns-in_ok-insert-2-clause-ok
returns-in_ok-insert-2-clause-ok c ns within none count =
    with_first ns c.args.name.now c.args.self.now _ within c.args.number count c.args.hash c.requires
    (not_there _ c.contains_key.result c.contains_key.ensures c.if-contains_key.false) refl c.in_ok-insert-2.ensures.updates
