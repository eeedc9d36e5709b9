use Rattle.order_find.proofs.subterm.search_places.Goals as goal

pub invariant_of-space : goal.invariant_of-space
invariant_of-space g c = record { indexed = c.in_ok-slots.ensures; distinct = c.requires.distinct; bytes = c.requires.bytes; few_roots = c.requires.few_roots; few_pairs = c.requires.few_pairs }

pub find_first_by-requires : goal.find_first_by-requires
find_first_by-requires g c = record { serves = c.new.ensures c.args.pairs.now }
