use Rattle.std.proofs.Common.{◌≡◌, ◌++◌, [], map}
use Rattle.std.specs.Vec.Iter.{into_iter_items}
use Rattle.names_text.specs.NamesFault.{first_bad_name}
use Rattle.names_text.proofs.named.distinct_words.Given as goal

abbrev pub invariant-loop-name : goal.invariant-loop-name
invariant-loop-name l = record {
  names : l.known ++ map (λ n. n.items) (into_iter_items l.name-iterator) ≡ map (λ n. n.items) l.fn.names.items;
  fault : first_bad_name l.known (map (λ n. n.items) (into_iter_items l.name-iterator)) ≡ first_bad_name [] (map (λ n. n.items) l.fn.names.items);
}
