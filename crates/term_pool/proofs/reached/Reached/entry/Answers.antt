use Rattle.std.proofs.Common.{◌∙◌, length, refl}
use Rattle.std.proofs.lemmas.Option.{slice_get_read}
use Rattle.term_pool.proofs.reached.Reached.entry.Goals as goal

pub returns : goal.returns
returns c = record {
  entry = c.index-entry.result.now;
  there = slice_get_read c.args.self.now.list.items (length c.args.self.now.list.items) c.args.i c.index-entry.result.now refl c.requires c.index-entry.ensures;
  id = refl;
  path = c.in_ok-copy_path.ensures ∙ c.deref.ensures.value;
}
