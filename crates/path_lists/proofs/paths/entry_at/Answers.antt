use Rattle.std.proofs.Common.{◌∙◌, length, refl}
use Rattle.std.proofs.lemmas.Option.{slice_get_read}
use Rattle.path_lists.proofs.paths.entry_at.Goals as goal

pub returns : goal.returns
returns c = record {
  entry = c.index-paths-i.result;
  there = slice_get_read c.args.paths.now (length c.args.paths.now) c.args.i c.index-paths-i.result refl c.requires c.index-paths-i.is;
  id = refl;
  path = c.in_ok-copy_path.ensures ∙ c.deref.ensures.value;
}
