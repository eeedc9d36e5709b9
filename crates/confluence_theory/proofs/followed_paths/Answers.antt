use Rattle.confluence_theory.proofs.FollowedPaths.{numbered_path}
use Rattle.confluence_theory.proofs.followed_paths.Goals as goal

pub returns : goal.returns
returns c = record { labelled = numbered_path }
