use Rattle.std.proofs.Common.{◌∙◌, map, ap}
use Rattle.path_text.specs.PathNames.{path_number}
use Rattle.path_text.proofs.PathNumbers.{number_found}
use Rattle.path_text.proofs.TableOfPaths.{texts_more, pointed_more}
use Rattle.path_text.proofs.naming.PathNames.add.Goals as goal

pub add-requires : goal.add-requires
add-requires c =
    number_found c.self.inside.texts _ c.args.self.now c.args.text.items c.args.path.now c.self.invariant c.self.view_is c.requires.range c.requires.text
    ∙ c.requires.new

pub invariant_of-self-in-Ok : goal.invariant_of-self-in-Ok
invariant_of-self-in-Ok c =
    texts_more c.self.inside.texts (map (λ p. p.now) c.self.inside.paths.items) c.args.path.now c.args.text.items c.add.new.self (map (λ p. p.now) c.push.new.self.items) c.self.invariant
    c.requires.text c.requires.range (ap (λ ps. path_number ps c.args.path.now) c.self.view_is ∙ c.requires.new) c.in-Ok.ensures.ok
    (pointed_more (λ p. p.now) c.self.inside.paths.items c.push.new.self.items c.args.path c.in_ok-push.ensures.items)
