use Rattle.std.proofs.Common.{ap, refl}
use Rattle.trs_core.specs.View.{tree}
use Rattle.completion.proofs.GrowingLaws.{no_number, number_if_ok}
use Rattle.completion.proofs.growing.put_number.Goals as goal

pub returns-in-Var : goal.returns-in-Var
returns-in-Var c = no_number c.args.by_root.now.items c.args.by_root.now.items (tree c.args.left.now) c.in-Var.field-0 c.args.number (ap tree c.in-Var.is) refl

pub returns-in-App : goal.returns-in-App
returns-in-App c =
    number_if_ok c.put_behind.result c.args.by_root.now.items c.put_behind.new.by_root.items (tree c.args.left.now) c.in-App.f _ c.args.number (ap tree c.in-App.is)
    c.put_behind.ensures.here c.put_behind.ensures.others
