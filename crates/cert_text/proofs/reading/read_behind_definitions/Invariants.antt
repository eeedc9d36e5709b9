use Rattle.std.proofs.Common.{◌≡◌, drop}
use Rattle.sexp_core.specs.Items.{views}
use Rattle.path_text.specs.Sharing.{nothing_defined}
use Rattle.cert_text.specs.CertificateText.{steps_behind}
use Rattle.cert_text.proofs.reading.read_behind_definitions.Given as goal

abbrev pub invariant-loop-i : goal.invariant-loop-i
invariant-loop-i l =
    steps_behind l.system l.shared (views (drop l.i l.items)) ≡ steps_behind l.system nothing_defined (views l.items)
