-- The forms of methods, by their names in the code.
use Rattle.names_text.specs.Named.{NamedSystem}
use Rattle.cert_step.specs.ProofStep.{ProofStep}
use Rattle.text_reading.specs.Reading.{Form}
use Rattle.path_text.specs.Sharing.{Sharing}
use Rattle.step_text.specs.declared.methods.Method.{Method}
use Rattle.step_text.specs.declared.methods.Method.TheVariants as code
use Rattle.step_text.specs.DpText.{dp_form}
use Rattle.step_text.specs.GraphText.{graph_form}
use Rattle.step_text.specs.SubtermText.{subterm_form}
use Rattle.step_text.specs.PolyText.{poly_form}
use Rattle.step_text.specs.LpoText.{lpo_form}
use Rattle.step_text.specs.KboText.{kbo_form}
use Rattle.step_text.specs.UsableText.{usable_form}
use Rattle.step_text.specs.LoopText.{loop_form}
use Rattle.step_text.specs.NewmanText.{newman_form}
use Rattle.step_text.specs.ParallelText.{parallel_form}
use Rattle.step_text.specs.StrongText.{strong_form}
use Rattle.step_text.specs.LabelText.{label_form}
use Rattle.step_text.specs.ForkText.{fork_form}
use Rattle.step_text.specs.ConfluenceText.{confluence_form}

abbrev pub form_of : NamedSystem → Sharing → Method → Form ProofStep
form_of named sharing code.Dp = dp_form
form_of named sharing code.Graph = graph_form
form_of named sharing code.Subterm = subterm_form named
form_of named sharing code.Poly = poly_form named
form_of named sharing code.Lpo = lpo_form named
form_of named sharing code.Kbo = kbo_form named
form_of named sharing code.UsablePoly = usable_form named
form_of named sharing code.Loop = loop_form named sharing
form_of named sharing code.Newman = newman_form sharing
form_of named sharing code.Parallel = parallel_form
form_of named sharing code.Strong = strong_form sharing
form_of named sharing code.Label = label_form sharing
form_of named sharing code.Fork = fork_form named sharing
form_of named sharing code.Confluence = confluence_form
