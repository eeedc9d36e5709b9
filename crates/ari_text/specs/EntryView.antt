-- What the code's entries stand for.
use Rattle.std.specs.Prelude.{ℕ, Option, Some, None}
use Rattle.sexp_core.specs.Items.{view}
use Rattle.ari_text.specs.declared.entry.Entry.{Entry}
use Rattle.ari_text.specs.declared.entry.Saying as code
use Rattle.ari_text.specs.declared.entry.Saying.TheVariants as saying
use Rattle.ari_text.specs.Entries.{Saying, declares, rewrites, attributed, says_nothing}

abbrev pub saying_view : code.Saying → Saying
saying_view (saying.Declares name q arity r) = declares name.now q arity.now r
saying_view (saying.Rewrites left right) = rewrites (view left.now) (view right.now)
saying_view saying.Nothing = says_nothing

abbrev pub with_attribute : Saying → Option ℕ → Saying
with_attribute saying None = saying
with_attribute saying (Some at) = attributed saying at

abbrev pub entry_view : Entry → Saying
entry_view entry = with_attribute (saying_view entry.saying) entry.attribute
