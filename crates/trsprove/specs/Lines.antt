-- The lines that the program writes.
use Rattle.std.specs.Prelude.{ℕ, List, [], ◌∷◌, ◌++◌, codes}
use Rattle.rewrite_core.specs.RefusalNumbers.{refusal_number, refusal_fields}
use Rattle.program_edge.specs.conclusion.cert_step.declared.claim.Claim.{Claim}
use Rattle.program_edge.specs.conclusion.cert_step.declared.claim.Claim.TheVariants.{Terminating, Nonterminating, Confluent, Nonconfluent, Unique, Nonunique}
use Rattle.certifier.specs.declared.rejected.Rejected.{Rejected}
use Rattle.certifier.specs.declared.rejected.Rejected.TheVariants as why
use Rattle.program_edge.specs.Numbers.{fields_text}

abbrev pub usage_line : List ℕ
usage_line = codes "usage: trsprove <action> <problem> [certificate] [--workers N] [--budget B]\n"

abbrev pub accepted_line : Claim → List ℕ
accepted_line Terminating = codes "ACCEPTED terminating\n"
accepted_line Nonterminating = codes "ACCEPTED nonterminating\n"
accepted_line Confluent = codes "ACCEPTED confluent\n"
accepted_line Nonconfluent = codes "ACCEPTED nonconfluent\n"
accepted_line Unique = codes "ACCEPTED unique\n"
accepted_line Nonunique = codes "ACCEPTED nonunique\n"

-- how a line of a rejection begins
abbrev pub rejected_words : Rejected → List ℕ
rejected_words (why.Problem f) = codes "REJECTED problem"
rejected_words (why.Text at) = codes "REJECTED text"
rejected_words (why.Version n) = codes "REJECTED version"
rejected_words why.Headline = codes "REJECTED headline"
rejected_words (why.NoNode i) = codes "REJECTED no-node"
rejected_words (why.Decided i) = codes "REJECTED decided"
rejected_words (why.Step i r) = codes "REJECTED step"
rejected_words (why.Open n) = codes "REJECTED open"
rejected_words why.OutOfMemory = codes "REJECTED memory"

-- its first number, if it has one
abbrev pub rejected_numbers : Rejected → List ℕ
rejected_numbers (why.Problem f) = []
rejected_numbers (why.Text at) = at ∷ []
rejected_numbers (why.Version n) = n ∷ []
rejected_numbers why.Headline = []
rejected_numbers (why.NoNode i) = i ∷ []
rejected_numbers (why.Decided i) = i ∷ []
rejected_numbers (why.Step i r) = i ∷ refusal_number r ∷ []
rejected_numbers (why.Open n) = n ∷ []
rejected_numbers why.OutOfMemory = []

-- the fields of the reason, of a step that is refused
abbrev pub rejected_fields : Rejected → List ℕ
rejected_fields (why.Step i r) = refusal_fields r
rejected_fields _ = []

abbrev pub rejected_line : Rejected → List ℕ
rejected_line r = (rejected_words r ++ fields_text (rejected_numbers r)) ++ (fields_text (rejected_fields r) ++ 10 ∷ [])

-- the line of a certificate that is accepted, and weighs too much in version 2
abbrev pub too_heavy_line : List ℕ
too_heavy_line = codes "REJECTED too-heavy\n"

-- the line of an order text that is refused at a place
abbrev pub order_refused_line : ℕ → List ℕ
order_refused_line at = codes "order refused" ++ (fields_text (at ∷ []) ++ 10 ∷ [])
