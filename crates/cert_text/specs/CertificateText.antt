-- What a certificate text says, and why it is refused: how it is read, and how it is printed. (docs/CERTIFICATE-FORMAT.md
-- has the grammar.)
use Rattle.std.specs.Prelude.{◌≡◌, ◌⊎◌, ◌==◌, ◌++◌, nat_le, ℕ, Bool, List, [], ◌∷◌, length, map, codes, Some, None, Result, Ok, Err, if◌then◌else◌}
use Rattle.trs_defs.specs.Path.{PlacedRule}
use Rattle.sexp_core.specs.Items.{Item, Items, no_items, item, items_of}
use Rattle.sexp_core.specs.Printed.{lines}
use Rattle.sexp_core.specs.Reads.{Reads, fault_of}
use Rattle.sexp_core.specs.declared.fault.TextFault.{TextFault}
use Rattle.names_text.specs.Named.{NamedSystem}
use Rattle.step_text.specs.cert_step.declared.claim.Claim.{Claim}
use Rattle.step_text.specs.cert_step.ProofStep.{ProofNodeStep}
use Rattle.text_reading.specs.Reading.{Read, ◌<*>◌}
use Rattle.text_reading.specs.Printed.{word_item}
use Rattle.path_text.specs.declared.sharing.Shared.{Shared}
use Rattle.path_text.specs.Sharing.{nothing_defined, with_definition}
use Rattle.path_text.specs.PathNames.{repeated_paths, printed_weight}
use Rattle.path_text.specs.Paths.{◌then_read◌, begins_with, in_turn, paths_in}
use Rattle.path_text.specs.Defining.{define, define_items}
use Rattle.step_text.specs.Steps.{step, paths_of_step, step_item}
use Rattle.cert_text.specs.declared.fault.CertFault.{CertFault}
use Rattle.cert_text.specs.declared.fault.CertFault.TheVariants.{Text, Version, OutOfMemory}
use Rattle.cert_text.specs.Unreadable.{from_text}
use Rattle.cert_text.specs.ProofText.{ProofText}
use Rattle.cert_text.specs.declared.head.Head.{Head}
use Rattle.cert_text.specs.Head.{headline, headline_word, head, head_item}

-- ---- headline, head and steps

-- what is read first, and then what comes behind it; where the first is refused, nothing else is looked at
infixl 10 ◌>>=◌
abbrev pub ◌>>=◌ : {A B : Type 0} → Read A → (A → Result B CertFault) → Result B CertFault
(Ok x) >>= behind = behind x
(Err p) >>= behind = Err (Text p)

abbrev pub says_of : ℕ → Bool → Claim → List ProofNodeStep → ProofText
says_of version positive claim steps =
    record { version = version; headline = positive; claim = claim; steps = steps }

-- the steps of version 1
abbrev pub steps_alone : NamedSystem → Items → Read (List ProofNodeStep)
steps_alone named xs = in_turn (step named) paths_of_step None xs

-- the steps of version 2: first come definitions, each read with those before it
abbrev pub steps_behind : NamedSystem → Shared → Items → Read (List ProofNodeStep)
steps_behind named shared no_items = Ok []
steps_behind named shared (item x xs) =
    if begins_with (codes "define") x
    then define shared x then_read (λ d. steps_behind named (with_definition shared d) xs)
    else in_turn (step named) paths_of_step (Some shared) (item x xs)

-- behind a headline and a head: the claim and the steps, or the least place of all that is none
abbrev pub body : ℕ → Bool → Read Claim → Read (List ProofNodeStep) → Result ProofText CertFault
body version positive claim steps = Ok (says_of version positive) <*> claim <*> steps >>= (λ says. Ok says)

abbrev pub behind_head : NamedSystem → Bool → Head → Items → Result ProofText CertFault
behind_head named positive h items =
    if h.version == 1 then body 1 positive h.claim (steps_alone named items)
    else if h.version == 2 then body 2 positive h.claim (steps_behind named nothing_defined items)
    else Err (Version h.version)

abbrev pub behind_headline : NamedSystem → ℕ → Bool → Items → Result ProofText CertFault
behind_headline named size positive no_items = Err (Text size)
behind_headline named size positive (item x steps) = do
  h ← head x
  behind_head named positive h steps

-- what the items of a text of this length say
abbrev pub certificate : NamedSystem → ℕ → Items → Result ProofText CertFault
certificate named size no_items = Err (Text size)
certificate named size (item x xs) = do
  positive ← headline x
  behind_headline named size positive xs

-- what a certificate is printed as in version 1: the headline, its claim, and the steps in order
abbrev pub certificate_items : NamedSystem → ProofText → Items
certificate_items named says =
    item (word_item (headline_word says.headline)) (item (head_item 1 says.claim) (items_of (map (step_item named []) says.steps)))

-- in version 2: each path that occurs more than once is defined, and used wherever it occurs
abbrev pub lines_of_two : NamedSystem → List (List PlacedRule) → List ProofNodeStep → List Item
lines_of_two named names steps = define_items 0 names ++ map (step_item named names) steps

abbrev pub shared_lines : NamedSystem → List ProofNodeStep → List Item
shared_lines named steps = lines_of_two named (repeated_paths (paths_in paths_of_step steps)) steps

abbrev pub version_two_items : NamedSystem → ProofText → Items
version_two_items named says =
    item (word_item (headline_word says.headline)) (item (head_item 2 says.claim) (items_of (shared_lines named says.steps)))

abbrev pub version_two_text : NamedSystem → ProofText → List ℕ
version_two_text named says = lines (version_two_items named says)

-- the weights of all paths so printed are at most this together
abbrev pub fits_two : ProofText → Bool
fits_two says = nat_le (printed_weight (paths_in paths_of_step says.steps)) 8388608

-- ---- what a text says

-- the text says this, over the symbols of the system
pub record SaysCertificate (named : NamedSystem) (text : List ℕ) (says : ProofText) : Type 0 where
  pub items : Items
  pub reads : Reads text items
  pub readable : fault_of 1040 text ≡ None
  pub read : certificate named (length text) items ≡ Ok says

-- the text is read as items that have this fault
pub record HasCertificateFault (named : NamedSystem) (text : List ℕ) (f : CertFault) : Type 0 where
  pub items : Items
  pub reads : Reads text items
  pub readable : fault_of 1040 text ≡ None
  pub read : certificate named (length text) items ≡ Err f

-- the text has a fault at this place as a list of items
pub record IsUnreadable (text : List ℕ) (p : ℕ) : Type 0 where
  pub cause : TextFault
  pub fault : fault_of 1040 text ≡ Some cause
  pub place : from_text cause ≡ Text p

-- why a certificate text is not read; want of memory needs no cause
abbrev pub IsCertificateRefused : NamedSystem → List ℕ → CertFault → Type 0
IsCertificateRefused named text (Text p) = IsUnreadable text p ⊎ HasCertificateFault named text (Text p)
IsCertificateRefused named text (Version n) = HasCertificateFault named text (Version n)
IsCertificateRefused named text OutOfMemory = Unit {0}
