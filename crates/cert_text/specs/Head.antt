-- The headline and the head of a certificate text: how they are read, and how they are printed.
use Rattle.std.specs.Prelude.{ℕ, ◌-◌, ◌^◌, Bool, true, false, List, [], ◌∷◌, Ok, Err, codes}
use Rattle.sexp_core.specs.Items.{Item, a_word, a_list}
use Rattle.step_text.specs.cert_step.declared.claim.Claim.{Claim}
use Rattle.step_text.specs.cert_step.declared.claim.Claim.TheVariants.{Terminating, Nonterminating, Confluent, Nonconfluent, Unique, Nonunique}
use Rattle.cert_text.specs.declared.head.Head.{Head}
use Rattle.text_reading.specs.Reading.{Read, place_of, part, done, keyword, list, one_of}
use Rattle.text_reading.specs.Numbers.{number}
use Rattle.text_reading.specs.Printed.{word_item, number_item, list_item}

-- ---- `YES` or `NO`

abbrev pub headline_word : Bool → List ℕ
headline_word true = codes "YES"
headline_word false = codes "NO"

abbrev pub headline : Item → Read Bool
headline = one_of headline_word (true ∷ false ∷ [])

-- ---- the claim

abbrev pub claim_word : Claim → List ℕ
claim_word Terminating = codes "terminating"
claim_word Nonterminating = codes "nonterminating"
claim_word Confluent = codes "confluent"
claim_word Nonconfluent = codes "nonconfluent"
claim_word Unique = codes "unique"
claim_word Nonunique = codes "nonunique"

abbrev pub claim : Item → Read Claim
claim = one_of claim_word (Terminating ∷ Nonterminating ∷ Confluent ∷ Nonconfluent ∷ Unique ∷ Nonunique ∷ [])

-- a word in the place of a claim; whether it is one counts only behind the version
abbrev pub later_claim : Item → Read (Read Claim)
later_claim (a_word w at) = Ok (claim (a_word w at))
later_claim (a_list xs at) = Err at

-- ---- `(certificate number claim)`

abbrev pub head_of : Unit {0} → ℕ → Read Claim → Head
head_of certificate version c = record { version = version; claim = c }

-- an item is judged as a whole: it is refused at its own place alone
abbrev pub whole : {A : Type 0} → ℕ → Read A → Read A
whole at (Ok x) = Ok x
whole at (Err p) = Err at

abbrev pub head_list : Item → Read Head
head_list = list (part (keyword (codes "certificate")) (part (number (2 ^ 63 - 1)) (part later_claim done))) head_of

abbrev pub head : Item → Read Head
head x = whole (place_of x) (head_list x)

abbrev pub head_item : ℕ → Claim → Item
head_item version c =
    list_item (word_item (codes "certificate") ∷ number_item version ∷ word_item (claim_word c) ∷ [])
