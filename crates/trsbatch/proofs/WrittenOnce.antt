-- What is written does not depend on the number of workers.
use Rattle.std.proofs.Common.{◌≡◌, ◌≢◌, ◌≤◌, ◌<◌, ℕ, List, [], ◌∷◌, ◌++◌, length, refl, sym, ap, subst, ◌∙◌, arith}
use Rattle.std.specs.List.{AllZip, AllByRecursion}
use Rattle.io_edge.specs.Telling.{CanBe, CanPass}
use Rattle.io_edge.specs.Shelf.{ShelfMeaning, Told, MayBe, MayPass, TellsTheSame}
use Rattle.command_line.specs.declared.Question.{Question}
use Rattle.program_edge.specs.declared.status.Status.{Status}
use Rattle.program_edge.specs.declared.status.Status.TheVariants as status
use Rattle.program_edge.specs.Fetching.{most_problem_bytes}
use Rattle.program_edge.specs.Conclusions.{IsConclusion}
use Rattle.program_edge.proofs.OneConclusion.{one_conclusion}
use Rattle.trsbatch.specs.ListText.{lines_of, names_on}
use Rattle.trsbatch.specs.Words.{BatchAsked}
use Rattle.trsbatch.specs.Blocks.{PlainBlock, block_text, blocks_text}
use Rattle.trsbatch.specs.Output.{by_fault, by_length, IsAnswered, concluded, missing, memory, IsBlock}
use Rattle.trsbatch.specs.OneText.{Tells, TellsNamed, HasOneText, IsWell, IsWhole}

same_text : (b c : PlainBlock) → b.name ≡ c.name → b.status ≡ c.status → b.text ≡ c.text → block_text b ≡ block_text c
same_text b c e f g =
    let made : List ℕ → Status → List ℕ → List ℕ = λ name s text. block_text (record { name = name; status = s; text = text }) in
    ap (λ name. made name b.status b.text) e ∙ (ap (λ s. made c.name s b.text) f ∙ ap (λ text. made c.name c.status text) g)

module _ (question : Question) (budget : ℕ) (before now again later : ShelfMeaning) (same : TellsTheSame before again)
    (one : (problem : List ℕ) → HasOneText question budget problem) where
  module _ (name whole : List ℕ) (t : Told before name whole) where
    here : (problem : List ℕ) → MayBe before name problem → problem ≡ whole
    here problem m = subst (λ o. CanBe o problem) t m

    there : (problem : List ℕ) → MayBe again name problem → problem ≡ whole
    there problem m = subst (λ o. CanBe o problem) (same name ∙ t) m

    not_long_there : (problem : List ℕ) → MayBe before name problem → length problem ≤ most_problem_bytes → MayPass most_problem_bytes again name → ⊥
    not_long_there problem m size passes =
        let long : most_problem_bytes < length whole = subst (CanPass most_problem_bytes) (same name ∙ t) passes in
        let small : length whole ≤ most_problem_bytes = subst (λ (z : List ℕ). length z ≤ most_problem_bytes) (here problem m) size in
        omega (arith, long, small)

    not_long_here : (problem : List ℕ) → MayBe again name problem → length problem ≤ most_problem_bytes → MayPass most_problem_bytes before name → ⊥
    not_long_here problem m size passes =
        let long : most_problem_bytes < length whole = subst (CanPass most_problem_bytes) t passes in
        let small : length whole ≤ most_problem_bytes = subst (λ (z : List ℕ). length z ≤ most_problem_bytes) (there problem m) size in
        omega (arith, long, small)

    concluded_once : (p q : List ℕ) (s z : Status) (text other : List ℕ) → q ≡ p → IsConclusion p question 1 budget s text
        → IsConclusion q question 1 budget z other → (s ≡ z) × (text ≡ other)
    concluded_once p q s z text other e c d =
        let moved : IsConclusion p question 1 budget z other = subst (λ (x : List ℕ). IsConclusion x question 1 budget z other) e d in
        let status_is : s ≡ z = one_conclusion p question 1 1 budget s z text other c moved in
        (status_is, one p s text other c (subst (λ (y : Status). IsConclusion p question 1 budget y other) (sym status_is) moved))

    one_answer : (s z : Status) (text other : List ℕ) → IsAnswered question budget before now name s text
        → IsAnswered question budget again later name z other → (s ≢ status.ReadFault) × (s ≢ status.OutOfMemory)
        → (z ≢ status.ReadFault) × (z ≢ status.OutOfMemory) → (s ≡ z) × (text ≡ other)
    one_answer s z text other (concluded p m size c) (concluded q n width d) well fit = concluded_once p q s z text other (there q n ∙ sym (here p m)) c d
    one_answer s z text other (concluded p m size c) (missing (by_fault rose)) well fit = absurd (fit.0 refl)
    one_answer s z text other (concluded p m size c) (missing (by_length passes read)) well fit = absurd (not_long_there p m size passes)
    one_answer s z text other (concluded p m size c) memory well fit = absurd (fit.1 refl)
    one_answer s z text other (missing (by_fault rose)) b well fit = absurd (well.0 refl)
    one_answer s z text other (missing (by_length passes read)) (concluded q n width d) well fit = absurd (not_long_here q n width passes)
    one_answer s z text other (missing (by_length passes read)) (missing (by_fault rose)) well fit = absurd (fit.0 refl)
    one_answer s z text other (missing (by_length passes read)) (missing (by_length pass reads)) well fit = (refl, refl)
    one_answer s z text other (missing (by_length passes read)) memory well fit = absurd (fit.1 refl)
    one_answer s z text other memory b well fit = absurd (well.1 refl)

    one_block : (b c : PlainBlock) → IsBlock question budget before now name b → IsBlock question budget again later name c → IsWell b → IsWell c
        → block_text b ≡ block_text c
    one_block b c (named, answer) (called, reply) well fit =
        let (status_is, text_is) = one_answer b.status c.status b.text c.text answer reply well fit in
        same_text b c (named ∙ sym called) status_is text_is

  one_text : (names : List (List ℕ)) (bs cs : List PlainBlock) → AllByRecursion (Tells before) names
      → AllZip (IsBlock question budget before now) names bs → AllZip (IsBlock question budget again later) names cs
      → AllByRecursion IsWell bs → AllByRecursion IsWell cs → blocks_text bs ≡ blocks_text cs
  one_text [] [] [] t h k well fit = refl
  one_text [] [] (c ∷ cs) t h k well fit = absurd k
  one_text [] (b ∷ bs) cs t h k well fit = absurd h
  one_text (n ∷ ns) [] cs t h k well fit = absurd h
  one_text (n ∷ ns) (b ∷ bs) [] t h k well fit = absurd k
  one_text (n ∷ ns) (b ∷ bs) (c ∷ cs) ((whole, t), ts) (h, hs) (k, ks) (well, wells) (fit, fits) =
      ap (λ x. x ++ blocks_text bs) (one_block n whole t b c h k well fit)
      ∙ ap (λ x. block_text c ++ x) (one_text ns bs cs ts hs ks wells fits)

pub one_written : (asked : BatchAsked) (workers : ℕ) (before now again later : ShelfMeaning) (text other : List ℕ)
    → Tells before asked.list → TellsNamed before asked.list → TellsTheSame before again
    → ((problem : List ℕ) → HasOneText asked.question asked.budget problem)
    → IsWhole asked before now text → IsWhole (record asked { workers = workers }) again later other → text ≡ other
one_written asked workers before now again later text other (list, t) named same one h k =
    let e : h.list ≡ list = subst (λ o. CanBe o h.list) t h.read.0 in
    let f : k.list ≡ list = subst (λ o. CanBe o k.list) (same asked.list ∙ t) k.read.0 in
    let names : k.names ≡ h.names = k.says.said ∙ (ap (λ z. names_on (lines_of z)) (f ∙ sym e) ∙ sym h.says.said) in
    let told : Told before asked.list h.list = subst (λ z. Told before asked.list z) (sym e) t in
    h.is
    ∙ (one_text asked.question asked.budget before now again later same one h.names h.blocks k.blocks (named h.list h.names told h.says) h.are.each
    (subst (λ z. AllZip (IsBlock asked.question asked.budget again later) z k.blocks) names k.are.each) h.well k.well ∙ sym k.is)
