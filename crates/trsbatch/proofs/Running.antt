-- What a run writes, by what the program knew before it wrote.
use Rattle.std.proofs.Common.{◌≡◌, ◌≢◌, ◌≤◌, ◌<◌, ℕ, List, length, Option, Some, None, refl, sym, subst, arith}
use Rattle.io_edge.specs.Telling.{CanBe, CanPass}
use Rattle.io_edge.specs.Shelf.{ShelfMeaning, Told, ToldAbsent, MayBe, MayPass, CanAskAgain}
use Rattle.io_edge.specs.Sink.{SinkMeaning, AppendsTo, NoSinkCountFell}
use Rattle.program_edge.specs.declared.status.Status.{Status}
use Rattle.program_edge.specs.declared.status.Status.TheVariants as status
use Rattle.program_edge.specs.LinePuts.{lines_of, ArePut}
use Rattle.trsbatch.specs.ListText.{SaysNames, IsListRefused}
use Rattle.trsbatch.specs.Words.{BatchAsked}
use Rattle.trsbatch.specs.Output.{most_list_bytes, IsMissing, by_fault, by_length, IsTextOf, IsAnswer, usage, no_list, refused, answered, Writes, for_usage, for_absence, for_length, for_refusal, for_names, AnswersOnly, TouchesOnlyNeeded}
use Rattle.trsbatch.specs.Answers.{IsWritten, whole, part}
use Rattle.trsbatch.specs.Run.{IsRun}
use Rattle.trsbatch.proofs.OneReading.{not_both}

-- ---- what is told of the list

same_asked : (request : Option BatchAsked) (a b : BatchAsked) → request ≡ Some a → request ≡ Some b → a ≡ b
same_asked request a b e f = cc

module _ (request : Option BatchAsked) (before : ShelfMeaning) (a b : BatchAsked) (e : request ≡ Some a) (f : request ≡ Some b) where
  one_list : (told may : List ℕ) → Told before a.list told → MayBe before b.list may → may ≡ told
  one_list told may t m = subst (λ o. CanBe o may) t (subst (λ (z : BatchAsked). MayBe before z.list may) (same_asked request b a f e) m)

  one_length : (told : List ℕ) → Told before a.list told → MayPass most_list_bytes before b.list → most_list_bytes < length told
  one_length told t m = subst (CanPass most_list_bytes) t (subst (λ (z : BatchAsked). MayPass most_list_bytes before z.list) (same_asked request b a f e) m)

  no_text : (may : List ℕ) → ToldAbsent before most_list_bytes a.list → MayBe before b.list may → ⊥
  no_text may (front, is, within) m = subst (λ o. CanBe o may) is (subst (λ (z : BatchAsked). MayBe before z.list may) (same_asked request b a f e) m)

  no_length : ToldAbsent before most_list_bytes a.list → MayPass most_list_bytes before b.list → ⊥
  no_length (front, is, within) m =
      let long : most_list_bytes < length front = subst (CanPass most_list_bytes) is (subst (λ (z : BatchAsked). MayPass most_list_bytes before z.list) (same_asked request b a f e) m) in
      omega arith

  not_long : (told may : List ℕ) → Told before a.list told → most_list_bytes < length told → IsTextOf b.list (MayBe before) may → ⊥
  not_long told may t size (m, within) =
      let small : length told ≤ most_list_bytes = subst (λ (z : List ℕ). length z ≤ most_list_bytes) (one_list told may t m) within in omega arith

  not_short : (told : List ℕ) → IsTextOf a.list (Told before) told → MayPass most_list_bytes before b.list → ⊥
  not_short told (t, size) passes = let long = one_length told t passes in omega (arith, size, long)

  not_named : (told may : List ℕ) (names : List (List ℕ)) (line : ℕ) → IsTextOf a.list (Told before) told → SaysNames told names
      → IsTextOf b.list (MayBe before) may → IsListRefused may line → ⊥
  not_named told may names line (t, size) says (m, within) h = not_both told names line says (subst (λ (z : List ℕ). IsListRefused z line) (one_list told may t m) h)

  not_refused : (told may : List ℕ) (names : List (List ℕ)) (line : ℕ) → IsTextOf a.list (Told before) told → IsListRefused told line
      → IsTextOf b.list (MayBe before) may → SaysNames may names → ⊥
  not_refused told may names line (t, size) h (m, within) says = not_both told names line (subst (λ (z : List ℕ). SaysNames z names) (one_list told may t m) says) h

none_asked : (request : Option BatchAsked) (a : BatchAsked) → request ≡ None → request ≡ Some a → ⊥
none_asked request a e f = absurd cc

-- ---- the status is the one that is asked for

module _ (request : Option BatchAsked) (before now : ShelfMeaning) where
  missing_only : (b : BatchAsked) (s : Status) (text : List ℕ) → request ≡ Some b → IsMissing most_list_bytes before now b.list s text → AnswersOnly request before s
  missing_only b s text f (by_fault rose) wanted w = tt
  missing_only b s text f (by_length passes read) wanted (for_usage e) = absurd (none_asked request b e f)
  missing_only b s text f (by_length passes read) wanted (for_absence a e gone) = absurd (no_length request before a b e f gone passes)
  missing_only b s text f (by_length passes read) wanted (for_length a told e t size) = refl
  missing_only b s text f (by_length passes read) wanted (for_refusal a told line e t h) = absurd (not_short request before a b e f told t passes)
  missing_only b s text f (by_length passes read) wanted (for_names a told names e t h) = absurd (not_short request before a b e f told t passes)

  answer_only : (s : Status) (text : List ℕ) → IsAnswer request before now s text → AnswersOnly request before s
  answer_only s text (usage n) wanted (for_usage e) = refl
  answer_only s text (usage n) wanted (for_absence a e gone) = absurd (none_asked request a n e)
  answer_only s text (usage n) wanted (for_length a told e t size) = absurd (none_asked request a n e)
  answer_only s text (usage n) wanted (for_refusal a told line e t h) = absurd (none_asked request a n e)
  answer_only s text (usage n) wanted (for_names a told names e t h) = absurd (none_asked request a n e)
  answer_only s text (no_list b f h) wanted w = missing_only b s text f h wanted w
  answer_only s text (refused b may line f m h) wanted (for_usage e) = absurd (none_asked request b e f)
  answer_only s text (refused b may line f m h) wanted (for_absence a e gone) = absurd (no_text request before a b e f may gone m.0)
  answer_only s text (refused b may line f m h) wanted (for_length a told e t size) = absurd (not_long request before a b e f told may t size m)
  answer_only s text (refused b may line f m h) wanted (for_refusal a told number e t k) = refl
  answer_only s text (refused b may line f m h) wanted (for_names a told names e t says) = absurd (not_named request before a b e f told may names line t says m h)
  answer_only s text (answered b may names bs f m says h) wanted (for_usage e) = absurd (none_asked request b e f)
  answer_only s text (answered b may names bs f m says h) wanted (for_absence a e gone) = absurd (no_text request before a b e f may gone m.0)
  answer_only s text (answered b may names bs f m says h) wanted (for_length a told e t size) = absurd (not_long request before a b e f told may t size m)
  answer_only s text (answered b may names bs f m says h) wanted (for_refusal a told line e t k) = absurd (not_refused request before a b e f told may names line t k m says)
  answer_only s text (answered b may names bs f m says h) wanted (for_names a told others e t k) = refl

-- ---- the run

module _ (request : Option BatchAsked) (before now : ShelfMeaning) (taken later : SinkMeaning) where
  missing_text : (b : BatchAsked) (s : Status) (text : List ℕ) → request ≡ Some b → IsMissing most_list_bytes before now b.list s text → AppendsTo taken text later
      → (s ≡ status.Answered → ArePut taken (lines_of text) later) → Writes request before now s taken later
  missing_text b s text f (by_fault rose) a lines = (text, no_list b f (by_fault rose), a, lines)
  missing_text b s text f (by_length passes read) a lines = (text, no_list b f (by_length passes read), a, lines)

  whole_text : (s : Status) (text : List ℕ) → IsAnswer request before now s text → AppendsTo taken text later
      → (s ≡ status.Answered → ArePut taken (lines_of text) later) → Writes request before now s taken later
  whole_text s text (usage n) a lines = (text, usage n, a, lines)
  whole_text s text (no_list b f h) a lines = missing_text b s text f h a lines
  whole_text s text (refused b may line f m h) a lines = (text, refused b may line f m h, a, lines)
  whole_text s text (answered b may names bs f m says h) a lines = (text, answered b may names bs f m says h, a, lines)

  no_write_fault : (s : Status) (text : List ℕ) → IsAnswer request before now s text → s ≢ status.WriteFault
  no_write_fault s text (usage n) e = absurd cc
  no_write_fault s text (no_list b f (by_fault rose)) e = absurd cc
  no_write_fault s text (no_list b f (by_length passes read)) e = absurd cc
  no_write_fault s text (refused b may line f m h) e = absurd cc
  no_write_fault s text (answered b may names bs f m says h) e = absurd cc

  pub answered_run : (s : Status) (text : List ℕ) (result : Status) → IsAnswer request before now s text → CanAskAgain before now
      → TouchesOnlyNeeded request before now → IsWritten s text taken later result → NoSinkCountFell taken later → IsRun request before now result taken later
  answered_run s text result h again untouched (whole a lines) counts = record {
    output = whole_text s text h a lines;
    write = λ e. absurd (no_write_fault s text h e);
    only = answer_only request before now s text h;
    untouched = untouched;
    again = (again, counts);
  }
  answered_run s text result h again untouched (part a rose lines) counts = record {
    output = (s, text, h, a, lines);
    write = λ e. rose;
    only = λ wanted w. tt;
    untouched = untouched;
    again = (again, counts);
  }

-- where memory was wanting before anything was written
pub memory_run : (request : Option BatchAsked) (before now : ShelfMeaning) (sink : SinkMeaning) → CanAskAgain before now → TouchesOnlyNeeded request before now
    → IsRun request before now status.OutOfMemory sink sink
memory_run request before now sink again untouched = record {
  output = refl;
  write = λ e. absurd cc;
  only = λ wanted w. tt;
  untouched = untouched;
  again = (again, (omega arith, omega arith));
}

pub asked_run : (request : Option BatchAsked) (asked : BatchAsked) (before now : ShelfMeaning) (s : Status) (taken later : SinkMeaning) → request ≡ Some asked
    → IsRun (Some asked) before now s taken later → IsRun request before now s taken later
asked_run request asked before now s taken later e h = subst (λ r. IsRun r before now s taken later) (sym e) h
