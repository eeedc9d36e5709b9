use Rattle.std.proofs.Common.{◌≡◌, sym, subst}
use Rattle.names_text.specs.Named.{NamedSystem}
use Rattle.ari_text.proofs.Faultless.{says_named}
use Rattle.conclusion.specs.SerialText.{IsSerialText}
use Rattle.text_determinism.proofs.texts.problem_texts_have_one_text.Goals as goal

pub returns : goal.returns
returns c = λ problem named again question budget text other says says_again serial last.
    let same : named ≡ again = c.one_system.ensures.system problem named again says says_again in
    c.serial_texts_are_one.ensures named question budget text other (says_named problem named says) serial
    (subst (λ (n : NamedSystem). IsSerialText n question budget other) (sym same) last)
