use Rattle.std.proofs.Common.{◌≡◌, ◌+◌, ◌∙◌, drop, ap, ap₂}
use Rattle.sexp_core.specs.Items.{view, views}
use Rattle.ari_text.specs.Entries.{entry_of}
use Rattle.text_reading.specs.Reading.{place_of}
use Rattle.ari_text.specs.Least.{noted}
use Rattle.ari_text.specs.Faults.{symbols_after, symbols_of, room_after, count_faults, declaration_faults, all_declaration_faults}
use Rattle.names_text.proofs.Loops.{one_more}
use Rattle.ari_text.proofs.Noting.{noted_next}
use Rattle.ari_text.proofs.checking.check_declarations.Goals as goal

pub loop-item-preserved : goal.loop-item-preserved
loop-item-preserved c =
    let symbols = c.loop-item.symbols in
    let least = c.loop-item.least in
    let room = c.loop-item.room in
    let items = c.args.items.now in
    let i = c.loop-item.item-index in
    let x = view c.item-item.result in
    let rest = views (drop (i + 1) items) in
    let said = c.read_entry-entry.ensures in
    let at = c.place-at.ensures in
    let declared : c.declare.new.symbols ≡ symbols_after symbols (entry_of x) = c.in_ok-declare.ensures ∙ ap (symbols_after symbols) said in
    let counted : c.note_count.new.room ≡ room_after room (entry_of x) = c.note_count.ensures.room ∙ ap (room_after room) said in
    let too_many : c.note_count.new.least ≡ noted least (count_faults room (place_of x) (entry_of x)) =
    c.note_count.ensures.least ∙ ap₂ (λ p s. noted least (count_faults room p s)) at said in
    let wrong : c.note_entry.new.least ≡ noted c.note_count.new.least (declaration_faults symbols (place_of x) (entry_of x)) =
    c.note_entry.ensures ∙ ap₂ (λ p s. noted c.note_count.new.least (declaration_faults symbols p s)) at said in
    record {
      symbols = rw declared (one_more (λ xs. symbols_of symbols (views xs)) items i c.item-item.result c.loop-item-test.true c.item-item.is ∙ c.loop-item.invariant.symbols);
      least =
          rw (declared, counted)
          (noted_next least c.note_count.new.least c.note_entry.new.least (count_faults room (place_of x) (entry_of x)) (declaration_faults symbols (place_of x) (entry_of x))
          (all_declaration_faults (symbols_after symbols (entry_of x)) (room_after room (entry_of x)) rest) too_many wrong
          ∙ one_more (λ xs. noted least (all_declaration_faults symbols room (views xs))) items i c.item-item.result c.loop-item-test.true c.item-item.is
          ∙ c.loop-item.invariant.least);
    }
