use Rattle.std.proofs.Common.{◌≡◌, ◌∙◌, refl, ap, subst, map, drop, IfOk, vec_items}
use Rattle.std.specs.String.{string_bytes}
use Rattle.std.specs.Vec.Iter.{into_iter_items}
use Rattle.std.proofs.lemmas.Iterator.Adapters.{YieldsList-from_vec}
use Rattle.std.proofs.lemmas.Iterator.{items_from_collect}
use Rattle.trsbatch.specs.Words.{batch_of}
use Rattle.program_edge.specs.Words.{texts}
use Rattle.trsbatch.specs.Run.{IsRun}
use Rattle.trsbatch.proofs.arguments.status_for_texts.Goals as goal

pub returns-in-Ok-words_of : goal.returns-in-Ok-words_of
returns-in-Ok-words_of g c =
    let given = into_iter_items c.args.arguments in
    let all : IfOk c.collect.result (λ v. vec_items v ≡ given) =
    items_from_collect c.collect.result c.collect.ensures.ran (YieldsList-from_vec given refl c.args.arguments.rest.ok.0) in
    let collected : c.in-Ok.arguments.items ≡ given = subst (λ r. IfOk r (λ v. vec_items v ≡ given)) c.in-Ok.is all in
    let words : texts c.deref-in-Ok-words_of.result.now ≡ map string_bytes (drop 1 (into_iter_items c.args.arguments)) =
    ap texts c.deref-in-Ok-words_of.ensures.value ∙ c.in-Ok-words_of.ensures ∙ ap (λ s. map string_bytes (drop 1 s)) (c.deref.ensures.value ∙ collected) in
    subst (λ w. IsRun (batch_of w) (g.S.Shelf.means c.args.shelf.now) (g.S.Shelf.means c.run_batch.new.shelf) c.run_batch.result (g.K.Sink.means c.args.out.now) (g.K.Sink.means c.run_batch.new.out)) words
    (record {
      output = c.run_batch.ensures.output;
      write = c.run_batch.ensures.write;
      only = c.run_batch.ensures.only;
      untouched = c.run_batch.ensures.untouched;
      again = c.run_batch.ensures.again;
    })
