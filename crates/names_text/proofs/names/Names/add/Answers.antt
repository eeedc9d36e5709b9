use Rattle.std.proofs.Common.{◌≡◌, ◌∷◌, ◌++◌, ◌+◌, ◌-◌, ◌<◌, ◌^◌, ◌∙◌, [], length, take, ap, ap₂, subst, arith, rules}
use Rattle.std.proofs.Math.Seq.{take-append_seam}
use Rattle.std.proofs.lemmas.List.{length-map, map-append}
use Rattle.names_text.specs.Names.{number_among}
use Rattle.names_text.specs.NameTable.{IsIndex}
use Rattle.names_text.proofs.NameKeys.{texts, Key}
use Rattle.names_text.proofs.NameSlots.{table_more}
use Rattle.names_text.proofs.names.Names.add.Goals as goal

pub invariant_of-self-in-Ok : goal.invariant_of-self-in-Ok
invariant_of-self-in-Ok c =
    let names = c.self.inside.names.items in
    let name = c.args.name.items in
    let new = rw (← c.self.view_is) at c.requires in
    let more : texts c.push.new.self.items ≡ texts names ++ name ∷ [] = ap texts c.in_ok-push.ensures.items ∙ map-append (λ (k : Key). k.items) names (c.args.name ∷ []) in
    let count : length (texts names) ≡ c.len-next.result = omega (arith, c.len-next.ensures, length-map names (λ (k : Key). k.items)) in
    let room : length (texts names) + 1 < 2 ^ 32 = omega (arith, count, c.if-next.false) in
    let same : c.deref-2.result.now ≡ name = search rules in
    let grown : IsIndex (texts names) c.grow.new.self = subst (λ l. IsIndex (texts l) c.grow.new.self) c.deref.ensures.value c.grow.ensures in
    rw more
    (table_more (texts names) name c.deref-2.result.now c.self.inside.index c.add.new.self c.self.invariant room new same
    (c.in-Ok.ensures.ok (texts names) grown count (ap (number_among (texts names)) same ∙ new)))

pub invariant_of-self-in-Err : goal.invariant_of-self-in-Err
invariant_of-self-in-Err c =
    let names = c.self.inside.names.items in
    let grown : IsIndex (texts names) c.grow.new.self = subst (λ l. IsIndex (texts l) c.grow.new.self) c.deref.ensures.value c.grow.ensures in
    let count : c.push.new.self.len - 1 ≡ length names = omega (arith, c.in_ok-push.ensures.len, c.self.inside.names.ok.0) in
    let back : c.pop.new.self.items ≡ names = c.pop.ensures.rest ∙ ap₂ take count c.in_ok-push.ensures.items ∙ take-append_seam names (c.args.name ∷ []) in
    rw back (record {
      distinct = c.self.invariant.distinct;
      small = c.self.invariant.small;
      indexed = c.in-Err.ensures.err (texts names) grown;
    })
