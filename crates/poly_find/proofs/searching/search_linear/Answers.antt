use Rattle.std.proofs.Common.{◌≡◌, ◌++◌, length, ap, sym, subst, ◌∙◌, arith}
use Rattle.poly_find.specs.Spans.{AreSpans}
use Rattle.poly_find.specs.RuleSubterms.{AreOfEach}
use Rattle.poly_find.proofs.RuleListing.{each_with_more}
use Rattle.poly_find.proofs.searching.search_linear.Goals as goal

pub invariant_of-space : goal.invariant_of-space
invariant_of-space g c =
    let owners = c.deref-2.result.now in
    let same : length owners ≡ length c.in_ok-owners.owners.items = ap length c.deref-2.ensures.value in
    record {
      placed = c.in_ok-places.ensures;
      distinct = c.requires.distinct;
      few_symbols = c.requires.few_symbols;
      owners_are = c.deref-2.ensures.value ∙ c.in_ok-owners.ensures.owners;
      spans_are = subst (λ l. AreSpans c.args.arities.now c.args.symbols.now l) (sym c.deref-3.ensures.value) c.in_ok-spans.ensures;
      small_are = c.deref-4.ensures.value ∙ c.in_ok-small.ensures;
      subterms_are = subst (AreOfEach (c.args.rules.now ++ c.args.pairs.now)) (sym c.deref-5.ensures.value) (each_with_more c.args.rules.now c.args.pairs.now c.in_ok-subterms.subterms.items c.in_ok-subterms.ensures.count c.in_ok-subterms.ensures.each);
      few_slots = omega (arith, same, c.in_ok-owners.ensures.few, c.requires.few_symbols);
      few_falling = c.requires.few_falling;
    }
