use Rattle.std.proofs.Common.{ℕ, List, refl, ap, ◌∙◌, ◌++◌, get_or}
use Rattle.std.specs.Prelude.{pos}
use Rattle.choice_problem.specs.declared.vectors.Price.{Price}
use Rattle.cert_format.specs.Spelling.{price_lines, price_words, PriceFits}
use Rattle.cert_format.proofs.WriteLemmas.{more, one_line}
use Rattle.cert_format.proofs.RangeLemmas.{all_more}
use Rattle.cert_format.proofs.printing.put_prices.Goals as goal

pub loop-price-preserved : goal.loop-price-preserved
loop-price-preserved c =
    let none : Price = record { resource = 0; price = pos 0 } in
    let price : Price = get_or c.args.prices.now c.loop-price.price-index none in
    record {
      text = more price_lines 0 c.args.prices.now c.loop-price.price-index price none c.args.out.now.items c.loop-price.out.items c.put_price.new.out.items c.loop-price-test.true refl c.loop-price.invariant.text (c.in_ok-put_price.ensures.text ∙ ap (λ (t : List ℕ). c.loop-price.out.items ++ t) (one_line (price_words price)));
      range = all_more PriceFits c.args.prices.now c.loop-price.price-index price none c.loop-price-test.true refl c.loop-price.invariant.range c.in_ok-put_price.ensures.range;
    }
