use Rattle.std.proofs.Common.{rules, ◌≡◌, ◌<◌, ◌≤◌, None, length, get_or, true, false, pos, sym, subst, arith}
use Rattle.choice_problem.specs.declared.vectors.Price.{Price}
use Rattle.choice_problem.specs.Bounds.{IsPrice}
use Rattle.cert_checker.specs.declared.lines.Judged.{Judged}
use Rattle.cert_checker.specs.Tests.{IsAbove, price_tests}
use Rattle.cert_checker.specs.Parts.{IsPart}
use Rattle.cert_checker.proofs.VerdictLemmas.{prices-next, prices-refused, prices-end}
use Rattle.cert_checker.proofs.lines.check_prices.Goals as goal

abbrev no_price : Price
no_price = record { resource = 0; price = pos 0 }

pub returns-then-not-is_allowed : goal.returns-then-not-is_allowed
returns-then-not-is_allowed c =
    let p = c.args.problem.now in
    let cert = c.args.cert.now in
    let prices = c.args.prices.now in
    let i = c.loop-price.price-index in
    let lt : i < length prices = search rules in
    let no : c.is_allowed.result ≡ false = search rules in
    let refused : (IsAbove c.loop-price.before (get_or prices i no_price).resource × IsPrice p (get_or prices i no_price)) → ⊥ = λ allowed.
    let yes : c.is_allowed.result ≡ true = c.is_allowed.ensures.1 allowed in
    let never : ⊥ = cc in never in
    subst (λ (j : Judged). IsPart p cert c.args.line (price_tests None prices) j.verdict j.next) (sym c.refused.ensures)
    (prices-refused p cert c.args.line c.loop-price.at i c.loop-price.at c.loop-price.before prices (price_tests None prices) no_price lt refused c.loop-price.invariant.leads)

pub loop-price-preserved : goal.loop-price-preserved
loop-price-preserved c =
    let p = c.args.problem.now in
    let cert = c.args.cert.now in
    let prices = c.args.prices.now in
    let i = c.loop-price.price-index in
    let lt : i < length prices = search rules in
    let yes : c.is_allowed.result ≡ true = search rules in
    record {
      place = omega (arith, c.loop-price.invariant.place);
      leads = prices-next p cert c.args.line c.loop-price.at i c.loop-price.before prices (price_tests None prices) no_price lt (c.is_allowed.ensures.0 yes) c.loop-price.invariant.leads;
    }

pub returns : goal.returns
returns c =
    let p = c.args.problem.now in
    let cert = c.args.cert.now in
    let prices = c.args.prices.now in
    let past : length prices ≤ c.loop-price.price-index = search rules in
    subst (λ (j : Judged). IsPart p cert c.args.line (price_tests None prices) j.verdict j.next) (sym c.passed.ensures)
    (prices-end p cert c.args.line c.loop-price.at c.loop-price.price-index c.loop-price.before prices (price_tests None prices) past c.loop-price.invariant.leads)
