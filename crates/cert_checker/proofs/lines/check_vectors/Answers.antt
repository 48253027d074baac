use Rattle.std.proofs.Common.{rules, ◌≡◌, ◌<◌, ◌≤◌, length, List, get_or, true, false, sym, ◌∙◌, ap, subst, arith}
use Rattle.std.specs.Prelude.{flat_map}
use Rattle.choice_problem.specs.declared.vectors.Price.{Price}
use Rattle.cert_checker.specs.declared.lines.Judged.{Judged}
use Rattle.cert_checker.specs.Tests.{vector_tests}
use Rattle.cert_checker.specs.Parts.{IsPart}
use Rattle.cert_checker.proofs.VerdictLemmas.{vectors-next, vectors-refused, vectors-end, vectors-room}
use Rattle.cert_checker.proofs.lines.check_vectors.Goals as goal

pub returns-then-not-is_passed : goal.returns-then-not-is_passed
returns-then-not-is_passed c =
    let p = c.args.problem.now in
    let cert = c.args.cert.now in
    let vectors = cert.vectors in
    let i = c.loop-vector.vector-index in
    let items : c.items-vector-items.result.now ≡ vectors = c.items-vector-items.ensures in
    let there : i < length c.items-vector-items.result.now = search rules in
    let lt : i < length vectors = omega (arith, there, ap (λ (xs : List (List Price)). length xs) items) in
    let is : c.vector-item.result ≡ get_or vectors i c.vector-item.result = c.vector-item.is ∙ ap (λ (xs : List (List Price)). get_or xs i c.vector-item.result) items in
    let judged = c.check_vector-judged.result in
    let no : c.is_passed.result ≡ false = search rules in
    vectors-refused p cert c.args.line c.loop-vector.at i judged.next judged.verdict c.vector-item.result vectors (flat_map vector_tests vectors) lt is
    c.check_vector-judged.ensures (c.is_passed.ensures.no no) c.loop-vector.invariant.leads

pub loop-vector-preserved : goal.loop-vector-preserved
loop-vector-preserved c =
    let p = c.args.problem.now in
    let cert = c.args.cert.now in
    let vectors = cert.vectors in
    let i = c.loop-vector.vector-index in
    let items : c.items-vector-items.result.now ≡ vectors = c.items-vector-items.ensures in
    let there : i < length c.items-vector-items.result.now = search rules in
    let lt : i < length vectors = omega (arith, there, ap (λ (xs : List (List Price)). length xs) items) in
    let is : c.vector-item.result ≡ get_or vectors i c.vector-item.result = c.vector-item.is ∙ ap (λ (xs : List (List Price)). get_or xs i c.vector-item.result) items in
    let judged = c.check_vector-judged.result in
    let yes : c.is_passed.result ≡ true = search rules in
    let passed = c.is_passed.ensures.yes yes in
    record {
      room = omega (arith, c.loop-vector.invariant.room, c.check_vector-judged.ensures.counted passed, vectors-room c.loop-vector.at i c.vector-item.result vectors lt is);
      leads = vectors-next p cert c.args.line c.loop-vector.at i judged.next judged.verdict c.vector-item.result vectors (flat_map vector_tests vectors) lt is
          c.check_vector-judged.ensures passed c.loop-vector.invariant.leads;
    }

pub returns : goal.returns
returns c =
    let p = c.args.problem.now in
    let cert = c.args.cert.now in
    let vectors = cert.vectors in
    let items : c.items-vector-items.result.now ≡ vectors = c.items-vector-items.ensures in
    let there : length c.items-vector-items.result.now ≤ c.loop-vector.vector-index = search rules in
    let past : length vectors ≤ c.loop-vector.vector-index = omega (arith, there, ap (λ (xs : List (List Price)). length xs) items) in
    subst (λ (j : Judged). IsPart p cert c.args.line (flat_map vector_tests vectors) j.verdict j.next) (sym c.passed.ensures)
    (vectors-end p cert c.args.line c.loop-vector.at c.loop-vector.vector-index vectors (flat_map vector_tests vectors) past c.loop-vector.invariant.leads)
