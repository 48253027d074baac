use Rattle.std.proofs.Common.{rules, ◌≡◌, ◌+◌, true, false}
use Rattle.std.specs.Prelude.{flat_map}
use Rattle.cert_checker.specs.Tests.{vector_tests}
use Rattle.cert_checker.specs.Parts.{fixing_part}
use Rattle.cert_checker.proofs.VerdictLemmas.{IsPart-then, IsPart-stop, IsPart-untested}
use Rattle.cert_checker.proofs.PassLemmas.{vectors-tested}
use Rattle.cert_checker.proofs.lines.from_vectors.Goals as goal

pub from_fixing-requires-clause-vectors : goal.from_fixing-requires-clause-vectors
from_fixing-requires-clause-vectors c =
    let judged = c.check_vectors-judged.result in
    let yes : c.is_passed.result ≡ true = search rules in
    vectors-tested c.args.problem.now c.args.cert.now (c.args.line + 1) judged.next judged.verdict c.check_vectors-judged.ensures (c.is_passed.ensures.yes yes)

pub returns-then-not-is_passed : goal.returns-then-not-is_passed
returns-then-not-is_passed c =
    let p = c.args.problem.now in
    let cert = c.args.cert.now in
    let judged = c.check_vectors-judged.result in
    let no : c.is_passed.result ≡ false = search rules in
    IsPart-untested p cert c.args.line _ judged.verdict judged.next
    (IsPart-stop p cert (c.args.line + 1) (flat_map vector_tests cert.vectors) (fixing_part p cert) judged.verdict judged.next c.check_vectors-judged.ensures (c.is_passed.ensures.no no))

pub returns : goal.returns
returns c =
    let p = c.args.problem.now in
    let cert = c.args.cert.now in
    let judged = c.check_vectors-judged.result in
    let last = c.in_ok-last.last in
    let yes : c.is_passed.result ≡ true = search rules in
    IsPart-untested p cert c.args.line _ last.verdict last.next
    (IsPart-then p cert (c.args.line + 1) (flat_map vector_tests cert.vectors) (fixing_part p cert) judged.verdict last.verdict judged.next last.next
    c.check_vectors-judged.ensures (c.is_passed.ensures.yes yes) c.in_ok-last.ensures)
