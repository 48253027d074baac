use Rattle.std.proofs.Common.{◌+◌, ◌<◌, ◌^◌, drop, length}
use Rattle.std.specs.Prelude.{flat_map}
use Rattle.cert_checker.specs.Tests.{vector_tests}
use Rattle.cert_checker.specs.Parts.{Completes}
use Rattle.cert_checker.proofs.lines.check_vectors.Given as goal

abbrev pub invariant-loop-vector : goal.invariant-loop-vector
invariant-loop-vector l = record {
  room : l.at + length (flat_map vector_tests (drop l.vector-index l.cert.vectors)) < 2 ^ 32;
  leads : Completes l.problem l.cert l.at (flat_map vector_tests (drop l.vector-index l.cert.vectors)) l.line (flat_map vector_tests l.cert.vectors);
}
