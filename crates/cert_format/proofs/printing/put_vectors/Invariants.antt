use Rattle.std.proofs.Common.{◌≡◌, ◌++◌, take}
use Rattle.cert_format.specs.Lines.{text_of}
use Rattle.cert_format.specs.Spelling.{numbered, vector_lines}
use Rattle.std.specs.List.{AllByRecursion}
use Rattle.cert_format.specs.Spelling.{PriceFits}
use Rattle.cert_format.proofs.printing.put_vectors.Given as goal

abbrev pub invariant-loop-vector : goal.invariant-loop-vector
invariant-loop-vector l = record {
  text : l.out.items ≡ l.fn.out.items ++ text_of (numbered vector_lines 0 (take l.vector-index l.vectors));
  range : AllByRecursion (AllByRecursion PriceFits) (take l.vector-index l.vectors);
}
