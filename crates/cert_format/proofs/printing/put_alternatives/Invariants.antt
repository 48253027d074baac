use Rattle.std.proofs.Common.{◌≡◌, ◌++◌, ◌<◌, ◌^◌, ℕ, take}
use Rattle.cert_format.specs.Lines.{text_of}
use Rattle.cert_format.specs.Spelling.{numbered, alternative_lines}
use Rattle.std.specs.List.{AllByRecursion}
use Rattle.cert_format.proofs.printing.put_alternatives.Given as goal

abbrev pub invariant-loop-unit : goal.invariant-loop-unit
invariant-loop-unit l = record {
  text : l.out.items ≡ l.fn.out.items ++ text_of (numbered alternative_lines 0 (take l.unit l.alts));
  range : AllByRecursion (λ (alt : ℕ). alt < 2 ^ 32) (take l.unit l.alts);
}
