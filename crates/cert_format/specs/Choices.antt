-- The choices of a certificate, for those who go on from them.
use Rattle.std.specs.Prelude.{ℕ, List, map, Option}
use Rattle.cert_format.specs.declared.cert.StageCert.{StageCert}
use Rattle.cert_format.specs.declared.cert.Certificate.{Certificate}

-- the choice of each stage, that of stage 1 first
abbrev pub choices_of : Certificate → List (Option (List ℕ))
choices_of c = map (λ (s : StageCert). s.choice) c.stages
