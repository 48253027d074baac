-- What the bytes of certificates spell.
use Rattle.std.specs.Prelude.{◌≡◌, ℕ, List}
use Rattle.cert_format.specs.Spelling.{IsCert, spelling, IsExtra, extra_spelling}
use Rattle.cert_format.specs.declared.cert.Certificate.{Certificate}
use Rattle.cert_format.specs.declared.cert.StageCert.{StageCert}

-- the certificate
pub record SpellsCert (bytes : List ℕ) (c : Certificate) : Type 0 where
  pub has_spelling : IsCert c
  pub spelled : bytes ≡ spelling c

-- the one more stage
pub record SpellsExtra (bytes : List ℕ) (stage : StageCert) : Type 0 where
  pub has_spelling : IsExtra stage
  pub spelled : bytes ≡ extra_spelling stage
