-- The texts of certificates, and what is said of a line that is not in the form.
use Rattle.std.specs.Prelude.{◌≡◌, ℕ, List, Result, Ok, Err}
use Rattle.cert_format.specs.declared.cert.StageCert.{StageCert}
use Rattle.cert_format.specs.declared.cert.Certificate.{Certificate}
use Rattle.cert_format.specs.declared.fault.CertFault.{CertFault}
use Rattle.cert_format.specs.declared.fault.CertFault.TheVariants.{BadLine, Memory}
use Rattle.cert_format.specs.Spelling.{IsCert, spelling, IsExtra, extra_spelling}

-- the text of a certificate
abbrev pub IsCertText : List ℕ → Type 0
IsCertText text = (c : Certificate) × IsCert c × (text ≡ spelling c)

-- the text of one more stage
abbrev pub IsExtraText : List ℕ → Type 0
IsExtraText text = (s : StageCert) × IsExtra s × (text ≡ extra_spelling s)

abbrev pub IfBadFault : CertFault → (ℕ → Type 0) → Type 0
IfBadFault Memory P = Unit {0}
IfBadFault (BadLine line) P = P line

-- what is said of the line of a refusal
abbrev pub IfBadLine : {X : Type 0} → Result X CertFault → (ℕ → Type 0) → Type 0
IfBadLine (Ok x) P = Unit {0}
IfBadLine (Err e) P = IfBadFault e P

-- what a call returned, seen by view, is this answer, unless memory ran out; an answer of Err names
-- the line
abbrev pub Fails : {Y : Type 0} → CertFault → Result Y ℕ → Type 0
Fails Memory answer = Unit {0}
Fails (BadLine line) answer = answer ≡ Err line

abbrev pub Gives : {X Y : Type 0} → (X → Y) → Result X CertFault → Result Y ℕ → Type 0
Gives view (Ok x) answer = answer ≡ Ok (view x)
Gives view (Err e) answer = Fails e answer
