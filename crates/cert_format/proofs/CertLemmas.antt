-- A text is read as the certificate that it spells, and as no other.
use Rattle.std.proofs.Common.{◌≡◌, ℕ, List, Result, Ok, Err, sym, ap, subst, ◌∙◌}
use Rattle.std.specs.Prelude.{IfOk}
use Rattle.std.specs.List.{AllByRecursion}
use Rattle.cert_format.specs.declared.cert.Certificate.{Certificate}
use Rattle.cert_format.specs.declared.fault.CertFault.{CertFault}
use Rattle.cert_format.specs.Lines.{Word, text_of}
use Rattle.cert_format.specs.Private.Cuts.{cert_lines_of}
use Rattle.cert_format.specs.Private.Spots.{Spot}
use Rattle.cert_format.specs.Forms.{Gives}
use Rattle.cert_format.specs.Private.Reading.{cert_at, cert_of}
use Rattle.cert_format.specs.Spelling.{cert_lines, spelling, IsCert}
use Rattle.cert_format.proofs.StageLemmas.{cert_takes, cert_again}
use Rattle.cert_format.proofs.TextLemmas.{HasWord, lines_again, text_again, cert_is_lines, with_words}

pub spells : (bytes : List ℕ) (c : Certificate) → cert_of bytes ≡ Ok c → IsCert c × (bytes ≡ spelling c)
spells bytes c e =
    let start : Spot = record { line = 1; lines = cert_lines_of bytes } in
    let t = cert_takes start c e in
    let whole : AllByRecursion HasWord (cert_lines_of bytes) = subst (AllByRecursion HasWord) (sym t.0) (with_words (cert_lines c) (cert_is_lines c t.1)) in
    (t.1, sym (text_again bytes whole) ∙ ap text_of t.0)

pub is_read : (bytes : List ℕ) (c : Certificate) → IsCert c → bytes ≡ spelling c → cert_of bytes ≡ Ok c
is_read bytes c is e =
    let cut : cert_lines_of bytes ≡ cert_lines c = ap cert_lines_of e ∙ lines_again (cert_lines c) (cert_is_lines c is) in
    ap (λ (ls : List (List Word)). cert_at (record { line = 1; lines = ls })) cut ∙ cert_again c 1 is

pub is_found : (bytes : List ℕ) (r : Result Certificate CertFault) → Gives (λ c. c) r (cert_of bytes) → IfOk r (λ c. IsCert c × (bytes ≡ spelling c))
is_found bytes (Ok c) given = spells bytes c given
is_found bytes (Err e) given = tt
