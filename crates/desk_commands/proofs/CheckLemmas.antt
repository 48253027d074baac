-- What a check makes of what an allocation wrote.
use Rattle.std.proofs.Common.{◌≡◌, ℕ, ◌≤◌, List, [], ◌∷◌, length, Option, refl, sym, ap, subst, arith}
use Rattle.desk_outside.specs.Files.{Files}
use Rattle.command_words.specs.Words.{Word}
use Rattle.desk_commands.specs.Judgements.{NamedBytes, SpellsCert}
use Rattle.desk_commands.specs.Steps.{Holds, IsHanded, AllPass}
use Rattle.desk_commands.specs.Jobs.{name_at, allocate_steps, check_steps, IsAllocation, HoldsChecked, checked_files}
use Rattle.desk_commands.specs.declared.files.TheConstants.{LONGEST_FILE, LONGEST_CERT_FILE}

first-bytes : (a b c d : NamedBytes) → a ∷ b ∷ [] ≡ c ∷ d ∷ [] → a.bytes ≡ c.bytes
first-bytes a b c d e = cc

second-bytes : (a b c d : NamedBytes) → a ∷ b ∷ [] ≡ c ∷ d ∷ [] → b.bytes ≡ d.bytes
second-bytes a b c d e = cc

-- the bytes of an allocation's certificate
module _ (names : List Word) (nodes : ℕ) (capacity requests : List ℕ) (certificate replies : NamedBytes) (status : ℕ) (text : List ℕ)
    (a : IsAllocation names nodes capacity requests (certificate ∷ replies ∷ []) status text) where
  pub written : certificate.bytes ≡ a.certificate
  written = first-bytes certificate replies (record { name = name_at names 2; bytes = a.certificate }) (record { name = name_at names 3; bytes = a.replies }) a.written

  pub written-short : length certificate.bytes ≤ LONGEST_CERT_FILE
  written-short = omega (arith, ap (λ (l : List ℕ). length l) written, a.output.short)

handed : (files : Option Files) (name : Word) (most : ℕ) (bytes : List ℕ) → Holds files name bytes → length bytes ≤ most → IsHanded files name most bytes
handed files name most bytes held short = record { held = held; short = short }

pub check-passes : (names asked : List Word) (nodes : ℕ) (capacity requests certificate replies : NamedBytes) (status : ℕ) (text : List ℕ) (files told : Option Files) →
    AllPass files (allocate_steps names) (capacity ∷ requests ∷ []) → IsAllocation names nodes capacity.bytes requests.bytes (certificate ∷ replies ∷ []) status text →
    HoldsChecked told asked capacity.bytes requests.bytes certificate.bytes → AllPass told (check_steps asked) (checked_files asked capacity.bytes requests.bytes certificate.bytes)
check-passes names asked nodes capacity requests certificate replies status text files told (one, one-handed, (one-judged, (two, two-handed, (two-judged, same)))) a held =
    let e = first-bytes capacity requests (record { name = name_at names 0; bytes = one }) (record { name = name_at names 1; bytes = two }) same in
    let f = second-bytes capacity requests (record { name = name_at names 0; bytes = one }) (record { name = name_at names 1; bytes = two }) same in
    let bytes = written names nodes capacity.bytes requests.bytes certificate replies status text a in
    let spells : SpellsCert certificate.bytes a.output.proved = subst (λ (b : List ℕ). SpellsCert b a.output.proved) (sym bytes) a.output.spelled in (
      capacity.bytes,
      handed told (name_at asked 0) LONGEST_FILE capacity.bytes held.first (omega (arith, ap (λ (l : List ℕ). length l) e, one-handed.short)),
      (
        (a.season.declaration, a.made.declared),
        (
          requests.bytes,
          handed told (name_at asked 1) LONGEST_FILE requests.bytes held.second (omega (arith, ap (λ (l : List ℕ). length l) f, two-handed.short)),
          (
            (a.season, a.made),
            (
              certificate.bytes,
              handed told (name_at asked 2) LONGEST_CERT_FILE certificate.bytes held.third (written-short names nodes capacity.bytes requests.bytes certificate replies status text a),
              ((a.output.proved, spells), ((a.season, a.output.proved, a.made, spells, a.output.run.valid), refl)),
            ),
          ),
        ),
      ),
    )
