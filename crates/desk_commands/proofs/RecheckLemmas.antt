-- What a recheck makes of the stage that was written of a waiting list.
use Rattle.std.proofs.Common.{◌≡◌, ℕ, ◌≤◌, List, [], ◌∷◌, length, Option, refl, sym, ap, subst, arith}
use Rattle.desk_outside.specs.Files.{Files}
use Rattle.command_words.specs.Words.{Word}
use Rattle.wait_list.specs.Claims.{IsWaitingProof}
use Rattle.desk_commands.specs.Reclearing.{last_book, left_waiting}
use Rattle.desk_commands.specs.Judgements.{NamedBytes, SpellsExtra, Accepts, extra_form, valid_extra}
use Rattle.desk_commands.specs.Steps.{Holds, IsHanded, AllPass}
use Rattle.desk_commands.specs.Jobs.{name_at, reclear_steps, recheck_steps, IsReclearing, HoldsRechecked, rechecked_files}
use Rattle.desk_commands.specs.declared.files.TheConstants.{LONGEST_FILE, LONGEST_CERT_FILE}

abbrev file : Word → List ℕ → NamedBytes
file name bytes = record { name = name; bytes = bytes }

head-bytes : (a b c d : NamedBytes) → a ∷ b ∷ [] ≡ c ∷ d ∷ [] → a.bytes ≡ c.bytes
head-bytes a b c d e = cc

bytes-1 : (a b c d e f g h : NamedBytes) → a ∷ b ∷ c ∷ d ∷ [] ≡ e ∷ f ∷ g ∷ h ∷ [] → a.bytes ≡ e.bytes
bytes-1 a b c d e f g h same = cc

bytes-2 : (a b c d e f g h : NamedBytes) → a ∷ b ∷ c ∷ d ∷ [] ≡ e ∷ f ∷ g ∷ h ∷ [] → b.bytes ≡ f.bytes
bytes-2 a b c d e f g h same = cc

bytes-3 : (a b c d e f g h : NamedBytes) → a ∷ b ∷ c ∷ d ∷ [] ≡ e ∷ f ∷ g ∷ h ∷ [] → c.bytes ≡ g.bytes
bytes-3 a b c d e f g h same = cc

bytes-4 : (a b c d e f g h : NamedBytes) → a ∷ b ∷ c ∷ d ∷ [] ≡ e ∷ f ∷ g ∷ h ∷ [] → d.bytes ≡ h.bytes
bytes-4 a b c d e f g h same = cc

-- bytes as many as others that were handed out are handed out where they are held
handed : (files told : Option Files) (name held : Word) (most : ℕ) (bytes other : List ℕ) → bytes ≡ other → IsHanded files name most other → Holds told held bytes → IsHanded told held most bytes
handed files told name held most bytes other same is holds = record { held = holds; short = omega (arith, ap (λ (l : List ℕ). length l) same, is.short) }

module _ (names : List Word) (nodes : ℕ) (capacity requests certificate asks extra replies : NamedBytes) (status : ℕ) (text : List ℕ)
    (a : IsReclearing names nodes capacity.bytes requests.bytes certificate.bytes asks.bytes (extra ∷ replies ∷ []) status text) where
  written : extra.bytes ≡ a.extra
  written = head-bytes extra replies (file (name_at names 4) a.extra) (file (name_at names 5) a.replies) a.written

  said : SpellsExtra extra.bytes a.output.output.stage
  said = subst (λ (b : List ℕ). SpellsExtra b a.output.output.stage) (sym written) a.output.output.spelled

  proof : IsWaitingProof (last_book a.season a.proved a.output.history) (left_waiting a.season a.proved a.output.history) a.output.output.stage
  proof = record { problem = a.output.output.problem; problem_is = a.output.output.problem_is; proof = a.output.output.run.proof }

  pub written-short : length extra.bytes ≤ LONGEST_CERT_FILE
  written-short = omega (arith, ap (λ (l : List ℕ). length l) written, a.output.output.short)

  pub in-form : Accepts extra_form (capacity ∷ requests ∷ certificate ∷ asks ∷ extra ∷ [])
  in-form = (a.output.output.stage, said)

  pub is-valid : Accepts valid_extra (capacity ∷ requests ∷ certificate ∷ asks ∷ extra ∷ [])
  is-valid = (a.season, a.proved, a.output.history, a.output.output.stage, a.made, a.spelled, a.output.asked, said, proof)

  module _ (asked : List Word) (files told : Option Files) (held : HoldsRechecked told asked capacity.bytes requests.bytes certificate.bytes asks.bytes extra.bytes) where
    pub recheck-passes : AllPass files (reclear_steps names) (capacity ∷ requests ∷ certificate ∷ asks ∷ []) →
        AllPass told (recheck_steps asked) (rechecked_files asked capacity.bytes requests.bytes certificate.bytes asks.bytes extra.bytes)
    recheck-passes (one, one-handed, (one-judged, (two, two-handed, (two-judged, (three, three-handed, (form-judged, (valid-judged, (four, four-handed, (limit-judged, same))))))))) =
        let f1 = file (name_at names 0) one in
        let f2 = file (name_at names 1) two in
        let f3 = file (name_at names 2) three in
        let f4 = file (name_at names 3) four in
        let e1 = bytes-1 capacity requests certificate asks f1 f2 f3 f4 same in
        let e2 = bytes-2 capacity requests certificate asks f1 f2 f3 f4 same in
        let e3 = bytes-3 capacity requests certificate asks f1 f2 f3 f4 same in
        let e4 = bytes-4 capacity requests certificate asks f1 f2 f3 f4 same in (
          capacity.bytes,
          handed files told (name_at names 0) (name_at asked 0) LONGEST_FILE capacity.bytes one e1 one-handed held.first,
          (
            (a.season.declaration, a.made.declared),
            (
              requests.bytes,
              handed files told (name_at names 1) (name_at asked 1) LONGEST_FILE requests.bytes two e2 two-handed held.second,
              (
                (a.season, a.made),
                (
                  certificate.bytes,
                  handed files told (name_at names 2) (name_at asked 2) LONGEST_CERT_FILE certificate.bytes three e3 three-handed held.third,
                  (
                    (a.proved, a.spelled),
                    (
                      (a.season, a.proved, a.made, a.spelled, a.valid),
                      (
                        asks.bytes,
                        handed files told (name_at names 3) (name_at asked 3) LONGEST_FILE asks.bytes four e4 four-handed held.fourth,
                        (
                          (a.season, a.proved, a.output.history, a.made, a.spelled, a.output.asked, a.output.few),
                          (
                            extra.bytes,
                            record { held = held.fifth; short = written-short },
                            (in-form, (is-valid, refl)),
                          ),
                        ),
                      ),
                    ),
                  ),
                ),
              ),
            ),
          ),
        )
