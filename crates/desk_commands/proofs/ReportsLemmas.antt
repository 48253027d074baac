-- The judgements of reports and of the season after end in one way alone.
use Rattle.std.proofs.Common.{◌≡◌, ◌≢◌, ℕ, List, ◌∷◌, Result, Ok, Err, refl, ap, ◌∙◌, subst, inl, inr}
use Rattle.std.specs.Prelude.{◌⊎◌}
use Rattle.slot_text.specs.Reads.{GivesOr}
use Rattle.season_days.specs.declared.declaration.Declaration.{Declaration}
use Rattle.capacity_file.specs.Declares.{IsCapacityFile}
use Rattle.series_model.specs.Submissions.{SubmissionView}
use Rattle.usage_watch.specs.Reports.{SaysOperated, HasOperatedFault}
use Rattle.usage_watch.specs.declared.operated.Operated.{Operated}
use Rattle.usage_watch.specs.declared.fault.OperatedFault.{OperatedFault}
use Rattle.usage_watch.specs.declared.fault.OperatedFault.TheVariants.{BadLine, Memory}
use Rattle.command_words.specs.Words.{Word}
use Rattle.desk_commands.specs.Reports.{out_of_form, no_next}
use Rattle.desk_commands.specs.Judgements.{NamedBytes, IsSeasonOf, reports_form, next_season}
use Rattle.desk_commands.specs.Leads.{AcceptsAlone, RefusesAlone}

-- ---- what the reader answered is the one answer

pub no_fault : (reports : List Operated) (e : OperatedFault) → let r : Result (List Operated) OperatedFault = Ok reports in GivesOr Memory r (Err e) → ⊥
no_fault reports e (inl same) = cc
no_fault reports e (inr same) = cc

-- with a fault that is a bad line
module _ (e : OperatedFault) (line : ℕ) (is : e ≡ BadLine line) where
  pub no_reading : (reports : List Operated) → let r : Result (List Operated) OperatedFault = Err e in GivesOr Memory r (Ok reports) → ⊥
  no_reading reports (inl same) = cc
  no_reading reports (inr same) = cc

  pub one_line : (other : ℕ) → let r : Result (List Operated) OperatedFault = Err e in GivesOr Memory r (Err (BadLine other)) → other ≡ line
  one_line other (inl same) = cc
  one_line other (inr same) = absurd cc

  pub bad_is : (Has : OperatedFault → Type 0) → Has e ⊎ (e ≡ Memory) → Has (BadLine line)
  bad_is Has (inl has) = subst Has is has
  bad_is Has (inr memory) = absurd cc

-- ---- the judgements

module _ (one : (text : List ℕ) (a b : Declaration) → IsCapacityFile text a → IsCapacityFile text b → a ≡ b) (name : Word) (capacity requests : NamedBytes) (s : SubmissionView) (season : IsSeasonOf capacity.bytes requests.bytes s) where
  module _ (certificate : NamedBytes) (bytes : List ℕ) (rest : List NamedBytes) where
    abbrev files : List NamedBytes
    files = capacity ∷ requests ∷ certificate ∷ record { name = name; bytes = bytes } ∷ rest

    pub accepts_reports : (reports : List Operated) → SaysOperated s.declaration.season bytes reports → ((e : OperatedFault) → HasOperatedFault s.declaration.season bytes e → ⊥) → AcceptsAlone reports_form name files
    accepts_reports reports says never = record {
      accepts = (s.declaration, reports, season.declared, says);
      alone = λ refusal (d, line, declared, has, e). never (BadLine line) (subst (λ (x : Declaration). HasOperatedFault x.season bytes (BadLine line)) (one capacity.bytes d s.declaration declared season.declared) has);
    }

    pub refuses_reports : (line : ℕ) → HasOperatedFault s.declaration.season bytes (BadLine line) → ((other : ℕ) → HasOperatedFault s.declaration.season bytes (BadLine other) → other ≡ line) → ((reports : List Operated) → SaysOperated s.declaration.season bytes reports → ⊥) → RefusesAlone reports_form name files (out_of_form name line)
    refuses_reports line has same none = record {
      refuses = (s.declaration, line, season.declared, has, refl);
      alone = λ other (d, at, declared, two, e). e ∙ ap (out_of_form name) (same at (subst (λ (x : Declaration). HasOperatedFault x.season bytes (BadLine at)) (one capacity.bytes d s.declaration declared season.declared) two));
      rejects = λ (d, reports, declared, says). none reports (subst (λ (x : Declaration). SaysOperated x.season bytes reports) (one capacity.bytes d s.declaration declared season.declared) says);
    }

  module _ (rest : List NamedBytes) where
    pub accepts_next : s.declaration.season.year ≢ 99 → AcceptsAlone next_season name (capacity ∷ requests ∷ rest)
    accepts_next some = record {
      accepts = (s.declaration, season.declared, some);
      alone = λ refusal (d, declared, last, e). some (subst (λ (x : Declaration). x.season.year ≡ 99) (one capacity.bytes d s.declaration declared season.declared) last);
    }

    pub refuses_next : s.declaration.season.year ≡ 99 → RefusesAlone next_season name (capacity ∷ requests ∷ rest) no_next
    refuses_next last = record {
      refuses = (s.declaration, season.declared, last, refl);
      alone = λ other (d, declared, two, e). e;
      rejects = λ (d, declared, some). some (subst (λ (x : Declaration). x.season.year ≡ 99) (one capacity.bytes s.declaration d season.declared declared) last);
    }
