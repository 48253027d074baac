-- The fields of a report, and the one report that they say.
use Rattle.std.proofs.Common.{◌≡◌, ℕ, List, [], ◌∷◌, refl}
use Rattle.std.specs.Prelude.{Some}
use Rattle.season_days.specs.declared.declaration.Kind.{Kind}
use Rattle.season_days.specs.declared.day.Period.{Period}
use Rattle.scr_reader.specs.declared.line.Flight.{Flight}
use Rattle.usage_watch.specs.declared.operated.Operated.{Operated}

pub same_fields : (fields : List (List ℕ)) (o a b c d p q r s : List ℕ) → fields ≡ o ∷ a ∷ b ∷ c ∷ d ∷ [] → fields ≡ o ∷ p ∷ q ∷ r ∷ s ∷ [] → (p ≡ a) × (q ≡ b) × (r ≡ c) × (s ≡ d)
same_fields fields o a b c d p q r s e f = (cc, cc, cc, cc)

pub same_report : (kind : Kind) (flight : Flight) (period : Period) (report : Operated) → kind ≡ report.kind → flight ≡ report.flight → period ≡ report.period → let made : Operated = record { kind = kind; flight = flight; period = period } in Some made ≡ Some report
same_report kind flight period report k f p = rw (k, f, p) refl
