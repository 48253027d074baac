-- Whether a field has its form, from what was read of it.
use Rattle.std.proofs.Common.{◌≡◌, ℕ, Bool, List, Option, Some, None, refl, sym, ◌∙◌, subst}
use Rattle.std.specs.Prelude.{IfSome, IsTrue, is_some, ◌==◌}
use Rattle.std.proofs.lemmas.Bool.{eqb-true, false≢true}
use Rattle.std.proofs.lemmas.Option.{none-some, same_Some}
use Rattle.schedule_text.specs.Days.{IsDays}
use Rattle.slot_text.specs.Stations.{IsStation}
use Rattle.slot_text.specs.declared.station.Station.{Station}

pub airport_form : (text : List ℕ) (r : Option Station) (b : Bool) → b ≡ is_some r → IfSome r (λ s. IsStation s.0 × (s.0 ≡ text)) → ((s : Station) → IsStation s.0 → s.0 ≡ text → r ≡ Some s)
    → (IsTrue b → IsStation text) × (IsStation text → IsTrue b)
airport_form text None b e found only =
    (λ t. absurd (false≢true (sym e ∙ t)), λ s. absurd (none-some (record { 0 = text }) (only (record { 0 = text }) s refl)))
airport_form text (Some s) b e found only = (λ t. subst IsStation found.1 found.0, λ is. e)

-- whether the weekdays that a text names are none
pub no_days : (text : List ℕ) (days : ℕ) (b : Bool) → b ≡ (days == 0) → IsDays text days → ((other : ℕ) → IsDays text other → Some days ≡ Some other) → (IsTrue b → IsDays text 0) × (IsDays text 0 → IsTrue b)
no_days text days b e is only =
    (λ t. subst (IsDays text) (eqb-true days 0 (sym e ∙ t)) is, λ none. e ∙ rw (same_Some days 0 (only 0 none)) refl)
