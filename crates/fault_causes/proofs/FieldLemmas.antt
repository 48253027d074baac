-- The walk over the fields that are wanted.
use Rattle.std.proofs.Common.{◌≡◌, ℕ, List, [], ◌∷◌, refl, subst}
use Rattle.season_days.specs.declared.declaration.TheConstants.{MINUTES_OF_DAY, HIGHEST_WINDOW_LIMIT}
use Rattle.fault_causes.specs.Capacities.{wanted, fields_behind, IsFieldCause}
use Rattle.fault_causes.specs.declared.cause.Cause.{Cause}
use Rattle.fault_causes.specs.declared.cause.FieldName.TheVariants as names
use Rattle.fault_causes.specs.declared.cause.LineWord.TheVariants as words
use Rattle.fault_causes.specs.declared.form.Form.TheVariants as forms
use Rattle.fault_causes.specs.declared.fields.Wanted.{Wanted}

-- a cause from a place on is one of the whole
abbrev pub Leads : List Wanted → List ℕ → ℕ → List (List ℕ) → List Wanted → List (List ℕ) → Type 0
Leads wants before place fields all whole =
    (cause : Cause) → IsFieldCause wants before place fields cause → IsFieldCause all [] 2 whole cause

-- the six fields behind CAP
pub cap_fields : (a b c d e f : Wanted) (fields : List (List ℕ)) (cause : Cause) → a ≡ wanted names.Kind forms.Kind → b ≡ wanted names.Length (forms.Number 1 MINUTES_OF_DAY) → c ≡ wanted names.From forms.Time → d ≡ wanted names.To forms.Later
    → e ≡ wanted names.Days forms.Days → f ≡ wanted names.Limit (forms.Number 0 HIGHEST_WINDOW_LIMIT) → IsFieldCause (a ∷ b ∷ c ∷ d ∷ e ∷ f ∷ []) [] 2 fields cause → IsFieldCause (fields_behind words.Cap) [] 2 fields cause
cap_fields a b c d e f fields cause p q r s t u is =
    let same : a ∷ b ∷ c ∷ d ∷ e ∷ f ∷ [] ≡ fields_behind words.Cap = rw (p, q, r, s, t, u) refl in
    subst (λ (wants : List Wanted). IsFieldCause wants [] 2 fields cause) same is
