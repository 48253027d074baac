-- A fault of a capacity file has one cause.
use Rattle.std.proofs.Common.{◌≡◌, ℕ, suc, List, [], ◌∷◌, sym, ap, subst, ◌∙◌, arith, inl, inr}
use Rattle.std.specs.Prelude.{Option, Some, None, IsSomeAnd, slice_get}
use Rattle.slot_text.specs.Fields.{fields_of}
use Rattle.capacity_file.specs.declared.fault.CapFault.{CapFault}
use Rattle.capacity_file.specs.declared.fault.CapFault.TheVariants as faults
use Rattle.fault_causes.specs.Causes.{line_word_text}
use Rattle.fault_causes.specs.Forms.{IsNotAllowed, IsFlaw}
use Rattle.fault_causes.specs.Capacities.{fields_behind, IsFieldCause, IsWordCause, IsBadLineCause, IsTwiceCause, IsCapacityCause}
use Rattle.fault_causes.specs.declared.cause.LineWord.{LineWord}
use Rattle.fault_causes.specs.declared.cause.Flaw.{Flaw}
use Rattle.fault_causes.specs.declared.cause.Cause.{Cause}
use Rattle.fault_causes.specs.declared.cause.Cause.TheVariants as causes
use Rattle.fault_causes.specs.declared.form.Form.{Form}
use Rattle.fault_causes.specs.declared.form.Form.TheVariants as forms
use Rattle.fault_causes.specs.declared.fields.Wanted.{Wanted}
use Rattle.fault_causes.proofs.WordLemmas.{word_key, word_of_key, word_again}

-- what has two properties that speak of one value
pub at_one : {X : Type 0} (o : Option X) (P Q : X → Type 0) (a b : Cause) → ((x : X) → P x → Q x → a ≡ b) → IsSomeAnd o P → IsSomeAnd o Q → a ≡ b
at_one {X} None P Q a b one p q = absurd p
at_one {X} (Some x) P Q a b one p q = one x p q

-- ---- words

pub one_word : (text : List ℕ) (v w : LineWord) → text ≡ line_word_text v → text ≡ line_word_text w → v ≡ w
one_word text v w a b = sym (word_again v) ∙ ap (λ (t : List ℕ). word_of_key (word_key t)) (sym a ∙ b) ∙ word_again w

-- ---- fields

one_value : (form : Form) (before text : List ℕ) (a b : Flaw) → IsNotAllowed form before text a → IsNotAllowed form before text b → a ≡ b
one_value forms.Airport before text a b x y = absurd x
one_value forms.Season before text a b x y = absurd x
one_value forms.Step before text a b x y = absurd x
one_value (forms.Number least most) before text a b x y = absurd x
one_value (forms.Price most) before text a b x y = absurd x
one_value forms.Kind before text a b x y = absurd x
one_value forms.Time before text a b x y = absurd x
one_value forms.Later before text a b (one, two, f, t, lt, e) (v, w, g, u, gt, i) = e ∙ sym i
one_value forms.Other before text a b (one, f, t, e) (v, g, u, i) = e ∙ sym i
one_value forms.Days before text a b x y = x.1 ∙ sym y.1

no_other : (form : Form) (before text : List ℕ) (flaw : Flaw) → IsFlaw form before text None → IsFlaw form before text (Some flaw) → ⊥
no_other form before text flaw none (inl bad) = bad.0 none.0
no_other form before text flaw none (inr bad) = none.1 flaw bad.1

one_flaw : (form : Form) (before text : List ℕ) (a b : Flaw) → IsFlaw form before text (Some a) → IsFlaw form before text (Some b) → a ≡ b
one_flaw form before text a b (inl x) (inl y) = x.1 ∙ sym y.1
one_flaw form before text a b (inl x) (inr y) = absurd (x.0 y.0)
one_flaw form before text a b (inr x) (inl y) = absurd (y.0 x.0)
one_flaw form before text a b (inr x) (inr y) = one_value form before text a b x.1 y.1

one_field_cause : (wants : List Wanted) (before : List ℕ) (n : ℕ) (fields : List (List ℕ)) (a b : Cause) → IsFieldCause wants before n fields a → IsFieldCause wants before n fields b → a ≡ b
one_field_cause [] before n [] a b x y = x ∙ sym y
one_field_cause [] before n (text ∷ rest) a b x y = x ∙ sym y
one_field_cause (want ∷ wants) before n [] a b x y = x ∙ sym y
one_field_cause (want ∷ wants) before n (text ∷ rest) a b (inl x) (inl y) = one_field_cause wants text (suc n) rest a b x.1 y.1
one_field_cause (want ∷ wants) before n (text ∷ rest) a b (inl x) (inr (flaw, y, e)) = absurd (no_other want.form before text flaw x.0 y)
one_field_cause (want ∷ wants) before n (text ∷ rest) a b (inr (flaw, x, e)) (inl y) = absurd (no_other want.form before text flaw y.0 x)
one_field_cause (want ∷ wants) before n (text ∷ rest) a b (inr (flaw, x, e)) (inr (other, y, f)) =
    e ∙ ap (λ (z : Flaw). causes.Field n want.name z) (one_flaw want.form before text flaw other x y) ∙ sym f

one_word_cause : (fields : List (List ℕ)) (a b : Cause) → IsWordCause fields a → IsWordCause fields b → a ≡ b
one_word_cause [] a b x y = absurd x
one_word_cause (text ∷ rest) a b (inl x) (inl y) = x.1 ∙ sym y.1
one_word_cause (text ∷ rest) a b (inl x) (inr (word, e, y)) = absurd (x.0 word e)
one_word_cause (text ∷ rest) a b (inr (word, e, x)) (inl y) = absurd (y.0 word e)
one_word_cause (text ∷ rest) a b (inr (word, e, x)) (inr (other, f, y)) =
    one_field_cause (fields_behind word) [] 2 rest a b x (subst (λ (w : LineWord). IsFieldCause (fields_behind w) [] 2 rest b) (one_word text other word f e) y)

-- ---- lines

one_bad_line : (line : List ℕ) (a b : Cause) → IsBadLineCause line a → IsBadLineCause line b → a ≡ b
one_bad_line line a b (inl x) (inl y) = x.1 ∙ sym y.1
one_bad_line line a b (inl x) (inr (inl y)) = absurd (omega (arith, x.0, y.0))
one_bad_line line a b (inl x) (inr (inr y)) = absurd (omega (arith, x.0, y.0))
one_bad_line line a b (inr (inl x)) (inl y) = absurd (omega (arith, x.0, y.0))
one_bad_line line a b (inr (inr x)) (inl y) = absurd (omega (arith, x.0, y.0))
one_bad_line line a b (inr (inl x)) (inr (inl y)) = x.2 ∙ sym y.2
one_bad_line line a b (inr (inl x)) (inr (inr y)) = absurd (x.1 y.1)
one_bad_line line a b (inr (inr x)) (inr (inl y)) = absurd (y.1 x.1)
one_bad_line line a b (inr (inr x)) (inr (inr y)) = one_word_cause (fields_of line) a b x.2 y.2

same_text : (o : Option (List ℕ)) (v w : LineWord) → IsSomeAnd o (λ text. text ≡ line_word_text v) → IsSomeAnd o (λ text. text ≡ line_word_text w) → v ≡ w
same_text None v w x y = absurd x
same_text (Some text) v w x y = one_word text v w x y

one_twice : (line : List ℕ) (a b : Cause) → IsTwiceCause line a → IsTwiceCause line b → a ≡ b
one_twice line a b (word, x, e) (other, y, f) = e ∙ ap (λ (w : LineWord). causes.Twice w) (same_text (slice_get (fields_of line) 0) word other x y) ∙ sym f

pub one_capacity_cause : (text : List ℕ) (fault : CapFault) (a b : Cause) → IsCapacityCause text fault a → IsCapacityCause text fault b → a ≡ b
one_capacity_cause text (faults.BadLine line) a b x y = at_one _ _ _ a b (λ l p q. one_bad_line l a b p q) x y
one_capacity_cause text (faults.Missing word) a b x y = x ∙ sym y
one_capacity_cause text (faults.Twice line) a b x y = at_one _ _ _ a b (λ l p q. one_twice l a b p q) x y
one_capacity_cause text (faults.OverLimit limit number) a b x y = x ∙ sym y
one_capacity_cause text faults.Memory a b x y = absurd x
