-- The line of a fault of a capacity file.
use Rattle.std.proofs.Common.{◌≡◌, ◌≢◌, ◌⊎◌, ℕ, zero, suc, ◌-◌, Bool, true, false, List, [], ◌∷◌, Some, refl, subst, arith, inl, inr}
use Rattle.std.specs.Prelude.{IsSomeAnd, slice_get, codes}
use Rattle.std.specs.Bool.{Decides}
use Rattle.std.specs.Str.{bytes_eq}
use Rattle.std.proofs.lemmas.Bool.{false≢true}
use Rattle.std.proofs.lemmas.Slice.Eq.{bytes_eq-Decides}
use Rattle.slot_text.specs.Lines.{lines_of}
use Rattle.slot_text.specs.Fields.{fields_of}
use Rattle.capacity_file.specs.Words.{word_text}
use Rattle.capacity_file.specs.Entries.{word_of}
use Rattle.capacity_file.specs.Lines.{line_at, IsRepeat}
use Rattle.capacity_file.specs.Faults.{HasCapacityFault}
use Rattle.capacity_file.specs.declared.fault.CapFault.TheVariants.{BadLine, Twice}
use Rattle.fault_causes.specs.Causes.{line_word_text}
use Rattle.fault_causes.specs.Capacities.{LineIs, IsBadLineCause, IsTwiceCause}
use Rattle.fault_causes.specs.declared.cause.LineWord.{LineWord}
use Rattle.fault_causes.specs.declared.cause.LineWord.TheVariants as words
use Rattle.fault_causes.specs.declared.cause.Cause.{Cause}
use Rattle.fault_causes.specs.declared.cause.Cause.TheVariants as causes
use Rattle.fault_causes.proofs.WordLemmas.{word_key, word_of_key, no_word}

counted : (lines : List (List ℕ)) (number : ℕ) (line : List ℕ) → line_at lines number ≡ Some line → slice_get lines (number - 1) ≡ Some line
counted lines zero line e = absurd (cc)
counted lines (suc n) line e = let same : suc n - 1 ≡ n = omega arith in rw same e

-- a line with a field
pub record FullLine (lines : List (List ℕ)) (number : ℕ) : Type 0 where
  pub line : List ℕ
  pub stands : slice_get lines (number - 1) ≡ Some line
  pub full : fields_of line ≢ []

some_fields : (word : List ℕ) (rest fields : List (List ℕ)) → fields ≡ word ∷ rest → fields ≢ []
some_fields word rest fields e none = absurd (cc)

pub bad_line : (text : List ℕ) (number : ℕ) → HasCapacityFault text (BadLine number) → FullLine (lines_of text) number
bad_line text number (inl bad) = record { line = bad.1.line; stands = counted (lines_of text) number bad.1.line bad.1.stands; full = bad.1.full }
bad_line text number (inr broken) =
    let at = broken.line in
    record { line = at.line; stands = counted (lines_of text) number at.line at.stands; full = some_fields _ at.states.values (fields_of at.line) at.states.fields }

pub bad_cause : (text : List ℕ) (number : ℕ) (has : FullLine (lines_of text) number) (line : List ℕ) (cause : Cause) → ((l : List ℕ) → slice_get (lines_of text) (number - 1) ≡ Some l → line ≡ l) → IsBadLineCause line cause
    → LineIs text number (λ l. IsBadLineCause l cause)
bad_cause text number has line cause found is = rw has.stands (subst (λ (l : List ℕ). IsBadLineCause l cause) (found has.line has.stands) is)

-- ---- words

-- a line whose word stands twice
pub record TwiceLine (lines : List (List ℕ)) (number : ℕ) : Type 0 where
  pub line : List ℕ
  pub stands : slice_get lines (number - 1) ≡ Some line
  pub cause : Cause
  pub is : IsTwiceCause line cause

first_is : (word : List ℕ) (rest fields : List (List ℕ)) (own : LineWord) → fields ≡ word ∷ rest → word ≡ line_word_text own → IsSomeAnd (slice_get fields 0) (λ text. text ≡ line_word_text own)
first_is word rest fields own e is = rw e is

decided : (b : Bool) (P : Type 0) → Decides b P → P ⊎ (P → ⊥)
decided true P h = inl (h.0 refl)
decided false P h = inr (λ p. false≢true (h.1 p))

-- the word of a line is one of these
known_word : (lines : List (List ℕ)) (number : ℕ) (repeat : IsRepeat lines number) → (word_text (word_of repeat.entry) ≡ codes "AIRPORT" → ⊥) → (word_text (word_of repeat.entry) ≡ codes "SEASON" → ⊥) → (word_text (word_of repeat.entry) ≡ codes "STEP" → ⊥)
    → (word_text (word_of repeat.entry) ≡ codes "FLEX" → ⊥) → (word_text (word_of repeat.entry) ≡ codes "GROUND" → ⊥) → (word_text (word_of repeat.entry) ≡ codes "SHARE" → ⊥) → (word_text (word_of repeat.entry) ≡ codes "REFUSE" → ⊥)
    → (word_text (word_of repeat.entry) ≡ codes "NIGHT" → ⊥) → (word_text (word_of repeat.entry) ≡ codes "CAP" → ⊥) → ⊥
known_word lines number repeat a b c d e f g h i = grind arith

repeat_word : (lines : List (List ℕ)) (number : ℕ) (repeat : IsRepeat lines number) → word_text (word_of repeat.entry) ≡ line_word_text (word_of_key (word_key (word_text (word_of repeat.entry))))
repeat_word lines number repeat =
    let text = word_text (word_of repeat.entry) in
    let own = word_of_key (word_key text) in
    elim (decided (bytes_eq text (line_word_text own)) (text ≡ line_word_text own) (bytes_eq-Decides text (line_word_text own))) [
      | inl is ↦ is
      | inr none ↦
          let no = no_word text none in
          absurd (known_word lines number repeat (no words.Airport) (no words.Season) (no words.Step) (no words.Flex) (no words.Ground) (no words.Share) (no words.Refuse) (no words.Night) (no words.Cap))
    ]

pub twice_line : (text : List ℕ) (number : ℕ) → HasCapacityFault text (Twice number) → TwiceLine (lines_of text) number
twice_line text number has =
    let repeat = has.1 in
    let at = repeat.states in
    let own = word_of_key (word_key (word_text (word_of repeat.entry))) in
    record {
      line = at.line;
      stands = counted (lines_of text) number at.line at.stands;
      cause = causes.Twice own;
      is = (own, first_is _ at.states.values (fields_of at.line) own at.states.fields (repeat_word (lines_of text) number repeat), refl);
    }
