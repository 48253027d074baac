-- The generated capacity file is read as its declaration.
use Rattle.std.proofs.Common.{◌≡◌, ◌≢◌, ℕ, zero, suc, ◌+◌, ◌-◌, ◌*◌, ◌^◌, ◌<◌, ◌≤◌, Bool, true, false, ◌&&◌, List, [], ◌∷◌, ◌++◌, length, Some, None, codes, refl, sym, ap, subst, ◌∙◌, arith, inl, inr}
use Rattle.std.specs.Prelude.{◌==◌, slice_get, slice_index, not, eqb}
use Rattle.std.specs.Fmt.{decimal, digits}
use Rattle.std.proofs.lemmas.Bool.{and_parts, leb-true, eq-eqb, ne_eqb}
use Rattle.std.proofs.lemmas.Fmt.{decimal_nonempty, length-decimal-le}
use Rattle.std.specs.Prelude.{nat_le}
use Rattle.slot_text.specs.Lines.{lines_of}
use Rattle.slot_text.specs.Fields.{is_blank, fields_of, IsTrimmed}
use Rattle.slot_text.specs.Ended.{ended}
use Rattle.slot_text.specs.Spelled.{IsLineText, IsFieldText}
use Rattle.season_days.specs.Capacity.{capacity_of, declared_resources}
use Rattle.season_days.specs.declared.declaration.Declaration.{Declaration}
use Rattle.capacity_file.specs.Words.{word_text}
use Rattle.capacity_file.specs.Entries.{word_of, States}
use Rattle.capacity_file.specs.Lines.{line_at, IsBad, IsRepeat, IsClean}
use Rattle.capacity_file.specs.Declares.{AreRules, Declares, LinesDeclare, IsCapacityFile}
use Rattle.season_maker.specs.Generated.{summer_2025, airport_abc, hourly_limit, hourly_arrivals, IsGeneratedDeclaration}
use Rattle.season_maker.specs.Texts.{generated_lines, generated_capacity}
use Rattle.season_maker.proofs.DayLemmas.{days}

-- ---- lines without control bytes

abbrev are_from_space : List ℕ → Bool
are_from_space [] = true
are_from_space (b ∷ text) = nat_le 32 b && are_from_space text

is_line : (text : List ℕ) → are_from_space text ≡ true → IsLineText text
is_line [] e = tt
is_line (b ∷ text) e = let both = and_parts (nat_le 32 b) (are_from_space text) e in (leb-true 32 b both.0, is_line text both.1)

line_then : (front back : List ℕ) → IsLineText front → IsFieldText back → IsLineText (front ++ back)
line_then [] [] is is_field = tt
line_then [] (b ∷ back) is is_field = (omega arith, line_then [] back tt is_field.1)
line_then (b ∷ front) back is is_field = (is.0, line_then front back is.1 is_field)

-- a law of texts
abbrev pub LinesLaw : Type 0
LinesLaw = (line rest : List ℕ) → IsLineText line → lines_of (line ++ 10 ∷ rest) ≡ line ∷ lines_of rest

abbrev pub AreLineTexts : List (List ℕ) → Type 0
AreLineTexts [] = Unit {0}
AreLineTexts (line ∷ lines) = IsLineText line × AreLineTexts lines

lines_back : LinesLaw → (lines : List (List ℕ)) → AreLineTexts lines → lines_of (ended lines) ≡ lines
unfolding lines_of
lines_back law [] are = refl
lines_back law (line ∷ lines) are = law line (ended lines) are.0 ∙ ap (λ (ls : List (List ℕ)). line ∷ ls) (lines_back law lines are.1)

-- ---- the words with which lines begin

abbrev pub BeginWith : List (List ℕ) → List (List ℕ) → Type 0
BeginWith [] [] = Unit {0}
BeginWith [] (head ∷ heads) = ⊥
BeginWith (line ∷ lines) [] = ⊥
BeginWith (line ∷ lines) (head ∷ heads) = ((values : List (List ℕ)) × (fields_of line ≡ head ∷ values)) × BeginWith lines heads

-- the first two letters tell the words apart
abbrev pub initials : List ℕ → ℕ
initials (a ∷ b ∷ text) = 256 * a + b
initials text = 0

abbrev pub tags_of : List (List ℕ) → List ℕ
tags_of [] = []
tags_of (head ∷ heads) = initials head ∷ tags_of heads

same_head : (fields rest more : List (List ℕ)) (one other : List ℕ) → fields ≡ one ∷ rest → fields ≡ other ∷ more → one ≡ other
same_head fields rest more one other e f = let g : one ∷ rest ≡ other ∷ more = sym e ∙ f in cc

differ : (fields rest more : List (List ℕ)) (one other : List ℕ) → fields ≡ one ∷ rest → fields ≡ other ∷ more → eqb (initials one) (initials other) ≡ false → ⊥
differ fields rest more one other e f apart =
    let same : initials one ≡ initials other = ap initials (same_head fields rest more one other e f) in
    let test : true ≡ false = sym (eq-eqb (initials one) (initials other) same) ∙ apart in
    cc

-- the line at a place begins with the word that is listed there
begin_at : (lines heads : List (List ℕ)) (n : ℕ) (line text : List ℕ) (values : List (List ℕ)) → BeginWith lines heads → slice_get lines n ≡ Some line → fields_of line ≡ text ∷ values → slice_get (tags_of heads) n ≡ Some (initials text)
begin_at [] heads n line text values all stands fields = cc
begin_at (first ∷ lines) [] n line text values all stands fields = absurd all
begin_at (first ∷ lines) (head ∷ heads) zero line text values all stands fields =
    let same : first ≡ line = cc in
    let begins : fields_of line ≡ head ∷ all.0.0 = ap fields_of (sym same) ∙ all.0.1 in
    ap (λ (t : List ℕ). Some (initials t)) (same_head (fields_of line) all.0.0 values head text begins fields)
begin_at (first ∷ lines) (head ∷ heads) (suc n) line text values all stands fields = begin_at lines heads n line text values all.1 stands fields

-- ---- no word twice, and words that are on no line

abbrev pub is_absent : ℕ → List ℕ → Bool
is_absent tag [] = true
is_absent tag (other ∷ tags) = not (tag == other) && is_absent tag tags

abbrev pub all_differ : List ℕ → Bool
all_differ [] = true
all_differ (tag ∷ tags) = is_absent tag tags && all_differ tags

some_same : (x y : ℕ) → Some x ≡ Some y → x ≡ y
some_same x y e = cc

not_both : (x y : ℕ) → not (x == y) ≡ true → x ≡ y → ⊥
not_both x y test same = let f : not true ≡ true = rw (eq-eqb x y same) at test in cc

absent : (tag : ℕ) (tags : List ℕ) (n : ℕ) → is_absent tag tags ≡ true → slice_get tags n ≡ Some tag → ⊥
absent tag [] n lack e = cc
absent tag (other ∷ tags) zero lack e = not_both tag other (and_parts (not (tag == other)) (is_absent tag tags) lack).0 (sym (some_same other tag e))
absent tag (other ∷ tags) (suc n) lack e = absent tag tags n (and_parts (not (tag == other)) (is_absent tag tags) lack).1 e

apart : (tags : List ℕ) (i j tag : ℕ) → all_differ tags ≡ true → i < j → slice_get tags i ≡ Some tag → slice_get tags j ≡ Some tag → ⊥
apart [] i j tag differ lt at_i at_j = cc
apart (first ∷ tags) i zero tag differ lt at_i at_j = omega arith
apart (first ∷ tags) zero (suc j) tag differ lt at_i at_j =
    absent first tags j (and_parts (is_absent first tags) (all_differ tags) differ).0 (at_j ∙ sym at_i)
apart (first ∷ tags) (suc i) (suc j) tag differ lt at_i at_j =
    apart tags i j tag (and_parts (is_absent first tags) (all_differ tags) differ).1 (omega arith) at_i at_j

two_places : (lines heads : List (List ℕ)) (number earlier : ℕ) (line sooner text : List ℕ) (values more : List (List ℕ)) → BeginWith lines heads → all_differ (tags_of heads) ≡ true → earlier < number
    → line_at lines number ≡ Some line → fields_of line ≡ text ∷ values → line_at lines earlier ≡ Some sooner → fields_of sooner ≡ text ∷ more → ⊥
two_places lines heads number zero line sooner text values more all differ lt stands fields stood before = cc
two_places lines heads zero (suc i) line sooner text values more all differ lt stands fields stood before = omega arith
two_places lines heads (suc j) (suc i) line sooner text values more all differ lt stands fields stood before =
    apart (tags_of heads) i j (initials text) differ (omega arith) (begin_at lines heads i sooner text more all stood before) (begin_at lines heads j line text values all stands fields)

no_place : (lines heads : List (List ℕ)) (number : ℕ) (line text : List ℕ) (values : List (List ℕ)) → BeginWith lines heads → is_absent (initials text) (tags_of heads) ≡ true
    → line_at lines number ≡ Some line → fields_of line ≡ text ∷ values → ⊥
no_place lines heads zero line text values all lack stands fields = cc
no_place lines heads (suc n) line text values all lack stands fields =
    absent (initials text) (tags_of heads) n lack (begin_at lines heads n line text values all stands fields)

none_again : (lines heads : List (List ℕ)) (number : ℕ) → BeginWith lines heads → all_differ (tags_of heads) ≡ true → IsRepeat lines number → ⊥
none_again lines heads number all differ again =
    two_places lines heads number again.earlier again.states.line again.stated.line (word_text (word_of again.entry)) again.states.states.values again.stated.states.values all differ again.before
    again.states.stands again.states.states.fields again.stated.stands (again.stated.states.fields ∙ ap (λ w. word_text w ∷ again.stated.states.values) again.same)

-- ---- the last line

-- the last byte of a field is no blank
field_byte : (b : ℕ) → 33 ≤ b → is_blank b ≡ false
field_byte b le = rw (ne_eqb b 32 (λ e. omega arith), ne_eqb b 9 (λ e. omega arith)) refl

last_of : (b : ℕ) (text : List ℕ) → slice_index (b ∷ text) (length (b ∷ text) - 1) ≡ slice_index (b ∷ text) (length text)
last_of b text = let e : length (b ∷ text) - 1 ≡ length text = omega arith in ap (λ (n : ℕ). slice_index (b ∷ text) n) e

ends_field : (b : ℕ) (text : List ℕ) → IsFieldText (b ∷ text) → is_blank (slice_index (b ∷ text) (length text)) ≡ false
ends_field b [] is = field_byte b is.0
ends_field b (c ∷ text) is = ends_field c text is.1

never_empty : (front : List ℕ) (b : ℕ) (text : List ℕ) → [] ≡ front ++ b ∷ text → ⊥
never_empty [] b text e = cc
never_empty (x ∷ front) b text e = cc

-- with a byte in front
longer_end : (a : ℕ) (rest : List ℕ) → ([] ≡ rest → ⊥) → is_blank (slice_index rest (length rest - 1)) ≡ false → is_blank (slice_index (a ∷ rest) (length (a ∷ rest) - 1)) ≡ false
longer_end a [] some h = absurd (some refl)
longer_end a (x ∷ rest) some h =
    let count : length (a ∷ x ∷ rest) - 1 ≡ suc (length (x ∷ rest) - 1) = omega arith in
    subst (λ (n : ℕ). is_blank (slice_index (a ∷ x ∷ rest) n) ≡ false) (sym count) h

ends_after : (front : List ℕ) (b : ℕ) (text : List ℕ) → IsFieldText (b ∷ text) → is_blank (slice_index (front ++ b ∷ text) (length (front ++ b ∷ text) - 1)) ≡ false
ends_after [] b text is = subst (λ (byte : ℕ). is_blank byte ≡ false) (sym (last_of b text)) (ends_field b text is)
ends_after (a ∷ front) b text is = longer_end a (front ++ b ∷ text) (never_empty front b text) (ends_after front b text is)

-- a law of texts
abbrev pub FieldLaw : Type 0
FieldLaw = (field : List ℕ) → IsFieldText field → field ≢ [] → fields_of field ≡ field ∷ []

abbrev pub DigitsLaw : Type 0
DigitsLaw = (n : ℕ) → n < 2 ^ 64 → IsFieldText (decimal n)

cap_fields : (number : List ℕ) → fields_of number ≡ number ∷ []
    → fields_of (codes "CAP ARR 60 0600 2200 1234567 " ++ number) ≡ codes "CAP" ∷ codes "ARR" ∷ codes "60" ∷ codes "0600" ∷ codes "2200" ∷ codes "1234567" ∷ number ∷ []
unfolding fields_of
cap_fields number one = ap (λ (fields : List (List ℕ)). codes "CAP" ∷ codes "ARR" ∷ codes "60" ∷ codes "0600" ∷ codes "2200" ∷ codes "1234567" ∷ fields) one

cap_trimmed : (number : List ℕ) → IsFieldText number → number ≢ [] → IsTrimmed (codes "CAP ARR 60 0600 2200 1234567 " ++ number)
cap_trimmed [] is some = absurd (some refl)
cap_trimmed (b ∷ text) is some = record { begins = refl; ends = ends_after (codes "CAP ARR 60 0600 2200 1234567 ") b text is }

cap_short : (number : List ℕ) → length number ≤ 4 → length (codes "CAP ARR 60 0600 2200 1234567 " ++ number) ≤ 200
cap_short number few = omega arith

sixty : decimal 60 ≡ codes "60"
unfolding digits
sixty = refl

small : (units : ℕ) → units ≤ 4096 → hourly_limit units ≤ 68
small units few = omega arith

some_digits : (n : ℕ) → n < 2 ^ 64 → decimal n ≢ []
some_digits n lt e = let some = decimal_nonempty n lt in let none : length (decimal n) ≡ 0 = ap (λ (t : List ℕ). length t) e in omega arith

-- ---- the fields of the lines

airport_fields : fields_of (codes "AIRPORT ABC") ≡ codes "AIRPORT" ∷ codes "ABC" ∷ []
unfolding fields_of
airport_fields = refl

season_fields : fields_of (codes "SEASON S25") ≡ codes "SEASON" ∷ codes "S25" ∷ []
unfolding fields_of
season_fields = refl

step_fields : fields_of (codes "STEP 5") ≡ codes "STEP" ∷ codes "5" ∷ []
unfolding fields_of
step_fields = refl

flex_fields : fields_of (codes "FLEX 30") ≡ codes "FLEX" ∷ codes "30" ∷ []
unfolding fields_of
flex_fields = refl

ground_fields : fields_of (codes "GROUND 40") ≡ codes "GROUND" ∷ codes "40" ∷ []
unfolding fields_of
ground_fields = refl

refuse_fields : fields_of (codes "REFUSE 60") ≡ codes "REFUSE" ∷ codes "60" ∷ []
unfolding fields_of
refuse_fields = refl

five : codes "5" ≡ decimal 5
unfolding digits
five = refl

thirty : codes "30" ≡ decimal 30
unfolding digits
thirty = refl

forty : codes "40" ≡ decimal 40
unfolding digits
forty = refl

one_value : (text other : List ℕ) → text ≡ other → (text ∷ []) ≡ (other ∷ [])
one_value text other e = ap (λ (t : List ℕ). t ∷ []) e

allowed_price : (n : ℕ) → Some 60 ≡ Some n → (1 ≤ n) × (n ≤ 9999)
allowed_price n e = let same : 60 ≡ n = cc in (omega arith, omega arith)

-- ---- the file

abbrev pub cap_line : ℕ → List ℕ
cap_line units = codes "CAP ARR 60 0600 2200 1234567 " ++ decimal (hourly_limit units)

cap_line_fields : FieldLaw → DigitsLaw → (units : ℕ) → units ≤ 4096
    → fields_of (cap_line units) ≡ codes "CAP" ∷ codes "ARR" ∷ codes "60" ∷ codes "0600" ∷ codes "2200" ∷ codes "1234567" ∷ decimal (hourly_limit units) ∷ []
cap_line_fields field_law digits_law units few =
    let low : hourly_limit units ≤ 68 = small units few in
    let fits : hourly_limit units < 2 ^ 64 = omega arith in
    cap_fields (decimal (hourly_limit units)) (field_law (decimal (hourly_limit units)) (digits_law (hourly_limit units) fits) (some_digits (hourly_limit units) fits))

abbrev pub heads : List (List ℕ)
heads = codes "AIRPORT" ∷ codes "SEASON" ∷ codes "STEP" ∷ codes "FLEX" ∷ codes "GROUND" ∷ codes "REFUSE" ∷ codes "CAP" ∷ []

lines_begin : FieldLaw → DigitsLaw → (units : ℕ) → units ≤ 4096 → BeginWith (generated_lines units) heads
lines_begin field_law digits_law units few =
    ((_, airport_fields), ((_, season_fields), ((_, step_fields), ((_, flex_fields), ((_, ground_fields), ((_, refuse_fields), ((_, cap_line_fields field_law digits_law units few), tt)))))))

-- the capacity line is the only one behind the others
cap_rules : FieldLaw → DigitsLaw → (units : ℕ) → units ≤ 4096 → AreRules (cap_line units ∷ []) (hourly_arrivals units ∷ [])
cap_rules field_law digits_law units few =
    let low : hourly_limit units ≤ 68 = small units few in
    let fits : hourly_limit units < 2 ^ 64 = omega arith in
    let field : IsFieldText (decimal (hourly_limit units)) = digits_law (hourly_limit units) fits in
    let some : decimal (hourly_limit units) ≢ [] = some_digits (hourly_limit units) fits in
    inl (
      hourly_arrivals units,
      [],
      record {
        short = cap_short (decimal (hourly_limit units)) (length-decimal-le 4 (hourly_limit units) (omega arith) (omega arith) fits);
        trimmed = cap_trimmed (decimal (hourly_limit units)) field some;
        values = codes "ARR" ∷ codes "60" ∷ codes "0600" ∷ codes "2200" ∷ codes "1234567" ∷ decimal (hourly_limit units) ∷ [];
        fields = cap_line_fields field_law digits_law units few;
        allowed = record { some_minutes = omega arith; at_most_a_day = omega arith; ordered = omega arith; in_day = omega arith; some_weekday = omega arith; week = omega arith; limit = omega arith };
        spelled = (
          codes "1234567",
          record { week = omega arith; spelled = inl refl },
          ap (λ (text : List ℕ). codes "ARR" ∷ text ∷ codes "0600" ∷ codes "2200" ∷ codes "1234567" ∷ decimal (hourly_limit units) ∷ []) (sym sixty),
        );
      },
      refl,
      refl,
    )

abbrev pub the_declaration : ℕ → Declaration
the_declaration units = record {
  airport = airport_abc;
  season = summer_2025;
  step = 5;
  flex = 30;
  ground = 40;
  share = 50;
  refuse = Some 60;
  night = None;
  rules = hourly_arrivals units ∷ [];
}

pub is_generated : (units : ℕ) → IsGeneratedDeclaration units (the_declaration units)
is_generated units = record { airport = refl; season = refl; step = refl; flex = refl; ground_time = refl; share = refl; refuse = refl; night = refl; rules = refl }

abbrev declares : FieldLaw → DigitsLaw → (units : ℕ) → units ≤ 4096 → Declares (generated_lines units) (the_declaration units)
declares field_law digits_law units few = record {
  airport = (
    1,
    record {
      line = codes "AIRPORT ABC";
      stands = refl;
      states = record { short = omega arith; trimmed = record { begins = refl; ends = refl }; values = codes "ABC" ∷ []; fields = airport_fields; allowed = ((omega arith, omega arith), (omega arith, omega arith), (omega arith, omega arith)); spelled = refl };
    },
  );
  season = (
    2,
    record {
      line = codes "SEASON S25";
      stands = refl;
      states = record { short = omega arith; trimmed = record { begins = refl; ends = refl }; values = codes "S25" ∷ []; fields = season_fields; allowed = omega arith; spelled = refl };
    },
  );
  step = (
    3,
    record {
      line = codes "STEP 5";
      stands = refl;
      states = record { short = omega arith; trimmed = record { begins = refl; ends = refl }; values = codes "5" ∷ []; fields = step_fields; allowed = refl; spelled = one_value _ _ five };
    },
  );
  flex = (
    4,
    record {
      line = codes "FLEX 30";
      stands = refl;
      states = record { short = omega arith; trimmed = record { begins = refl; ends = refl }; values = codes "30" ∷ []; fields = flex_fields; allowed = omega arith; spelled = one_value _ _ thirty };
    },
  );
  ground_time = (
    5,
    record {
      line = codes "GROUND 40";
      stands = refl;
      states = record { short = omega arith; trimmed = record { begins = refl; ends = refl }; values = codes "40" ∷ []; fields = ground_fields; allowed = omega arith; spelled = one_value _ _ forty };
    },
  );
  share = inr (
    (λ has. no_place (generated_lines units) heads has.1.0 has.1.1.line (codes "SHARE") has.1.1.states.values (lines_begin field_law digits_law units few) refl has.1.1.stands
        (has.1.1.states.fields ∙ ap (λ w. word_text w ∷ has.1.1.states.values) has.2)),
    refl,
  );
  refuse = (
    6,
    record {
      line = codes "REFUSE 60";
      stands = refl;
      states = record { short = omega arith; trimmed = record { begins = refl; ends = refl }; values = codes "60" ∷ []; fields = refuse_fields; allowed = allowed_price; spelled = one_value _ _ (sym sixty) };
    },
  );
  night = λ has. no_place (generated_lines units) heads has.1.0 has.1.1.line (codes "NIGHT") has.1.1.states.values (lines_begin field_law digits_law units few) refl has.1.1.stands
      (has.1.1.states.fields ∙ ap (λ w. word_text w ∷ has.1.1.states.values) has.2);
  rules = inr (
    (λ rule states. differ _ _ _ (codes "AIRPORT") (codes "CAP") airport_fields states.fields refl),
    inr (
      (λ rule states. differ _ _ _ (codes "SEASON") (codes "CAP") season_fields states.fields refl),
      inr (
        (λ rule states. differ _ _ _ (codes "STEP") (codes "CAP") step_fields states.fields refl),
        inr (
          (λ rule states. differ _ _ _ (codes "FLEX") (codes "CAP") flex_fields states.fields refl),
          inr (
            (λ rule states. differ _ _ _ (codes "GROUND") (codes "CAP") ground_fields states.fields refl),
            inr ((λ rule states. differ _ _ _ (codes "REFUSE") (codes "CAP") refuse_fields states.fields refl), cap_rules field_law digits_law units few),
          ),
        ),
      ),
    ),
  );
}

-- what a line states, the same line states
moved : {E : Type 0} (St : List ℕ → E → Type 0) (line other : List ℕ) (entry : E) → line ≡ other → ((e : E) → St other e → ⊥) → St line entry → ⊥
moved St line other entry same nothing states = nothing entry (subst (λ (l : List ℕ). St l entry) same states)

none_bad : FieldLaw → DigitsLaw → (units number : ℕ) → units ≤ 4096 → IsBad (generated_lines units) number → ⊥
none_bad field_law digits_law units zero few bad = let e = bad.stands in cc
none_bad field_law digits_law units (suc zero) few bad =
    let same : codes "AIRPORT ABC" ≡ bad.line = let e = bad.stands in cc in
    moved States _ bad.line _ same bad.nothing (declares field_law digits_law units few).airport.1.states
none_bad field_law digits_law units (suc (suc zero)) few bad =
    let same : codes "SEASON S25" ≡ bad.line = let e = bad.stands in cc in
    moved States _ bad.line _ same bad.nothing (declares field_law digits_law units few).season.1.states
none_bad field_law digits_law units (suc (suc (suc zero))) few bad =
    let same : codes "STEP 5" ≡ bad.line = let e = bad.stands in cc in
    moved States _ bad.line _ same bad.nothing (declares field_law digits_law units few).step.1.states
none_bad field_law digits_law units (suc (suc (suc (suc zero)))) few bad =
    let same : codes "FLEX 30" ≡ bad.line = let e = bad.stands in cc in
    moved States _ bad.line _ same bad.nothing (declares field_law digits_law units few).flex.1.states
none_bad field_law digits_law units (suc (suc (suc (suc (suc zero))))) few bad =
    let same : codes "GROUND 40" ≡ bad.line = let e = bad.stands in cc in
    moved States _ bad.line _ same bad.nothing (declares field_law digits_law units few).ground_time.1.states
none_bad field_law digits_law units (suc (suc (suc (suc (suc (suc zero)))))) few bad =
    let same : codes "REFUSE 60" ≡ bad.line = let e = bad.stands in cc in
    moved States _ bad.line _ same bad.nothing (declares field_law digits_law units few).refuse.1.states
none_bad field_law digits_law units (suc (suc (suc (suc (suc (suc (suc zero))))))) few bad =
    let same : cap_line units ≡ bad.line = let e = bad.stands in cc in
    elim (cap_rules field_law digits_law units few) [
      | inl stated ↦ moved States _ bad.line _ same bad.nothing stated.2
      | inr others ↦ absurd (let e = others.1 in cc)
    ]
none_bad field_law digits_law units (suc (suc (suc (suc (suc (suc (suc (suc n)))))))) few bad = let e = bad.stands in cc

clean : FieldLaw → DigitsLaw → (units : ℕ) → units ≤ 4096 → IsClean (generated_lines units)
clean field_law digits_law units few number (inl bad) = none_bad field_law digits_law units number few bad
clean field_law digits_law units few number (inr again) = none_again (generated_lines units) heads number (lines_begin field_law digits_law units few) refl again

windows : (units : ℕ) → declared_resources (capacity_of (the_declaration units)) ≤ 1000000
windows units = omega (arith, days)

makes : FieldLaw → DigitsLaw → (units : ℕ) → units ≤ 4096 → LinesDeclare (generated_lines units) (the_declaration units)
makes field_law digits_law units few = record {
  clean = clean field_law digits_law units few;
  declares = declares field_law digits_law units few;
  even = refl;
  limits = record { flex = omega arith; caps = omega arith; windows = windows units };
}

pub declared : LinesLaw → FieldLaw → DigitsLaw → (units : ℕ) → units ≤ 4096 → IsCapacityFile (generated_capacity units) (the_declaration units)
declared lines_law field_law digits_law units few =
    let low : hourly_limit units ≤ 68 = small units few in
    let last : IsLineText (cap_line units) = line_then (codes "CAP ARR 60 0600 2200 1234567 ") (decimal (hourly_limit units)) (is_line (codes "CAP ARR 60 0600 2200 1234567 ") refl) (digits_law (hourly_limit units) (omega arith)) in
    let texts : AreLineTexts (generated_lines units) = (
      is_line (codes "AIRPORT ABC") refl,
      (
        is_line (codes "SEASON S25") refl,
        (
          is_line (codes "STEP 5") refl,
          (
            is_line (codes "FLEX 30") refl,
            (
              is_line (codes "GROUND 40") refl,
              (is_line (codes "REFUSE 60") refl, (last, tt)),
            ),
          ),
        ),
      ),
    ) in
    subst (λ (lines : List (List ℕ)). LinesDeclare lines (the_declaration units)) (sym (lines_back lines_law (generated_lines units) texts)) (makes field_law digits_law units few)
