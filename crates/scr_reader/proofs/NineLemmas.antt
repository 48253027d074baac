-- The first nine fields decide, a line that agrees has no faulty field, and there is one first
-- faulty field.
use Rattle.std.proofs.Common.{◌≡◌, ℕ, zero, suc, ◌-◌, ◌<◌, ◌≤◌, List, [], ◌∷◌, length, take, refl, sym, ap, subst, ◌∙◌, arith, inl, inr}
use Rattle.std.proofs.lemmas.List.{length-take}
use Rattle.season_days.specs.Term.{Term}
use Rattle.scr_reader.specs.declared.line.Line.{Line}
use Rattle.scr_reader.specs.declared.line.Flight.{Flight}
use Rattle.scr_reader.specs.Shapes.{Shape, Part, arrival, departure, turnaround, parts_of, shape_of, Agree, AgreesUpTo, HasShape, IsLine, IsFaultyField, part_count}
use Rattle.scr_reader.specs.Rows.{is_question, IsQuestion, IsFaultyQuestion}

-- ---- how many parts agree

pub agree_less : (season : Term) (line : Line) (k m : ℕ) (parts : List Part) (fields : List (List ℕ)) → k ≤ m → Agree season (take m parts) fields line → Agree season (take k parts) fields line
agree_less season line zero m parts fields le agree = tt
agree_less season line (suc k) zero parts fields le agree = absurd (omega (arith, le))
agree_less season line (suc k) (suc m) [] fields le agree = tt
agree_less season line (suc k) (suc m) (p ∷ parts) [] le agree = absurd agree
agree_less season line (suc k) (suc m) (p ∷ parts) (text ∷ fields) le agree = (agree.0, agree_less season line k m parts fields (omega (arith, le)) agree.1)

pub agree_all : (season : Term) (line : Line) (k m : ℕ) (parts : List Part) (fields : List (List ℕ)) → length parts ≤ m → Agree season (take m parts) fields line → Agree season (take k parts) fields line
agree_all season line zero m parts fields le agree = tt
agree_all season line (suc k) m [] fields le agree = tt
agree_all season line (suc k) zero (p ∷ parts) fields le agree = absurd (omega (arith, le))
agree_all season line (suc k) (suc m) (p ∷ parts) [] le agree = absurd agree
agree_all season line (suc k) (suc m) (p ∷ parts) (text ∷ fields) le agree = (agree.0, agree_all season line k m parts fields (omega (arith, le)) agree.1)

-- ---- faulty fields

pub faulty_no_line : (season : Term) (fields : List (List ℕ)) (k : ℕ) (line : Line) → IsFaultyField season fields k → IsLine season fields line → ⊥
faulty_no_line season fields k line faulty is =
    let agrees : AgreesUpTo season fields k line = record { shape = is.agrees.shape; said = agree_all season line k (part_count fields) (parts_of (shape_of fields)) fields (omega arith) is.agrees.said } in
    omega (arith, (faulty.at line agrees).1, is.count)

faulty_before : (season : Term) (fields : List (List ℕ)) (a b : ℕ) → IsFaultyField season fields a → IsFaultyField season fields b → a < b → ⊥
faulty_before season fields a b fa fb lt =
    let parts = parts_of (shape_of fields) in
    let first : AgreesUpTo season fields a fb.good = record { shape = fb.before.shape; said = agree_less season fb.good a (b - 1) parts fields (omega (arith, lt)) fb.before.said } in
    let last = (fa.at fb.good first).0 in
    let all : AgreesUpTo season fields b fb.good = record { shape = fb.before.shape; said = agree_all season fb.good b (b - 1) parts fields (omega (arith, lt, last)) fb.before.said } in
    omega (arith, lt, last, (fb.at fb.good all).0)

by_order : (a b : ℕ) → ¬ (a < b) → ¬ (b < a) → a ≡ b
by_order a b x y = omega (arith, x, y)

pub faulty_once : (season : Term) (fields : List (List ℕ)) (a b : ℕ) → IsFaultyField season fields a → IsFaultyField season fields b → a ≡ b
faulty_once season fields a b fa fb =
    let not_before : ¬ (a < b) = faulty_before season fields a b fa fb in
    let not_after : ¬ (b < a) = faulty_before season fields b a fb fa in
    by_order a b not_before not_after

-- ---- the first nine fields

pub same_shape : (fields : List (List ℕ)) → shape_of (take 9 fields) ≡ shape_of fields
same_shape [] = refl
same_shape (a ∷ []) = refl
same_shape (a ∷ b ∷ fields) = refl

parts_few : (shape : Shape) → length (parts_of shape) < 9
parts_few arrival = omega arith
parts_few departure = omega arith
parts_few turnaround = omega arith

pub agree_whole : (season : Term) (line : Line) (m : ℕ) (parts : List Part) (fields : List (List ℕ)) → Agree season parts (take m fields) line → Agree season parts fields line
agree_whole season line m [] fields agree = tt
agree_whole season line zero (p ∷ parts) fields agree = absurd agree
agree_whole season line (suc m) (p ∷ parts) [] agree = absurd agree
agree_whole season line (suc m) (p ∷ parts) (text ∷ fields) agree = (agree.0, agree_whole season line m parts fields agree.1)

pub agree_cut : (season : Term) (line : Line) (m : ℕ) (parts : List Part) (fields : List (List ℕ)) → length parts ≤ m → Agree season parts fields line → Agree season parts (take m fields) line
agree_cut season line m [] fields le agree = tt
agree_cut season line zero (p ∷ parts) fields le agree = absurd (omega (arith, le))
agree_cut season line (suc m) (p ∷ parts) [] le agree = absurd agree
agree_cut season line (suc m) (p ∷ parts) (text ∷ fields) le agree = (agree.0, agree_cut season line m parts fields (omega (arith, le)) agree.1)

upto_whole : (season : Term) (fields : List (List ℕ)) (k : ℕ) (line : Line) → AgreesUpTo season (take 9 fields) k line → AgreesUpTo season fields k line
upto_whole season fields k line agrees =
    record {
      shape = subst (λ (s : Shape). HasShape s line) (same_shape fields) agrees.shape;
      said = agree_whole season line 9 (take k (parts_of (shape_of fields))) fields (subst (λ (s : Shape). Agree season (take k (parts_of s)) (take 9 fields) line) (same_shape fields) agrees.said);
    }

upto_cut : (season : Term) (fields : List (List ℕ)) (k : ℕ) (line : Line) → AgreesUpTo season fields k line → AgreesUpTo season (take 9 fields) k line
upto_cut season fields k line agrees =
    let back = sym (same_shape fields) in
    let few : length (take k (parts_of (shape_of fields))) ≤ 9 = omega (arith, length-take k (parts_of (shape_of fields)), parts_few (shape_of fields)) in
    record {
      shape = subst (λ (s : Shape). HasShape s line) back agrees.shape;
      said = subst (λ (s : Shape). Agree season (take k (parts_of s)) (take 9 fields) line) back (agree_cut season line 9 (take k (parts_of (shape_of fields))) fields few agrees.said);
    }

same_count : (fields : List (List ℕ)) → part_count (take 9 fields) ≡ part_count fields
same_count fields = ap (λ (s : Shape). length (parts_of s)) (same_shape fields)

pub line_whole : (season : Term) (fields : List (List ℕ)) (line : Line) → IsLine season (take 9 fields) line → IsLine season fields line
line_whole season fields line is =
    let count = same_count fields in
    record {
      agrees = subst (λ (n : ℕ). AgreesUpTo season fields n line) count (upto_whole season fields (part_count (take 9 fields)) line is.agrees);
      count = omega (arith, is.count, count, length-take 9 fields, parts_few (shape_of fields));
    }

pub line_cut : (season : Term) (fields : List (List ℕ)) (line : Line) → IsLine season fields line → IsLine season (take 9 fields) line
line_cut season fields line is =
    let count = same_count fields in
    record {
      agrees = subst (λ (n : ℕ). AgreesUpTo season (take 9 fields) n line) (sym count) (upto_cut season fields (part_count fields) line is.agrees);
      count = omega (arith, is.count, count, length-take 9 fields, parts_few (shape_of fields));
    }

pub faulty_whole : (season : Term) (fields : List (List ℕ)) (k : ℕ) → IsFaultyField season (take 9 fields) k → IsFaultyField season fields k
faulty_whole season fields k faulty =
    let count = same_count fields in
    record {
      good = faulty.good;
      before = upto_whole season fields (k - 1) faulty.good faulty.before;
      at = λ line agrees.
          let both = faulty.at line (upto_cut season fields k line agrees) in
          (omega (arith, both.0, count), omega (arith, both.1, count, length-take 9 fields));
    }

pub same_asks : (fields : List (List ℕ)) → is_question (take 9 fields) ≡ is_question fields
same_asks [] = refl
same_asks (a ∷ fields) = refl

cut_nothing : (m : ℕ) (fields : List (List ℕ)) → 1 ≤ m → take m fields ≡ [] → fields ≡ []
cut_nothing m [] some none = refl
cut_nothing zero (a ∷ fields) some none = absurd (omega (arith, some))
cut_nothing (suc m) (a ∷ fields) some none = absurd (let e = ap (λ (l : List (List ℕ)). length l) none in omega (arith, e))

pub question_whole : (fields : List (List ℕ)) (flight : Flight) → IsQuestion (take 9 fields) flight → IsQuestion fields flight
question_whole [] flight is = is
question_whole (a ∷ fields) flight is = (is.0, cut_nothing 8 fields (omega arith) is.1)

pub question_cut : (fields : List (List ℕ)) (flight : Flight) → IsQuestion fields flight → IsQuestion (take 9 fields) flight
question_cut [] flight is = is
question_cut (a ∷ fields) flight is = (is.0, ap (take 8) is.1)

pub faulty_question_whole : (fields : List (List ℕ)) (k : ℕ) → IsFaultyQuestion (take 9 fields) k → IsFaultyQuestion fields k
faulty_question_whole [] k is = is
faulty_question_whole (a ∷ fields) k (inl none) = inl none
faulty_question_whole (a ∷ fields) k (inr more) = inr (more.0, (λ none. more.1 (ap (take 8) none)), more.2, more.3)

pub faulty_no_question : (fields : List (List ℕ)) (k : ℕ) (flight : Flight) → IsFaultyQuestion fields k → IsQuestion fields flight → ⊥
faulty_no_question [] k flight is asked = asked
faulty_no_question (a ∷ fields) k flight (inl none) asked = none.1 flight asked.0
faulty_no_question (a ∷ fields) k flight (inr more) asked = more.1 asked.1

pub faulty_question_once : (fields : List (List ℕ)) (a b : ℕ) → IsFaultyQuestion fields a → IsFaultyQuestion fields b → a ≡ b
faulty_question_once [] a b fa fb = absurd fa
faulty_question_once (f ∷ fields) a b (inl x) (inl y) = x.0 ∙ sym y.0
faulty_question_once (f ∷ fields) a b (inl x) (inr y) = absurd (x.1 y.2 y.3)
faulty_question_once (f ∷ fields) a b (inr x) (inl y) = absurd (y.1 x.2 x.3)
faulty_question_once (f ∷ fields) a b (inr x) (inr y) = x.0 ∙ sym y.0
