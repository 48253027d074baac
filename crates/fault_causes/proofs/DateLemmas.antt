-- Dates: their spelling is that of one date, and what is wrong with two.
use Rattle.std.proofs.Common.{◌≡◌, ℕ, zero, suc, ◌+◌, ◌/◌, ◌%◌, ◌<◌, ◌≤◌, eqb, List, ◌++◌, length, length-append, take, drop, refl, sym, ap, subst, ◌∙◌, arith, inl, inr}
use Rattle.std.specs.Prelude.{Result, Ok, Err, slice_index_or, if◌then◌else◌}
use Rattle.std.proofs.lemmas.List.{take_at, drop_at, take-append-drop}
use Rattle.schedule_text.specs.Times.{two_digits}
use Rattle.season_days.specs.Term.{Term}
use Rattle.season_days.specs.Seasons.{NamesDate, IsDayNamed, IsDayOfFault, IsOutside, number_named}
use Rattle.season_days.specs.declared.day.Day.{Day}
use Rattle.season_days.specs.declared.day.DayFault.{DayFault}
use Rattle.season_days.specs.declared.day.DayFault.TheVariants.{NoSuchDate, OutsideSeason, Reversed, NoDates, Memory}
use Rattle.scr_reader.specs.Parts.{month_text, date_text}
use Rattle.fault_causes.specs.Requests.{HasDateForm, HaveDatesForm, IsRealDate, IsInSeason, IsDatesFlaw, IsPeriodFlaw}
use Rattle.fault_causes.specs.Standings.{dated_fault, IsDated}
use Rattle.fault_causes.specs.declared.cause.Flaw.{Flaw}
use Rattle.fault_causes.specs.declared.cause.Flaw.TheVariants as flaws

-- ---- one spelling

same_number : (m n : ℕ) → m < 100 → n < 100 → two_digits m ≡ two_digits n → m ≡ n
same_number m n a b e =
    let tens : 48 + m / 10 % 10 ≡ 48 + n / 10 % 10 = ap (λ (l : List ℕ). slice_index_or l 0 0) e in
    let ones : 48 + m % 10 ≡ 48 + n % 10 = ap (λ (l : List ℕ). slice_index_or l 1 0) e in
    omega (arith, tens, ones)

-- the second and the third letter tell the names of months apart
key : List ℕ → ℕ
key text = slice_index_or text 1 0 + slice_index_or text 2 0

month_of : ℕ → ℕ
month_of k =
    if eqb k 143 then 1
    else (if eqb k 135 then 2
    else (if eqb k 147 then 3
    else (if eqb k 162 then 4
    else (if eqb k 154 then 5
    else (if eqb k 163 then 6
    else (if eqb k 161 then 7
    else (if eqb k 156 then 8
    else (if eqb k 149 then 9
    else (if eqb k 151 then 10
    else (if eqb k 165 then 11
    else 12))))))))))

record IsMonthName (month : ℕ) : Type 0 where
  again : month_of (key (month_text month)) ≡ month
  long : length (month_text month) ≡ 3

month_name : (month : ℕ) → 1 ≤ month → month ≤ 12 → IsMonthName month
unfolding key month_of
month_name zero from to = absurd (omega (arith, from))
month_name (suc zero) from to = record { again = refl; long = refl }
month_name (suc (suc zero)) from to = record { again = refl; long = refl }
month_name (suc (suc (suc zero))) from to = record { again = refl; long = refl }
month_name (suc (suc (suc (suc zero)))) from to = record { again = refl; long = refl }
month_name (suc (suc (suc (suc (suc zero))))) from to = record { again = refl; long = refl }
month_name (suc (suc (suc (suc (suc (suc zero)))))) from to = record { again = refl; long = refl }
month_name (suc (suc (suc (suc (suc (suc (suc zero))))))) from to = record { again = refl; long = refl }
month_name (suc (suc (suc (suc (suc (suc (suc (suc zero)))))))) from to = record { again = refl; long = refl }
month_name (suc (suc (suc (suc (suc (suc (suc (suc (suc zero))))))))) from to = record { again = refl; long = refl }
month_name (suc (suc (suc (suc (suc (suc (suc (suc (suc (suc zero)))))))))) from to = record { again = refl; long = refl }
month_name (suc (suc (suc (suc (suc (suc (suc (suc (suc (suc (suc zero))))))))))) from to = record { again = refl; long = refl }
month_name (suc (suc (suc (suc (suc (suc (suc (suc (suc (suc (suc (suc zero)))))))))))) from to = record { again = refl; long = refl }
month_name (suc (suc (suc (suc (suc (suc (suc (suc (suc (suc (suc (suc (suc m))))))))))))) from to = absurd (omega (arith, to))

same_month : (m n : ℕ) → IsMonthName m → IsMonthName n → month_text m ≡ month_text n → m ≡ n
same_month m n a b e = sym a.again ∙ ap (λ (text : List ℕ). month_of (key text)) e ∙ b.again

date_long : (text : List ℕ) (date : ℕ × ℕ) → HasDateForm text date → length text ≡ 5
date_long text date is =
    omega (arith, ap length is.3, length-append (two_digits date.1) (month_text date.0), (month_name date.0 is.0 is.1).long)

same_pair : (a b : ℕ × ℕ) → a.0 ≡ b.0 → a.1 ≡ b.1 → a ≡ b
same_pair (x, y) (v, w) e f = rw (e, f) refl

pub one_date : (text : List ℕ) (a b : ℕ × ℕ) → HasDateForm text a → HasDateForm text b → a ≡ b
one_date text a b x y =
    let whole : date_text a.0 a.1 ≡ date_text b.0 b.1 = sym x.3 ∙ y.3 in
    let days : two_digits a.1 ≡ two_digits b.1 = ap (take 2) whole in
    let months : month_text a.0 ≡ month_text b.0 = ap (drop 2) whole in
    same_pair a b (same_month a.0 b.0 (month_name a.0 x.0 x.1) (month_name b.0 y.0 y.1) months) (same_number a.1 b.1 x.2 y.2 days)

-- ---- one date or two

-- two dates are those of the first five bytes and of the others
pub record AreHalves (text : List ℕ) (first last : ℕ × ℕ) : Type 0 where
  pub front : HasDateForm (take 5 text) first
  pub back : HasDateForm (drop 5 text) last

pub halves : (text : List ℕ) (first last : ℕ × ℕ) → (front back : List ℕ) × HasDateForm front first × HasDateForm back last × (text ≡ front ++ back) → AreHalves text first last
halves text first last (front, back, x, y, e) =
    let long = date_long front first x in
    let a : take 5 text ≡ front = ap (take 5) e ∙ take_at front back 5 long in
    let b : drop 5 text ≡ back = ap (drop 5) e ∙ drop_at front back 5 long in
    record {
      front = subst (λ (t : List ℕ). HasDateForm t first) (sym a) x;
      back = subst (λ (t : List ℕ). HasDateForm t last) (sym b) y;
    }

two_long : (text : List ℕ) (first last : ℕ × ℕ) → (front back : List ℕ) × HasDateForm front first × HasDateForm back last × (text ≡ front ++ back) → length text ≡ 10
two_long text first last (front, back, x, y, e) = omega (arith, ap length e, length-append front back, date_long front first x, date_long back last y)

-- of more than five bytes there are two
pub of_many : (text : List ℕ) (first last : ℕ × ℕ) → 5 < length text → HaveDatesForm text first last → AreHalves text first last
of_many text first last many (inl one) = absurd (omega (arith, many, date_long text first one.0))
of_many text first last many (inr two) = halves text first last two

record Same (a b x y : ℕ × ℕ) : Type 0 where
  first : a ≡ x
  last : b ≡ y

one_reading : (text : List ℕ) (a b x y : ℕ × ℕ) → HaveDatesForm text a b → HaveDatesForm text x y → Same a b x y
one_reading text a b x y (inl one) (inl other) =
    let first = one_date text a x one.0 other.0 in
    record { first = first; last = one.1 ∙ first ∙ sym other.1 }
one_reading text a b x y (inl one) (inr other) = absurd (omega (arith, date_long text a one.0, two_long text x y other))
one_reading text a b x y (inr one) (inl other) = absurd (omega (arith, date_long text x other.0, two_long text a b one))
one_reading text a b x y (inr one) (inr other) =
    let p = halves text a b one in
    let q = halves text x y other in
    record { first = one_date (take 5 text) a x p.front q.front; last = one_date (drop 5 text) b y p.back q.back }

-- ---- what is wrong with them

in_season_real : (season : Term) (date : ℕ × ℕ) → IsInSeason season date → IsRealDate season date
in_season_real season date is = is.1.0

one_dates_flaw : (season : Term) (first last : ℕ × ℕ) (a b : Flaw) → IsDatesFlaw season first last a → IsDatesFlaw season first last b → a ≡ b
one_dates_flaw season first last flaws.Date flaws.Date x y = refl
one_dates_flaw season first last flaws.Date flaws.Outside x y = absurd (x (y.0, y.1))
one_dates_flaw season first last flaws.Date flaws.Reversed x y = absurd (x (in_season_real season first y.0, in_season_real season last y.1))
one_dates_flaw season first last flaws.Outside flaws.Date x y = absurd (y (x.0, x.1))
one_dates_flaw season first last flaws.Outside flaws.Outside x y = refl
one_dates_flaw season first last flaws.Outside flaws.Reversed x y = absurd (x.2 y)
one_dates_flaw season first last flaws.Reversed flaws.Date x y = absurd (y (in_season_real season first x.0, in_season_real season last x.1))
one_dates_flaw season first last flaws.Reversed flaws.Outside x y = absurd (y.2 x)
one_dates_flaw season first last flaws.Reversed flaws.Reversed x y = refl
one_dates_flaw season first last flaws.Form b x y = absurd x
one_dates_flaw season first last flaws.Missing b x y = absurd x
one_dates_flaw season first last flaws.Before b x y = absurd x
one_dates_flaw season first last flaws.Same b x y = absurd x
one_dates_flaw season first last flaws.Empty b x y = absurd x
one_dates_flaw season first last flaws.Date flaws.Form x y = absurd y
one_dates_flaw season first last flaws.Date flaws.Missing x y = absurd y
one_dates_flaw season first last flaws.Date flaws.Before x y = absurd y
one_dates_flaw season first last flaws.Date flaws.Same x y = absurd y
one_dates_flaw season first last flaws.Date flaws.Empty x y = absurd y
one_dates_flaw season first last flaws.Outside flaws.Form x y = absurd y
one_dates_flaw season first last flaws.Outside flaws.Missing x y = absurd y
one_dates_flaw season first last flaws.Outside flaws.Before x y = absurd y
one_dates_flaw season first last flaws.Outside flaws.Same x y = absurd y
one_dates_flaw season first last flaws.Outside flaws.Empty x y = absurd y
one_dates_flaw season first last flaws.Reversed flaws.Form x y = absurd y
one_dates_flaw season first last flaws.Reversed flaws.Missing x y = absurd y
one_dates_flaw season first last flaws.Reversed flaws.Before x y = absurd y
one_dates_flaw season first last flaws.Reversed flaws.Same x y = absurd y
one_dates_flaw season first last flaws.Reversed flaws.Empty x y = absurd y

pub one_period_flaw : (season : Term) (text : List ℕ) (a b : Flaw) → IsPeriodFlaw season text a → IsPeriodFlaw season text b → a ≡ b
one_period_flaw season text a b (inl x) (inl y) = x.0 ∙ sym y.0
one_period_flaw season text a b (inl x) (inr (first, last, form, flaw)) = absurd (x.1 first last form)
one_period_flaw season text a b (inr (first, last, form, flaw)) (inl y) = absurd (y.1 first last form)
one_period_flaw season text a b (inr (v, w, form, flaw)) (inr (x, y, other, has)) =
    let same = one_reading text v w x y form other in
    one_dates_flaw season v w a b flaw
    (subst (λ (d : ℕ × ℕ). IsDatesFlaw season d w b) (sym same.first) (subst (λ (d : ℕ × ℕ). IsDatesFlaw season x d b) (sym same.last) has))

-- ---- what was read

pub date_form : (text front back : List ℕ) (month day : ℕ) → front ≡ take 2 text → back ≡ drop 2 text → (day < 100) × (front ≡ two_digits day) → (1 ≤ month) × (month ≤ 12) × (back ≡ month_text month) → HasDateForm text (month, day)
date_form text front back month day f b digits name =
    (name.0, name.1, digits.0, sym (take-append-drop 2 text) ∙ rw (← f, ← b, digits.1, name.2) refl)

pub fault_dated : (season : Term) (month day : ℕ) (r : Result Day DayFault) (e : DayFault) → r ≡ Err e → IsDayOfFault e → (r ≡ Err NoSuchDate → NamesDate season month day → ⊥)
    → (r ≡ Err OutsideSeason → NamesDate season month day × IsOutside season (number_named season month day)) → ((found : ℕ) → IsDayNamed season month day found → r ≡ Ok (record { 0 = found })) → IsDated season (month, day) (dated_fault e)
fault_dated season month day r NoSuchDate is of none outside only = none is
fault_dated season month day r OutsideSeason is of none outside only = ((outside is).0, λ (found, named). absurd (let ok = only found named in cc))
fault_dated season month day r Reversed is of none outside only = absurd of
fault_dated season month day r NoDates is of none outside only = absurd of
fault_dated season month day r Memory is of none outside only = absurd of
