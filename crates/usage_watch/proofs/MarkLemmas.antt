-- Marks of flights: the same flights, and one more period or report.
use Rattle.std.proofs.Common.{◌≡◌, ℕ, ◌+◌, ◌<◌, ◌==◌, ◌&&◌, ◌||◌, Bool, true, false, cond, List, [], ◌∷◌, ◌++◌, length, take, get_or, refl, sym, ap, ◌∙◌, subst, arith, add-one, inl, inr}
use Rattle.std.specs.Prelude.{IsTrue, ◌↔◌, Option, Some, Vec}
use Rattle.std.specs.List.{list_any}
use Rattle.std.proofs.lemmas.List.Folds.{list_any-append}
use Rattle.std.proofs.Math.Seq.{take-suc, get_or-append_seam}
use Rattle.std.proofs.Math.ListN.{get_or-append}
use Rattle.std.proofs.lemmas.Bool.{cases_lt}
use borrow.Author.Tests.{eqb-true}
use Rattle.series_model.specs.Submissions.{are_letters}
use Rattle.season_days.specs.Term.{Term}
use Rattle.season_days.specs.Periods.{is_date_of}
use Rattle.season_days.specs.declared.declaration.Kind.{Kind}
use Rattle.season_days.specs.declared.season.TheConstants.{MOST_DATES}
use Rattle.scr_reader.specs.declared.line.Flight.{Flight}
use Rattle.holding_book.specs.Lines.{is_flight}
use Rattle.usage_watch.specs.declared.operated.Operated.{Operated}
use Rattle.usage_watch.specs.declared.marks.FlightDays.{FlightDays}
use Rattle.usage_watch.specs.Precedence.{is_kind, reports_on, is_reported}
use Rattle.usage_watch.specs.Private.Marks.{days_or_none, is_marked, AreMarked}

-- ---- flights that are the same

both_true : (a b : Bool) → (a && b) ≡ true → (a ≡ true) × (b ≡ true)
both_true true true e = (refl, refl)
both_true true false e = cc
both_true false b e = cc

letters-true : (one other : List ℕ) → are_letters one other ≡ true → one ≡ other
letters-true [] [] e = refl
letters-true [] (y ∷ ys) e = cc
letters-true (x ∷ xs) [] e = cc
letters-true (x ∷ xs) (y ∷ ys) e =
    let h = both_true (x == y) (are_letters xs ys) e in
    let head : x ≡ y = eqb-true x y h.0 in
    let tail : xs ≡ ys = letters-true xs ys h.1 in
    cc

one_flight : (a b : List ℕ) (n m s t : ℕ) → a ≡ b → n ≡ m → s ≡ t → let one : Flight = record { airline = a; number = n; suffix = s } in let other : Flight = record { airline = b; number = m; suffix = t } in one ≡ other
one_flight a b n m s t e f g = cc

same_flight : (one other : Flight) → is_flight one other ≡ true → one ≡ other
same_flight one other e =
    let h = both_true (are_letters one.airline other.airline) (one.number == other.number && one.suffix == other.suffix) e in
    let k = both_true (one.number == other.number) (one.suffix == other.suffix) h.1 in
    one_flight one.airline other.airline one.number other.number one.suffix other.suffix (letters-true one.airline other.airline h.0) (eqb-true one.number other.number k.0) (eqb-true one.suffix other.suffix k.1)

-- ---- a list for one flight

or_false : (b : Bool) → (b || false) ≡ b
or_false true = refl
or_false false = refl

-- the marks of all flights, where those of one are these
pub marks_put : {A : Type 0} (flight other : Flight) (day : ℕ) (days : Vec Bool A) (old : Flight → Option (Vec Bool A)) (date : Bool)
    → get_or days.items day false ≡ (get_or (days_or_none (old flight)) day false || date)
    → get_or (days_or_none (cond (is_flight flight other) (Some days) (old other))) day false ≡ (get_or (days_or_none (old other)) day false || (is_flight flight other && date))
marks_put {A} flight other day days old date put =
    elim (is_flight flight other) as (λ b. is_flight flight other ≡ b → get_or (days_or_none (cond b (Some days) (old other))) day false ≡ (get_or (days_or_none (old other)) day false || (b && date))) [
      | true ↦ λ e. put ∙ ap (λ (f : Flight). get_or (days_or_none (old f)) day false || date) (same_flight flight other e)
      | false ↦ λ e. sym (or_false (get_or (days_or_none (old other)) day false))
    ] refl

-- ---- one more report

-- of the kind
pub marked_more : (season : Term) (reports : List Operated) (kind : Kind) (report : Operated) (before after : FlightDays) → is_kind kind report.kind ≡ true
    → ((other : Flight) (day : ℕ) → day < MOST_DATES → is_marked after other day ≡ (is_marked before other day || (is_flight report.flight other && is_date_of season report.period day)))
    → AreMarked season reports kind before → AreMarked season (reports ++ report ∷ []) kind after
marked_more season reports kind report before after own put are = λ flight day lt.
    let date = is_flight report.flight flight && is_date_of season report.period day in
    let one : list_any (reports_on season kind flight day) (report ∷ []) ≡ date = ap (λ (b : Bool). (b && date) || false) own ∙ or_false date in
    put flight day lt
    ∙ ap (λ (b : Bool). b || date) (are flight day lt)
    ∙ ap (λ (b : Bool). is_reported season reports kind flight day || b) (sym one)
    ∙ sym (list_any-append (reports_on season kind flight day) reports (report ∷ []))

-- of another kind
pub marked_same : (season : Term) (reports : List Operated) (kind : Kind) (report : Operated) (before : FlightDays) → is_kind kind report.kind ≡ false
    → AreMarked season reports kind before → AreMarked season (reports ++ report ∷ []) kind before
marked_same season reports kind report before own are = λ flight day lt.
    let date = is_flight report.flight flight && is_date_of season report.period day in
    let one : list_any (reports_on season kind flight day) (report ∷ []) ≡ false = ap (λ (b : Bool). (b && date) || false) own in
    are flight day lt
    ∙ sym (or_false (is_reported season reports kind flight day))
    ∙ ap (λ (b : Bool). is_reported season reports kind flight day || b) (sym one)
    ∙ sym (list_any-append (reports_on season kind flight day) reports (report ∷ []))

pub reports_more : (P : List Operated → Type 0) (xs : List Operated) (n : ℕ) (d : Operated) → n < length xs → P (take n xs ++ get_or xs n d ∷ []) → P (take (n + 1) xs)
reports_more P xs n d lt p = subst P (sym (ap (λ (k : ℕ). take k xs) (add-one n) ∙ take-suc xs n d lt)) p

-- ---- tests

pub same_test : {P : Type 0} (a b : Bool) → (IsTrue a ↔ P) → ((b ≡ true) ↔ P) → a ≡ b
same_test true true f g = refl
same_test true false f g = sym (g.1 (f.0 refl))
same_test false true f g = f.1 (g.0 refl)
same_test false false f g = refl

-- ---- one more mark

pub mark_more : (marks : List Bool) (n : ℕ) (b : Bool) (f : ℕ → Bool) → length marks ≡ n → b ≡ f n → ((day : ℕ) → day < n → get_or marks day false ≡ f day) → (day : ℕ) → day < n + 1 → get_or (marks ++ b ∷ []) day false ≡ f day
mark_more marks n b f count is so_far = λ day lt.
    elim (cases_lt day n) [
      | inl low ↦ get_or-append marks (b ∷ []) false day (let m : day < length marks = omega (arith, low, count) in m) ∙ so_far day low
      | inr high ↦
          let e : day ≡ length marks = omega (arith, lt, high, count) in
          ap (λ (k : ℕ). get_or (marks ++ b ∷ []) k false) e ∙ get_or-append_seam marks b [] false ∙ is ∙ ap f (sym (e ∙ count))
    ]
