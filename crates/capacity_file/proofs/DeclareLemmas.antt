-- A clean text makes one declaration, whose values are allowed.
use Rattle.std.proofs.Common.{◌≡◌, ◌⊎◌, ℕ, zero, suc, ◌<◌, ◌≤◌, true, List, [], ◌∷◌, Option, Some, None, refl, sym, ap, ◌∙◌, arith, inl, inr}
use Rattle.std.specs.Prelude.{All, MatchOption}
use Rattle.std.specs.Option.{ForSome}
use Rattle.std.proofs.lemmas.Bool.Decides.{nat_tests}
use Rattle.std.proofs.lemmas.Option.{same_Some}
use Rattle.slot_text.specs.declared.station.Station.{Station}
use Rattle.season_days.specs.Term.{Term}
use Rattle.season_days.specs.Capacity.{capacity_of, IsCapacity, IsDeclaration, IsRule}
use Rattle.season_days.specs.declared.declaration.TheConstants.{HIGHEST_REFUSAL_PRICE}
use Rattle.season_days.specs.declared.declaration.Declaration.{Declaration}
use Rattle.season_days.specs.declared.declaration.Night.{Night}
use Rattle.season_days.specs.declared.declaration.Rule.{Rule}
use Rattle.capacity_file.specs.Values.{is_step, IsNight, IsRefusalPrice, IsCapacityLine}
use Rattle.capacity_file.specs.Entries.{IsAllowedEntry}
use Rattle.capacity_file.specs.Lines.{IsStated, LacksWord, IsClean}
use Rattle.capacity_file.specs.Declares.{AreRules, Declares, LinesDeclare, HasAllowedValues}
use Rattle.capacity_file.specs.declared.entry.Entry.{Entry}
use Rattle.capacity_file.specs.declared.entry.Entry.TheVariants.{Airport, Season, Step, Flex, Ground, Share, Refuse, Night as night_entry, Cap}
use Rattle.capacity_file.specs.declared.entry.Word.TheVariants.{Share as share_word, Night as night_word}
use Rattle.capacity_file.proofs.SameLemmas.{OneValue, states_same}
use Rattle.capacity_file.proofs.LinesLemmas.{once}

-- ---- one declaration

rules_same : (one : OneValue) → (lines : List (List ℕ)) (a b : List Rule) → AreRules lines a → AreRules lines b → a ≡ b
rules_same one [] a b x y = x ∙ sym y
rules_same one (line ∷ lines) a b x y =
    elim (x) [
      | inl p ↦ elim (y) [
        | inl q ↦
            let same : p.0 ≡ q.0 = let entry = states_same one line (Cap p.0) (Cap q.0) p.2 q.2 in cc in
            let rest : p.1 ≡ q.1 = rules_same one lines p.1 q.1 p.4 q.4 in
            let whole : p.0 ∷ p.1 ≡ q.0 ∷ q.1 = rw (same, rest) refl in p.3 ∙ whole ∙ sym q.3
        | inr none ↦ absurd (none.0 p.0 p.2)
      ]
      | inr none ↦ elim (y) [
        | inl q ↦ absurd (none.0 q.0 q.2)
        | inr other ↦ rules_same one lines a b none.1 other.1
      ]
    ]

share_same : (one : OneValue) → (lines : List (List ℕ)) (a b : ℕ) → IsClean lines → (IsStated lines (Share a)) ⊎ (LacksWord lines share_word × (a ≡ 50)) → (IsStated lines (Share b)) ⊎ (LacksWord lines share_word × (b ≡ 50)) → a ≡ b
share_same one lines a b clean x y =
    elim (x) [
      | inl p ↦ elim (y) [
        | inl q ↦ let entry = once one lines (Share a) (Share b) clean p q refl (λ e. cc) in cc
        | inr none ↦ absurd (none.0 (Share a, p, refl))
      ]
      | inr none ↦ elim (y) [
        | inl q ↦ absurd (none.0 (Share b, q, refl))
        | inr other ↦ none.1 ∙ sym other.1
      ]
    ]

night_same : (one : OneValue) → (lines : List (List ℕ)) (a b : Option Night) → IsClean lines → MatchOption a (LacksWord lines night_word) (λ n. IsStated lines (night_entry n)) → MatchOption b (LacksWord lines night_word) (λ n. IsStated lines (night_entry n)) → a ≡ b
night_same one lines None None clean x y = refl
night_same one lines None (Some b) clean x y = absurd (x (night_entry b, y, refl))
night_same one lines (Some a) None clean x y = absurd (y (night_entry a, x, refl))
night_same one lines (Some a) (Some b) clean x y =
    let entry = once one lines (night_entry a) (night_entry b) clean x y refl (λ e. cc) in
    let same : a ≡ b = cc in ap (λ (n : Night). let o : Option Night = Some n in o) same

make : Station → Term → ℕ → ℕ → ℕ → ℕ → Option ℕ → Option Night → List Rule → Declaration
make airport season step flex minutes share refuse night rules =
    record { airport = airport; season = season; step = step; flex = flex; ground = minutes; share = share; refuse = refuse; night = night; rules = rules }

made : (d : Declaration) → d ≡ make d.airport d.season d.step d.flex d.ground d.share d.refuse d.night d.rules
unfolding make
made d = refl

pub declares_same : (one : OneValue) → (lines : List (List ℕ)) (d e : Declaration) → IsClean lines → Declares lines d → Declares lines e → d ≡ e
declares_same one lines d e clean x y =
    let airport : d.airport ≡ e.airport = let s = once one lines (Airport d.airport) (Airport e.airport) clean x.airport y.airport refl (λ e. cc) in cc in
    let season : d.season ≡ e.season = let s = once one lines (Season d.season) (Season e.season) clean x.season y.season refl (λ e. cc) in cc in
    let step : d.step ≡ e.step = let s = once one lines (Step d.step) (Step e.step) clean x.step y.step refl (λ e. cc) in cc in
    let flex : d.flex ≡ e.flex = let s = once one lines (Flex d.flex) (Flex e.flex) clean x.flex y.flex refl (λ e. cc) in cc in
    let minutes : d.ground ≡ e.ground = let s = once one lines (Ground d.ground) (Ground e.ground) clean x.ground_time y.ground_time refl (λ e. cc) in cc in
    let share : d.share ≡ e.share = share_same one lines d.share e.share clean x.share y.share in
    let refuse : d.refuse ≡ e.refuse = let s = once one lines (Refuse d.refuse) (Refuse e.refuse) clean x.refuse y.refuse refl (λ e. cc) in cc in
    let night : d.night ≡ e.night = night_same one lines d.night e.night clean x.night y.night in
    let rules : d.rules ≡ e.rules = rules_same one lines d.rules e.rules x.rules y.rules in
    made d ∙ rw (airport, season, step, flex, minutes, share, refuse, night, rules) refl ∙ sym (made e)

-- ---- allowed values

allowed : (lines : List (List ℕ)) (entry : Entry) → IsStated lines entry → IsAllowedEntry entry
allowed lines entry stated = stated.1.states.allowed

share_allowed : (lines : List (List ℕ)) (n : ℕ) → (IsStated lines (Share n)) ⊎ (LacksWord lines share_word × (n ≡ 50)) → n ≤ 100
share_allowed lines n x =
    elim (x) [
      | inl p ↦ allowed lines (Share n) p
      | inr none ↦ omega (arith, none.1)
    ]

night_allowed : (lines : List (List ℕ)) (o : Option Night) → MatchOption o (LacksWord lines night_word) (λ n. IsStated lines (night_entry n)) → ForSome o IsNight
night_allowed lines None x = λ n e. absurd (cc)
night_allowed lines (Some m) x = λ n e. let same : m ≡ n = same_Some m n e in rw (← same) (allowed lines (night_entry m) x)

all_cons : (rule : Rule) (rules : List Rule) → IsCapacityLine rule → All IsCapacityLine rules → All IsCapacityLine (rule ∷ rules)
all_cons rule rules first rest zero d lt = first
all_cons rule rules first rest (suc k) d lt = rest k d (omega arith)

pub rules_allowed : (lines : List (List ℕ)) (rules : List Rule) → AreRules lines rules → All IsCapacityLine rules
rules_allowed [] rules x = rw x (λ k d lt. absurd (omega arith))
rules_allowed (line ∷ lines) rules x =
    elim (x) [
      | inl p ↦ rw p.3 (all_cons p.0 p.1 p.2.allowed (rules_allowed lines p.1 p.4))
      | inr none ↦ rules_allowed lines rules none.1
    ]

pub values_allowed : (lines : List (List ℕ)) (d : Declaration) → LinesDeclare lines d → HasAllowedValues d
values_allowed lines d x =
    let says = x.declares in
    record {
      airport = allowed lines (Airport d.airport) says.airport;
      season = allowed lines (Season d.season) says.season;
      step = allowed lines (Step d.step) says.step;
      even = x.even;
      flex = x.limits.flex;
      ground_time = allowed lines (Ground d.ground) says.ground_time;
      share = share_allowed lines d.share says.share;
      refuse = allowed lines (Refuse d.refuse) says.refuse;
      night = night_allowed lines d.night says.night;
      rules = rules_allowed lines d.rules says.rules;
    }

pub step_positive : (n : ℕ) → is_step n ≡ true → 0 < n
step_positive n is = grind (arith, nat_tests, is)

pub rules_kept : (rules : List Rule) → All IsCapacityLine rules → All IsRule rules
rules_kept rules x = λ k r lt. let rule = x k r lt in record { ordered = rule.ordered; in_day = rule.in_day; short = rule.at_most_a_day; limit = rule.limit }

pub is_capacity : (lines : List (List ℕ)) (d : Declaration) → LinesDeclare lines d → IsCapacity (capacity_of d)
is_capacity lines d x =
    let values = values_allowed lines d x in
    record {
      step = step_positive d.step values.step;
      lines = x.limits.caps;
      rules = rules_kept d.rules values.rules;
      night = λ n e. (values.night n e).limit;
      few = x.limits.windows;
    }

price_kept : (price : Option ℕ) → ForSome price IsRefusalPrice → ForSome price (λ n. n ≤ HIGHEST_REFUSAL_PRICE)
price_kept price x = λ n e. (x n e).1

pub is_declaration : (lines : List (List ℕ)) (d : Declaration) → LinesDeclare lines d → IsDeclaration d
is_declaration lines d x =
    let values = values_allowed lines d x in
    record { capacity = is_capacity lines d x; price = price_kept d.refuse values.refuse; share = values.share }
