-- What the fields of a line state, from what was read of them.
use Rattle.std.proofs.Common.{◌≡◌, ℕ, ◌<◌, ◌≤◌, List, [], ◌∷◌, Option, Some, None, refl, sym, ap, ◌∙◌, arith}
use Rattle.std.specs.Prelude.{IfSome}
use Rattle.std.specs.Fmt.{decimal}
use Rattle.std.proofs.lemmas.Option.{none-some, same_Some}
use Rattle.slot_text.specs.Stations.{IsStation}
use Rattle.slot_text.specs.declared.station.Station.{Station}
use Rattle.season_days.specs.declared.declaration.Kind.{Kind}
use Rattle.season_days.specs.declared.declaration.Rule.{Rule}
use Rattle.schedule_text.specs.Days.{IsDays}
use Rattle.schedule_text.specs.Times.{time_text}
use Rattle.schedule_text.specs.Kinds.{kind_text}
use Rattle.capacity_file.specs.Entries.{word_of, IsAllowedEntry, AreValues}
use Rattle.capacity_file.specs.Readings.{IsValueOf, IsEntryOf}
use Rattle.capacity_file.specs.declared.entry.Entry.{Entry}
use Rattle.capacity_file.specs.declared.entry.Entry.TheVariants.{Airport, Cap}
use Rattle.capacity_file.specs.declared.entry.Word.{Word}
use Rattle.capacity_file.specs.declared.entry.Word.TheVariants.{Cap as cap_word}

pub airport_value : (text : List ℕ) (fields : List (List ℕ)) (r : Option Station) → fields ≡ text ∷ [] → IfSome r (λ s. IsStation s.0 × (s.0 ≡ text)) → ((s : Station) → IsStation s.0 → s.0 ≡ text → r ≡ Some s)
    → IsValueOf (λ (s : Station). Airport s) fields r
airport_value text fields None e found only = λ s is same. let t : s.0 ≡ text = cc in none-some s (only s is t)
airport_value text fields (Some s) e found only = (found.0, e ∙ ap (λ (t : List ℕ). t ∷ []) (sym found.1))

cap_states : (fields : List (List ℕ)) → ((x : Rule) → IsAllowedEntry (Cap x) → AreValues (Cap x) fields → ⊥) → (entry : Entry) → word_of entry ≡ cap_word → IsAllowedEntry entry → AreValues entry fields → ⊥
cap_states fields none (Cap x) w allowed values = none x allowed values
cap_states fields none entry w allowed values = absurd (cc)

pub no_cap : (word : Word) (fields : List (List ℕ)) (r : Option Entry) → word ≡ cap_word → r ≡ None → ((x : Rule) → IsAllowedEntry (Cap x) → AreValues (Cap x) fields → ⊥) → IsEntryOf word fields r
no_cap word fields None w e none = λ entry same allowed values. cap_states fields none entry (same ∙ w) allowed values
no_cap word fields (Some x) w e none = absurd (cc)

-- a capacity line that has minutes, a start and a weekday
pub rule_value : (kind : Kind) (n f t d l : ℕ) (a b c x y z : List ℕ) (fields : List (List ℕ)) → fields ≡ a ∷ b ∷ c ∷ x ∷ y ∷ z ∷ [] → a ≡ kind_text kind → (n ≤ 1440) × (b ≡ decimal n) → (f < 1440) × (c ≡ time_text f) → (t < 1440) × (x ≡ time_text t) → IsDays y d
    → (l ≤ 9999) × (z ≡ decimal l) → (1 ≤ n) × (f ≤ t) × (1 ≤ d)
    → IsAllowedEntry (Cap (record { kind = kind; length = n; from = f; to = t; days = d; limit = l })) × AreValues (Cap (record { kind = kind; length = n; from = f; to = t; days = d; limit = l })) fields
rule_value kind n f t d l a b c x y z fields e k len from to days lim usable = (
  record { some_minutes = usable.0; at_most_a_day = len.0; ordered = usable.1; in_day = to.0; some_weekday = usable.2; week = days.week; limit = lim.0 },
  (y, days, rw (e, k, len.1, from.1, to.1, lim.1) refl),
)

-- and one that has not
pub no_rule : (n f t d : ℕ) (a b c x y z : List ℕ) (fields : List (List ℕ)) → fields ≡ a ∷ b ∷ c ∷ x ∷ y ∷ z ∷ [] → ((m : ℕ) → m ≤ 1440 → b ≡ decimal m → Some n ≡ Some m) → ((m : ℕ) → m < 1440 → c ≡ time_text m → Some f ≡ Some m)
    → ((m : ℕ) → m < 1440 → x ≡ time_text m → Some t ≡ Some m) → ((m : ℕ) → IsDays y m → Some d ≡ Some m) → ((1 ≤ n) × (f ≤ t) × (1 ≤ d) → ⊥)
    → (rule : Rule) → IsAllowedEntry (Cap rule) → AreValues (Cap rule) fields → ⊥
no_rule n f t d a b c x y z fields e len from to days useless rule allowed values =
    let whole = sym e ∙ values.2 in
    let b-is : b ≡ decimal rule.length = cc in
    let c-is : c ≡ time_text rule.from = cc in
    let x-is : x ≡ time_text rule.to = cc in
    let y-is : y ≡ values.0 = cc in
    let n-is : n ≡ rule.length = same_Some n rule.length (len rule.length allowed.at_most_a_day b-is) in
    let f-is : f ≡ rule.from = same_Some f rule.from (from rule.from (omega (arith, allowed.ordered, allowed.in_day)) c-is) in
    let t-is : t ≡ rule.to = same_Some t rule.to (to rule.to allowed.in_day x-is) in
    let d-is : d ≡ rule.days = same_Some d rule.days (days rule.days (rw y-is values.1)) in
    useless (omega (arith, allowed.some_minutes), omega (arith, allowed.ordered), omega (arith, allowed.some_weekday))
