-- Parts that are added, and alternatives that name them.
use Rattle.std.proofs.Common.{◌≡◌, ℕ, zero, suc, ◌+◌, ◌<◌, ◌≤◌, refl, sym, ◌∙◌, ap, subst, arith, List, [], ◌∷◌, ◌++◌, length, length-append, get_or, set, inl, inr}
use Rattle.std.specs.Prelude.{Option, Some, None, All, IfSome, ◌^◌, ◌⊎◌, ◌/◌, ◌-◌}
use Rattle.std.specs.Option.{ForSome}
use Rattle.std.specs.List.{AllZip}
use Rattle.std.proofs.lemmas.List.{get_or_append_left, get_or-set_same, get_or-set_other}
use Rattle.std.proofs.lemmas.Bool.{cases_lt, cases_eq}
use Rattle.season_days.specs.declared.declaration.Declaration.{Declaration}
use Rattle.season_days.specs.declared.day.Period.{Period}
use Rattle.season_days.specs.declared.declaration.Kind.{Kind}
use Rattle.capacity_windows.specs.Windows.{Capacity, capacity_of, window_load, declared_resources}
use Rattle.choice_problem.specs.declared.strips.Strip.{Strip}
use Rattle.choice_problem.specs.declared.problems.Alt.{Alt}
use Rattle.choice_problem.specs.declared.problems.TheConstants.{MOST_USES}
use Rattle.choice_problem.specs.Strips.{part_uses, IsPartInRange}
use Rattle.choice_problem.specs.Problems.{ChooserView, named_uses, IsChooser}
use Rattle.choice_problem.specs.Allowed.{UseAtMost, IsNamedAlt}
use Rattle.series_model.specs.declared.unit.Unit.{Unit as SlotUnit}
use Rattle.series_model.specs.declared.times.Times.{Times}
use Rattle.series_model.specs.declared.times.Times.TheVariants.{Refused, At}
use Rattle.series_model.specs.Options.{options_of}
use Rattle.series_model.specs.Displacement.{displacement_of}
use Rattle.scr_reader.specs.declared.line.Line.{Line}
use Rattle.series_model.specs.Movements.{movements_at, movements_of, stop_load}
use Rattle.season_days.specs.declared.declaration.Kind.TheVariants.{Arr, Dep}
use Rattle.wasg_stages.specs.declared.parts.Minutes.{Minutes}
use Rattle.season_days.specs.declared.season.TheConstants.{MOST_DATES}
use Rattle.wasg_stages.specs.StageProblems.{IsAltOf, IsChooserOf}
use Rattle.wasg_stages.specs.Parts.{minute_load, IsKnown, AreKnown, AreParts, Grows, AreAlts, IsTable}

pub Grows-none : (parts : List (List Strip)) (more : ℕ) → Grows parts parts more
Grows-none parts more = record { longer = omega arith; few = omega arith; same = λ k lt. refl }

pub Grows-push : (parts : List (List Strip)) (part : List Strip) → Grows parts (parts ++ part ∷ []) 1
Grows-push parts part = record {
  longer = omega (arith, length-append parts (part ∷ []));
  few = omega (arith, length-append parts (part ∷ []));
  same = λ k lt. get_or_append_left parts (part ∷ []) [] k lt;
}

pub Grows-more : (one two three : List (List Strip)) (n m : ℕ) → Grows one two n → Grows two three m → Grows one three (n + m)
Grows-more one two three n m g h = record {
  longer = omega (arith, g.longer, h.longer);
  few = omega (arith, g.few, h.few);
  same = λ k lt. h.same k (omega (arith, g.longer)) ∙ g.same k lt;
}

pub IsKnown-grows : (c : Capacity) (period : Period) (kind : Kind) (old new : List (List Strip)) (more minute number : ℕ) → Grows old new more → IsKnown c period kind old minute number → IsKnown c period kind new minute number
IsKnown-grows c period kind old new more minute number grows known = record {
  there = omega (arith, grows.longer, known.there);
  uses = λ r. ap (λ (strips : List Strip). part_uses strips r) (grows.same number known.there) ∙ known.uses r;
}

pub AreKnown-grows : (c : Capacity) (period : Period) (kind : Kind) (old new : List (List Strip)) (more : ℕ) (minutes : Minutes) → Grows old new more → AreKnown c period kind old minutes → AreKnown c period kind new minutes
AreKnown-grows c period kind old new more minutes grows all i k is = IsKnown-grows c period kind old new more (minutes.first + i) k grows (all i k is)

-- one element more
pub All-push : {X : Type 0} (P : X → Type 0) (xs : List X) (x : X) → All P xs → P x → All P (xs ++ x ∷ [])
All-push P [] x all one zero d lt = one
All-push P [] x all one (suc k) d lt = absurd (omega arith)
All-push P (y ∷ ys) x all one zero d lt = all 0 d (omega arith)
All-push P (y ∷ ys) x all one (suc k) d lt = All-push P ys x (λ i e l. all (suc i) e (omega arith)) one k d (omega arith)

pub AreParts-push : (c : Capacity) (parts : List (List Strip)) (part : List Strip) → AreParts c parts → ((r : ℕ) → part_uses part r ≤ MOST_DATES) → IsPartInRange (declared_resources c) part → AreParts c (parts ++ part ∷ [])
AreParts-push c parts part are few range = record {
  few = All-push (λ (strips : List Strip). (r : ℕ) → part_uses strips r ≤ MOST_DATES) parts part are.few few;
  range = All-push (λ (strips : List Strip). IsPartInRange (declared_resources c) strips) parts part are.range range;
}

pub last_part : (parts : List (List Strip)) (part : List Strip) → get_or (parts ++ part ∷ []) (length parts) [] ≡ part
last_part [] part = refl
last_part (p ∷ parts) part = last_part parts part

pub IsKnown-push : (c : Capacity) (period : Period) (kind : Kind) (parts : List (List Strip)) (part : List Strip) (minute : ℕ) → ((r : ℕ) → part_uses part r ≡ minute_load c period kind minute r) →
    IsKnown c period kind (parts ++ part ∷ []) minute (length parts)
IsKnown-push c period kind parts part minute uses = record {
  there = omega (arith, length-append parts (part ∷ []));
  uses = λ r. ap (λ (strips : List Strip). part_uses strips r) (last_part parts part) ∙ uses r;
}

-- a part more is kept at its minute
pub AreKnown-kept : (c : Capacity) (period : Period) (kind : Kind) (parts : List (List Strip)) (part : List Strip) (old new : Minutes) (minute : ℕ) → AreKnown c period kind parts old →
    ((r : ℕ) → part_uses part r ≡ minute_load c period kind minute r) → new.first ≡ old.first →
    ((i k : ℕ) → get_or new.parts.items i None ≡ Some k → (get_or old.parts.items i None ≡ Some k) ⊎ ((old.first + i ≡ minute) × (k ≡ length parts))) →
    AreKnown c period kind (parts ++ part ∷ []) new
AreKnown-kept c period kind parts part old new minute all uses first kept i k is =
    rw first (elim (kept i k is) [
      | inl before ↦ IsKnown-grows c period kind parts (parts ++ part ∷ []) 1 (old.first + i) k (Grows-push parts part) (all i k before)
      | inr now ↦ rw (now.0, now.1) (IsKnown-push c period kind parts part minute uses)
    ])

-- what is found at a minute
pub AreKnown-at : (c : Capacity) (period : Period) (kind : Kind) (parts : List (List Strip)) (minutes : Minutes) (minute k : ℕ) → AreKnown c period kind parts minutes →
    minutes.first ≤ minute → get_or minutes.parts.items (minute - minutes.first) None ≡ Some k → IsKnown c period kind parts minute k
AreKnown-at c period kind parts minutes minute k all le is =
    let at : minutes.first + (minute - minutes.first) ≡ minute = omega (arith, le) in
    subst (λ (m : ℕ). IsKnown c period kind parts m k) at (all (minute - minutes.first) k is)

pub found-at : (first minute place : ℕ) (parts : List (Option ℕ)) (o : Option ℕ) → first ≤ minute → place ≡ minute - first → get_or parts place None ≡ o →
    IfSome o (λ k. (first ≤ minute) × (get_or parts (minute - first) None ≡ Some k))
found-at first minute place parts None le at is = tt
found-at first minute place parts (Some k) le at is = (le, ap (λ (i : ℕ). get_or parts i None) (sym at) ∙ is)

-- one number is kept at a place
pub kept-set : (first minute part place : ℕ) (old new : List (Option ℕ)) → new ≡ set old place (Some part) → first + place ≡ minute → place < length old →
    (i k : ℕ) → get_or new i None ≡ Some k → (get_or old i None ≡ Some k) ⊎ ((first + i ≡ minute) × (k ≡ part))
kept-set first minute part place old new set_is at there i k is =
    let read : get_or (set old place (Some part)) i None ≡ Some k = ap (λ (xs : List (Option ℕ)). get_or xs i None) (sym set_is) ∙ is in
    elim (cases_eq i place) [
      | inl same ↦
          let here : get_or (set old place (Some part)) i None ≡ Some part = ap (λ (j : ℕ). get_or (set old place (Some part)) j None) same ∙ get_or-set_same old place (Some part) None there in
          let both : Some k ≡ Some part = sym read ∙ here in
          inr (omega (arith, at, same), cc both)
      | inr other ↦ inl (sym (get_or-set_other old place i (Some part) None other) ∙ read)
    ]

pub AreKnown-none : (c : Capacity) (period : Period) (kind : Kind) (parts : List (List Strip)) (minutes : Minutes) → ((i : ℕ) → get_or minutes.parts.items i None ≡ None) → AreKnown c period kind parts minutes
AreKnown-none c period kind parts minutes none i k is = absurd (let wrong : None ≡ Some k = sym (none i) ∙ is in cc)

-- ---- alternatives

abbrev view : List (List Strip) → ChooserView
view parts = record { parts = parts; alts = [] }

pub named_uses-grows : (old new : List (List Strip)) (more : ℕ) (named : Option ℕ) (r : ℕ) → Grows old new more → ForSome named (λ k. k < length old) → named_uses (view new) named r ≡ named_uses (view old) named r
named_uses-grows old new more None r grows there = refl
named_uses-grows old new more (Some k) r grows there = ap (λ (strips : List Strip). part_uses strips r) (grows.same k (there k refl))

pub ForSome-grows : (old new : List (List Strip)) (more : ℕ) (named : Option ℕ) → Grows old new more → ForSome named (λ k. k < length old) → ForSome named (λ k. k < length new)
ForSome-grows old new more named grows there = λ k is. omega (arith, grows.longer, there k is)

pub IsNamedAlt-grows : (old new : List (List Strip)) (more : ℕ) (alt : Alt) → Grows old new more → IsNamedAlt old alt → IsNamedAlt new alt
IsNamedAlt-grows old new more alt grows named = record {
  cost = named.cost;
  one = ForSome-grows old new more alt.one grows named.one;
  two = ForSome-grows old new more alt.two grows named.two;
}

pub IsAltOf-grows : (d : Declaration) (unit : SlotUnit) (old new : List (List Strip)) (more : ℕ) (times : Times) (alt : Alt) → Grows old new more → IsNamedAlt old alt →
    IsAltOf d unit (view old) times alt → IsAltOf d unit (view new) times alt
IsAltOf-grows d unit old new more times alt grows named is = record {
  cost = is.cost;
  uses = λ r. omega (arith, named_uses-grows old new more alt.one r grows named.one, named_uses-grows old new more alt.two r grows named.two, is.uses r);
}

-- laws of the crates below
abbrev pub LoadsOfStops : Type 0
LoadsOfStops = (c : Capacity) (line : Line) (arrival departure r : ℕ) →
    window_load c (movements_at c.season line (At arrival departure)) r ≡ stop_load c Arr line.arrival arrival line.period r + stop_load c Dep line.departure departure line.period r

abbrev pub FewUses : Type 0
FewUses = (m : ChooserView) → UseAtMost (MOST_USES / 2) m.parts → 0 < length m.alts → length m.alts < 2 ^ 32 → length m.parts < 2 ^ 32 → All (IsNamedAlt m.parts) m.alts → IsChooser m

-- an alternative with times has the loads of its two stops
pub times-alt : LoadsOfStops → (d : Declaration) (unit : SlotUnit) (c : Capacity) (old new : List (List Strip)) (more : ℕ) (one two : Option ℕ) (times : Times) (cost arrival departure : ℕ) →
    c ≡ capacity_of d → times ≡ At arrival departure → cost ≡ displacement_of d unit times → Grows old new more → ForSome one (λ k. k < length old) →
    ((r : ℕ) → named_uses (view old) one r ≡ stop_load c Arr unit.request.arrival arrival unit.request.period r) →
    ((r : ℕ) → named_uses (view new) two r ≡ stop_load c Dep unit.request.departure departure unit.request.period r) →
    IsAltOf d unit (view new) times (record { cost = cost; one = one; two = two })
times-alt loads d unit c old new more one two times cost arrival departure capacity times_are cost_is grows there arrives departs = record {
  cost = cost_is;
  uses = λ r.
      let first : named_uses (view new) one r ≡ stop_load (capacity_of d) Arr unit.request.arrival arrival unit.request.period r =
      named_uses-grows old new more one r grows there ∙ arrives r ∙ ap (λ (k : Capacity). stop_load k Arr unit.request.arrival arrival unit.request.period r) capacity in
      let second : named_uses (view new) two r ≡ stop_load (capacity_of d) Dep unit.request.departure departure unit.request.period r =
      departs r ∙ ap (λ (k : Capacity). stop_load k Dep unit.request.departure departure unit.request.period r) capacity in
      let both : window_load (capacity_of d) (movements_of d.season unit times) r ≡ window_load (capacity_of d) (movements_of d.season unit (At arrival departure)) r =
      ap (λ (t : Times). window_load (capacity_of d) (movements_of d.season unit t) r) times_are in
      omega (arith, first, second, both, loads (capacity_of d) unit.request arrival departure r);
}

abbrev no_alt : Alt
no_alt = record { cost = 0; one = None; two = None }

pub last_alt : (alts : List Alt) (alt d : Alt) → get_or (alts ++ alt ∷ []) (length alts) d ≡ alt
last_alt [] alt d = refl
last_alt (a ∷ alts) alt d = last_alt alts alt d

pub AreAlts-push : (d : Declaration) (unit : SlotUnit) (options : List Times) (old new : List (List Strip)) (alts : List Alt) (n : ℕ) (alt : Alt) → AreAlts d unit options old alts n → Grows old new 2 →
    IsAltOf d unit (view new) (get_or options n Refused) alt → IsNamedAlt new alt → AreAlts d unit options new (alts ++ alt ∷ []) (n + 1)
AreAlts-push d unit options old new alts n alt are grows is named = record {
  count = omega (arith, length-append alts (alt ∷ []), are.count);
  each = λ k lt. elim (cases_lt k n) [
    | inl before ↦
        let there : k < length alts = omega (arith, are.count) in
        let old_named : IsNamedAlt old (get_or alts k no_alt) = are.named k no_alt there in
        subst (λ (a : Alt). IsAltOf d unit (view new) (get_or options k Refused) a) (sym (get_or_append_left alts (alt ∷ []) no_alt k there))
        (IsAltOf-grows d unit old new 2 (get_or options k Refused) (get_or alts k no_alt) grows old_named (are.each k before))
    | inr last ↦
        let same : k ≡ n = omega arith in
        let place : n ≡ length alts = sym are.count in
        let at : get_or (alts ++ alt ∷ []) n no_alt ≡ alt = ap (λ (i : ℕ). get_or (alts ++ alt ∷ []) i no_alt) place ∙ last_alt alts alt no_alt in
        subst (λ (i : ℕ). IsAltOf d unit (view new) (get_or options i Refused) (get_or (alts ++ alt ∷ []) i no_alt)) (sym same)
        (subst (λ (a : Alt). IsAltOf d unit (view new) (get_or options n Refused) a) (sym at) is)
  ];
  named = All-push (IsNamedAlt new) alts alt (λ k e lt. IsNamedAlt-grows old new 2 (get_or alts k e) grows (are.named k e lt)) named;
  few = omega (arith, grows.few, are.few);
}

AllZip-by : {A B : Type 0} (R : A → B → Type 0) (d : A) (e : B) (xs : List A) (ys : List B) → length ys ≡ length xs → ((i : ℕ) → i < length xs → R (get_or xs i d) (get_or ys i e)) → AllZip R xs ys
AllZip-by R d e [] [] same h = tt
AllZip-by R d e [] (y ∷ ys) same h = absurd (omega arith)
AllZip-by R d e (x ∷ xs) [] same h = absurd (omega arith)
AllZip-by R d e (x ∷ xs) (y ∷ ys) same h = (h 0 (omega arith), AllZip-by R d e xs ys (omega arith) (λ i lt. h (suc i) (omega arith)))

-- all alternatives make the unit
pub AreAlts-IsChooserOf : (d : Declaration) (unit : SlotUnit) (parts : List (List Strip)) (alts : List Alt) → AreAlts d unit (options_of d unit) parts alts (length (options_of d unit)) →
    IsChooserOf d unit (record { parts = parts; alts = alts })
AreAlts-IsChooserOf d unit parts alts are =
    AllZip-by (IsAltOf d unit (record { parts = parts; alts = alts })) Refused no_alt (options_of d unit) alts are.count
    (λ k lt. let is = are.each k lt in record { cost = is.cost; uses = is.uses })

pub AreAlts-IsChooser : FewUses → (d : Declaration) (unit : SlotUnit) (c : Capacity) (parts : List (List Strip)) (alts : List Alt) (n : ℕ) → AreAlts d unit (options_of d unit) parts alts n → AreParts c parts → 0 < n → n < 2 ^ 31 →
    IsChooser (record { parts = parts; alts = alts })
AreAlts-IsChooser few_uses d unit c parts alts n are parts_are some few =
    few_uses (record { parts = parts; alts = alts }) parts_are.few (omega (arith, are.count)) (omega (arith, are.count)) (omega (arith, are.few)) are.named

-- two stops after the other, where the second may add a part
pub IsTable-both : (d : Declaration) (c : Capacity) (period : Period) (arrivals departures : Minutes) (one two : List (List Strip)) → c ≡ capacity_of d →
    AreKnown c period Arr one arrivals → AreKnown c period Dep two departures → AreParts c two → Grows one two 1 → IsTable d period arrivals departures two
IsTable-both d c period arrivals departures one two is known_one known_two parts grows = record {
  arrivals_are = subst (λ (w : Capacity). AreKnown w period Arr two arrivals) is (AreKnown-grows c period Arr one two 1 arrivals grows known_one);
  departures_are = subst (λ (w : Capacity). AreKnown w period Dep two departures) is known_two;
  parts_are = subst (λ (w : Capacity). AreParts w two) is parts;
}
