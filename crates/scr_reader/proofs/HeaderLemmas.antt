-- The lines of a header, one after the other.
use Rattle.std.proofs.Common.{◌≡◌, ℕ, ◌+◌, ◌<◌, List, [], ◌∷◌, Some, None, refl, sym, ap, subst, ◌∙◌, arith, inl, inr}
use Rattle.std.specs.Prelude.{Option, IsSomeAnd, slice_get, codes, Result, IfErr, Ok, Err, true, false}
use Rattle.season_days.specs.Term.{Term}
use Rattle.season_days.specs.declared.season.Half.TheVariants.{Summer}
use Rattle.season_days.specs.Seasons.{season_text}
use Rattle.slot_text.specs.Stations.{IsStation}
use Rattle.slot_text.specs.declared.station.Station.{Station}
use Rattle.scr_reader.specs.Parts.{date_text, IsDayOfMonth}
use Rattle.scr_reader.specs.Rows.{trimmed}
use Rattle.scr_reader.specs.Messages.{HeaderPart, title, address, season_name, date_name, airport_name, parts_from_season, header_parts, has_address, IsShort, PartSays, HeaderAgrees, IsPartFault, IsHeaderFault}
use Rattle.scr_reader.specs.declared.header.Header.{Header}
use Rattle.scr_reader.specs.declared.fault.ScrFault.{ScrFault}
use Rattle.scr_reader.specs.declared.fault.ScrFault.TheVariants.{BadHeader}

says_no_fault : (part : HeaderPart) (number : ℕ) (line : Option (List ℕ)) (header : Header) (f : ScrFault) → PartSays part line header → IsPartFault part number line f → ⊥
says_no_fault part number None header f says fault = says
says_no_fault part number (Some text) header f says (inl long) = omega (arith, says.0, long.0)
says_no_fault part number (Some text) header f says (inr other) = other.0.1 header says.1

part_once : (part : HeaderPart) (number : ℕ) (line : Option (List ℕ)) (f g : ScrFault) → IsPartFault part number line f → IsPartFault part number line g → f ≡ g
part_once part number None f g (inl a) (inl b) = a ∙ sym b
part_once part number None f g (inl a) (inr b) = absurd b.0
part_once part number None f g (inr a) b = absurd a.0
part_once part number (Some text) f g (inl a) (inl b) = a.1 ∙ sym b.1
part_once part number (Some text) f g (inl a) (inr b) = absurd (omega (arith, a.0, b.0.0))
part_once part number (Some text) f g (inr a) (inl b) = absurd (omega (arith, b.0, a.0.0))
part_once part number (Some text) f g (inr a) (inr b) = a.1 ∙ sym b.1

pub header_or_fault : (place : ℕ) (parts : List HeaderPart) (first : ℕ) (lines : List (List ℕ)) (header : Header) (f : ScrFault) → HeaderAgrees place parts lines header → IsHeaderFault place parts first lines f → ⊥
header_or_fault place [] first lines header f agrees fault = fault
header_or_fault place (part ∷ parts) first lines header f agrees (inl here) = says_no_fault part (first + place) (slice_get lines place) header f agrees.0 here
header_or_fault place (part ∷ parts) first lines header f agrees (inr later) = header_or_fault (place + 1) parts first lines header f agrees.1 later.1

pub header_once : (place : ℕ) (parts : List HeaderPart) (first : ℕ) (lines : List (List ℕ)) (f g : ScrFault) → IsHeaderFault place parts first lines f → IsHeaderFault place parts first lines g → f ≡ g
header_once place [] first lines f g a b = absurd a
header_once place (part ∷ parts) first lines f g (inl a) (inl b) = part_once part (first + place) (slice_get lines place) f g a b
header_once place (part ∷ parts) first lines f g (inl a) (inr b) = absurd (says_no_fault part (first + place) (slice_get lines place) b.0.0 f b.0.1 a)
header_once place (part ∷ parts) first lines f g (inr a) (inl b) = absurd (says_no_fault part (first + place) (slice_get lines place) a.0.0 g a.0.1 b)
header_once place (part ∷ parts) first lines f g (inr a) (inr b) = header_once (place + 1) parts first lines f g a.1 b.1

-- ---- where the fault stands

pub header_later : (place : ℕ) (part : HeaderPart) (parts : List HeaderPart) (first : ℕ) (lines : List (List ℕ)) (header : Header) (r : Result Header ScrFault) → PartSays part (slice_get lines place) header
    → IfErr r (λ f. IsHeaderFault (place + 1) parts first lines f) → IfErr r (λ f. IsHeaderFault place (part ∷ parts) first lines f)
header_later place part parts first lines header (Ok h) says later = tt
header_later place part parts first lines header (Err f) says later = inr ((header, says), later)

no_header : Header
no_header = record { season = record { half = Summer; year = 0 }; day = 0; month = 0; airport = record { 0 = [] } }

short_says : (line : Option (List ℕ)) → IsSomeAnd line IsShort → PartSays address line no_header
short_says None short = absurd short
short_says (Some text) short = (short, tt)

pub after_address : (first : ℕ) (lines : List (List ℕ)) (r : Result Header ScrFault) (line : Option (List ℕ)) → line ≡ slice_get lines 1 → IsSomeAnd line IsShort → IfErr r (λ f. IsHeaderFault 2 parts_from_season first lines f)
    → IfErr r (λ f. IsHeaderFault 1 (address ∷ parts_from_season) first lines f)
after_address first lines r line at short later = header_later 1 address parts_from_season first lines no_header r (short_says (slice_get lines 1) (subst (λ (l : Option (List ℕ)). IsSomeAnd l IsShort) at short)) later

pub with_address : (first : ℕ) (lines : List (List ℕ)) (r : Result Header ScrFault) (line : Option (List ℕ)) → has_address lines ≡ true → line ≡ slice_get lines 0 → IsSomeAnd line (λ text. IsShort text × (trimmed text ≡ codes "SCR"))
    → IfErr r (λ f. IsHeaderFault 1 (address ∷ parts_from_season) first lines f) → IfErr r (λ f. IsHeaderFault 0 (header_parts lines) first lines f)
with_address first lines r line has at says later =
    rw has (header_later 0 title (address ∷ parts_from_season) first lines no_header r (subst (λ (l : Option (List ℕ)). IsSomeAnd l (λ text. IsShort text × (trimmed text ≡ codes "SCR"))) at says) later)

pub without_address : (first : ℕ) (lines : List (List ℕ)) (r : Result Header ScrFault) (line : Option (List ℕ)) → has_address lines ≡ false → line ≡ slice_get lines 0 → IsSomeAnd line (λ text. IsShort text × (trimmed text ≡ codes "SCR"))
    → IfErr r (λ f. IsHeaderFault 1 parts_from_season first lines f) → IfErr r (λ f. IsHeaderFault 0 (header_parts lines) first lines f)
without_address first lines r line has at says later =
    rw has (header_later 0 title parts_from_season first lines no_header r (subst (λ (l : Option (List ℕ)). IsSomeAnd l (λ text. IsShort text × (trimmed text ≡ codes "SCR"))) at says) later)

pub fault_in_date : (place first number : ℕ) (lines : List (List ℕ)) (a b : Option (List ℕ)) (season : Term) (f : ScrFault) → number ≡ first + place → a ≡ slice_get lines place → b ≡ slice_get lines (place + 1)
    → IsSomeAnd a (λ text. IsShort text × ((season.year < 100) × (trimmed text ≡ season_text season))) → IsPartFault date_name (number + 1) b f → IsHeaderFault place parts_from_season first lines f
fault_in_date place first number lines a b season f count at_a at_b says fault =
    let header : Header = record { season = season; day = 0; month = 0; airport = record { 0 = [] } } in
    let here : PartSays season_name (slice_get lines place) header = subst (λ (l : Option (List ℕ)). PartSays season_name l header) at_a says in
    let number_is : number + 1 ≡ first + (place + 1) = omega (arith, count) in
    let moved : IsPartFault date_name (number + 1) (slice_get lines (place + 1)) f = subst (λ (l : Option (List ℕ)). IsPartFault date_name (number + 1) l f) at_b fault in
    inr ((header, here), inl (subst (λ (n : ℕ). IsPartFault date_name n (slice_get lines (place + 1)) f) number_is moved))

pub fault_in_airport : (place first number : ℕ) (lines : List (List ℕ)) (a b d : Option (List ℕ)) (season : Term) (day month : ℕ) (f : ScrFault) → number ≡ first + place → a ≡ slice_get lines place → b ≡ slice_get lines (place + 1) → d ≡ slice_get lines (place + 2)
    → IsSomeAnd a (λ text. IsShort text × ((season.year < 100) × (trimmed text ≡ season_text season))) → IsSomeAnd b (λ text. IsShort text × (IsDayOfMonth month day × (trimmed text ≡ date_text month day)))
    → IsPartFault airport_name (number + 2) d f → IsHeaderFault place parts_from_season first lines f
fault_in_airport place first number lines a b d season day month f count at_a at_b at_d says dated fault =
    let header : Header = record { season = season; day = day; month = month; airport = record { 0 = [] } } in
    let here : PartSays season_name (slice_get lines place) header = subst (λ (l : Option (List ℕ)). PartSays season_name l header) at_a says in
    let next : PartSays date_name (slice_get lines (place + 1)) header = subst (λ (l : Option (List ℕ)). PartSays date_name l header) at_b dated in
    let number_is : number + 2 ≡ first + (place + 1 + 1) = omega (arith, count) in
    let place_is : place + 2 ≡ place + 1 + 1 = omega arith in
    let at : d ≡ slice_get lines (place + 1 + 1) = at_d ∙ ap (λ (p : ℕ). slice_get lines p) place_is in
    let moved : IsPartFault airport_name (number + 2) (slice_get lines (place + 1 + 1)) f = subst (λ (l : Option (List ℕ)). IsPartFault airport_name (number + 2) l f) at fault in
    inr ((header, here), inr ((header, next), inl (subst (λ (n : ℕ). IsPartFault airport_name n (slice_get lines (place + 1 + 1)) f) number_is moved)))

pub names_same : (lines : List (List ℕ)) (place : ℕ) (a b d : Option (List ℕ)) (season : Term) (day month : ℕ) (airport : Station) (other : Header) → a ≡ slice_get lines place → b ≡ slice_get lines (place + 1) → d ≡ slice_get lines (place + 2)
    → ((s : Term) → IsSomeAnd a (λ text. IsShort text × ((s.year < 100) × (trimmed text ≡ season_text s))) → season ≡ s)
    → ((x y : ℕ) → IsSomeAnd b (λ text. IsShort text × (IsDayOfMonth y x × (trimmed text ≡ date_text y x))) → (day ≡ x) × (month ≡ y))
    → ((s : Station) → IsSomeAnd d (λ text. IsShort text × (IsStation s.0 × (trimmed text ≡ s.0))) → airport ≡ s)
    → HeaderAgrees place parts_from_season lines other → record { season = season; day = day; month = month; airport = airport } ≡ other
names_same lines place a b d season day month airport other at_a at_b at_d one two three agrees =
    let place_is : place + 1 + 1 ≡ place + 2 = omega arith in
    let back_d : slice_get lines (place + 1 + 1) ≡ d = ap (λ (p : ℕ). slice_get lines p) place_is ∙ sym at_d in
    let e1 = one other.season (subst (λ (l : Option (List ℕ)). PartSays season_name l other) (sym at_a) agrees.0) in
    let e2 = two other.day other.month (subst (λ (l : Option (List ℕ)). PartSays date_name l other) (sym at_b) agrees.1.0) in
    let e3 = three other.airport (subst (λ (l : Option (List ℕ)). PartSays airport_name l other) back_d agrees.1.1.0) in
    rw (e1, e2.0, e2.1, e3) refl

pub no_airport : (number : ℕ) (line : Option (List ℕ)) (text : List ℕ) → line ≡ Some text → IsShort text → ((s : Station) → IsStation s.0 → s.0 ≡ trimmed text → ⊥) → IsPartFault airport_name number line (BadHeader number)
no_airport number line text is short none = rw is (inr ((short, λ header says. none header.airport says.0 (sym says.1)), refl))
