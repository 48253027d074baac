-- Tables of prices by part, and how great priced uses can be.
use Rattle.std.proofs.Common.{◌≡◌, ℕ, zero, suc, ◌+◌, ◌-◌, ◌*◌, ◌<◌, ◌≤◌, ◌^◌, min, refl, sym, ◌∙◌, ap, arith, List, [], ◌∷◌, length, Option, Some, None, map, pos, ◌<ℤ◌, take, inl, inr}
use Rattle.std.specs.Prelude.{slice_index, slice_index_or, ◌≢◌, All, AllPairs, ℤ, negsuc, ◌≤ℤ◌}
use Rattle.std.specs.Option.{ForSome}
use Rattle.std.proofs.lemmas.Int.{ints}
use Rattle.std.proofs.lemmas.Nat.{mul-le}
use Rattle.std.proofs.Math.ListN.{set}
use Rattle.std.proofs.lemmas.Bool.{cases_lt, cases_eq}
use Rattle.std.proofs.lemmas.List.{take_all, length-set, get_or-map, get_or_past, get_or-set_same, get_or-set_other}
use Rattle.std.proofs.lemmas.List.Sums.{sum_by-cons, sum_by_more}
use Rattle.std.proofs.lemmas.List.Elements.{All-head, All-tail}
use Rattle.std.proofs.Math.ListN.{length-map}
use Rattle.choice_problem.specs.declared.strips.Strip.{Strip}
use Rattle.choice_problem.specs.declared.vectors.Price.{Price}
use Rattle.choice_problem.specs.Strips.{part_uses, strip_uses, IsStripInRange, IsPartInRange}
use Rattle.choice_problem.specs.Problems.{ProblemView, ChooserView, IsChooser, ArePartsInRange, resource_count, alt_count, chooser_at, alt_at, part_at, named_uses, chooser_uses, alt_uses, amount}
use Rattle.choice_problem.specs.Bounds.{price_at, priced, IsVector, IsPrice}
use Rattle.price_table.specs.Tables.{named_price, uses_price, PricesUnit}
use Rattle.price_table.specs.Strips.{worth, IsSpread, AreSums, AreSumsOf, part_cost, strip_cost, capped_cost}
use Rattle.price_table.proofs.WorthLemmas.{worth-same, worth-zero, worth-free, worth-set, worth-add, worth-le, strip_cost-is}

pub part_cost-is : (numbers sums : List ℕ) (strips : List Strip) → AreSums numbers sums → IsPartInRange (length numbers) strips →
    part_cost sums strips ≡ worth (length numbers) (λ r. slice_index numbers r) (λ r. part_uses strips r)
part_cost-is numbers sums [] h there = sym (worth-zero (length numbers) (λ r. slice_index numbers r))
part_cost-is numbers sums (s ∷ strips) h there =
    let n = length numbers in
    let price : ℕ → ℕ = λ r. slice_index numbers r in
    omega (
      arith,
      sum_by-cons (λ (t : Strip). strip_cost sums t) s strips,
      strip_cost-is numbers sums s h (All-head (IsStripInRange n) s strips there),
      part_cost-is numbers sums strips h (All-tail (IsStripInRange n) s strips there),
      worth-add n price (λ r. strip_uses s r) (λ r. part_uses strips r),
      worth-same n price price (λ r. part_uses (s ∷ strips) r) (λ r. strip_uses s r + part_uses strips r) (λ r _. refl) (λ r _. sum_by-cons (λ (t : Strip). strip_uses t r) s strips),
    )

named-is : (numbers sums : List ℕ) (m : ChooserView) (named : Option ℕ) → AreSums numbers sums → ArePartsInRange (length numbers) m →
    ForSome named (λ k. k < length m.parts) →
    named_price (map (λ strips. capped_cost sums strips) m.parts) named ≡ min (worth (length numbers) (λ r. slice_index numbers r) (λ r. named_uses m named r)) (2 ^ 128 - 1)
named-is numbers sums m None h there l = omega (arith, worth-zero (length numbers) (λ r. slice_index numbers r))
named-is numbers sums m (Some k) h there l =
    let within : k < length m.parts = l k refl in
    get_or-map (λ strips. capped_cost sums strips) m.parts k [] 0 within
    ∙ ap (λ v. min v (2 ^ 128 - 1)) (part_cost-is numbers sums (part_at m k) h (there k [] within))

-- the capped costs of a unit's parts price its alternatives
pub capped_cost-PricesUnit : (p : ProblemView) (prices : List Price) (u : ℕ) (sums : List ℕ) → AreSumsOf (resource_count p) prices sums →
    IsChooser (chooser_at p u) → ArePartsInRange (resource_count p) (chooser_at p u) →
    PricesUnit p prices u (map (λ strips. capped_cost sums strips) (chooser_at p u).parts)
capped_cost-PricesUnit p prices u sums h m there = record {
  count = simp length-map;
  uses = λ a l. priced_alt a l;
}
  where
    priced_alt : (a : ℕ) → a < alt_count p u → uses_price (chooser_at p u).alts (map (λ strips. capped_cost sums strips) (chooser_at p u).parts) a ≡ priced prices (λ r. alt_uses p u a r)
    priced_alt a l =
        let unit = chooser_at p u in
        let numbers = h.spread in
        let price : ℕ → ℕ = λ r. slice_index numbers r in
        let all : length numbers ≡ resource_count p = h.spread_is.count in
        let in_range : ArePartsInRange (length numbers) unit = rw all there in
        let one = named-is numbers sums unit (alt_at unit a).one h.sums_are in_range (m.one a l) in
        let two = named-is numbers sums unit (alt_at unit a).two h.sums_are in_range (m.two a l) in
        let both = worth-add (length numbers) price (λ r. named_uses unit (alt_at unit a).one r) (λ r. named_uses unit (alt_at unit a).two r) in
        let small : worth (length numbers) price (λ r. chooser_uses unit a r) ≤ length numbers * (2 ^ 40 * 434) =
        worth-le (length numbers) (2 ^ 40) 434 price (λ r. chooser_uses unit a r)
        (λ r b. let t : slice_index numbers r < 2 ^ 40 = h.spread_is.small r (omega (arith, all)) in omega arith)
        (λ r b. m.uses a r l) in
        let value : priced prices (λ r. alt_uses p u a r) ≡ worth (length numbers) price (λ r. chooser_uses unit a r) = rw all (h.spread_is.same (λ r. alt_uses p u a r)) in
        omega (arith, one, two, both, small, value, all, h.few)

-- a price of a problem as a number
pub amount-small : (p : ProblemView) (e : Price) → IsPrice p e → amount e.price < 2 ^ 40
amount-small p e h = small e.price h.positive h.small
  where
    small : (z : ℤ) → pos 1 ≤ℤ z → z <ℤ pos (2 ^ 40) → amount z < 2 ^ 40
    small (pos n) l k = omega (arith, ints)
    small (negsuc n) l k = omega (arith, ints)

priced_from : (p : ProblemView) (prices : List Price) (low most : ℕ) (uses : ℕ → ℕ) → AllPairs (λ e f. e.resource < f.resource) prices → All (IsPrice p) prices →
    All (λ e. low ≤ e.resource) prices → low ≤ resource_count p → ((r : ℕ) → uses r ≤ most) →
    priced prices uses + low * (2 ^ 40 * most) ≤ resource_count p * (2 ^ 40 * most)
priced_from p [] low most uses rising each from l k = omega (arith, mul-le low (2 ^ 40 * most) (resource_count p) (2 ^ 40 * most) l (omega arith))
priced_from p (e ∷ es) low most uses rising each from l k =
    let here : IsPrice p e = All-head (IsPrice p) e es each in
    let step : amount e.price * uses e.resource ≤ 2 ^ 40 * most = mul-le (amount e.price) (uses e.resource) (2 ^ 40) most (omega (arith, amount-small p e here)) (k e.resource) in
    let above : low ≤ e.resource = All-head (λ f. low ≤ f.resource) e es from in
    let first : low * (2 ^ 40 * most) ≤ e.resource * (2 ^ 40 * most) = mul-le low (2 ^ 40 * most) e.resource (2 ^ 40 * most) above (omega arith) in
    let next : e.resource < resource_count p = here.there in
    let rest = priced_from p es (e.resource + 1) most uses (λ i j d b m. rising (suc i) (suc j) d (omega arith) (omega arith)) (All-tail (IsPrice p) e es each)
    (λ i d m. let t : e.resource < (slice_index_or es i d).resource = rising zero (suc i) d (omega arith) (omega arith) in omega arith) (omega arith) k in
    omega (arith, sum_by-cons (λ (f : Price). amount f.price * uses f.resource) e es, step, first, rest)

-- uses at the prices of a vector
pub priced-le : (p : ProblemView) (prices : List Price) (most : ℕ) (uses : ℕ → ℕ) → IsVector p prices → ((r : ℕ) → uses r ≤ most) →
    priced prices uses ≤ resource_count p * (2 ^ 40 * most)
priced-le p prices most uses v k =
    let all = priced_from p prices 0 most uses v.rising v.each (λ i d l. omega arith) (omega arith) k in omega (arith, all)

-- the prices of the first i entries of a vector, by resource
pub record SpreadsFirst (n i : ℕ) (entries : List Price) (numbers : List ℕ) : Type 0 where
  pub count : length numbers ≡ n
  pub small : (r : ℕ) → r < n → slice_index numbers r < 2 ^ 40
  pub same : (uses : ℕ → ℕ) → priced (take i entries) uses ≡ worth n (λ r. slice_index numbers r) uses
  pub rest : (r : ℕ) → ((k : ℕ) → k < i → (price_at entries k).resource < r) → slice_index numbers r ≡ 0

pub SpreadsFirst-none : (n : ℕ) (entries : List Price) (numbers : List ℕ) → length numbers ≡ n → ((r : ℕ) → r < length numbers → slice_index numbers r ≡ 0) →
    SpreadsFirst n 0 entries numbers
SpreadsFirst-none n entries numbers e h = record {
  count = e;
  small = λ r l. omega (arith, h r (omega (arith, e)));
  same = λ uses. sym (worth-same n (λ r. slice_index numbers r) (λ _. 0) uses uses (λ r l. h r (omega (arith, e))) (λ r _. refl) ∙ worth-free n uses);
  rest = λ r _. elim (cases_lt r (length numbers)) [ inl l ↦ h r l | inr past ↦ get_or_past numbers r 0 past ];
}

pub SpreadsFirst-more : (p : ProblemView) (i : ℕ) (entries : List Price) (numbers : List ℕ) → IsVector p entries → i < length entries →
    SpreadsFirst (resource_count p) i entries numbers →
    SpreadsFirst (resource_count p) (i + 1) entries (set numbers (price_at entries i).resource (amount (price_at entries i).price))
SpreadsFirst-more p i entries numbers v l h = record {
  count = length-set {A = ℕ} numbers k a ∙ h.count;
  small = λ r m. elim (cases_eq r k) [
    | inl e ↦ rw (e, new) (amount-small p entry here)
    | inr o ↦ rw (get_or-set_other numbers k r a 0 o) (h.small r m)
  ];
  same = λ uses. sum_by_more (λ (f : Price). amount f.price * uses f.resource) entries i (record { resource = 0; price = pos 0 }) l
      ∙ ap (λ t. t + a * uses k) (h.same uses)
      ∙ sym (worth-set n k a (λ r. slice_index numbers r) (λ r. slice_index (set numbers k a) r) uses here.there was new (λ r o. get_or-set_other numbers k r a 0 o));
  rest = λ r b. let past : k < r = b i (omega arith) in
      let o : r ≢ k = λ e. omega (arith, e, past) in
      get_or-set_other numbers k r a 0 o ∙ h.rest r (λ j m. b j (omega arith));
}
  where
    n : ℕ
    n = resource_count p

    entry : Price
    entry = price_at entries i

    k : ℕ
    k = entry.resource

    a : ℕ
    a = amount entry.price

    here : IsPrice p entry
    here = v.each i (record { resource = 0; price = pos 0 }) l

    new : slice_index (set numbers k a) k ≡ a
    new = get_or-set_same numbers k a 0 (rw h.count here.there)

    was : slice_index numbers k ≡ 0
    was = h.rest k (λ j m. v.rising j i (record { resource = 0; price = pos 0 }) m l)

pub SpreadsFirst-all : (n i : ℕ) (entries : List Price) (numbers : List ℕ) → length entries ≤ i → SpreadsFirst n i entries numbers → IsSpread n entries numbers
SpreadsFirst-all n i entries numbers l h = record {
  count = h.count;
  small = h.small;
  same = λ uses. ap (λ t. priced t uses) (sym (take_all i entries l)) ∙ h.same uses;
}
