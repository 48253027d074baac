-- What a search by the uses that are left finds: the tests are those by listing.
use Rattle.std.proofs.Common.{◌≡◌, ℕ, zero, suc, ◌+◌, ◌<◌, ◌≤◌, nat_le, Bool, true, false, cond, List, [], ◌∷◌, ◌++◌, length, refl, sym, ap, ◌∙◌, subst, arith, filter, get_or, inl, inr, Option, Some, None, ◌↔◌}
use Rattle.std.specs.Prelude.{All, IsTrue, slice_index}
use Rattle.std.specs.List.{list_all}
use Rattle.std.proofs.lemmas.Bool.{cases_Bool, leb-true}
use Rattle.std.proofs.lemmas.Bool.Decides.{same_from_decides}
use Rattle.std.proofs.lemmas.List.Elements.{All-head, All-tail}
use Rattle.std.proofs.lemmas.List.Folds.{list_all-append}
use Rattle.std.proofs.lemmas.Grind.{same_number_lists}
use Rattle.std.proofs.lemmas.List.Sums.{sum_by-append}
use Rattle.season_days.specs.Capacity.{Capacity, capacity_of, declared_resources}
use Rattle.capacity_windows.specs.Counts.{numbers_below}
use Rattle.capacity_windows.specs.Windows.{window_load, window_limit, WindowsFit, holds, resource_at}
use Rattle.capacity_windows.specs.declared.movement.Movement.{Movement}
use Rattle.choice_problem.specs.Counts.{GrowsBy, HasUses}
use Rattle.choice_problem.specs.Strips.{IsPartInRange}
use Rattle.choice_problem.specs.declared.strips.Strip.{Strip}
use Rattle.std.specs.Option.{ForSome}
use Rattle.window_counts.specs.Counts.{both_uses}
use Rattle.season_days.specs.declared.declaration.Declaration.{Declaration}
use Rattle.season_days.specs.declared.declaration.Kind.TheVariants.{Arr, Dep}
use Rattle.scr_reader.specs.declared.line.Line.{Line}
use Rattle.series_model.specs.declared.times.Times.TheVariants.{At}
use Rattle.series_model.specs.Movements.{movements_at}
use Rattle.series_model.specs.declared.times.Times.{Times}
use Rattle.holding_book.specs.Books.{movements_fit, cheaper, first_cheapest}
use Rattle.holding_book.specs.Private.Loads.{LoadsView, IsLoads, AreLeft, movements_left, fits_left, can_share}
use Rattle.holding_book.specs.Private.Trials.{IsTimesTrial}
use Rattle.holding_book.specs.declared.trials.Trial.{Trial}
use Rattle.holding_book.proofs.ApartLemmas.{stops_apart}
use Rattle.holding_book.proofs.LoadLemmas.{MovementLoads}
use Rattle.holding_book.proofs.FitLemmas.{below_pass, movements_fit-true}

all_below : (passes : ℕ → Bool) (n : ℕ) → ((r : ℕ) → r < n → passes r ≡ true) → list_all passes (numbers_below n) ≡ true
all_below passes zero each = refl
all_below passes (suc n) each =
    let rest = all_below passes n (λ r lt. each r (omega (arith, lt))) in
    let last = each n (omega arith) in
    rw (list_all-append passes (numbers_below n) (n ∷ []), rest, last) refl

le_true : (n m : ℕ) → n ≤ m → nat_le n m ≡ true
le_true n m le = grind arith

pub movements_fit-from : (c : Capacity) (list : List Movement) → WindowsFit c list → movements_fit c list ≡ true
unfolding movements_fit
movements_fit-from c list fits = all_below (λ r. nat_le (window_load c list r) (window_limit c r)) (declared_resources c) (λ r lt. le_true (window_load c list r) (window_limit c r) (fits r lt))

-- ---- what is left, and listing

module _ (c : Capacity) (list movements : List Movement) (left : List ℕ) (uses : ℕ → ℕ) (kept : AreLeft c list left) (same : (r : ℕ) → r < declared_resources c → uses r ≡ window_load c movements r) where
  together : (r : ℕ) → window_load c (list ++ movements) r ≡ window_load c list r + window_load c movements r
  together r = sum_by-append (λ m. cond (holds c (resource_at c r) m) 1 0) list movements

  pub left-fits : HasUses left uses → movements_fit c (list ++ movements) ≡ true
  left-fits there = movements_fit-from c (list ++ movements) (λ r lt. omega (arith, together r, kept.each r lt, same r lt, there r (omega (arith, lt, kept.count))))

  pub fits-left : movements_fit c (list ++ movements) ≡ true → HasUses left uses
  fits-left fit r lt =
      let here : r < declared_resources c = omega (arith, lt, kept.count) in
      omega (arith, together r, kept.each r here, same r here, movements_fit-true c (list ++ movements) fit r here)

-- ---- the tests of what is left alone

module _ (c : Capacity) (left : List ℕ) (list : List Movement) (uses : ℕ → ℕ) (count : length left ≡ declared_resources c) (same : (r : ℕ) → uses r ≡ window_load c list r) where
  left-from : HasUses left uses → movements_left c left list ≡ true
  unfolding movements_left
  left-from there = all_below (λ r. nat_le (window_load c list r) (slice_index left r)) (declared_resources c) (λ r lt. le_true (window_load c list r) (slice_index left r) (omega (arith, same r, there r (omega (arith, lt, count)))))

  left-true : movements_left c left list ≡ true → HasUses left uses
  unfolding movements_left
  left-true e r lt = omega (arith, same r, leb-true (window_load c list r) (slice_index left r) (below_pass (λ q. nat_le (window_load c list q) (slice_index left q)) (declared_resources c) e r (omega (arith, lt, count))))

  pub left-is : (fits : Bool) → (IsTrue fits ↔ HasUses left uses) → fits ≡ movements_left c left list
  left-is fits decides = same_from_decides fits (movements_left c left list) decides (left-true, left-from)

pub left-beside : (c : Capacity) (list movements : List Movement) (left : List ℕ) → AreLeft c list left → movements_left c left movements ≡ movements_fit c (list ++ movements)
left-beside c list movements left kept =
    let uses : ℕ → ℕ = λ r. window_load c movements r in
    sym (left-is c left movements uses kept.count (λ r. refl) (movements_fit c (list ++ movements)) (fits-left c list movements left uses kept (λ r lt. refl), left-fits c list movements left uses kept (λ r lt. refl)))

abbrev pub IsCounted : LoadsView → Type 0
IsCounted loads = length loads.left ≡ declared_resources (capacity_of loads.declaration)

pub counted : (d : Declaration) (c : Capacity) (left : List ℕ) (loads : LoadsView) → record { declaration = d; left = left } ≡ loads → IsLoads d c left → IsCounted loads
counted d c left loads view kept = subst IsCounted view (kept.count ∙ ap (λ (w : Capacity). declared_resources w) kept.declared)

pub within : (d : Declaration) (c : Capacity) (left : List ℕ) (loads : LoadsView) → record { declaration = d; left = left } ≡ loads → IsLoads d c left → (part : Option (List Strip)) → ForSome part (IsPartInRange (declared_resources (capacity_of loads.declaration))) → ForSome part (IsPartInRange (length left))
within d c left loads view kept part there =
    let same : length left ≡ length loads.left = ap (λ (v : LoadsView). length v.left) view in
    subst (λ (n : ℕ). ForSome part (IsPartInRange n)) (sym (same ∙ counted d c left loads view kept)) there

-- ---- the tests of two movements

module _ (law : MovementLoads) (loads : LoadsView) (count : IsCounted loads) (line : Line) (one two : Trial) (first : IsTimesTrial loads Arr line.arrival line.period one) where
  -- what does not fit alone does not fit with another movement
  pub full-alone : one.fits ≡ false → (departure : ℕ) → fits_left loads line (At one.minute departure) ≡ false
  full-alone full departure =
      let c = capacity_of loads.declaration in
      let movements = movements_at loads.declaration.season line (At one.minute departure) in
      let no : HasUses loads.left (λ r. window_load c movements r) → IsTrue false = λ has. sym full ∙ first.fits.1 (λ r lt. omega (arith, has r lt, first.part.loads r, law c line one.minute departure r)) in
      sym (left-is c loads.left movements (λ r. window_load c movements r) count (λ r. refl) false (λ t. absurd (cc t), no))

  pub fits-together : IsTimesTrial loads Dep line.departure line.period two → (fits : Bool) → (IsTrue fits ↔ HasUses loads.left (λ r. both_uses one.part two.part r)) → fits ≡ fits_left loads line (At one.minute two.minute)
  fits-together second fits decides =
      let c = capacity_of loads.declaration in
      left-is c loads.left (movements_at loads.declaration.season line (At one.minute two.minute)) (λ r. both_uses one.part two.part r) count (λ r. omega (arith, first.part.loads r, second.part.loads r, law c line one.minute two.minute r)) fits decides

  pub full-one : IsTimesTrial loads Dep line.departure line.period two → one.fits ≡ false → false ≡ fits_left loads line (At one.minute two.minute)
  full-one second full = sym (full-alone full two.minute)

  pub full-two : IsTimesTrial loads Dep line.departure line.period two → two.fits ≡ false → false ≡ fits_left loads line (At one.minute two.minute)
  full-two second full = fits-together second false (λ t. absurd (cc t), λ has. sym full ∙ second.fits.1 (λ r lt. omega (arith, has r lt)))

  -- what fits alone fits with another movement with which it can share nothing
  pub apart-fit : IsTimesTrial loads Dep line.departure line.period two → can_share (capacity_of loads.declaration) ≡ false → one.fits ≡ true → two.fits ≡ true → true ≡ fits_left loads line (At one.minute two.minute)
  apart-fit second apart f g =
      let c = capacity_of loads.declaration in
      let has : HasUses loads.left (λ r. both_uses one.part two.part r) = λ r lt. elim (stops_apart c apart line.arrival line.departure one.minute two.minute line.period r) [
        | inl none ↦ omega (arith, none, first.part.loads r, second.fits.0 g r lt)
        | inr none ↦ omega (arith, none, second.part.loads r, first.fits.0 f r lt)
      ] in
      fits-together second true (λ t. has, λ h. refl)

-- ---- times that cost nothing

-- times that cost nothing are the first cheapest, where no others do
free_cheaper : (cost : Times → ℕ) (times : Times) (best : Option Times) → cost times ≡ 0 → cheaper cost times best ≡ times
free_cheaper cost times None e = refl
free_cheaper cost times (Some best) e = rw (le_true (cost times) (cost best) (omega (arith, e))) refl

free_later : (cost : Times → ℕ) (first times : Times) → cost times ≡ 0 → (cost first ≡ 0 → times ≡ first) → cheaper cost first (Some times) ≡ times
free_later cost first times e only =
    elim (cases_Bool (nat_le (cost first) (cost times))) [
      | inl no_more ↦ rw no_more (sym (only (omega (arith, e, leb-true (cost first) (cost times) no_more))))
      | inr more ↦ rw more refl
    ]

pub cheapest-free : (cost : Times → ℕ) (fits : Times → Bool) (times : Times) → fits times ≡ true → cost times ≡ 0 → (shifts : List Times) (k : ℕ) → k < length shifts → get_or shifts k times ≡ times → All (λ shift. cost shift ≡ 0 → times ≡ shift) shifts → first_cheapest cost (filter fits shifts) ≡ Some times
cheapest-free cost fits times fit free [] k lt e only = absurd (omega arith)
cheapest-free cost fits times fit free (first ∷ shifts) zero lt e only =
    let passes : fits first ≡ true = ap fits e ∙ fit in
    rw passes (ap Some (ap (λ (t : Times). cheaper cost t (first_cheapest cost (filter fits shifts))) e ∙ free_cheaper cost times (first_cheapest cost (filter fits shifts)) free))
cheapest-free cost fits times fit free (first ∷ shifts) (suc k) lt e only =
    let rest = cheapest-free cost fits times fit free shifts k (omega (arith, lt)) e (All-tail (λ shift. cost shift ≡ 0 → times ≡ shift) first shifts only) in
    elim (cases_Bool (fits first)) [
      | inl passes ↦ rw (passes, rest) (ap Some (free_later cost first times free (All-head (λ shift. cost shift ≡ 0 → times ≡ shift) first shifts only)))
      | inr fails ↦ rw fails rest
    ]

-- ---- what was given back and taken again leaves the counts as they were

pub back-again : (counts more again : List ℕ) (uses : ℕ → ℕ) → length again ≡ length counts → length more ≡ length counts → GrowsBy counts more uses → GrowsBy again more uses → again ≡ counts
back-again counts more again uses e f g h = same_number_lists again counts e (λ r l. omega (arith, g r (omega arith), h r l))
