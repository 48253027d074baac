-- The units of a stage's problem.
use Rattle.std.proofs.Common.{◌≡◌, ℕ, zero, suc, ◌+◌, ◌<◌, ◌≤◌, Bool, true, false, refl, sym, ap, ◌∙◌, subst, arith, List, [], ◌∷◌, ◌++◌, length, get_or, drop, take}
use Rattle.std.specs.Prelude.{All, if◌then◌else◌}
use Rattle.std.specs.List.{AllZip}
use Rattle.std.proofs.lemmas.List.{append_assoc}
use Rattle.season_days.specs.declared.declaration.Declaration.{Declaration}
use Rattle.capacity_windows.specs.Windows.{capacity_of, declared_resources}
use Rattle.choice_problem.specs.Problems.{ChooserView, ArePartsInRange}
use Rattle.series_model.specs.declared.state.UnitState.{UnitState}
use Rattle.series_model.specs.Stages.{is_due_state, stage_units}
use Rattle.wasg_stages.specs.StageProblems.{IsChooserOf}
use Rattle.wasg_stages.specs.Steps.{AddsDue, AreChoosers}
use Rattle.std.proofs.Math.Seq.{drop-cons}
use Rattle.series_model.specs.declared.unit.Unit.{Unit as SlotUnit}

-- ---- units

abbrev units_by : ℕ → UnitState → List UnitState → Bool → List SlotUnit
units_by stage state rest due = if due then state.unit ∷ stage_units stage rest else stage_units stage rest

pub adds-due : (d : Declaration) (stage : ℕ) (state : UnitState) (old : List ChooserView) (m : ChooserView) → is_due_state stage state ≡ true → IsChooserOf d state.unit m → AddsDue d stage state old (old ++ m ∷ [])
adds-due d stage state old m due chooser rest tail zip = (
  m ∷ tail,
  subst (λ (b : Bool). AllZip (IsChooserOf d) (units_by stage state rest b) (m ∷ tail)) (sym due) (chooser, zip),
  append_assoc old (m ∷ []) tail,
)

pub adds-none : (d : Declaration) (stage : ℕ) (state : UnitState) (old : List ChooserView) → is_due_state stage state ≡ false → AddsDue d stage state old old
adds-none d stage state old due rest tail zip =
    (tail, subst (λ (b : Bool). AllZip (IsChooserOf d) (units_by stage state rest b) tail) (sym due) zip, refl)

pub AreChoosers-on : (d : Declaration) (stage : ℕ) (states : List UnitState) (old new : List ChooserView) (i : ℕ) (e : UnitState) → i < length states → AreChoosers d stage states old i →
    AddsDue d stage (get_or states i e) old new → All (ArePartsInRange (declared_resources (capacity_of d))) new → length new ≤ length old + 1 → AreChoosers d stage states new (i + 1)
AreChoosers-on d stage states old new i e lt are adds range few = record {
  whole = λ tail zip.
      let added = adds (drop (i + 1) states) tail zip in
      let next : suc i ≡ i + 1 = omega arith in
      let head : drop i states ≡ get_or states i e ∷ drop (i + 1) states = drop-cons states i e lt ∙ ap (λ (k : ℕ). get_or states i e ∷ drop k states) next in
      let all = are.whole added.0 (subst (λ (s : List UnitState). AllZip (IsChooserOf d) (stage_units stage s) added.0) (sym head) added.1) in
      subst (λ (ms : List ChooserView). AllZip (IsChooserOf d) (stage_units stage states) ms) (sym added.2) all;
  range = range;
  few = omega (arith, few, are.few);
}

pub drop-past : {X : Type 0} (xs : List X) (i : ℕ) → length xs ≤ i → drop i xs ≡ []
drop-past [] zero le = refl
drop-past [] (suc i) le = refl
drop-past (x ∷ xs) zero le = absurd (omega arith)
drop-past (x ∷ xs) (suc i) le = drop-past xs i (omega arith)

append_none : {X : Type 0} (xs : List X) → xs ++ [] ≡ xs
append_none [] = refl
append_none (x ∷ xs) = ap (λ ys. x ∷ ys) (append_none xs)

pub AreChoosers-all : (d : Declaration) (stage : ℕ) (states : List UnitState) (choosers : List ChooserView) (i : ℕ) → AreChoosers d stage states choosers i → length states ≤ i →
    AllZip (IsChooserOf d) (stage_units stage states) choosers
AreChoosers-all d stage states choosers i are le =
    let none : AllZip (IsChooserOf d) (stage_units stage (drop i states)) [] = subst (λ (s : List UnitState). AllZip (IsChooserOf d) (stage_units stage s) []) (sym (drop-past states i le)) tt in
    subst (λ (ms : List ChooserView). AllZip (IsChooserOf d) (stage_units stage states) ms) (append_none choosers) (are.whole [] none)

-- ---- all of some units

pub choosers-on : (d : Declaration) (units : List SlotUnit) (choosers : List ChooserView) (i : ℕ) (e : SlotUnit) (m : ChooserView) → i < length units → AllZip (IsChooserOf d) (take i units) choosers →
    IsChooserOf d (get_or units i e) m → AllZip (IsChooserOf d) (take (suc i) units) (choosers ++ m ∷ [])
choosers-on d [] choosers i e m lt zip is = absurd (omega arith)
choosers-on d (unit ∷ units) [] zero e m lt zip is = (is, tt)
choosers-on d (unit ∷ units) (first ∷ choosers) zero e m lt zip is = absurd zip
choosers-on d (unit ∷ units) [] (suc i) e m lt zip is = absurd zip
choosers-on d (unit ∷ units) (first ∷ choosers) (suc i) e m lt zip is = (zip.0, choosers-on d units choosers i e m (omega arith) zip.1 is)
