-- Two problems of one stage are alike, and a proof on one is a proof on the other.
use Rattle.std.proofs.Common.{◌≡◌, ℕ, zero, suc, ◌+◌, ◌<◌, refl, sym, ◌∙◌, ap, subst, List, [], ◌∷◌, length, get_or}
use Rattle.std.specs.Prelude.{Option, Some, None, IfSome, option_map}
use Rattle.std.specs.List.{AllZip}
use Rattle.season_days.specs.declared.declaration.Declaration.{Declaration}
use Rattle.choice_problem.specs.declared.problems.Alt.{Alt}
use Rattle.choice_problem.specs.declared.vectors.Price.{Price}
use Rattle.choice_problem.specs.declared.nodes.Node.{Node}
use Rattle.choice_problem.specs.Problems.{ProblemView, ChooserView, alt_at, named_uses, chooser_uses, alt_count, alt_uses}
use Rattle.choice_problem.specs.Alike.{AreAlike}
use Rattle.choice_problem.specs.Choices.{IsFeasible as IsFeasibleFor, choice_cost}
use Rattle.choice_problem.specs.Bounds.{IsVector, whole_of}
use Rattle.choice_problem.specs.Trees.{AreSound}
use Rattle.choice_problem.specs.Floors.{AreFloors}
use Rattle.cost_fixing.specs.declared.fixings.Fixing.{Fixing}
use Rattle.cost_fixing.specs.Fixings.{FixingHolds}
use Rattle.cert_format.specs.declared.cert.Mark.{Mark}
use Rattle.cert_format.specs.declared.cert.Mark.TheVariants.{Optimal, Infeasible, Unsettled, NotTried}
use Rattle.cert_format.specs.declared.cert.StageCert.{StageCert}
use Rattle.cert_format.specs.Proofs.{IsProof, IsStageFixing, problem_of_tree, FitsMark, IsStatedBound, floor_pairs}
use Rattle.series_model.specs.declared.unit.Unit.{Unit as SlotUnit}
use Rattle.series_model.specs.declared.times.Times.{Times}
use Rattle.series_model.specs.Options.{options_of}
use Rattle.wasg_stages.specs.StageProblems.{IsAltOf, IsChooserOf, IsAllotmentProblem}

-- ---- units of one and the same unit

abbrev no_alt : Alt
no_alt = record { cost = 0; one = None; two = None }

abbrev no_chooser : ChooserView
no_chooser = record { parts = []; alts = [] }

abbrev uses_by : ChooserView → Alt → ℕ → ℕ
uses_by m alt r = named_uses m alt.one r + named_uses m alt.two r

record Agree (m n : ChooserView) : Type 0 where
  count : length m.alts ≡ length n.alts
  cost : (a : ℕ) → (alt_at m a).cost ≡ (alt_at n a).cost
  uses : (a r : ℕ) → chooser_uses m a r ≡ chooser_uses n a r

zip-length : {X Y : Type 0} (P : X → Y → Type 0) (xs : List X) (ys : List Y) → AllZip P xs ys → length ys ≡ length xs
zip-length P [] [] all = refl
zip-length P [] (y ∷ ys) all = absurd all
zip-length P (x ∷ xs) [] all = absurd all
zip-length P (x ∷ xs) (y ∷ ys) all = ap suc (zip-length P xs ys all.1)

costs-agree : (d : Declaration) (unit : SlotUnit) (m n : ChooserView) (options : List Times) (xs ys : List Alt) (a : ℕ) → AllZip (IsAltOf d unit m) options xs → AllZip (IsAltOf d unit n) options ys →
    (get_or xs a no_alt).cost ≡ (get_or ys a no_alt).cost
costs-agree d unit m n [] [] [] a one other = refl
costs-agree d unit m n [] [] (y ∷ ys) a one other = absurd other
costs-agree d unit m n [] (x ∷ xs) ys a one other = absurd one
costs-agree d unit m n (t ∷ options) [] ys a one other = absurd one
costs-agree d unit m n (t ∷ options) (x ∷ xs) [] a one other = absurd other
costs-agree d unit m n (t ∷ options) (x ∷ xs) (y ∷ ys) zero one other = one.0.cost ∙ sym other.0.cost
costs-agree d unit m n (t ∷ options) (x ∷ xs) (y ∷ ys) (suc a) one other = costs-agree d unit m n options xs ys a one.1 other.1

uses-agree : (d : Declaration) (unit : SlotUnit) (m n : ChooserView) (options : List Times) (xs ys : List Alt) (a r : ℕ) → AllZip (IsAltOf d unit m) options xs → AllZip (IsAltOf d unit n) options ys →
    uses_by m (get_or xs a no_alt) r ≡ uses_by n (get_or ys a no_alt) r
uses-agree d unit m n [] [] [] a r one other = refl
uses-agree d unit m n [] [] (y ∷ ys) a r one other = absurd other
uses-agree d unit m n [] (x ∷ xs) ys a r one other = absurd one
uses-agree d unit m n (t ∷ options) [] ys a r one other = absurd one
uses-agree d unit m n (t ∷ options) (x ∷ xs) [] a r one other = absurd other
uses-agree d unit m n (t ∷ options) (x ∷ xs) (y ∷ ys) zero r one other = one.0.uses r ∙ sym (other.0.uses r)
uses-agree d unit m n (t ∷ options) (x ∷ xs) (y ∷ ys) (suc a) r one other = uses-agree d unit m n options xs ys a r one.1 other.1

agree : (d : Declaration) (unit : SlotUnit) (m n : ChooserView) → IsChooserOf d unit m → IsChooserOf d unit n → Agree m n
agree d unit m n one other = record {
  count = zip-length (IsAltOf d unit m) (options_of d unit) m.alts one ∙ sym (zip-length (IsAltOf d unit n) (options_of d unit) n.alts other);
  cost = λ a. costs-agree d unit m n (options_of d unit) m.alts n.alts a one other;
  uses = λ a r. uses-agree d unit m n (options_of d unit) m.alts n.alts a r one other;
}

agree_none : Agree no_chooser no_chooser
agree_none = record { count = refl; cost = λ a. refl; uses = λ a r. refl }

agree-at : (d : Declaration) (units : List SlotUnit) (ms ns : List ChooserView) (u : ℕ) → AllZip (IsChooserOf d) units ms → AllZip (IsChooserOf d) units ns → Agree (get_or ms u no_chooser) (get_or ns u no_chooser)
agree-at d [] [] [] u one other = agree_none
agree-at d [] [] (n ∷ ns) u one other = absurd other
agree-at d [] (m ∷ ms) ns u one other = absurd one
agree-at d (unit ∷ units) [] ns u one other = absurd one
agree-at d (unit ∷ units) (m ∷ ms) [] u one other = absurd other
agree-at d (unit ∷ units) (m ∷ ms) (n ∷ ns) zero one other = agree d unit m n one.0 other.0
agree-at d (unit ∷ units) (m ∷ ms) (n ∷ ns) (suc u) one other = agree-at d units ms ns u one.1 other.1

-- two problems of the same units and limits
pub problems-alike : (d : Declaration) (units : List SlotUnit) (limit : ℕ → ℕ) (p q : ProblemView) → IsAllotmentProblem d units limit p → IsAllotmentProblem d units limit q → AreAlike p q
problems-alike d units limit p q one other =
    let at : (u : ℕ) → Agree (get_or p.units u no_chooser) (get_or q.units u no_chooser) = λ u. agree-at d units p.units q.units u one.units_are other.units_are in
    record {
      units = zip-length (IsChooserOf d) units p.units one.units_are ∙ sym (zip-length (IsChooserOf d) units q.units other.units_are);
      alts = λ u lt. (at u).count;
      costs = λ u a lt la. (at u).cost a;
      uses = λ u a r lt la. (at u).uses a r;
      resources = one.resources ∙ sym other.resources;
      limits = λ r lt. let in_range = subst (λ (n : ℕ). r < n) one.resources lt in one.limits r in_range ∙ sym (other.limits r in_range);
    }

-- the same also of numbers that name nothing
pub problems-alts : (d : Declaration) (units : List SlotUnit) (limit : ℕ → ℕ) (p q : ProblemView) → IsAllotmentProblem d units limit p → IsAllotmentProblem d units limit q → (u : ℕ) → alt_count p u ≡ alt_count q u
problems-alts d units limit p q one other u = (agree-at d units p.units q.units u one.units_are other.units_are).count

pub problems-uses : (d : Declaration) (units : List SlotUnit) (limit : ℕ → ℕ) (p q : ProblemView) → IsAllotmentProblem d units limit p → IsAllotmentProblem d units limit q →
    (u a r : ℕ) → alt_uses p u a r ≡ alt_uses q u a r
problems-uses d units limit p q one other u a r = (agree-at d units p.units q.units u one.units_are other.units_are).uses a r

-- ---- proofs

pub if-some : {X : Type 0} (P Q : X → Type 0) (o : Option X) → ((x : X) → P x → Q x) → IfSome o P → IfSome o Q
if-some P Q None f h = tt
if-some P Q (Some x) f h = f x h

pub cost-alike : (p q : ProblemView) (choice : Option (List ℕ)) → ((x : List ℕ) → choice_cost p x ≡ choice_cost q x) → option_map (choice_cost p) choice ≡ option_map (choice_cost q) choice
cost-alike p q None same = refl
cost-alike p q (Some x) same = ap (λ (n : ℕ). Some n) (same x)

mark-alike : (p q : ProblemView) (c : StageCert) (mark : Mark) → ((bound : ℕ) → AreFloors p c.vectors bound c.tree (floor_pairs c.floors) → AreFloors q c.vectors bound c.tree (floor_pairs c.floors)) →
    FitsMark p c mark → FitsMark q c mark
mark-alike p q c Optimal floors h = h
mark-alike p q c Infeasible floors h = h
mark-alike p q c Unsettled floors h =
    (h.0, if-some (IsStatedBound p c) (IsStatedBound q c) c.bound (λ bound stated. record { within = stated.within; floors = floors bound stated.floors }) h.1)
mark-alike p q c NotTried floors h = h

-- a proof is one on each problem that is alike
pub proof-alike : (p q : ProblemView) (c : StageCert) → (whole_of (problem_of_tree p c) ≡ whole_of (problem_of_tree q c)) → ((x : List ℕ) → choice_cost p x ≡ choice_cost q x) → ((x : List ℕ) → IsFeasibleFor p x → IsFeasibleFor q x) →
    ((prices : List Price) → IsVector p prices → IsVector q prices) →
    ((pending : List (List (ℕ × ℕ))) (nodes : List Node) → AreSound (problem_of_tree p c) c.vectors c.cost pending nodes → AreSound (problem_of_tree q c) c.vectors c.cost pending nodes) →
    ((bound : ℕ) → AreFloors p c.vectors bound c.tree (floor_pairs c.floors) → AreFloors q c.vectors bound c.tree (floor_pairs c.floors)) →
    ((f : Fixing) → FixingHolds p c.vectors c.cost f → FixingHolds q c.vectors c.cost f) → IsProof p c → IsProof q c
proof-alike p q c whole cost feasible vector sound floors holds proof = record {
  feasible = if-some (IsFeasibleFor p) (IsFeasibleFor q) c.choice feasible proof.feasible;
  cost = proof.cost ∙ cost-alike p q c.choice cost;
  vectors = λ k d lt. vector (get_or c.vectors k d) (proof.vectors k d lt);
  fixing = if-some (IsStageFixing p c) (IsStageFixing q c) c.fixing (λ f fixed. record { optimal = fixed.optimal; holds = holds f fixed.holds }) proof.fixing;
  sound = subst (λ (ranges : List (ℕ × ℕ)). AreSound (problem_of_tree q c) c.vectors c.cost (ranges ∷ []) c.tree) whole (sound (whole_of (problem_of_tree p c) ∷ []) c.tree proof.sound);
  marked = mark-alike p q c c.mark floors proof.marked;
}
