-- A stage of a run, from the trial of its problem and the stage that this made.
use Rattle.std.proofs.Common.{◌≡◌, ℕ, zero, suc, ◌+◌, ◌*◌, ◌<◌, ◌≤◌, refl, sym, ◌∙◌, ap, subst, arith, List, [], ◌∷◌, ◌++◌, length, length-append, drop, map, true, false, Option, Some, None}
use Rattle.std.specs.Prelude.{All, IfSome, IsNone, IsSomeAnd, is_some, sum_by}
use Rattle.std.specs.List.{AllZip, AllByRecursion}
use Rattle.std.specs.Option.{option_map}
use Rattle.std.proofs.lemmas.List.Sums.{sum_by-append, sum_by-cons}
use Rattle.std.proofs.lemmas.List.Elements.{All-head, All-tail}
use Rattle.std.proofs.lemmas.Slice.Zip.{AllZip-long}
use Rattle.season_days.specs.declared.declaration.Declaration.{Declaration}
use Rattle.choice_problem.specs.declared.vectors.Price.{Price}
use Rattle.choice_problem.specs.declared.nodes.Node.{Node}
use Rattle.choice_problem.specs.Problems.{ProblemView, ChooserView, resource_count, unit_count}
use Rattle.choice_problem.specs.Choices.{IsFeasible, choice_cost}
use Rattle.choice_problem.specs.Bounds.{IsVector, whole_of}
use Rattle.choice_problem.specs.Trees.{IsSound, IsWhole, node_count, vector_at}
use Rattle.cost_fixing.specs.Fixings.{tree_problem}
use Rattle.choice_problem.specs.Driven.{IsDriven}
use Rattle.choice_problem.specs.Roots.{IsRootVector}
use Rattle.choice_problem.specs.Named.{NamesUpTo}
use Rattle.dual_bound.specs.Stated.{scale_at}
use Rattle.search_workers.specs.declared.outcomes.Outcome.{Outcome}
use Rattle.search_workers.specs.declared.outcomes.Outcome.TheVariants as ends
use Rattle.search_workers.specs.Outcomes.{IsSettled, price_count, choice_count, product_of}
use Rattle.cert_format.specs.declared.cert.Mark.{Mark}
use Rattle.cert_format.specs.declared.cert.Mark.TheVariants as marks
use Rattle.cert_format.specs.declared.cert.Floor.{Floor}
use Rattle.cert_format.specs.declared.cert.StageCert.{StageCert}
use Rattle.cert_format.specs.Spelling.{is_tried, has_bound}
use Rattle.cert_format.specs.Printable.{IsPrintableProof, IsPrintableAs, IsShortFloor, IsWithinLimits}
use Rattle.cert_format.specs.Proofs.{IsProof, problem_of_tree}
use Rattle.cost_fixing.specs.declared.fixings.Fixing.{Fixing}
use Rattle.season_run.specs.declared.trials.StageEnd.{StageEnd}
use Rattle.series_model.specs.declared.unit.Unit.{Unit as SlotUnit}
use Rattle.series_model.specs.declared.state.UnitState.{UnitState}
use Rattle.series_model.specs.Options.{options_of}
use Rattle.series_model.specs.Stages.{stage_units}
use Rattle.wasg_stages.specs.StageProblems.{IsStageProblem, IsChooserOf, IsAltOf}
use Rattle.season_run.specs.Ends.{AreStageVectors, IsClosedEnd, IsOpenEnd, IsGreatestFloor, IsLeastOf, IsStageOf, StatesNothing, AreStated, AreKeptOf, IsStageEndBy, MakesStage, MakesStageBy, undone_ranges, floor_costs}
use Rattle.season_run.specs.Runs.{IsOpenStage, OpensAs, IsStageRun, IsTriedRun, allotment_count}
use Rattle.season_run.specs.Searches.{IsEndOfSearches, listed_vectors}
use Rattle.season_run.specs.Steps.{IsDrivenBy, IsTrialEnd, FitsSeason}
use Rattle.season_run.proofs.TreeLemmas.{sound_walks, open_count, whole_count, tree_length}
use Rattle.season_run.proofs.TrialLemmas.{few-prices}

abbrev pub FewerDriven : Type 0
FewerDriven = (p : ProblemView) (vectors more : List (List Price)) (result : Option ℕ) (nodes : List Node) →
    All (NamesUpTo (length vectors)) nodes → IsDriven p (vectors ++ more) result nodes → IsDriven p vectors result nodes

-- ---- vectors

prices-first : (kept behind : List (List Price)) → price_count (drop 1 kept) ≤ price_count (drop 1 (kept ++ behind))
prices-first [] behind = omega arith
prices-first (v ∷ kept) behind = omega (arith, sum_by-append (λ (prices : List Price). length prices) kept behind)

kept-few : (searched kept : List (List Price)) (fixing : Option Fixing) (tree : List Node) (floors : List Floor) → AreKeptOf searched fixing tree floors kept → length kept ≤ length searched
kept-few searched kept fixing tree floors k =
    let long = ap (λ (l : List (List Price)). length l) k.first in
    omega (arith, long, length-append kept k.behind)

kept-listed : (p : ProblemView) (searched kept : List (List Price)) (fixing : Option Fixing) (tree : List Node) (floors : List Floor) → AreKeptOf searched fixing tree floors kept → AreStageVectors p searched → All (IsVector p) kept →
    AreStageVectors p kept
kept-listed p searched kept fixing tree floors k h all = record {
  few = omega (arith, kept-few searched kept fixing tree floors k, h.few);
  each = all;
  few_prices =
      let less = prices-first kept k.behind in
      let same = ap (λ (l : List (List Price)). price_count (drop 1 l)) k.first in
      omega (arith, less, same, h.few_prices);
}

kept-driven : FewerDriven → (p : ProblemView) (searched kept : List (List Price)) (fixing : Option Fixing) (tree : List Node) (floors : List Floor) (cost : Option ℕ) → AreKeptOf searched fixing tree floors kept →
    IsDriven p searched cost tree → IsDriven p kept cost tree
kept-driven fewer p searched kept fixing tree floors cost k d =
    fewer p kept k.behind cost tree k.last.leaves (subst (λ (v : List (List Price)). IsDriven p v cost tree) k.first d)

kept-root : (p : ProblemView) (kept behind : List (List Price)) → (0 < length (kept ++ behind) → IsRootVector p (vector_at (kept ++ behind) 1)) → 0 < length kept → IsRootVector p (vector_at kept 1)
kept-root p [] behind h l = absurd (omega arith)
kept-root p (v ∷ kept) behind h l = h (omega arith)

-- ---- one stage

module _ (fewer : FewerDriven) (p : ProblemView) (budget : ℕ) (c : StageCert) (proof : IsProof p c) where
  -- of these parts
  module _ (mark : Mark) (choice : Option (List ℕ)) (cost : Option ℕ) (fixing : Option Fixing) (tree : List Node) (vectors : List (List Price)) (made : IsStageOf mark choice cost fixing tree vectors c) where
    kept-here : AreKeptOf vectors c.fixing c.tree c.floors c.vectors
    kept-here = rw made.fixing_is (subst (λ (t : List Node). AreKeptOf vectors fixing t c.floors c.vectors) (sym made.tree_is) made.kept)

    nodes-here : node_count c.tree ≡ node_count tree
    nodes-here = ap (λ (t : List Node). node_count t) made.tree_is

    driven-here : IsDriven p vectors cost tree → IsDriven p c.vectors c.cost c.tree
    driven-here d = rw (made.cost_is, made.tree_is) (kept-driven fewer p vectors c.vectors fixing tree c.floors cost made.kept d)

    of-parts : (o : StageEnd) → AreStageVectors p vectors → node_count tree ≤ budget → (budget ≤ 64 → IsDrivenBy p vectors cost tree × (fixing ≡ None)) → IsEndOfSearches p budget o → MakesStage p o c →
        OpensAs p budget (listed_vectors o.outcome) c mark → IsStageRun p budget c
    of-parts o listed few small searches made-of opened = record {
      proof = proof;
      nodes = omega (arith, few, nodes-here);
      listed = kept-listed p vectors c.vectors c.fixing c.tree c.floors kept-here listed proof.vectors;
      named = kept-here.last;
      small = λ le. record {
        unfixed = made.fixing_is ∙ (small le).1;
        driven = driven-here (small le).0.0;
        root = kept-root p c.vectors kept-here.behind (subst (λ (v : List (List Price)). 0 < length v → IsRootVector p (vector_at v 1)) kept-here.first (small le).0.1);
      };
      end = o;
      searches = searches;
      made = made-of;
      opened = subst (OpensAs p budget (listed_vectors o.outcome) c) (sym made.mark_is) opened;
    }

  stage-run-by : (fixing : Option Fixing) (o : Outcome) → IsTrialEnd p budget (record { outcome = o; fixing = fixing }) → MakesStageBy p fixing o c → IsStageRun p budget c
  stage-run-by fixing (ends.Optimal choice cost tree vectors) t made =
      let closed : IsClosedEnd p vectors fixing (Some cost) (Some choice) tree = t.ended in
      of-parts marks.Optimal (Some choice) (Some cost) fixing tree vectors made.0 (record { outcome = ends.Optimal choice cost tree vectors; fixing = fixing }) closed.listed t.nodes t.small t.searches made tt
  stage-run-by fixing (ends.Infeasible tree vectors) t made =
      let closed : IsClosedEnd p vectors None None None tree = t.ended.1 in
      of-parts marks.Infeasible None None fixing tree vectors made.0 (record { outcome = ends.Infeasible tree vectors; fixing = fixing }) closed.listed t.nodes t.small t.searches made tt
  stage-run-by fixing (ends.Spent best tree vectors) t made =
      let cost = option_map (choice_cost p) best in
      let spent : IsOpenEnd p vectors (option_map (choice_cost p) best) best tree = t.ended.1 in
      let listed : AreStageVectors p vectors = record { few = spent.searched.listed.few; each = spent.searched.listed.each; few_prices = spent.searched.listed.few_prices } in
      let opened : IsOpenStage p budget vectors c = record {
        spent = nodes-here marks.Unsettled best cost fixing tree vectors made.0 ∙ t.nodes;
        undone = λ w. spent.undone (rw made.0.tree_is at w);
        unfixed = made.0.fixing_is ∙ t.ended.0;
        driven = driven-here marks.Unsettled best cost fixing tree vectors made.0 spent.searched.driven;
        listed = spent.searched.listed;
        root = spent.root;
        kept = subst (λ (f : Option Fixing). AreKeptOf vectors f c.tree c.floors c.vectors) (made.0.fixing_is ∙ t.ended.0) (kept-here marks.Unsettled best cost fixing tree vectors made.0);
        stated = subst (λ (n : List Node). AreStated p vectors c.cost n c.floors c.bound) (sym made.0.tree_is) made.1;
      } in
      of-parts marks.Unsettled best cost fixing tree vectors made.0 (record { outcome = ends.Spent best tree vectors; fixing = fixing }) listed (omega (arith, t.nodes)) t.small t.searches made opened

  pub stage-run : (o : StageEnd) → IsTrialEnd p budget o → MakesStage p o c → IsStageRun p budget c
  stage-run o t made = stage-run-by o.fixing o.outcome t made

-- what is settled is not OPEN
pub settled-mark : (p : ProblemView) (fixing : Option Fixing) (o : Outcome) (c : StageCert) → IsSettled o → MakesStageBy p fixing o c → c.mark ≡ marks.Unsettled → ⊥
settled-mark p fixing (ends.Optimal choice cost tree vectors) c s made e = (let no : marks.Optimal ≡ marks.Unsettled = sym made.0.mark_is ∙ e in cc)
settled-mark p fixing (ends.Infeasible tree vectors) c s made e = (let no : marks.Infeasible ≡ marks.Unsettled = sym made.0.mark_is ∙ e in cc)
settled-mark p fixing (ends.Spent best tree vectors) c s made e = absurd s

tried-here : (c : StageCert) (mark : Mark) → c.mark ≡ mark → is_tried mark ≡ true → is_tried c.mark ≡ true
tried-here c mark e t = ap (λ (m : Mark). is_tried m) e ∙ t

pub made-tried : (p : ProblemView) (fixing : Option Fixing) (o : Outcome) (c : StageCert) → MakesStageBy p fixing o c → is_tried c.mark ≡ true
made-tried p fixing (ends.Optimal choice cost tree vectors) c made = tried-here c marks.Optimal made.0.mark_is refl
made-tried p fixing (ends.Infeasible tree vectors) c made = tried-here c marks.Infeasible made.0.mark_is refl
made-tried p fixing (ends.Spent best tree vectors) c made = tried-here c marks.Unsettled made.0.mark_is refl

-- ---- it can be printed

same-some : (p : ProblemView) (choice : Option (List ℕ)) (cost : Option ℕ) → cost ≡ option_map (choice_cost p) choice → is_some cost ≡ is_some choice
same-some p None cost e = ap (λ (k : Option ℕ). is_some k) e
same-some p (Some x) cost e = ap (λ (k : Option ℕ). is_some k) e

bound-there : (P : ℕ → Type 0) (bound : Option ℕ) → IsSomeAnd bound P → is_some bound ≡ true
bound-there P None h = absurd h
bound-there P (Some n) h = refl

none-there : (bound : Option ℕ) → IsNone bound → is_some bound ≡ false
none-there None h = refl
none-there (Some n) h = (let wrong : true ≡ false = h in cc)

from-three : (fixing : Option Fixing) → IfSome fixing (λ f. 3 ≤ 3)
from-three None = tt
from-three (Some f) = omega arith

closed-printable : (p : ProblemView) (c : StageCert) (mark : Mark) → c.mark ≡ mark → has_bound 3 mark ≡ false → StatesNothing c → IsWhole c.tree → length c.vectors ≤ 64 → IsProof p c →
    IsPrintableProof 3 c
closed-printable p c mark e unbound n w few proof = record {
  has_cost = same-some p c.choice c.cost proof.cost;
  has_bound = none-there c.bound n.no_bound ∙ sym unbound ∙ sym (ap (λ (m : Mark). has_bound 3 m) e);
  vector_count = few;
  fixed_from = from-three c.fixing;
  floor_count = ap (λ (l : List Floor). length l) n.no_floors ∙ sym (whole_count c.tree w);
}

open-printable : (p : ProblemView) (vectors : List (List Price)) (c : StageCert) → c.mark ≡ marks.Unsettled → c.fixing ≡ None → AreStated p vectors c.cost c.tree c.floors c.bound → length c.vectors ≤ 64 → IsProof p c →
    IsPrintableProof 3 c
open-printable p vectors c e unfixed s few proof =
    let sound : IsSound p c.vectors c.cost (whole_of p) c.tree =
    subst (λ (f : Option Fixing). IsSound (tree_problem p c.vectors f) c.vectors c.cost (whole_of (tree_problem p c.vectors f)) c.tree) unfixed proof.sound in record {
      has_cost = same-some p c.choice c.cost proof.cost;
      has_bound = bound-there (IsLeastOf c.cost (floor_costs p vectors (undone_ranges p c.tree) c.floors)) c.bound s.least ∙ sym (ap (λ (m : Mark). has_bound 3 m) e);
      vector_count = few;
      fixed_from = from-three c.fixing;
      floor_count = AllZip-long (IsGreatestFloor p vectors) (undone_ranges p c.tree) c.floors s.greatest
          ∙ open_count (whole_of p ∷ []) c.tree (sound_walks p c.vectors c.cost (whole_of p ∷ []) c.tree sound);
    }

pub made-printable : (p : ProblemView) (fixing : Option Fixing) (o : Outcome) (c : StageCert) → IsStageEndBy p fixing o → MakesStageBy p fixing o c → IsProof p c → length c.vectors ≤ 64 → IsPrintableProof 3 c
made-printable p fixing (ends.Optimal choice cost tree vectors) c t made proof few =
    closed-printable p c marks.Optimal made.0.mark_is refl made.1 (rw made.0.tree_is (let closed : IsClosedEnd p vectors fixing (Some cost) (Some choice) tree = t in closed.whole)) few proof
made-printable p fixing (ends.Infeasible tree vectors) c t made proof few =
    closed-printable p c marks.Infeasible made.0.mark_is refl made.1 (rw made.0.tree_is (let closed : IsClosedEnd p vectors None None None tree = t.1 in closed.whole)) few proof
made-printable p fixing (ends.Spent best tree vectors) c t made proof few =
    open-printable p vectors c made.0.mark_is (made.0.fixing_is ∙ t.0) (subst (λ (n : List Node). AreStated p vectors c.cost n c.floors c.bound) (sym made.0.tree_is) made.1) few proof

choice-few : (p : ProblemView) (choice : Option (List ℕ)) → unit_count p ≤ 4096 → IfSome choice (IsFeasible p) → IfSome choice (λ alts. length alts ≤ 4096)
choice-few p None few h = tt
choice-few p (Some x) few h = omega (arith, few, h.choice.length)

prices-few : (p : ProblemView) (vectors : List (List Price)) → resource_count p ≤ 1000000 → All (IsVector p) vectors → price_count (drop 1 vectors) ≤ 1000000 →
    sum_by (λ (prices : List Price). length prices) vectors ≤ 2000000
prices-few p [] few all h = omega arith
prices-few p (v ∷ vectors) few all h =
    let first = few-prices p v (All-head (IsVector p) v vectors all) in
    let both = sum_by-cons (λ (prices : List Price). length prices) v vectors in
    let rest : sum_by (λ (prices : List Price). length prices) vectors ≤ 1000000 = h in
    omega (arith, first, few, both, rest)

-- ---- its floors

scale-most : (number : ℕ) → scale_at number ≤ 1024
scale-most zero = omega arith
scale-most (suc number) = omega arith

greatest-short : (p : ProblemView) (vectors : List (List Price)) (pieces : List (List (ℕ × ℕ))) (floors : List Floor) (number : ℕ) → number ≤ 64 → AllZip (IsGreatestFloor p vectors) pieces floors →
    All (λ (f : Floor). f.vector ≤ number) floors → AllByRecursion IsShortFloor floors
greatest-short p vectors [] [] number few h named = tt
greatest-short p vectors [] (f ∷ floors) number few h named = absurd h
greatest-short p vectors (ranges ∷ pieces) [] number few h named = absurd h
greatest-short p vectors (ranges ∷ pieces) (f ∷ floors) number few h named = (
  record {
    vector = omega (arith, few, All-head (λ (g : Floor). g.vector ≤ number) f floors named);
    scale = omega (arith, h.0.scale, scale-most f.vector);
  },
  greatest-short p vectors pieces floors number few h.1 (All-tail (λ (g : Floor). g.vector ≤ number) f floors named),
)

made-floors : (p : ProblemView) (fixing : Option Fixing) (o : Outcome) (c : StageCert) → MakesStageBy p fixing o c → length c.vectors ≤ 64 → All (λ (f : Floor). f.vector ≤ length c.vectors) c.floors → AllByRecursion IsShortFloor c.floors
made-floors p fixing (ends.Optimal choice cost tree vectors) c made few named = rw made.1.no_floors tt
made-floors p fixing (ends.Infeasible tree vectors) c made few named = rw made.1.no_floors tt
made-floors p fixing (ends.Spent best tree vectors) c made few named = greatest-short p vectors (undone_ranges p tree) c.floors (length c.vectors) few made.1.greatest named

pub stage-limits : (p : ProblemView) (budget : ℕ) (o : StageEnd) (c : StageCert) → unit_count p ≤ 4096 → resource_count p ≤ 1000000 → budget ≤ 1000000 → MakesStage p o c → IsStageRun p budget c → IsWithinLimits c
stage-limits p budget o c units resources most made r = record {
  units = choice-few p c.choice units r.proof.feasible;
  vectors = r.listed.few;
  prices = prices-few p c.vectors resources r.listed.each r.listed.few_prices;
  nodes = omega (arith, r.nodes, most, tree_length (whole_of (problem_of_tree p c) ∷ []) c.tree (sound_walks (problem_of_tree p c) c.vectors c.cost (whole_of (problem_of_tree p c) ∷ []) c.tree r.proof.sound));
  budget = omega (arith, r.nodes, most);
  floors = made-floors p o.fixing o.outcome c made r.listed.few r.named.at_floors;
}

pub fits-season : (c : StageCert) → is_tried c.mark ≡ true → IsPrintableProof 3 c → IsWithinLimits c → FitsSeason c
fits-season c tried printable limits = record {
  printable = subst (IsPrintableAs 3 c) (sym tried) printable;
  limits = limits;
}

-- ---- a budget that is enough

count-same : (d : Declaration) (units : List SlotUnit) (choosers : List ChooserView) → AllZip (IsChooserOf d) units choosers →
    product_of (map (λ (m : ChooserView). length m.alts) choosers) ≡ allotment_count d units
count-same d [] [] h = refl
count-same d [] (m ∷ choosers) h = absurd h
count-same d (unit ∷ units) [] h = absurd h
count-same d (unit ∷ units) (m ∷ choosers) h =
    let here : length m.alts ≡ length (options_of d unit) = AllZip-long (IsAltOf d unit m) (options_of d unit) m.alts h.0 in
    let rest = count-same d units choosers h.1 in
    ap (λ (n : ℕ). n * product_of (map (λ (m : ChooserView). length m.alts) choosers)) here ∙ ap (λ (n : ℕ). length (options_of d unit) * n) rest

-- ---- a stage that was run

-- all that is said of a stage that was run on its problem
pub run-all : FewerDriven → (budget : ℕ) (c : StageCert) (p : ProblemView) (o : StageEnd) → IsTrialEnd p budget o → MakesStage p o c → IsProof p c → unit_count p ≤ 4096 → resource_count p ≤ 1000000 →
    budget ≤ 1000000 →
    IsStageRun p budget c × (is_tried c.mark ≡ true) × IsPrintableProof 3 c × IsWithinLimits c × (2 * choice_count p ≤ budget + 1 → c.mark ≡ marks.Unsettled → ⊥)
run-all fewer budget c p o t made proof units resources most =
    let r = stage-run fewer p budget c proof o t made in (
      r,
      made-tried p o.fixing o.outcome c made,
      made-printable p o.fixing o.outcome c t.ended made proof r.listed.few,
      stage-limits p budget o c units resources most made r,
      λ enough e. settled-mark p o.fixing o.outcome c (t.settled enough) made e,
    )

-- the same of a stage of a season
pub tried-run : (d : Declaration) (stage : ℕ) (states : List UnitState) (budget : ℕ) (c : StageCert) (p : ProblemView) → IsStageProblem d stage states p → IsStageRun p budget c →
    (2 * choice_count p ≤ budget + 1 → c.mark ≡ marks.Unsettled → ⊥) → IsTriedRun d stage states budget c
tried-run d stage states budget c p is r settled = record {
  problem = p;
  problem_is = is;
  run = r;
  settled = λ enough e.
      let same : choice_count p ≡ allotment_count d (stage_units stage states) = count-same d (stage_units stage states) p.units is.units_are in
      settled (omega (arith, enough, same)) e;
}
