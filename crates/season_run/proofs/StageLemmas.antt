-- Stages are proofs.
use Rattle.std.proofs.Common.{◌≡◌, ℕ, zero, suc, ◌<◌, ◌≤◌, refl, sym, ◌∙◌, ap, subst, arith, List, [], ◌∷◌, ◌++◌, length, take, inl, inr, Option, Some, None}
use Rattle.std.specs.Prelude.{All, IfSome}
use Rattle.std.specs.List.{AllZip}
use Rattle.std.specs.Option.{option_map}
use Rattle.std.proofs.lemmas.List.Elements.{All-head, All-tail, All-cons, All-nil}
use Rattle.choice_problem.specs.declared.vectors.Price.{Price}
use Rattle.choice_problem.specs.declared.nodes.Node.{Node}
use Rattle.choice_problem.specs.Problems.{ProblemView}
use Rattle.choice_problem.specs.Choices.{IsFeasible, choice_cost}
use Rattle.choice_problem.specs.Bounds.{IsVector, Closes, whole_of}
use Rattle.choice_problem.specs.Trees.{AreSound, IsSound, IsWhole, LeafHolds, vector_at}
use Rattle.choice_problem.specs.Floors.{AreFloors}
use Rattle.choice_problem.specs.Named.{NamesUpTo}
use Rattle.search_workers.specs.Outcomes.{IsBestFound}
use Rattle.cert_format.specs.declared.cert.Floor.{Floor}
use Rattle.cert_format.specs.declared.cert.Mark.{Mark}
use Rattle.cert_format.specs.declared.cert.Mark.TheVariants.{Optimal, Infeasible, Unsettled, NotTried}
use Rattle.cert_format.specs.declared.cert.StageCert.{StageCert}
use Rattle.cost_fixing.specs.declared.fixings.Fixing.{Fixing}
use Rattle.cost_fixing.specs.Fixings.{LeavesSome, FixingHolds, left_problem, tree_problem}
use Rattle.cert_format.specs.Proofs.{IsProof, IsStageFixing, FitsMark, IsStatedBound, floor_pairs}
use Rattle.season_run.specs.Ends.{IsClosedEnd, IsOpenEnd, IsGreatestFloor, IsGreatestName, IsLeastOf, AreKeptOf, AreStated, undone_ranges, floor_cost, floor_costs}
use Rattle.season_run.specs.Steps.{IsFoundFloor, AreFound, MarksClosed}
use Rattle.std.proofs.lemmas.Bool.{cases_lt}
use Rattle.choice_problem.specs.Walks.{AreWalkable}
use Rattle.season_run.specs.declared.floors.Stated.{Stated}
use Rattle.season_run.proofs.FloorLemmas.{AllZip-weaker, found_bound}
use Rattle.season_run.proofs.NameLemmas.{kept_first, floors_there}
use Rattle.season_run.proofs.TreeLemmas.{sound_walks, sound_there, open_none}

abbrev pub FewerSound : Type 0
FewerSound = (p : ProblemView) (vectors more : List (List Price)) (cost : Option ℕ) (pending : List (List (ℕ × ℕ))) (nodes : List Node) →
    All (NamesUpTo (length vectors)) nodes → AreSound p (vectors ++ more) cost pending nodes → AreSound p vectors cost pending nodes

abbrev pub FewerFloors : Type 0
FewerFloors = (p : ProblemView) (vectors more : List (List Price)) (floor : ℕ) (nodes : List Node) (floors : List (ℕ × ℕ)) →
    All (λ named. named.0 ≤ length vectors) floors → AreFloors p (vectors ++ more) floor nodes floors → AreFloors p vectors floor nodes floors

abbrev pub ClosesSmaller : Type 0
ClosesSmaller = (p : ProblemView) (ranges : List (ℕ × ℕ)) (prices : List Price) (scale u v : ℕ) → v ≤ u → Closes p ranges prices scale (Some u) → Closes p ranges prices scale (Some v)

found-feasible : (p : ProblemView) (cost : Option ℕ) (best : Option (List ℕ)) → IsBestFound p cost best → IfSome best (IsFeasible p)
found-feasible p None None h = tt
found-feasible p (Some c) None h = absurd h
found-feasible p None (Some x) h = absurd h
found-feasible p (Some c) (Some x) h = h.0

pub found-cost : (p : ProblemView) (cost : Option ℕ) (best : Option (List ℕ)) → IsBestFound p cost best → cost ≡ option_map (choice_cost p) best
found-cost p None None h = refl
found-cost p (Some c) None h = absurd h
found-cost p None (Some x) h = absurd h
found-cost p (Some c) (Some x) h = ap Some (sym h.1)

first-all : {X : Type 0} (P : X → Type 0) (xs ys : List X) → All P (xs ++ ys) → All P xs
first-all P [] ys all = All-nil P
first-all P (x ∷ xs) ys all = All-cons P x xs (All-head P x (xs ++ ys) all) (first-all P xs ys (All-tail P x (xs ++ ys) all))

-- the vectors of these numbers are the first ones
vector-first : (kept behind : List (List Price)) (k : ℕ) → k ≤ length kept → vector_at (kept ++ behind) k ≡ vector_at kept k
vector-first kept behind zero le = refl
vector-first [] behind (suc k) le = absurd (omega arith)
vector-first (v ∷ kept) behind (suc zero) le = refl
vector-first (v ∷ kept) behind (suc (suc k)) le = vector-first kept behind (suc k) (omega (arith, le))

-- a fixing by one of the first vectors
first-problem : (p : ProblemView) (kept behind : List (List Price)) (fixing : Option Fixing) → IfSome fixing (λ f. f.vector ≤ length kept) →
    tree_problem p (kept ++ behind) fixing ≡ tree_problem p kept fixing
first-problem p kept behind None le = refl
first-problem p kept behind (Some f) le = ap (λ (v : List Price). left_problem p v f.scale f.cost) (vector-first kept behind f.vector le)

first-fixing : (p : ProblemView) (kept behind : List (List Price)) (cost : Option ℕ) (fixing : Option Fixing) → IfSome fixing (λ f. f.vector ≤ length kept) →
    IfSome fixing (FixingHolds p (kept ++ behind) cost) → IfSome fixing (FixingHolds p kept cost)
first-fixing p kept behind cost None le h = tt
first-fixing p kept behind cost (Some f) le h = record {
  there = le;
  small = h.small;
  within = h.within;
  left = subst (λ (v : List Price). LeavesSome p v f.scale f.cost) (vector-first kept behind f.vector le) h.left;
}

-- what the first vectors keep
module _ (p : ProblemView) (searched kept : List (List Price)) (fixing : Option Fixing) (tree : List Node) (floors : List Floor) (k : AreKeptOf searched fixing tree floors kept) where
  pub kept-vectors : All (IsVector p) searched → All (IsVector p) kept
  kept-vectors all =
      let both : All (IsVector p) (kept ++ k.behind) = subst (All (IsVector p)) k.first all in
      first-all (IsVector p) kept k.behind both

  pub kept-fixing : (cost : Option ℕ) → IfSome fixing (FixingHolds p searched cost) → IfSome fixing (FixingHolds p kept cost)
  kept-fixing cost h = first-fixing p kept k.behind cost fixing k.last.at_fixing
      (subst (λ (v : List (List Price)). IfSome fixing (FixingHolds p v cost)) k.first h)

  kept-problem : tree_problem p searched fixing ≡ tree_problem p kept fixing
  kept-problem = ap (λ (v : List (List Price)). tree_problem p v fixing) k.first ∙ first-problem p kept k.behind fixing k.last.at_fixing

  pub kept-sound : FewerSound → (cost : Option ℕ) → IsSound (tree_problem p searched fixing) searched cost (whole_of (tree_problem p searched fixing)) tree →
      IsSound (tree_problem p kept fixing) kept cost (whole_of (tree_problem p kept fixing)) tree
  kept-sound fewer cost sound =
      let here : IsSound (tree_problem p kept fixing) searched cost (whole_of (tree_problem p kept fixing)) tree =
      subst (λ (q : ProblemView). IsSound q searched cost (whole_of q) tree) kept-problem sound in
      let q = tree_problem p kept fixing in
      fewer q kept k.behind cost (whole_of q ∷ []) tree k.last.leaves (subst (λ (v : List (List Price)). AreSound q v cost (whole_of q ∷ []) tree) k.first here)

  pub kept-floors : FewerFloors → (bound : ℕ) (pairs : List (ℕ × ℕ)) → All (λ named. named.0 ≤ length kept) pairs → AreFloors p searched bound tree pairs → AreFloors p kept bound tree pairs
  kept-floors fewer bound pairs few h =
      fewer p kept k.behind bound tree pairs few (subst (λ (v : List (List Price)). AreFloors p v bound tree pairs) k.first h)

closed-mark : (p : ProblemView) (c : StageCert) (mark : Mark) (choice : Option (List ℕ)) → c.choice ≡ choice → IsWhole c.tree → MarksClosed mark choice → FitsMark p c mark
closed-mark p c Optimal (Some x) e w h = (rw e refl, w)
closed-mark p c Infeasible None e w h = (rw e refl, w)
closed-mark p c Optimal None e w h = absurd h
closed-mark p c Infeasible (Some x) e w h = absurd h
closed-mark p c Unsettled choice e w h = absurd h
closed-mark p c NotTried choice e w h = absurd h

stage-fixing : (p : ProblemView) (c : StageCert) (mark : Mark) (cost : Option ℕ) (fixing : Option Fixing) → c.mark ≡ mark → c.cost ≡ cost → IfSome fixing (λ _. mark ≡ Optimal) →
    IfSome fixing (FixingHolds p c.vectors cost) → IfSome fixing (IsStageFixing p c)
stage-fixing p c mark cost None mark_is cost_is best holds = tt
stage-fixing p c mark cost (Some f) mark_is cost_is best holds = record {
  optimal = mark_is ∙ best;
  holds = rw cost_is holds;
}

-- a whole tree with its first vectors
pub closed-proof : FewerSound → (p : ProblemView) (mark : Mark) (choice : Option (List ℕ)) (cost : Option ℕ) (fixing : Option Fixing) (tree : List Node) (vectors : List (List Price)) (c : StageCert) →
    IsClosedEnd p vectors fixing cost choice tree → MarksClosed mark choice → IfSome fixing (λ _. mark ≡ Optimal) → c.mark ≡ mark → c.choice ≡ choice → c.cost ≡ cost → c.fixing ≡ fixing → c.tree ≡ tree →
    AreKeptOf vectors fixing tree c.floors c.vectors → IsProof p c
closed-proof fewer p mark choice cost fixing tree vectors c end closed best mark_is choice_is cost_is fixing_is tree_is kept =
    record {
      feasible = rw choice_is (found-feasible p cost choice end.found);
      cost = rw (choice_is, cost_is) (found-cost p cost choice end.found);
      vectors = kept-vectors p vectors c.vectors fixing tree c.floors kept end.listed.each;
      fixing = subst (λ (f : Option Fixing). IfSome f (IsStageFixing p c)) (sym fixing_is)
          (stage-fixing p c mark cost fixing mark_is cost_is best (kept-fixing p vectors c.vectors fixing tree c.floors kept cost end.fixed));
      sound = rw (cost_is, fixing_is, tree_is) (kept-sound p vectors c.vectors fixing tree c.floors kept fewer cost end.sound);
      marked = subst (FitsMark p c) (sym mark_is) (closed-mark p c mark choice choice_is (rw tree_is end.whole) closed);
    }

-- each floor closes for the bound
floors-close : ClosesSmaller → (p : ProblemView) (vectors : List (List Price)) (bound : ℕ) (pieces : List (List (ℕ × ℕ))) (floors : List Floor) →
    AllZip (IsFoundFloor p vectors) pieces floors → All (λ n. bound ≤ n) (floor_costs p vectors pieces floors) →
    AllZip (λ ranges named. LeafHolds p vectors (Some bound) ranges named.0 named.1) pieces (floor_pairs floors)
floors-close smaller p vectors bound [] [] h below = tt
floors-close smaller p vectors bound [] (f ∷ floors) h below = absurd h
floors-close smaller p vectors bound (r ∷ pieces) [] h below = absurd h
floors-close smaller p vectors bound (r ∷ pieces) (f ∷ floors) h below =
    let le = All-head (λ n. bound ≤ n) (floor_cost p vectors r f) (floor_costs p vectors pieces floors) below in
    let rest = All-tail (λ n. bound ≤ n) (floor_cost p vectors r f) (floor_costs p vectors pieces floors) below in (
      record { there = h.0.closes.there; small = h.0.closes.small; closes = smaller p r (vector_at vectors f.vector) f.scale (floor_cost p vectors r f) bound le h.0.closes.closes },
      floors-close smaller p vectors bound pieces floors h.1 rest,
    )

pairs-few : (most : ℕ) (floors : List Floor) → All (λ (f : Floor). f.vector ≤ most) floors → All (λ (named : ℕ × ℕ). named.0 ≤ most) (floor_pairs floors)
pairs-few most [] all = All-nil (λ (named : ℕ × ℕ). named.0 ≤ most)
pairs-few most (f ∷ floors) all =
    All-cons (λ (named : ℕ × ℕ). named.0 ≤ most) (f.vector, f.scale) (floor_pairs floors) (All-head (λ (g : Floor). g.vector ≤ most) f floors all)
    (pairs-few most floors (All-tail (λ (g : Floor). g.vector ≤ most) f floors all))

-- a tree with undone nodes
pub open-proof : FewerSound → FewerFloors → ClosesSmaller → (p : ProblemView) (best : Option (List ℕ)) (tree : List Node) (vectors : List (List Price)) (bound : ℕ) (c : StageCert) →
    IsOpenEnd p vectors (option_map (choice_cost p) best) best tree → c.mark ≡ Unsettled → c.choice ≡ best → c.cost ≡ option_map (choice_cost p) best → c.fixing ≡ None → c.tree ≡ tree → c.bound ≡ Some bound →
    AreKeptOf vectors None tree c.floors c.vectors → AllZip (IsFoundFloor p vectors) (undone_ranges p tree) c.floors →
    IsLeastOf c.cost (floor_costs p vectors (undone_ranges p tree) c.floors) bound → IsProof p c
open-proof fewer fewer_floors smaller p best tree vectors bound c end mark_is choice_is cost_is fixing_is tree_is bound_is kept found least =
    let close : AreFloors p vectors bound tree (floor_pairs c.floors) = floors-close smaller p vectors bound (undone_ranges p tree) c.floors found least.below in
    let floors = kept-floors p vectors c.vectors None tree c.floors kept fewer_floors bound (floor_pairs c.floors) (pairs-few (length c.vectors) c.floors kept.last.at_floors) close in
    let stated : IsStatedBound p c bound = record { within = least.within; floors = rw tree_is floors } in
    record {
      feasible = rw choice_is (found-feasible p (option_map (choice_cost p) best) best end.searched.found);
      cost = rw (choice_is, cost_is) refl;
      vectors = kept-vectors p vectors c.vectors None tree c.floors kept end.searched.listed.each;
      fixing = rw fixing_is tt;
      sound = rw (cost_is, fixing_is, tree_is) (kept-sound p vectors c.vectors None tree c.floors kept fewer (option_map (choice_cost p) best) end.searched.sound);
      marked = subst (FitsMark p c) (sym mark_is) ((λ w. end.undone (rw tree_is at w)), subst (λ (b : Option ℕ). IfSome b (IsStatedBound p c)) (sym bound_is) stated);
    }

-- and what it states
pub open-stated : (p : ProblemView) (vectors : List (List Price)) (cost bound : Option ℕ) (least : ℕ) (tree : List Node) (floors : List Floor) →
    AllZip (IsFoundFloor p vectors) (undone_ranges p tree) floors → bound ≡ Some least → IsLeastOf cost (floor_costs p vectors (undone_ranges p tree) floors) least →
    AreStated p vectors cost tree floors bound
open-stated p vectors cost bound least tree floors found is h = record {
  greatest = AllZip-weaker (IsFoundFloor p vectors) (IsGreatestFloor p vectors) (undone_ranges p tree) floors (λ ranges floor f. f.greatest) found;
  least = rw is h;
}

-- ---- from the parts that a body makes

-- the greatest name of a tree without floors, read from what is lent
pub no_floors-name : (fixing : Option Fixing) (tree lent : List Node) (floors given : List Floor) (number : ℕ) → lent ≡ tree → given ≡ floors → floors ≡ [] → IsGreatestName fixing lent given number → IsGreatestName fixing tree floors number
no_floors-name fixing tree lent floors given number t g n h = subst (λ (fs : List Floor). IsGreatestName fixing tree fs number) g (subst (λ (ns : List Node). IsGreatestName fixing ns given number) t h)

fixing-listed : (p : ProblemView) (vectors : List (List Price)) (cost : Option ℕ) (fixing : Option Fixing) → IfSome fixing (FixingHolds p vectors cost) → IfSome fixing (λ f. f.vector ≤ length vectors)
fixing-listed p vectors cost None h = tt
fixing-listed p vectors cost (Some f) h = h.there

pub closed-kept : (p : ProblemView) (choice : Option (List ℕ)) (cost : Option ℕ) (fixing : Option Fixing) (tree lent : List Node) (vectors kept : List (List Price)) (floors given : List Floor) (number : ℕ) → IsClosedEnd p vectors fixing cost choice tree →
    lent ≡ tree → given ≡ floors → floors ≡ [] → IsGreatestName fixing lent given number → kept ≡ take number vectors → AreKeptOf vectors fixing tree floors kept
closed-kept p choice cost fixing tree lent vectors kept floors given number end t g n h is =
    let q = tree_problem p vectors fixing in
    kept_first fixing vectors kept tree floors number (sound_there q vectors cost (whole_of q ∷ []) tree end.sound)
    (subst (All (λ (f : Floor). f.vector ≤ length vectors)) (sym n) (All-nil (λ (f : Floor). f.vector ≤ length vectors))) (fixing-listed p vectors cost fixing end.fixed)
    (no_floors-name fixing tree lent floors given number t g n h) is

pub open-walks : (p : ProblemView) (vectors : List (List Price)) (cost : Option ℕ) (best : Option (List ℕ)) (tree lent : List Node) → IsOpenEnd p vectors cost best tree → lent ≡ tree → AreWalkable (whole_of p ∷ []) lent
open-walks p vectors cost best tree lent end t = subst (AreWalkable (whole_of p ∷ [])) (sym t) (sound_walks p vectors cost (whole_of p ∷ []) tree end.searched.sound)

-- what is stated of a tree with undone nodes
pub open-found : (p : ProblemView) (vectors tabled : List (List Price)) (cost given : Option ℕ) (best : Option (List ℕ)) (tree lent : List Node) (stated : Stated) → IsOpenEnd p vectors cost best tree → lent ≡ tree → tabled ≡ vectors → given ≡ cost →
    AreFound p tabled given (undone_ranges p lent) stated →
    AllZip (IsFoundFloor p vectors) (undone_ranges p tree) stated.floors.items
    × ((least : ℕ) × (stated.bound ≡ Some least) × IsLeastOf cost (floor_costs p vectors (undone_ranges p tree) stated.floors.items) least)
open-found p vectors tabled cost given best tree lent stated end t v k h =
    let one = subst (λ (vs : List (List Price)). AreFound p vs given (undone_ranges p lent) stated) v h in
    let two = subst (λ (o : Option ℕ). AreFound p vectors o (undone_ranges p lent) stated) k one in
    let all = subst (λ (ns : List Node). AreFound p vectors cost (undone_ranges p ns) stated) t two in
    let walks = sound_walks p vectors cost (whole_of p ∷ []) tree end.searched.sound in
    let some : 0 < length (undone_ranges p tree) = elim (cases_lt 0 (length (undone_ranges p tree))) [
      | inl lt ↦ lt
      | inr none ↦ absurd (end.undone (open_none (whole_of p ∷ []) tree walks (omega (arith, none))))
    ] in
    (all.floors, found_bound p vectors cost (undone_ranges p tree) stated.floors.items stated.bound all.floors some all.least)

pub open-kept : (p : ProblemView) (vectors kept : List (List Price)) (cost : Option ℕ) (best : Option (List ℕ)) (tree lent : List Node) (floors given listed : List Floor) (number : ℕ) → IsOpenEnd p vectors cost best tree →
    lent ≡ tree → given ≡ floors → listed ≡ floors → AllZip (IsFoundFloor p vectors) (undone_ranges p tree) floors → IsGreatestName None lent given number → kept ≡ take number vectors → AreKeptOf vectors None tree listed kept
open-kept p vectors kept cost best tree lent floors given listed number end t g l found h is =
    let one = subst (λ (ns : List Node). IsGreatestName None ns given number) t h in
    let two = subst (λ (fs : List Floor). IsGreatestName None tree fs number) g one in
    subst (λ (fs : List Floor). AreKeptOf vectors None tree fs kept) (sym l)
    (kept_first None vectors kept tree floors number (sound_there p vectors cost (whole_of p ∷ []) tree end.searched.sound) (floors_there p vectors (undone_ranges p tree) floors found) tt two is)
