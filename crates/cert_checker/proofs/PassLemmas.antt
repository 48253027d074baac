-- Where no line of a stage fails, the stage is a proof.
use Rattle.std.proofs.Common.{◌≡◌, ℕ, zero, suc, ◌+◌, ◌<◌, refl, sym, ◌∙◌, ap, subst, arith, List, [], ◌∷◌, ◌++◌, length, get_or}
use Rattle.std.specs.Prelude.{Option, Some, None, IfSome, is_some, option_map, flat_map, All, Bool, true, false, if◌then◌else◌}
use Rattle.std.specs.List.{AllByRecursion, AllZip}
use Rattle.std.proofs.lemmas.List.Kept.{AllPairs-cons}
use Rattle.choice_problem.specs.declared.vectors.Price.{Price}
use Rattle.choice_problem.specs.declared.nodes.Node.{Node}
use Rattle.choice_problem.specs.declared.nodes.Node.TheVariants.{Split, Leaf, Over, Undone}
use Rattle.choice_problem.specs.Problems.{ProblemView, unit_count, alt_count}
use Rattle.choice_problem.specs.Choices.{IsChoice, Fits, IsFeasible as IsFeasibleFor, choice_cost}
use Rattle.choice_problem.specs.Bounds.{IsPrice, IsVector, whole_of}
use Rattle.choice_problem.specs.Trees.{AreTrees, AreSound, NodeHolds, LeafHolds, IsSound, IsTree, IsWhole, parts_of}
use Rattle.choice_problem.specs.Grafts.{open_ranges}
use Rattle.choice_problem.specs.Floors.{IsAtMost}
use Rattle.cost_fixing.specs.declared.fixings.Fixing.{Fixing}
use Rattle.cost_fixing.specs.Fixings.{tree_problem}
use Rattle.cert_format.specs.declared.cert.Floor.{Floor}
use Rattle.cert_format.specs.declared.cert.Mark.{Mark}
use Rattle.cert_format.specs.declared.cert.Mark.TheVariants.{Optimal, Infeasible, Unsettled, NotTried}
use Rattle.cert_format.specs.declared.cert.StageCert.{StageCert}
use Rattle.cert_format.specs.Printable.{IsPrintableProof, IsPrintableExtra}
use Rattle.cert_format.specs.Spelling.{is_tried, has_floors, has_bound, undone_count, floor_count}
use Rattle.cert_format.specs.Proofs.{IsProof, IsStageFixing, problem_of_tree, FitsMark, IsStatedBound, floor_pairs}
use Rattle.cert_checker.specs.Tests.{Test, Passes, HasChoice, HasUndone, MayBeUndone, IsAbove, alternative_tests, choice_tests, cost_tests, bound_tests, price_tests, vector_tests, fixing_tests, node_line, node_tests, rest, floors_after, proof_tests}
use Rattle.cert_checker.specs.declared.verdict.Verdict.{Verdict}
use Rattle.cert_checker.specs.declared.verdict.Verdict.TheVariants.{Yes, No}
use Rattle.cert_checker.specs.Verdicts.{NoneFails, IsStageVerdict}
use Rattle.cert_checker.specs.Parts.{IsPart}
use Rattle.cert_checker.proofs.VerdictLemmas.{NoneFails-front, NoneFails-back, NoneFails-append}

-- ---- choice and cost

alternatives-there : (p : ProblemView) (c : StageCert) (unit : ℕ) (alts : List ℕ) → NoneFails (Passes p c) (alternative_tests unit alts) →
    (i : ℕ) → i < length alts → get_or alts i 0 < alt_count p (unit + i)
alternatives-there p c unit [] none i lt = absurd (omega arith)
alternatives-there p c unit (alt ∷ alts) none zero lt =
    let same : unit + 0 ≡ unit = omega arith in
    subst (λ u. alt < alt_count p u) (sym same) none.0.0
alternatives-there p c unit (alt ∷ alts) none (suc i) lt =
    let same : suc unit + i ≡ unit + suc i = omega arith in
    subst (λ u. get_or alts i 0 < alt_count p u) same (alternatives-there p c (suc unit) alts none.1 i (omega arith))

-- a choice whose lines pass takes an alternative of each unit
pub tested-choice : (p : ProblemView) (c : StageCert) (choice : Option (List ℕ)) → c.choice ≡ choice → NoneFails (Passes p c) (choice_tests choice) → IfSome choice (IsChoice p)
tested-choice p c None choice_is none = tt
tested-choice p c (Some x) choice_is none =
    let counted : length x ≡ unit_count p = subst (λ (o : Option (List ℕ)). IfSome o (λ y. length y ≡ unit_count p)) choice_is none.0.1.0 in
    let there = alternatives-there p c 0 x none.1 in
    record {
      length = counted;
      there = λ u lt.
          let same : 0 + u ≡ u = omega arith in
          subst (λ k. get_or x u 0 < alt_count p k) same (there u (omega (arith, counted)));
    }

passing-choice : (p : ProblemView) (c : StageCert) (choice : Option (List ℕ)) (cost : Option ℕ) → c.choice ≡ choice → c.cost ≡ cost → is_some cost ≡ is_some choice →
    NoneFails (Passes p c) (choice_tests choice) → NoneFails (Passes p c) (cost_tests cost) →
    IfSome choice (IsFeasibleFor p) × (cost ≡ option_map (choice_cost p) choice)
passing-choice p c None None choice_is cost_is both none costs = (tt, refl)
passing-choice p c None (Some n) choice_is cost_is both none costs = let no : ⊥ = cc in absurd no
passing-choice p c (Some x) None choice_is cost_is both none costs = let no : ⊥ = cc in absurd no
passing-choice p c (Some x) (Some n) choice_is cost_is both none costs =
    let counted : length x ≡ unit_count p = subst (λ (o : Option (List ℕ)). IfSome o (λ y. length y ≡ unit_count p)) choice_is none.0.1.0 in
    let fits : Fits p x = subst (λ (o : Option (List ℕ)). IfSome o (Fits p)) choice_is costs.0.1.0 in
    let cost : c.cost ≡ option_map (choice_cost p) c.choice = costs.0.0 in
    let there = alternatives-there p c 0 x none.1 in (
      record {
        choice = record {
          length = counted;
          there = λ u lt.
              let same : 0 + u ≡ u = omega arith in
              subst (λ k. get_or x u 0 < alt_count p k) same (there u (omega (arith, counted)));
        };
        fits = fits;
      },
      sym cost_is ∙ cost ∙ ap (option_map (choice_cost p)) choice_is,
    )

-- ---- vectors

record Rising (p : ProblemView) (before : Option ℕ) (prices : List Price) : Type 0 where
  above : All (λ (e : Price). IsAbove before e.resource) prices
  vector : IsVector p prices

all-none : {X : Type 0} (P : X → Type 0) → All P []
all-none P k d lt = absurd (omega arith)

all-cons : {X : Type 0} (P : X → Type 0) (x : X) (xs : List X) → P x → All P xs → All P (x ∷ xs)
all-cons P x xs one others zero d lt = one
all-cons P x xs one others (suc k) d lt = others k d (omega arith)

all-map : {X : Type 0} (P Q : X → Type 0) (xs : List X) → ((x : X) → P x → Q x) → All P xs → All Q xs
all-map P Q xs f all k d lt = f (get_or xs k d) (all k d lt)

above-later : (before : Option ℕ) (r s : ℕ) → IsAbove before r → r < s → IsAbove before s
above-later None r s one lt = tt
above-later (Some n) r s one lt = omega arith

passing-prices : (p : ProblemView) (c : StageCert) (before : Option ℕ) (prices : List Price) → NoneFails (Passes p c) (price_tests before prices) → Rising p before prices
passing-prices p c before [] none = record {
  above = all-none (λ (e : Price). IsAbove before e.resource);
  vector = record { rising = λ i j d lt le. absurd (omega arith); each = all-none (IsPrice p) };
}
passing-prices p c before (e ∷ prices) none =
    let later = passing-prices p c (Some e.resource) prices none.1 in
    let own = none.0.0 in
    record {
      above = all-cons (λ (f : Price). IsAbove before f.resource) e prices own.0
          (all-map (λ (f : Price). e.resource < f.resource) (λ (f : Price). IsAbove before f.resource) prices (λ f lt. above-later before e.resource f.resource own.0 lt) later.above);
      vector = record {
        rising = AllPairs-cons (λ (f g : Price). f.resource < g.resource) e prices later.above later.vector.rising;
        each = all-cons (IsPrice p) e prices own.1 later.vector.each;
      };
    }

pub passing-vectors : (p : ProblemView) (c : StageCert) (vectors : List (List Price)) → NoneFails (Passes p c) (flat_map vector_tests vectors) → All (IsVector p) vectors
passing-vectors p c [] none = all-none (IsVector p)
passing-vectors p c (prices ∷ vectors) none =
    all-cons (IsVector p) prices vectors
    (passing-prices p c None prices (NoneFails-front (Passes p c) (vector_tests prices) (flat_map vector_tests vectors) none).1).vector
    (passing-vectors p c vectors (NoneFails-back (Passes p c) (vector_tests prices) (flat_map vector_tests vectors) none))

-- ---- the tree

abbrev Ranges : Type 0
Ranges = List (ℕ × ℕ)

abbrev AreShaped : List Ranges → List Node → Type 0
AreShaped shapes nodes = AreTrees (λ ranges node. Unit {0}) shapes nodes

parts-length : (one other : Ranges) (node : Node) (pending shapes : List Ranges) → length pending ≡ length shapes → length (parts_of one node ++ pending) ≡ length (parts_of other node ++ shapes)
parts-length one other (Split unit cut seen) pending shapes same = ap (λ k. suc (suc k)) same
parts-length one other (Leaf vector scale seen) pending shapes same = same
parts-length one other (Over resource) pending shapes same = same
parts-length one other Undone pending shapes same = same

node-holds : (p : ProblemView) (c : StageCert) (ranges : Ranges) (node : Node) (floors : List Floor) → AllByRecursion (Passes p c) (node_line ranges node floors) → NodeHolds (problem_of_tree p c) c.vectors c.cost ranges node
node-holds p c ranges (Split unit cut seen) floors all = all.0
node-holds p c ranges (Leaf vector scale seen) floors all = all.0
node-holds p c ranges (Over resource) floors all = all.0
node-holds p c ranges Undone floors all = tt

passing-sound : (p : ProblemView) (c : StageCert) (nodes : List Node) (pending shapes : List Ranges) (floors : List Floor) → length pending ≡ length shapes →
    AreShaped shapes nodes → NoneFails (Passes p c) (node_tests pending nodes floors) → AreSound (problem_of_tree p c) c.vectors c.cost pending nodes
passing-sound p c [] [] shapes floors same shaped none = tt
passing-sound p c [] (ranges ∷ pending) [] floors same shaped none = absurd (omega arith)
passing-sound p c [] (ranges ∷ pending) (shape ∷ shapes) floors same shaped none = absurd shaped
passing-sound p c (node ∷ nodes) [] [] floors same shaped none = absurd shaped
passing-sound p c (node ∷ nodes) [] (shape ∷ shapes) floors same shaped none = absurd (omega arith)
passing-sound p c (node ∷ nodes) (ranges ∷ pending) [] floors same shaped none = absurd shaped
passing-sound p c (node ∷ nodes) (ranges ∷ pending) (shape ∷ shapes) floors same shaped none = (
  node-holds p c ranges node floors none.0,
  passing-sound p c nodes (parts_of ranges node ++ pending) (parts_of shape node ++ shapes) (floors_after node floors)
      (parts-length ranges shape node pending shapes (omega arith)) shaped.1 none.1,
)

undone-refused : (p : ProblemView) (c : StageCert) (ranges : Ranges) (floors : List Floor) → AllByRecursion (Passes p c) (node_line ranges Undone floors) → MayBeUndone c.mark
undone-refused p c ranges [] all = all.0
undone-refused p c ranges (floor ∷ floors) all = all.0

passing-whole : (p : ProblemView) (c : StageCert) (nodes : List Node) (pending shapes : List Ranges) (floors : List Floor) → (MayBeUndone c.mark → ⊥) → length pending ≡ length shapes →
    AreShaped shapes nodes → NoneFails (Passes p c) (node_tests pending nodes floors) → IsWhole nodes
passing-whole p c [] pending shapes floors refused same shaped none = tt
passing-whole p c (node ∷ nodes) [] [] floors refused same shaped none = absurd shaped
passing-whole p c (node ∷ nodes) [] (shape ∷ shapes) floors refused same shaped none = absurd (omega arith)
passing-whole p c (node ∷ nodes) (ranges ∷ pending) [] floors refused same shaped none = absurd shaped
passing-whole p c (Split unit cut seen ∷ nodes) (ranges ∷ pending) (shape ∷ shapes) floors refused same shaped none =
    passing-whole p c nodes (parts_of ranges (Split unit cut seen) ++ pending) (parts_of shape (Split unit cut seen) ++ shapes) floors refused
    (parts-length ranges shape (Split unit cut seen) pending shapes (omega arith)) shaped.1 none.1
passing-whole p c (Leaf vector scale seen ∷ nodes) (ranges ∷ pending) (shape ∷ shapes) floors refused same shaped none =
    passing-whole p c nodes pending shapes floors refused (omega arith) shaped.1 none.1
passing-whole p c (Over resource ∷ nodes) (ranges ∷ pending) (shape ∷ shapes) floors refused same shaped none =
    passing-whole p c nodes pending shapes floors refused (omega arith) shaped.1 none.1
passing-whole p c (Undone ∷ nodes) (ranges ∷ pending) (shape ∷ shapes) floors refused same shaped none =
    absurd (refused (undone-refused p c ranges floors none.0))

-- one floor for each undone node, and each closes
abbrev Floored : ProblemView → StageCert → ℕ → Ranges → ℕ × ℕ → Type 0
Floored p c b ranges named = LeafHolds (problem_of_tree p c) c.vectors (Some b) ranges named.0 named.1

passing-floors : (p : ProblemView) (c : StageCert) (b : ℕ) (nodes : List Node) (pending shapes : List Ranges) (floors : List Floor) → c.bound ≡ Some b → length pending ≡ length shapes →
    length floors ≡ undone_count nodes → AreShaped shapes nodes → NoneFails (Passes p c) (node_tests pending nodes floors) →
    AllZip (λ ranges named. Floored p c b ranges named) (open_ranges pending nodes) (floor_pairs floors)
passing-floors p c b [] pending shapes [] bound_is same counted shaped none = tt
passing-floors p c b [] pending shapes (floor ∷ floors) bound_is same counted shaped none = absurd (omega arith)
passing-floors p c b (node ∷ nodes) [] [] floors bound_is same counted shaped none = absurd shaped
passing-floors p c b (node ∷ nodes) [] (shape ∷ shapes) floors bound_is same counted shaped none = absurd (omega arith)
passing-floors p c b (node ∷ nodes) (ranges ∷ pending) [] floors bound_is same counted shaped none = absurd shaped
passing-floors p c b (Split unit cut seen ∷ nodes) (ranges ∷ pending) (shape ∷ shapes) floors bound_is same counted shaped none =
    passing-floors p c b nodes (parts_of ranges (Split unit cut seen) ++ pending) (parts_of shape (Split unit cut seen) ++ shapes) floors bound_is
    (parts-length ranges shape (Split unit cut seen) pending shapes (omega arith)) counted shaped.1 none.1
passing-floors p c b (Leaf vector scale seen ∷ nodes) (ranges ∷ pending) (shape ∷ shapes) floors bound_is same counted shaped none =
    passing-floors p c b nodes pending shapes floors bound_is (omega arith) counted shaped.1 none.1
passing-floors p c b (Over resource ∷ nodes) (ranges ∷ pending) (shape ∷ shapes) floors bound_is same counted shaped none =
    passing-floors p c b nodes pending shapes floors bound_is (omega arith) counted shaped.1 none.1
passing-floors p c b (Undone ∷ nodes) (ranges ∷ pending) (shape ∷ shapes) [] bound_is same counted shaped none = absurd (omega arith)
passing-floors p c b (Undone ∷ nodes) (ranges ∷ pending) (shape ∷ shapes) (floor ∷ floors) bound_is same counted shaped none = (
  subst (λ (o : Option ℕ). IfSome o (λ b. LeafHolds (problem_of_tree p c) c.vectors (Some b) ranges floor.vector floor.scale)) bound_is none.0.1.0,
  passing-floors p c b nodes pending shapes floors bound_is (omega arith) (omega arith) shaped.1 none.1,
)

-- ---- the fixing

passing-fixing : (p : ProblemView) (c : StageCert) (fixing : Option Fixing) → NoneFails (Passes p c) (fixing_tests fixing) → IfSome fixing (IsStageFixing p c)
passing-fixing p c None none = tt
passing-fixing p c (Some f) none = none.0.0

-- under OPEN there is none
unsettled-unfixed : (p : ProblemView) (c : StageCert) (fixing : Option Fixing) → IfSome fixing (IsStageFixing p c) → c.mark ≡ Unsettled → fixing ≡ None
unsettled-unfixed p c None fixed unsettled = refl
unsettled-unfixed p c (Some f) fixed unsettled =
    let both : ◌≡◌ {A = Mark} Unsettled Optimal = sym unsettled ∙ fixed.optimal in
    let no : ⊥ = cc in absurd no

-- so the tree is one of the stage's problem
plain-tree : (p : ProblemView) (c : StageCert) → IfSome c.fixing (IsStageFixing p c) → c.mark ≡ Unsettled → problem_of_tree p c ≡ p
plain-tree p c fixed unsettled = ap (λ (o : Option Fixing). tree_problem p c.vectors o) (unsettled-unfixed p c c.fixing fixed unsettled)

-- ---- the mark

passing-mark : (p : ProblemView) (c : StageCert) (mark : Mark) → c.mark ≡ mark → is_tried mark ≡ true → HasChoice mark c.choice → HasUndone mark c.tree →
    ((MayBeUndone c.mark → ⊥) → IsWhole c.tree) → (c.mark ≡ Unsettled → problem_of_tree p c ≡ p) → IfSome c.bound (IsStatedBound (problem_of_tree p c) c) → FitsMark p c mark
passing-mark p c Optimal mark_is tried choice undone whole plain floor = (choice, whole (λ may. subst MayBeUndone mark_is may))
passing-mark p c Infeasible mark_is tried choice undone whole plain floor = (choice, whole (λ may. subst MayBeUndone mark_is may))
passing-mark p c Unsettled mark_is tried choice undone whole plain floor = (undone, subst (λ (q : ProblemView). IfSome c.bound (IsStatedBound q c)) (plain mark_is) floor)
passing-mark p c NotTried mark_is tried choice undone whole plain floor = let no : ⊥ = cc in absurd no

-- a stage with a bound has one floor for each undone node
floors-counted : (version : ℕ) (mark : Mark) (bound : Option ℕ) (b : ℕ) (nodes : List Node) → bound ≡ Some b → is_some bound ≡ has_bound version mark → floor_count version nodes ≡ undone_count nodes
floors-counted version Optimal bound b nodes bound_is some = let yes : is_some bound ≡ true = ap is_some bound_is in let no : ⊥ = cc in absurd no
floors-counted version Infeasible bound b nodes bound_is some = let yes : is_some bound ≡ true = ap is_some bound_is in let no : ⊥ = cc in absurd no
floors-counted version NotTried bound b nodes bound_is some = let yes : is_some bound ≡ true = ap is_some bound_is in let no : ⊥ = cc in absurd no
floors-counted version Unsettled bound b nodes bound_is some =
    let two : has_floors version ≡ true = sym some ∙ ap is_some bound_is in
    ap (λ (v : Bool). if v then undone_count nodes else 0) two

passing-floor : (p : ProblemView) (version : ℕ) (c : StageCert) (bound : Option ℕ) → c.bound ≡ bound → IsPrintableProof version c → NoneFails (Passes p c) (bound_tests bound) →
    IsTree c.tree → NoneFails (Passes p c) (node_tests (whole_of (problem_of_tree p c) ∷ []) c.tree c.floors) → IfSome bound (IsStatedBound (problem_of_tree p c) c)
passing-floor p version c None bound_is printable none shaped nodes = tt
passing-floor p version c (Some b) bound_is printable none shaped nodes =
    let counted : length c.floors ≡ undone_count c.tree = printable.floor_count ∙ floors-counted version c.mark c.bound b c.tree bound_is printable.has_bound in
    record {
      within = subst (λ (o : Option ℕ). IfSome o (λ n. IsAtMost n c.cost)) bound_is none.0.0;
      floors = passing-floors p c b c.tree (whole_of (problem_of_tree p c) ∷ []) ([] ∷ []) c.floors bound_is refl counted shaped nodes;
    }

first-marked : (p : ProblemView) (c : StageCert) (choice : Option (List ℕ)) → NoneFails (Passes p c) (choice_tests choice) → HasChoice c.mark c.choice
first-marked p c None none = none.0.0
first-marked p c (Some x) none = none.0.0

-- where no line of a stage fails, it is a proof
pub passing-proof : (p : ProblemView) (version : ℕ) (c : StageCert) → is_tried c.mark ≡ true → IsPrintableProof version c → NoneFails (Passes p c) (proof_tests p c) → IsProof p c
passing-proof p version c tried printable none =
    let Holds : Test → Type 0 = Passes p c in
    let choice = NoneFails-front Holds (choice_tests c.choice) _ none in
    let after_choice = NoneFails-back Holds (choice_tests c.choice) _ none in
    let after_cost = NoneFails-back Holds (cost_tests c.cost) _ after_choice in
    let after_bound = NoneFails-back Holds (bound_tests c.bound) _ after_cost in
    let after_vectors = NoneFails-back Holds (flat_map vector_tests c.vectors) _ after_bound.1 in
    let after_fixing = NoneFails-back Holds (fixing_tests c.fixing) _ after_vectors in
    let fixed : IfSome c.fixing (IsStageFixing p c) = passing-fixing p c c.fixing (NoneFails-front Holds (fixing_tests c.fixing) _ after_vectors) in
    let chosen = passing-choice p c c.choice c.cost refl refl printable.has_cost choice (NoneFails-front Holds (cost_tests c.cost) _ after_choice) in
    record {
      feasible = chosen.0;
      cost = chosen.1;
      vectors = passing-vectors p c c.vectors (NoneFails-front Holds (flat_map vector_tests c.vectors) _ after_bound.1);
      fixing = fixed;
      sound = passing-sound p c c.tree (whole_of (problem_of_tree p c) ∷ []) ([] ∷ []) c.floors refl after_fixing.0.0 after_fixing.1;
      marked = passing-mark p c c.mark refl tried (first-marked p c c.choice choice) after_fixing.0.1.0
          (λ refused. passing-whole p c c.tree (whole_of (problem_of_tree p c) ∷ []) ([] ∷ []) c.floors refused refl after_fixing.0.0 after_fixing.1)
          (plain-tree p c fixed)
          (passing-floor p version c c.bound refl printable (NoneFails-front Holds (bound_tests c.bound) _ after_cost) after_fixing.0.0 after_fixing.1);
    }

-- ---- and where it is a proof, no line fails

alternatives-pass : (p : ProblemView) (c : StageCert) (unit : ℕ) (alts : List ℕ) → ((i : ℕ) → i < length alts → get_or alts i 0 < alt_count p (unit + i)) →
    NoneFails (Passes p c) (alternative_tests unit alts)
alternatives-pass p c unit [] there = tt
alternatives-pass p c unit (alt ∷ alts) there =
    let same : unit + 0 ≡ unit = omega arith in (
      (subst (λ u. alt < alt_count p u) same (there 0 (omega arith)), tt),
      alternatives-pass p c (suc unit) alts (λ i lt.
          let next : unit + suc i ≡ suc unit + i = omega arith in
          subst (λ u. get_or alts i 0 < alt_count p u) next (there (suc i) (omega arith))),
    )

choice-passes : (p : ProblemView) (c : StageCert) (choice : Option (List ℕ)) → c.choice ≡ choice → HasChoice c.mark c.choice → IfSome choice (IsFeasibleFor p) →
    NoneFails (Passes p c) (choice_tests choice)
choice-passes p c None choice_is marked feasible = ((marked, tt), tt)
choice-passes p c (Some x) choice_is marked feasible = (
  (marked, (subst (λ (o : Option (List ℕ)). IfSome o (λ y. length y ≡ unit_count p)) (sym choice_is) feasible.choice.length, tt)),
  alternatives-pass p c 0 x (λ i lt.
      let same : i ≡ 0 + i = omega arith in
      subst (λ u. get_or x i 0 < alt_count p u) same (feasible.choice.there i (omega (arith, feasible.choice.length)))),
)

if-some : {X : Type 0} (P Q : X → Type 0) (o : Option X) → ((x : X) → P x → Q x) → IfSome o P → IfSome o Q
if-some P Q None f h = tt
if-some P Q (Some x) f h = f x h

if-none : {X : Type 0} (P : X → Type 0) (o : Option X) → is_some o ≡ false → IfSome o P
if-none P None is = tt
if-none P (Some x) is = let no : ⊥ = cc in absurd no

cost-passes : (p : ProblemView) (c : StageCert) (cost : Option ℕ) → c.cost ≡ option_map (choice_cost p) c.choice → IfSome c.choice (Fits p) → NoneFails (Passes p c) (cost_tests cost)
cost-passes p c None exact fits = tt
cost-passes p c (Some n) exact fits = ((exact, (fits, tt)), tt)

bound-passes : (p : ProblemView) (c : StageCert) (bound : Option ℕ) → IfSome c.bound (λ b. IsAtMost b c.cost) → NoneFails (Passes p c) (bound_tests bound)
bound-passes p c None within = tt
bound-passes p c (Some b) within = ((within, tt), tt)

bound-within : (p : ProblemView) (version : ℕ) (c : StageCert) (mark : Mark) → is_some c.bound ≡ has_bound version mark → FitsMark p c mark → IfSome c.bound (λ b. IsAtMost b c.cost)
bound-within p version c Optimal some marked = if-none (λ b. IsAtMost b c.cost) c.bound some
bound-within p version c Infeasible some marked = if-none (λ b. IsAtMost b c.cost) c.bound some
bound-within p version c Unsettled some marked = if-some (IsStatedBound p c) (λ b. IsAtMost b c.cost) c.bound (λ b floor. floor.within) marked.1
bound-within p version c NotTried some marked = absurd marked

choice-marked : (p : ProblemView) (c : StageCert) (mark : Mark) → FitsMark p c mark → HasChoice mark c.choice
choice-marked p c Optimal marked = marked.0
choice-marked p c Infeasible marked = marked.0
choice-marked p c Unsettled marked = tt
choice-marked p c NotTried marked = tt

tree-marked : (p : ProblemView) (c : StageCert) (mark : Mark) → FitsMark p c mark → HasUndone mark c.tree
tree-marked p c Optimal marked = tt
tree-marked p c Infeasible marked = tt
tree-marked p c Unsettled marked = marked.0
tree-marked p c NotTried marked = tt

prices-pass : (p : ProblemView) (c : StageCert) (before : Option ℕ) (prices : List Price) → All (λ (e : Price). IsAbove before e.resource) prices → IsVector p prices →
    NoneFails (Passes p c) (price_tests before prices)
prices-pass p c before [] above vector = tt
prices-pass p c before (e ∷ prices) above vector = (
  ((above 0 e (omega arith), vector.each 0 e (omega arith)), tt),
  prices-pass p c (Some e.resource) prices (λ k d lt. vector.rising 0 (suc k) d (omega arith) (omega arith)) (record {
    rising = λ i j d lt le. vector.rising (suc i) (suc j) d (omega arith) (omega arith);
    each = λ k d lt. vector.each (suc k) d (omega arith);
  }),
)

vectors-pass : (p : ProblemView) (c : StageCert) (vectors : List (List Price)) → All (IsVector p) vectors → NoneFails (Passes p c) (flat_map vector_tests vectors)
vectors-pass p c [] all = tt
vectors-pass p c (prices ∷ vectors) all =
    NoneFails-append (Passes p c) (vector_tests prices) (flat_map vector_tests vectors)
    (tt, prices-pass p c None prices (λ k d lt. tt) (all 0 prices (omega arith)))
    (vectors-pass p c vectors (λ k d lt. all (suc k) d (omega arith)))

fixing-passes : (p : ProblemView) (c : StageCert) (fixing : Option Fixing) → IfSome fixing (IsStageFixing p c) → NoneFails (Passes p c) (fixing_tests fixing)
fixing-passes p c None fixed = tt
fixing-passes p c (Some f) fixed = ((fixed, tt), tt)

-- a node's tests pass where it holds, and where an undone node is allowed and closes for the bound
whole-nodes-pass : (p : ProblemView) (c : StageCert) (nodes : List Node) (pending : List Ranges) (floors : List Floor) → IsWhole nodes → AreSound (problem_of_tree p c) c.vectors c.cost pending nodes →
    NoneFails (Passes p c) (node_tests pending nodes floors)
whole-nodes-pass p c [] pending floors whole sound = tt
whole-nodes-pass p c (node ∷ nodes) [] floors whole sound = absurd sound
whole-nodes-pass p c (Split unit cut seen ∷ nodes) (ranges ∷ pending) floors whole sound = ((sound.0, tt), whole-nodes-pass p c nodes (parts_of ranges (Split unit cut seen) ++ pending) floors whole sound.1)
whole-nodes-pass p c (Leaf vector scale seen ∷ nodes) (ranges ∷ pending) floors whole sound = ((sound.0, tt), whole-nodes-pass p c nodes pending floors whole sound.1)
whole-nodes-pass p c (Over resource ∷ nodes) (ranges ∷ pending) floors whole sound = ((sound.0, tt), whole-nodes-pass p c nodes pending floors whole sound.1)
whole-nodes-pass p c (Undone ∷ nodes) (ranges ∷ pending) floors whole sound = absurd whole

undone-line : (p : ProblemView) (c : StageCert) (ranges : Ranges) (floors : List Floor) → MayBeUndone c.mark → c.bound ≡ None → AllByRecursion (Passes p c) (node_line ranges Undone floors)
undone-line p c ranges [] may none = (may, tt)
undone-line p c ranges (floor ∷ floors) may none =
    (may, (subst (λ (o : Option ℕ). IfSome o (λ b. LeafHolds (problem_of_tree p c) c.vectors (Some b) ranges floor.vector floor.scale)) (sym none) tt, tt))

unbounded-nodes-pass : (p : ProblemView) (c : StageCert) (nodes : List Node) (pending : List Ranges) (floors : List Floor) → MayBeUndone c.mark → c.bound ≡ None → AreSound (problem_of_tree p c) c.vectors c.cost pending nodes →
    NoneFails (Passes p c) (node_tests pending nodes floors)
unbounded-nodes-pass p c [] pending floors may none sound = tt
unbounded-nodes-pass p c (node ∷ nodes) [] floors may none sound = absurd sound
unbounded-nodes-pass p c (Split unit cut seen ∷ nodes) (ranges ∷ pending) floors may none sound = ((sound.0, tt), unbounded-nodes-pass p c nodes (parts_of ranges (Split unit cut seen) ++ pending) floors may none sound.1)
unbounded-nodes-pass p c (Leaf vector scale seen ∷ nodes) (ranges ∷ pending) floors may none sound = ((sound.0, tt), unbounded-nodes-pass p c nodes pending floors may none sound.1)
unbounded-nodes-pass p c (Over resource ∷ nodes) (ranges ∷ pending) floors may none sound = ((sound.0, tt), unbounded-nodes-pass p c nodes pending floors may none sound.1)
unbounded-nodes-pass p c (Undone ∷ nodes) (ranges ∷ pending) floors may none sound = (undone-line p c ranges floors may none, unbounded-nodes-pass p c nodes pending (rest floors) may none sound.1)

bounded-nodes-pass : (p : ProblemView) (c : StageCert) (b : ℕ) (nodes : List Node) (pending : List Ranges) (floors : List Floor) → MayBeUndone c.mark → c.bound ≡ Some b → AreSound (problem_of_tree p c) c.vectors c.cost pending nodes →
    AllZip (λ ranges named. Floored p c b ranges named) (open_ranges pending nodes) (floor_pairs floors) → NoneFails (Passes p c) (node_tests pending nodes floors)
bounded-nodes-pass p c b [] pending floors may bound_is sound closed = tt
bounded-nodes-pass p c b (node ∷ nodes) [] floors may bound_is sound closed = absurd sound
bounded-nodes-pass p c b (Split unit cut seen ∷ nodes) (ranges ∷ pending) floors may bound_is sound closed =
    ((sound.0, tt), bounded-nodes-pass p c b nodes (parts_of ranges (Split unit cut seen) ++ pending) floors may bound_is sound.1 closed)
bounded-nodes-pass p c b (Leaf vector scale seen ∷ nodes) (ranges ∷ pending) floors may bound_is sound closed = ((sound.0, tt), bounded-nodes-pass p c b nodes pending floors may bound_is sound.1 closed)
bounded-nodes-pass p c b (Over resource ∷ nodes) (ranges ∷ pending) floors may bound_is sound closed = ((sound.0, tt), bounded-nodes-pass p c b nodes pending floors may bound_is sound.1 closed)
bounded-nodes-pass p c b (Undone ∷ nodes) (ranges ∷ pending) [] may bound_is sound closed = absurd closed
bounded-nodes-pass p c b (Undone ∷ nodes) (ranges ∷ pending) (floor ∷ floors) may bound_is sound closed = (
  (may, (subst (λ (o : Option ℕ). IfSome o (λ b. LeafHolds (problem_of_tree p c) c.vectors (Some b) ranges floor.vector floor.scale)) (sym bound_is) closed.0, tt)),
  bounded-nodes-pass p c b nodes pending floors may bound_is sound.1 closed.1,
)

open-nodes-pass : (p : ProblemView) (c : StageCert) (bound : Option ℕ) → c.bound ≡ bound → MayBeUndone c.mark → AreSound (problem_of_tree p c) c.vectors c.cost (whole_of (problem_of_tree p c) ∷ []) c.tree → IfSome bound (IsStatedBound (problem_of_tree p c) c) →
    NoneFails (Passes p c) (node_tests (whole_of (problem_of_tree p c) ∷ []) c.tree c.floors)
open-nodes-pass p c None bound_is may sound floor = unbounded-nodes-pass p c c.tree (whole_of (problem_of_tree p c) ∷ []) c.floors may bound_is sound
open-nodes-pass p c (Some b) bound_is may sound floor = bounded-nodes-pass p c b c.tree (whole_of (problem_of_tree p c) ∷ []) c.floors may bound_is sound floor.floors

nodes-pass : (p : ProblemView) (c : StageCert) (mark : Mark) → c.mark ≡ mark → (c.mark ≡ Unsettled → problem_of_tree p c ≡ p) → IsSound (problem_of_tree p c) c.vectors c.cost (whole_of (problem_of_tree p c)) c.tree → FitsMark p c mark →
    NoneFails (Passes p c) (node_tests (whole_of (problem_of_tree p c) ∷ []) c.tree c.floors)
nodes-pass p c Optimal mark_is plain sound marked = whole-nodes-pass p c c.tree (whole_of (problem_of_tree p c) ∷ []) c.floors marked.1 sound
nodes-pass p c Infeasible mark_is plain sound marked = whole-nodes-pass p c c.tree (whole_of (problem_of_tree p c) ∷ []) c.floors marked.1 sound
nodes-pass p c Unsettled mark_is plain sound marked =
    open-nodes-pass p c c.bound refl (subst MayBeUndone (sym mark_is) tt) sound (subst (λ (q : ProblemView). IfSome c.bound (IsStatedBound q c)) (sym (plain mark_is)) marked.1)
nodes-pass p c NotTried mark_is plain sound marked = absurd marked

abbrev pub ShapeLaw : Type 0
ShapeLaw = (p : ProblemView) (vectors : List (List Price)) (cost : Option ℕ) (ranges : List (ℕ × ℕ)) (nodes : List Node) → IsSound p vectors cost ranges nodes → IsTree nodes

pub proof-passes : ShapeLaw → (p : ProblemView) (version : ℕ) (c : StageCert) → IsPrintableProof version c → IsProof p c → NoneFails (Passes p c) (proof_tests p c)
proof-passes shape p version c printable proof =
    let Holds : Test → Type 0 = Passes p c in
    let fits : IfSome c.choice (Fits p) = if-some (IsFeasibleFor p) (Fits p) c.choice (λ x feasible. feasible.fits) proof.feasible in
    let shaped : IsTree c.tree = shape (problem_of_tree p c) c.vectors c.cost (whole_of (problem_of_tree p c)) c.tree proof.sound in
    NoneFails-append Holds (choice_tests c.choice) _ (choice-passes p c c.choice refl (choice-marked p c c.mark proof.marked) proof.feasible)
    (NoneFails-append Holds (cost_tests c.cost) _ (cost-passes p c c.cost proof.cost fits)
    (NoneFails-append Holds (bound_tests c.bound) _ (bound-passes p c c.bound (bound-within p version c c.mark printable.has_bound proof.marked)) (
      tt,
      NoneFails-append Holds (flat_map vector_tests c.vectors) _ (vectors-pass p c c.vectors proof.vectors)
          (NoneFails-append Holds (fixing_tests c.fixing) _ (fixing-passes p c c.fixing proof.fixing)
          ((shaped, (tree-marked p c c.mark proof.marked, tt)), nodes-pass p c c.mark refl (plain-tree p c proof.fixing) proof.sound proof.marked)),
    )))

-- ---- by verdicts

-- vectors whose lines pass are the problem's
pub vectors-tested : (p : ProblemView) (c : StageCert) (number next : ℕ) (verdict : Verdict) → IsPart p c number (flat_map vector_tests c.vectors) verdict next → verdict ≡ Yes → All (IsVector p) c.vectors
vectors-tested p c number next Yes part is = passing-vectors p c c.vectors part.verdict_is
vectors-tested p c number next (No line reason) part is = let no : ⊥ = cc in absurd no

-- a stage with a verdict of Yes is a proof
pub stage-proven : (p : ProblemView) (c : StageCert) (number : ℕ) (verdict : Verdict) → IsPrintableExtra c → IsStageVerdict p c number verdict → verdict ≡ Yes → IsProof p c
stage-proven p c number Yes printable none is = passing-proof p 3 c printable.tried printable.fits none
stage-proven p c number (No line reason) printable none is = let no : ⊥ = cc in absurd no
