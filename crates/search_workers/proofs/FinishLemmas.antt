-- What a search answers at its end.
use Rattle.std.proofs.Common.{◌≡◌, ℕ, zero, suc, ◌+◌, ◌-◌, ◌<◌, ◌≤◌, List, [], ◌∷◌, ◌++◌, length, take, drop, refl, sym, ◌∙◌, ap, arith, Option, Some, None, ◌⊎◌, inl, inr, append_assoc}
use Rattle.std.specs.Prelude.{All, Contains, IfSome, slice_index_or}
use Rattle.std.specs.Option.{option_map}
use Rattle.std.proofs.lemmas.List.{length-take, take_all, take-append-drop, get_or_append_left, drop-append-le}
use Rattle.std.proofs.lemmas.List.Elements.{All-take, All-contains, All-cons, All-nil}
use Rattle.std.proofs.lemmas.List.Sums.{sum_by-take-le}
use Rattle.choice_problem.specs.declared.vectors.Price.{Price}
use Rattle.choice_problem.specs.declared.nodes.Node.{Node}
use Rattle.choice_problem.specs.declared.nodes.Node.TheVariants.{Split, Leaf, Over, Undone}
use Rattle.choice_problem.specs.Problems.{ProblemView}
use Rattle.choice_problem.specs.Choices.{IsFeasible, choice_cost}
use Rattle.choice_problem.specs.Bounds.{IsVector, whole_of}
use Rattle.choice_problem.specs.Trees.{AreTrees, IsSound, parts_of}
use Rattle.choice_problem.specs.Driven.{IsDriven, IsDrivenFrom}
use Rattle.choice_problem.specs.Greedy.{IsGreedyCost}
use Rattle.choice_problem.specs.Named.{Names, NamesUpTo}
use Rattle.choice_problem.specs.Roots.{IsRootVector}
use Rattle.incumbent_word.specs.Core.{AtMost}
use Rattle.search_workers.specs.Outcomes.{IsBestFound, AreListed, IsSearched, EndsAtNamed, OutcomeCostsAtMost}
use Rattle.search_workers.specs.declared.outcomes.Outcome.{Outcome}
use Rattle.search_workers.specs.Settings.{Setting, IsSetting, IsWider, HasGiven, Drives, AreGrown, root_of}
use Rattle.search_workers.specs.Work.{IsSoFar}

-- each node holds on some ranges
nodes_hold : (Holds : List (ℕ × ℕ) → Node → Type 0) (P : Node → Type 0) → ((ranges : List (ℕ × ℕ)) (node : Node) → Holds ranges node → P node) →
    (pending : List (List (ℕ × ℕ))) (nodes : List Node) → AreTrees Holds pending nodes → All P nodes
nodes_hold Holds P f [] [] h = All-nil P
nodes_hold Holds P f [] (node ∷ nodes) h = absurd h
nodes_hold Holds P f (ranges ∷ pending) [] h = absurd h
nodes_hold Holds P f (ranges ∷ pending) (node ∷ nodes) h =
    All-cons P node nodes (f ranges node h.0) (nodes_hold Holds P f (parts_of ranges node ++ pending) nodes h.1)

driven_names : (s : Setting) (ranges : List (ℕ × ℕ)) (node : Node) → Drives s ranges node → NamesUpTo (length s.vectors) node
driven_names s ranges (Split unit cut seen) d = tt
driven_names s ranges (Leaf vector scale seen) d = d.there
driven_names s ranges (Over resource) d = tt
driven_names s ranges Undone d = tt

named_most : (most number : ℕ) (node : Node) → NamesUpTo most node → Names number node → number ≤ most
named_most most number (Split unit cut seen) h k = absurd k
named_most most number (Leaf vector scale seen) h k = omega (arith, h, k)
named_most most number (Over resource) h k = absurd k
named_most most number Undone h k = absurd k

-- a vector that a leaf names is there
pub named_there : (s : Setting) (pending : List (List (ℕ × ℕ))) (nodes : List Node) (number : ℕ) → AreGrown s pending nodes →
    (number ≡ 0) ⊎ ((leaf : Node) × Contains nodes leaf × Names number leaf) → number ≤ length s.vectors
named_there s pending nodes number h named = elim named [
  | inl e ↦ omega arith
  | inr leaf ↦ named_most (length s.vectors) number leaf.0
      (All-contains (NamesUpTo (length s.vectors)) nodes leaf.0
      (nodes_hold (λ ranges node. Drives s ranges node) (NamesUpTo (length s.vectors)) (driven_names s) pending nodes h) leaf.1) leaf.2
]

take_nil : (k : ℕ) → take {A = List Price} k [] ≡ []
take_nil zero = refl
take_nil (suc k) = refl

take_drop_one : (m : ℕ) (vs : List (List Price)) → drop 1 (take m vs) ≡ take (m - 1) (drop 1 vs)
take_drop_one zero vs = refl
take_drop_one (suc m) [] = sym (take_nil (suc m - 1))
take_drop_one (suc m) (v ∷ vs) = let e : suc m - 1 ≡ m = omega arith in ap (λ (n : ℕ). take n vs) (sym e)

vector_taken : (m k : ℕ) (vs : List (List Price)) → k < length (take m vs) → slice_index_or (take m vs) k [] ≡ slice_index_or vs k []
vector_taken zero k vs l = absurd (omega arith)
vector_taken (suc m) k [] l = absurd (omega arith)
vector_taken (suc m) zero (v ∷ vs) l = refl
vector_taken (suc m) (suc k) (v ∷ vs) l = vector_taken m k vs (omega arith)

vector_after : (k : ℕ) (vs : List (List Price)) → slice_index_or vs (k + 1) [] ≡ slice_index_or (drop 1 vs) k []
vector_after k [] = refl
vector_after k (v ∷ vs) = let e : k + 1 ≡ suc k = omega arith in ap (λ (n : ℕ). slice_index_or (v ∷ vs) n []) e

-- the first vectors of a setting may be listed
pub listed : (s : Setting) (given : List (List Price)) (m : ℕ) → IsSetting s → HasGiven s given → AreListed s.problem given (take m s.vectors)
listed s given m h g = record {
  few = omega (arith, length-take m s.vectors, h.few);
  each = All-take (IsVector s.problem) m s.vectors h.each;
  root = λ l. rw (vector_taken m 0 s.vectors l) h.root_is;
  few_prices = let e = take_drop_one m s.vectors in
      let most = sum_by-take-le (λ (prices : List Price). length prices) (drop 1 s.vectors) (m - 1) in
      rw e (omega (arith, most, h.few_prices));
  handed_in = λ k l t.
      vector_taken m (k + 1) s.vectors t ∙ (vector_after k s.vectors ∙ (ap (λ (z : List (List Price)). slice_index_or z k []) g.vectors
      ∙ get_or_append_left given g.more [] k l));
}

module _ (s : Setting) (cost : Option ℕ) (best : Option (List ℕ)) (tree : List Node) (k : IsSetting s) (h : IsSoFar s cost best tree)
    (sound_law : (vectors : List (List Price)) → IsDriven s.problem vectors cost tree → IsSound s.problem vectors cost (whole_of s.problem) tree) where
  driven : IsDriven s.problem s.vectors cost tree
  driven = record { greedy = s.greedy; root = root_of s; greedy_is = k.greedy_is; root_is = k.root_is; tree = h.driven }

  -- with all vectors
  pub searched_all : (given : List (List Price)) → HasGiven s given → IsSearched s.problem given (take 64 s.vectors) cost best tree
  searched_all given g =
      let all : take 64 s.vectors ≡ s.vectors = take_all 64 s.vectors k.few in record {
        found = h.found;
        driven = rw all driven;
        sound = rw all (sound_law s.vectors driven);
        listed = listed s given 64 k g;
      }

  -- with the vectors up to a number that no leaf passes
  pub searched_named : (given : List (List Price)) (m : ℕ) → HasGiven s given → m ≤ length s.vectors → All (NamesUpTo m) tree →
      ((vectors more : List (List Price)) → All (NamesUpTo (length vectors)) tree → IsDriven s.problem (vectors ++ more) cost tree →
      IsDriven s.problem vectors cost tree) → IsSearched s.problem given (take m s.vectors) cost best tree
  searched_named given m g there names fewer =
      let count : length (take m s.vectors) ≡ m = omega (arith, length-take m s.vectors, there) in
      let whole : IsDriven s.problem (take m s.vectors ++ drop m s.vectors) cost tree = rw (take-append-drop m s.vectors) driven in
      let first : IsDriven s.problem (take m s.vectors) cost tree = fewer (take m s.vectors) (drop m s.vectors) (rw count names) whole in record {
        found = h.found;
        driven = first;
        sound = sound_law (take m s.vectors) first;
        listed = listed s given m k g;
      }

pub cut_named : (vectors : List (List Price)) (tree : List Node) (m : ℕ) → m ≤ length vectors →
    (m ≡ 0) ⊎ ((leaf : Node) × Contains tree leaf × Names m leaf) → EndsAtNamed (take m vectors) tree
cut_named vectors tree m there named =
    let count : length (take m vectors) ≡ m = omega (arith, length-take m vectors, there) in
    elim named [
      | inl e ↦ inl (count ∙ e)
      | inr leaf ↦ inr (leaf.0, leaf.1, rw count leaf.2)
    ]

pub none_cost : (p : ProblemView) (cost : Option ℕ) (best : Option (List ℕ)) → IsBestFound p cost best → best ≡ None → cost ≡ None
none_cost p None None h e = refl
none_cost p (Some c) None h e = absurd h
none_cost p None (Some x) h e = absurd h
none_cost p (Some c) (Some x) h e = absurd (cc e)

pub wider_trans : (a b c : Setting) → IsWider a b → IsWider b c → IsWider a c
wider_trans a b c h k = record {
  problem = k.problem ∙ h.problem;
  greedy = k.greedy ∙ h.greedy;
  more = h.more ++ k.more;
  vectors = k.vectors ∙ (ap (λ (l : List (List Price)). l ++ k.more) h.vectors ∙ append_assoc a.vectors h.more k.more);
}

-- what was handed in stays in front where vectors are added
pub given_wider : (a b : Setting) (given : List (List Price)) → 1 ≤ length a.vectors → IsWider a b → drop 1 a.vectors ≡ given → HasGiven b given
given_wider a b given some w e = record {
  more = w.more;
  vectors = ap (λ (l : List (List Price)). drop 1 l) w.vectors ∙ (drop-append-le 1 a.vectors w.more some ∙ ap (λ (l : List (List Price)). l ++ w.more) e);
}

-- a tree that is driven for some vectors is driven for more
pub so_far_wider : (s t : Setting) (cost : Option ℕ) (best : Option (List ℕ)) (tree : List Node) → IsWider s t → IsSetting s → IsSetting t → IsSoFar s cost best tree →
    ((vectors more : List (List Price)) → IsDriven s.problem vectors cost tree → IsDriven s.problem (vectors ++ more) cost tree) →
    ((one other : Option ℕ) → IsGreedyCost s.problem one → IsGreedyCost s.problem other → one ≡ other) →
    ((one other : List Price) → IsRootVector s.problem one → IsRootVector s.problem other → one ≡ other) → IsSoFar t cost best tree
so_far_wider s t cost best tree w k l h more one_cost one_vector =
    let before : IsDriven s.problem s.vectors cost tree = record { greedy = s.greedy; root = root_of s; greedy_is = k.greedy_is; root_is = k.root_is; tree = h.driven } in
    let d : IsDriven s.problem (s.vectors ++ w.more) cost tree = more s.vectors w.more before in
    let root_is : IsRootVector s.problem (root_of t) = rw w.problem at l.root_is in
    let greedy_is : IsGreedyCost s.problem t.greedy = rw w.problem at l.greedy_is in
    let root : root_of t ≡ d.root = one_vector (root_of t) d.root root_is d.root_is in
    let greedy : t.greedy ≡ d.greedy = one_cost t.greedy d.greedy greedy_is d.greedy_is in
    let tree' : IsDrivenFrom t.problem t.vectors (root_of t) t.greedy cost tree = rw (root, greedy, w.problem, w.vectors) d.tree in
    record {
      found = rw w.problem h.found;
      now = rw w.greedy h.now;
      driven = tree';
    }

-- a choice that was handed in
pub some_start : (p : ProblemView) (start : Option (List ℕ)) (cost : Option ℕ) (outcome : Outcome) → IfSome start (IsFeasible p) →
    AtMost cost (option_map (choice_cost p) start) →
    ((x : List ℕ) → IsFeasible p x → AtMost cost (Some (choice_cost p x)) → OutcomeCostsAtMost p (choice_cost p x) outcome) →
    IfSome start (λ x. OutcomeCostsAtMost p (choice_cost p x) outcome)
some_start p None cost outcome f a h = tt
some_start p (Some x) cost outcome f a h = h x f a
