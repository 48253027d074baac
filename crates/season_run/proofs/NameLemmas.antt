-- Which vectors are named.
use Rattle.std.proofs.Common.{◌≡◌, ℕ, ◌<◌, ◌≤◌, refl, sym, ◌∙◌, ap, subst, arith, List, [], ◌∷◌, ◌++◌, length, take, drop, inl, inr}
use Rattle.std.specs.Prelude.{All, Contains, ◌⊎◌, IfSome, IsSomeAnd, Option, Some, None}
use Rattle.std.specs.Option.{option_map_or}
use Rattle.std.specs.List.{AllZip}
use Rattle.std.proofs.lemmas.List.{take-append-drop, length-take-le}
use Rattle.std.proofs.lemmas.List.Elements.{All-cons, All-nil, All-weaker, All-contains}
use Rattle.choice_problem.specs.declared.vectors.Price.{Price}
use Rattle.choice_problem.specs.declared.nodes.Node.{Node}
use Rattle.choice_problem.specs.declared.nodes.Node.TheVariants.{Split, Leaf, Over, Undone}
use Rattle.choice_problem.specs.Problems.{ProblemView}
use Rattle.choice_problem.specs.Named.{Names, NamesUpTo}
use Rattle.cert_format.specs.declared.cert.Floor.{Floor}
use Rattle.cost_fixing.specs.declared.fixings.Fixing.{Fixing}
use Rattle.season_run.specs.Ends.{IsGreatestName, IsNamed, AreKeptOf}
use Rattle.season_run.specs.Steps.{IsFoundFloor, IsGreatestAtFloors}

-- what a read past the end of a list of floors gives
abbrev pub no_floor : Floor
no_floor = record { vector = 0; scale = 0 }

pub names_more : (less most : ℕ) (node : Node) → less ≤ most → NamesUpTo less node → NamesUpTo most node
names_more less most (Split unit cut seen) le h = tt
names_more less most (Leaf vector scale seen) le h = omega (arith, le, h)
names_more less most (Over resource) le h = tt
names_more less most Undone le h = tt

-- the vector that a fixing names; 0 without one
abbrev fixed-name : Option Fixing → ℕ
fixed-name fixing = option_map_or (λ f. f.vector) fixing 0

fixed-upto : (fixing : Option Fixing) (most : ℕ) → fixed-name fixing ≤ most → IfSome fixing (λ f. f.vector ≤ most)
fixed-upto None most le = tt
fixed-upto (Some f) most le = le

fixed-named : (fixing : Option Fixing) → (fixed-name fixing ≡ 0) ⊎ IsSomeAnd fixing (λ f. f.vector ≡ fixed-name fixing)
fixed-named None = inl refl
fixed-named (Some f) = inr refl

-- the greatest of the numbers at leaves, at floors and at the fixing
module _ (fixing : Option Fixing) (tree : List Node) (floors : List Floor) (leaf floor : ℕ) (leaves : All (NamesUpTo leaf) tree)
    (at_leaf : (leaf ≡ 0) ⊎ ((node : Node) × Contains tree node × Names leaf node)) (at_floors : IsGreatestAtFloors floors floor) where
  greatest-of : (number : ℕ) → leaf ≤ number → floor ≤ number → fixed-name fixing ≤ number → (number ≡ 0) ⊎ IsNamed fixing tree floors number → IsGreatestName fixing tree floors number
  greatest-of number l f x named = record {
    leaves = All-weaker (NamesUpTo leaf) (NamesUpTo number) (λ n h. names_more leaf number n l h) tree leaves;
    at_floors = All-weaker (λ (g : Floor). g.vector ≤ floor) (λ (g : Floor). g.vector ≤ number) (λ g le. omega (arith, le, f)) floors at_floors.most;
    at_fixing = fixed-upto fixing number x;
    named = named;
  }

  pub leaf_greatest : floor < leaf → fixed-name fixing ≤ leaf → IsGreatestName fixing tree floors leaf
  leaf_greatest lt le = greatest-of leaf (omega arith) (omega (arith, lt)) le (elim at_leaf [
    | inl none ↦ inl none
    | inr some ↦ inr (inl some)
  ])

  pub floor_greatest : leaf ≤ floor → fixed-name fixing ≤ floor → IsGreatestName fixing tree floors floor
  floor_greatest le less = greatest-of floor le (omega arith) less (elim at_floors.named [
    | inl none ↦ inl none
    | inr some ↦ inr (inr (inl some))
  ])

  pub fixing_greatest : leaf ≤ fixed-name fixing → floor ≤ fixed-name fixing → IsGreatestName fixing tree floors (fixed-name fixing)
  fixing_greatest le less = greatest-of (fixed-name fixing) le less (omega arith) (elim (fixed-named fixing) [
    | inl none ↦ inl none
    | inr some ↦ inr (inr (inr some))
  ])

named_there : (number most : ℕ) (node : Node) → Names number node → NamesUpTo most node → number ≤ most
named_there number most (Split unit cut seen) names upto = absurd names
named_there number most (Leaf vector scale seen) names upto = omega (arith, names, upto)
named_there number most (Over resource) names upto = absurd names
named_there number most Undone names upto = absurd names

fixing_there : (fixing : Option Fixing) (number most : ℕ) → IfSome fixing (λ f. f.vector ≤ most) → IsSomeAnd fixing (λ f. f.vector ≡ number) → number ≤ most
fixing_there None number most le is = absurd is
fixing_there (Some f) number most le is = omega (arith, le, is)

-- what is named is there
greatest_there : (fixing : Option Fixing) (tree : List Node) (floors : List Floor) (number most : ℕ) → All (NamesUpTo most) tree → All (λ (f : Floor). f.vector ≤ most) floors →
    IfSome fixing (λ f. f.vector ≤ most) → IsGreatestName fixing tree floors number → number ≤ most
greatest_there fixing tree floors number most leaves all fixed g =
    elim g.named [
      | inl none ↦ omega (arith, none)
      | inr some ↦ elim some [
        | inl leaf ↦ named_there number most leaf.0 leaf.2 (All-contains (NamesUpTo most) tree leaf.0 leaves leaf.1)
        | inr other ↦ elim other [
          | inl floor ↦ (let le = All-contains (λ (f : Floor). f.vector ≤ most) floors floor.0 all floor.1 in omega (arith, floor.2, le))
          | inr is ↦ fixing_there fixing number most fixed is
        ]
      ]
    ]

-- the first vectors, as many as are named
pub kept_first : (fixing : Option Fixing) (searched kept : List (List Price)) (tree : List Node) (floors : List Floor) (number : ℕ) → All (NamesUpTo (length searched)) tree →
    All (λ (f : Floor). f.vector ≤ length searched) floors → IfSome fixing (λ f. f.vector ≤ length searched) → IsGreatestName fixing tree floors number → kept ≡ take number searched →
    AreKeptOf searched fixing tree floors kept
kept_first fixing searched kept tree floors number leaves all fixed g is =
    let le = greatest_there fixing tree floors number (length searched) leaves all fixed g in
    let long : length kept ≡ number = ap (λ (l : List (List Price)). length l) is ∙ length-take-le number searched le in
    record {
      behind = drop number searched;
      first = sym (take-append-drop number searched) ∙ ap (λ (l : List (List Price)). l ++ drop number searched) (sym is);
      last = subst (IsGreatestName fixing tree floors) (sym long) g;
    }

-- found floors name vectors that are there
pub floors_there : (p : ProblemView) (vectors : List (List Price)) (pieces : List (List (ℕ × ℕ))) (floors : List Floor) → AllZip (IsFoundFloor p vectors) pieces floors →
    All (λ (f : Floor). f.vector ≤ length vectors) floors
floors_there p vectors [] [] h = All-nil (λ (f : Floor). f.vector ≤ length vectors)
floors_there p vectors [] (f ∷ floors) h = absurd h
floors_there p vectors (ranges ∷ pieces) [] h = absurd h
floors_there p vectors (ranges ∷ pieces) (f ∷ floors) h =
    All-cons (λ (f : Floor). f.vector ≤ length vectors) f floors h.0.closes.there (floors_there p vectors pieces floors h.1)
