-- Classes of equal resources: those with the same limit that each part uses equally often.
use Rattle.std.specs.Prelude.{◌≡◌, ℕ, ◌+◌, ◌*◌, ◌<◌, ◌≤◌, ◌^◌, ◌⊎◌, List, [], ◌∷◌, ◌++◌, length, map, slice_index, slice_index_or, slice_set, nat_eq}
use Rattle.finite_sums.specs.Sums.{count_below}
use Rattle.choice_problem.specs.Strips.{part_uses}
use Rattle.choice_problem.specs.Problems.{ProblemView, unit_count, part_count, resource_count, chooser_at, part_at, limit_of}
use Rattle.choice_problem.specs.Problems.{alt_count, alt_cost, alt_uses}
use Rattle.dual_bound.specs.declared.refine.Split.{Split}

-- the first n resources have numbers that all resources of a class share, where each is in the class that the list tells
pub record IsByClass (n : ℕ) (classes : List ℕ) (f : ℕ → ℕ) : Type 0 where
  pub by_class : ℕ → ℕ
  pub each : (r : ℕ) → r < n → f r ≡ by_class (slice_index classes r)

-- all resources of a class are used equally often by each part of unit u
abbrev pub IsUnitByClass : ProblemView → ℕ → List ℕ → Type 0
IsUnitByClass p u classes = (k : ℕ) → k < part_count p u →
    IsByClass (resource_count p) classes (λ r. part_uses (part_at (chooser_at p u) k) r)

-- one of the splits of classes
abbrev pub split_at : List Split → ℕ → Split
split_at splits c = slice_index_or splits c (record { part = 0; class = 0 })

-- classes of n resources, with a split for each class, by a part whose number is below the next one
pub record AreClasses (next n : ℕ) (classes : List ℕ) (splits : List Split) : Type 0 where
  pub count : length classes ≡ n
  pub there : (r : ℕ) → r < n → slice_index classes r < length splits
  pub past : (c : ℕ) → c < length splits → (split_at splits c).part < next

-- the same while the part of a number splits them
pub record AreSplit (part n : ℕ) (classes : List ℕ) (splits : List Split) : Type 0 where
  pub some : 0 < part
  pub count : length classes ≡ n
  pub there : (r : ℕ) → r < n → slice_index classes r < length splits
  pub past : (c : ℕ) → c < length splits → (split_at splits c).part ≤ part
  pub to : (c : ℕ) → c < length splits → (split_at splits c).part ≡ part →
      (split_at splits c).class < length splits

-- the resources have numbers that all resources of a class share; a class that this part has split off another one has a
-- number that is so much greater
pub record IsBySplit (part more n : ℕ) (classes : List ℕ) (splits : List Split)
    (f : ℕ → ℕ) : Type 0 where
  pub by_class : ℕ → ℕ
  pub each : (r : ℕ) → r < n → f r ≡ by_class (slice_index classes r)
  pub made : (c : ℕ) → c < length splits → (split_at splits c).part ≡ part →
      by_class (split_at splits c).class ≡ by_class c + more

-- this part, with these uses, has split the classes: numbers that the resources of a class shared are still shared when
-- each resource's uses are added, some times each
pub record AreSplitBy (part n : ℕ) (classes : List ℕ) (splits : List Split) (classes' : List ℕ)
    (splits' : List Split) (uses : ℕ → ℕ) : Type 0 where
  pub split : AreSplit part n classes' splits'
  pub more : length splits ≤ length splits'
  pub shared : (times : ℕ) (f : ℕ → ℕ) → IsBySplit part times n classes splits f →
      IsBySplit part times n classes' splits' (λ r. f r + times * uses r)

-- the class of those resources of a class that a part uses once more: the one that it has split off that class, or a new
-- one
abbrev pub IsSplitOff : ℕ → ℕ → ℕ → List Split → List Split → Type 0
IsSplitOff class part other old new =
    (((split_at old class).part ≡ part) × (other ≡ (split_at old class).class) × (new ≡ old))
    ⊎ ((((split_at old class).part ≡ part) → ⊥) × (other ≡ length old)
    × (new ≡ slice_set old class (record { part = part; class = other })
    ++ record { part = 0; class = 0 } ∷ []))

-- the number of a part, above those of the parts before it
abbrev pub part_order : ℕ → ℕ → ℕ
part_order u k = u * 2 ^ 32 + k + 1

-- a place with the number at a place: a known earlier one, or that place, which is known from then on
abbrev pub IsFirstWith : List ℕ → ℕ → List ℕ → List ℕ → ℕ → Type 0
IsFirstWith numbers at known known' first =
    ((first < at) × (slice_index numbers first ≡ slice_index numbers at)
    × (first ≡ slice_index known (slice_index numbers at)) × (known' ≡ known))
    ⊎ ((first ≡ at) × (known' ≡ slice_set known (slice_index numbers at) at))

-- for each resource one of its class that is not above it and stands for itself: the first one, as far as it was known
pub record AreFirstsIn (classes firsts : List ℕ) : Type 0 where
  pub count : length firsts ≡ length classes
  pub low : (r : ℕ) → r < length classes → slice_index firsts r ≤ r
  pub same : (r : ℕ) → r < length classes →
      slice_index classes (slice_index firsts r) ≡ slice_index classes r
  pub one : (r : ℕ) → r < length classes →
      slice_index firsts (slice_index firsts r) ≡ slice_index firsts r

-- for each resource of the problem an equal one that is not above it and stands for itself
pub record AreFirsts (p : ProblemView) (firsts : List ℕ) : Type 0 where
  pub count : length firsts ≡ resource_count p
  pub low : (r : ℕ) → r < resource_count p → slice_index firsts r ≤ r
  pub one : (r : ℕ) → r < resource_count p →
      slice_index firsts (slice_index firsts r) ≡ slice_index firsts r
  pub limits : (r : ℕ) → r < resource_count p → limit_of p (slice_index firsts r) ≡ limit_of p r
  pub uses : (u k r : ℕ) → u < unit_count p → k < part_count p u → r < resource_count p →
      part_uses (part_at (chooser_at p u) k) (slice_index firsts r)
      ≡ part_uses (part_at (chooser_at p u) k) r

-- a problem with the same units, whose resources are classes of the resources of another: which class each resource is
-- in, and how many are in each class
pub record AreGrouped (p k : ProblemView) (classes sizes : List ℕ) : Type 0 where
  pub count : length classes ≡ resource_count p
  pub there : (r : ℕ) → r < resource_count p → slice_index classes r < resource_count k
  pub sizes_count : length sizes ≡ resource_count k
  pub sizes_are : (c : ℕ) → c < resource_count k →
      slice_index sizes c ≡ count_below (resource_count p) (λ r. nat_eq (slice_index classes r) c)
  pub units : unit_count k ≡ unit_count p
  pub alts : (u : ℕ) → alt_count k u ≡ alt_count p u
  pub costs : (u a : ℕ) → alt_cost k u a ≡ alt_cost p u a
  pub uses : (u a r : ℕ) → r < resource_count p →
      alt_uses k u a (slice_index classes r) ≡ alt_uses p u a r
  pub limits : (r : ℕ) → r < resource_count p →
      limit_of k (slice_index classes r) ≡ limit_of p r

-- numbers of resources by those of their classes
abbrev pub by_classes : List ℕ → List ℕ → List ℕ
by_classes classes numbers = map (λ c. slice_index numbers c) classes

-- numbers of classes, each as often as the class has resources
pub record AreWeighted (numbers sizes weighted : List ℕ) : Type 0 where
  pub count : length weighted ≡ length numbers
  pub each : (c : ℕ) → c < length numbers →
      slice_index weighted c ≡ slice_index sizes c * slice_index numbers c
  pub small : (c : ℕ) → c < length numbers → slice_index weighted c < 2 ^ 40

-- where a resource stands among the first n of a list
pub record IsAmong (list : List ℕ) (n r : ℕ) : Type 0 where
  pub place : ℕ
  pub there : place < n
  pub is : slice_index list place ≡ r

-- those of the first n of a list of resources by rising number that are their own first ones
pub record AreFirstOnes (firsts list : List ℕ) (n : ℕ) (ones : List ℕ) : Type 0 where
  pub rising : ((i j : ℕ) → i < j → j < length list → slice_index list i < slice_index list j) →
      (i j : ℕ) → i < j → j < length ones → slice_index ones i < slice_index ones j
  pub place : ℕ → ℕ
  pub from : (i : ℕ) → i < length ones → place i < n
  pub is : (i : ℕ) → i < length ones → slice_index ones i ≡ slice_index list (place i)
  pub all : (i : ℕ) → i < n → slice_index firsts (slice_index list i) ≡ slice_index list i →
      IsAmong ones (length ones) (slice_index list i)
