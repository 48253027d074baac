-- Lists of places of resources that are looked at, each as often as it comes. Contracts of private
-- functions alone cite them.
use Rattle.std.specs.Prelude.{◌≡◌, ℕ, ◌+◌, ◌<◌, ◌≤◌, ◌==◌, List, length, slice_index, count_by}

-- how often the number comes in the list
abbrev pub times_in : List ℕ → ℕ → ℕ
times_in list r = count_by (λ c. c == r) list

-- no other numbers come in it than those below the count
abbrev pub AreWithin : ℕ → List ℕ → Type 0
AreWithin count list = (r : ℕ) → 0 < times_in list r → r < count

-- so many of the listed resources, the first ones, come before the resource
pub record IsRankAt (listed : List ℕ) (r k : ℕ) : Type 0 where
  pub most : k ≤ length listed
  pub below : (i : ℕ) → i < k → slice_index listed i < r
  pub above : (i : ℕ) → k ≤ i → i < length listed → r ≤ slice_index listed i

-- at each resource, and behind the last, how many of the listed ones come before it
pub record AreRanksOf (resources : ℕ) (listed ranks : List ℕ) : Type 0 where
  pub count : length ranks ≡ resources + 1
  pub each : (r : ℕ) → r ≤ resources → IsRankAt listed r (slice_index ranks r)

-- each count is at least what is listed
abbrev pub HasListed : List ℕ → List ℕ → Type 0
HasListed counts list = (r : ℕ) → r < length counts → times_in list r ≤ slice_index counts r
