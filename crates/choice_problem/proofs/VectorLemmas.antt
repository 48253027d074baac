-- Vectors of prices.
use Rattle.std.proofs.Common.{ℕ, ◌<◌, ◌≤◌, List, [], length, pos, arith}
use Rattle.choice_problem.specs.declared.vectors.Price.{Price}
use Rattle.choice_problem.specs.Problems.{ProblemView}
use Rattle.choice_problem.specs.Bounds.{price_at, IsPrice, IsVector}
use Rattle.std.proofs.lemmas.List.{get_or_default}
use Rattle.std.proofs.lemmas.List.Elements.{All-from_get_or}
use Rattle.choice_problem.specs.Loops.{PriceFollows}

-- in a vector each price follows those before it
pub IsVector-follows : (p : ProblemView) (prices : List Price) (i next : ℕ) → i < length prices →
    ((n : ℕ) → ((k : ℕ) → k < i → (price_at prices k).resource < n) → next ≤ n) →
    IsVector p prices → PriceFollows p next (price_at prices i)
IsVector-follows p prices i next l least v = record {
  from = least (price_at prices i).resource (λ k b. v.rising k i (record { resource = 0; price = pos 0 }) b l);
  price = v.each i (record { resource = 0; price = pos 0 }) l;
}

-- the empty list is a vector
pub IsVector-nil : (p : ProblemView) → IsVector p []
IsVector-nil p = record { rising = λ i j d l m. absurd (omega arith); each = λ i d l. absurd (omega arith) }

-- prices that are the problem's one by one, with rising resources
pub IsVector-from_each : (p : ProblemView) (prices : List Price) →
    ((i j : ℕ) → i < j → j < length prices → (price_at prices i).resource < (price_at prices j).resource) →
    ((i : ℕ) → i < length prices → IsPrice p (price_at prices i)) → IsVector p prices
IsVector-from_each p prices rising each = record {
  rising = λ i j d b l. rw (get_or_default prices i d (record { resource = 0; price = pos 0 }) (omega arith), get_or_default prices j d (record { resource = 0; price = pos 0 }) l) (rising i j b l);
  each = All-from_get_or (IsPrice p) prices (record { resource = 0; price = pos 0 }) each;
}
