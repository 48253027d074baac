-- Bounds from tables of prices.
use Rattle.std.proofs.Common.{◌≡◌, ℕ, zero, suc, ◌+◌, ◌-◌, ◌*◌, ◌<◌, ◌≤◌, min, ◌∙◌, ap, arith, List}
use Rattle.choice_problem.specs.declared.vectors.Price.{Price}
use Rattle.finite_sums.specs.Sums.{least_from, least_within, first_least, IsFirstLeast}
use Rattle.choice_problem.specs.Problems.{ProblemView, IsChooser, alt_count, chooser_at, alt_cost, alt_uses, resource_count}
use Rattle.choice_problem.specs.Bounds.{priced_cost, IsVector}
use Rattle.finite_sums.proofs.SumLemmas.{first_least-one, first_least-more, least_within-one, least_within-more, first_least-IsFirstLeast, IsFirstLeast-only}
use Rattle.price_table.specs.Tables.{PricesUnit}
use Rattle.price_table.specs.Loops.{unit_cost, ArePriceable}
use Rattle.price_table.proofs.TableLemmas.{priced-le}

least_from-same : (low n : ℕ) (f g : ℕ → ℕ) → ((a : ℕ) → low ≤ a → a ≤ low + n → f a ≡ g a) → least_from low n f ≡ least_from low n g
least_from-same low zero f g h = h low (omega arith) (omega arith)
least_from-same low (suc n) f g h =
    let rest = least_from-same low n f g (λ a l m. h a l (omega arith)) in
    let last = h (low + suc n) (omega arith) (omega arith) in
    ap (λ v. min v (f (low + suc n))) rest ∙ ap (λ v. min (least_from low n g) v) last

pub least_within-same : (low high : ℕ) (f g : ℕ → ℕ) → low ≤ high → ((a : ℕ) → low ≤ a → a ≤ high → f a ≡ g a) → least_within low high f ≡ least_within low high g
least_within-same low high f g o h = least_from-same low (high - low) f g (λ a l m. h a l (omega arith))

-- the first least of two functions that agree in the range is the same
first_of_other : (low high : ℕ) (f g : ℕ → ℕ) (a : ℕ) → ((b : ℕ) → low ≤ b → b ≤ high → f b ≡ g b) → IsFirstLeast low high g a → IsFirstLeast low high f a
first_of_other low high f g a h k = record {
  from = k.from;
  to = k.to;
  least = λ b l m. omega (arith, h a k.from k.to, h b l m, k.least b l m);
  first = λ b l m. omega (arith, h a k.from k.to, h b l (omega (arith, k.to)), k.first b l m);
}

pub first_least-same : (low high : ℕ) (f g : ℕ → ℕ) → low ≤ high → ((a : ℕ) → low ≤ a → a ≤ high → f a ≡ g a) → first_least low high f ≡ first_least low high g
first_least-same low high f g o h =
    IsFirstLeast-only low high f (first_least low high f) (first_least low high g)
    (first_least-IsFirstLeast low high f o)
    (first_of_other low high f g (first_least low high g) h (first_least-IsFirstLeast low high g o))

-- what the prices of a unit's parts and those of the vector say of an alternative is the same
pub unit_cost-is : (p : ProblemView) (prices : List Price) (u scale a : ℕ) (parts : List ℕ) → PricesUnit p prices u parts → a < alt_count p u →
    unit_cost (chooser_at p u).alts parts scale a ≡ priced_cost p prices scale u a
unit_cost-is p prices u scale a parts h l = ap (λ v. scale * alt_cost p u a + v) (h.uses a l)

-- so are the least of them in a range, and the first least
pub least_within-priced : (p : ProblemView) (prices : List Price) (u scale low high : ℕ) (parts : List ℕ) → PricesUnit p prices u parts → low ≤ high → high < alt_count p u →
    least_within low high (λ a. unit_cost (chooser_at p u).alts parts scale a) ≡ least_within low high (λ a. priced_cost p prices scale u a)
least_within-priced p prices u scale low high parts h o l =
    least_within-same low high (λ a. unit_cost (chooser_at p u).alts parts scale a) (λ a. priced_cost p prices scale u a) o
    (λ a from to. unit_cost-is p prices u scale a parts h (omega arith))

pub first_least-priced : (p : ProblemView) (prices : List Price) (u scale low high : ℕ) (parts : List ℕ) → PricesUnit p prices u parts → low ≤ high → high < alt_count p u →
    first_least low high (λ a. unit_cost (chooser_at p u).alts parts scale a) ≡ first_least low high (λ a. priced_cost p prices scale u a)
first_least-priced p prices u scale low high parts h o l =
    first_least-same low high (λ a. unit_cost (chooser_at p u).alts parts scale a) (λ a. priced_cost p prices scale u a) o
    (λ a from to. unit_cost-is p prices u scale a parts h (omega arith))

pub PricesUnit-priceable : (p : ProblemView) (prices : List Price) (u : ℕ) (parts : List ℕ) → IsVector p prices → resource_count p ≤ 1000000 → IsChooser (chooser_at p u) →
    PricesUnit p prices u parts → ArePriceable (chooser_at p u).alts parts
PricesUnit-priceable p prices u parts v few m h = record {
  cost = m.cost;
  one = λ a l k e. rw h.count (m.one a l k e);
  two = λ a l k e. rw h.count (m.two a l k e);
  uses = λ a l. omega (arith, h.uses a l, priced-le p prices 434 (λ r. alt_uses p u a r) v (λ r. m.uses a r l), few);
}

pub ruleset least_steps = (first_least-one, first_least-more, least_within-one, least_within-more)
