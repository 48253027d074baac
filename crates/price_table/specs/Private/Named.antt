-- Which parts of a unit its alternatives name.
use Rattle.std.specs.Prelude.{◌≡◌, ℕ, ◌<◌, Bool, true, false, List, Option, length, slice_index_or}
use Rattle.std.specs.Option.{ForSome}
use Rattle.choice_problem.specs.declared.problems.Alt.{Alt}
use Rattle.price_table.specs.Tables.{alt_in}

abbrev pub is_named : List Bool → ℕ → Bool
is_named named k = slice_index_or named k false

-- the part is marked, and others stay marked
pub record IsMarked (part : Option ℕ) (old new : List Bool) : Type 0 where
  pub count : length new ≡ length old
  pub this : ForSome part (λ k. is_named new k ≡ true)
  pub others : (k : ℕ) → is_named old k ≡ true → is_named new k ≡ true

-- the parts that the alternatives name are marked
pub record NamedAreMarked (alts : List Alt) (parts : ℕ) (named : List Bool) : Type 0 where
  pub count : length named ≡ parts
  pub one : (a : ℕ) → a < length alts → ForSome (alt_in alts a).one (λ k. is_named named k ≡ true)
  pub two : (a : ℕ) → a < length alts → ForSome (alt_in alts a).two (λ k. is_named named k ≡ true)
