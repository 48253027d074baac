-- The tables of a task.
use Rattle.std.proofs.Common.{◌≡◌, ℕ, zero, suc, ◌+◌, ◌<◌, ◌≤◌, List, [], ◌∷◌, ◌++◌, length, take, drop, min, refl, sym, ◌∙◌, ap, arith, Option, inl, inr}
use Rattle.std.specs.Prelude.{All}
use Rattle.std.proofs.lemmas.List.{get_or_append_left, length_push, length-map, map_push, drop-append-le, take_all}
use Rattle.std.proofs.lemmas.Bool.{cases_lt}
use Rattle.std.proofs.lemmas.List.Elements.{All-push, All-cons}
use Rattle.std.proofs.lemmas.List.Sums.{sum_by_push}
use Rattle.choice_problem.specs.declared.vectors.Price.{Price}
use Rattle.choice_problem.specs.Problems.{ProblemView}
use Rattle.choice_problem.specs.Bounds.{IsVector}
use Rattle.choice_problem.specs.Greedy.{IsGreedyCost}
use Rattle.choice_problem.specs.Roots.{IsRootVector}
use Rattle.price_table.specs.Tables.{TableView, IsTableFor, vectors_of}
use Rattle.search_workers.specs.Outcomes.{AreFurther, price_count}
use Rattle.search_workers.specs.Settings.{Setting, AreTables, IsWider}

pub vectors-push : (tables : List TableView) (t : TableView) → vectors_of (tables ++ t ∷ []) ≡ vectors_of tables ++ t.prices ∷ []
vectors-push tables t = map_push (λ (u : TableView). u.prices) tables t

pub count_is : (tables : List TableView) → length (vectors_of tables) ≡ length tables
count_is tables = length-map {B = List Price} tables (λ (u : TableView). u.prices)

module _ (p : ProblemView) (greedy : Option ℕ) (tables : List TableView) (given prices : ℕ) (h : AreTables p greedy tables given prices)
    (t : TableView) (valid : IsTableFor p t) (room : length tables < 64) (few : prices + length t.prices ≤ 1000000) where
  abbrev vectors : List (List Price)
  vectors = vectors_of tables

  some : 1 ≤ length vectors
  some = h.setting.some

  more : vectors_of (tables ++ t ∷ []) ≡ vectors ++ t.prices ∷ []
  more = vectors-push tables t

  rest : drop 1 (vectors ++ t.prices ∷ []) ≡ drop 1 vectors ++ t.prices ∷ []
  rest = drop-append-le 1 vectors (t.prices ∷ []) some

  counted : price_count (drop 1 (vectors ++ t.prices ∷ [])) ≡ prices + length t.prices
  counted = ap price_count rest ∙ (sum_by_push (λ (v : List Price). length v) (drop 1 vectors) t.prices ∙ ap (λ n. n + length t.prices) (sym h.prices_are))

  pub tables_more : AreTables p greedy (tables ++ t ∷ []) given (prices + length t.prices)
  tables_more = record {
    setting = rw more (record {
      greedy_is = h.setting.greedy_is;
      root_is = rw (get_or_append_left vectors (t.prices ∷ []) [] 0 some) h.setting.root_is;
      some = omega (arith, length_push vectors t.prices);
      few = omega (arith, length_push vectors t.prices, count_is tables, room);
      each = All-push (IsVector p) vectors t.prices h.setting.each valid.vector;
      few_prices = omega (arith, counted, few);
    });
    each = All-push (IsTableFor p) tables t h.each valid;
    given_there = omega (arith, h.given_there, length_push tables t);
    prices_are = rw more (sym counted);
  }

  pub setting_wider : IsWider (record { problem = p; greedy = greedy; vectors = vectors_of tables })
      (record { problem = p; greedy = greedy; vectors = vectors_of (tables ++ t ∷ []) })
  setting_wider = record { problem = refl; greedy = refl; more = t.prices ∷ []; vectors = more }

append_none : (vs : List (List Price)) → vs ++ [] ≡ vs
append_none [] = refl
append_none (v ∷ vs) = ap (λ l. v ∷ l) (append_none vs)

pub setting_same : (s : Setting) → IsWider s s
setting_same s = record { problem = refl; greedy = refl; more = []; vectors = sym (append_none s.vectors) }

-- the first tables: the root vector's, and those of vectors that were handed in
pub tables_new : (p : ProblemView) (greedy : Option ℕ) (root : List Price) (tables : List TableView) (given : List (List Price)) (prices : ℕ) →
    IsGreedyCost p greedy → IsRootVector p root → IsVector p root → All (IsTableFor p) tables → vectors_of tables ≡ root ∷ given →
    AreFurther p given → prices ≡ price_count given → AreTables p greedy tables (length given) prices
tables_new p greedy root tables given prices g r v valid is f e = record {
  setting = rw is (record {
    greedy_is = g;
    root_is = r;
    some = omega arith;
    few = omega (arith, f.few);
    each = All-cons (IsVector p) root given v f.each;
    few_prices = f.few_prices;
  });
  each = valid;
  given_there = omega (arith, count_is tables, ap length is);
  prices_are = rw is e;
}

map-take : (m : ℕ) (tables : List TableView) → vectors_of (take m tables) ≡ take m (vectors_of tables)
map-take zero tables = refl
map-take (suc m) [] = refl
map-take (suc m) (t ∷ ts) = ap (λ l. t.prices ∷ l) (map-take m ts)

take-min : (m : ℕ) (tables : List TableView) → take (min m (length tables)) tables ≡ take m tables
take-min m tables = elim (cases_lt m (length tables)) [
  | inl below ↦ let e : min m (length tables) ≡ m = omega arith in ap (λ (n : ℕ). take n tables) e
  | inr more ↦ let e : min m (length tables) ≡ length tables = omega arith in
      ap (λ (n : ℕ). take n tables) e ∙ (take_all (length tables) tables (omega arith) ∙ sym (take_all m tables more))
]

-- the first vectors are those of the first tables
pub vectors-take : (m : ℕ) (tables : List TableView) → vectors_of (take (min m (length tables)) tables) ≡ take m (vectors_of tables)
vectors-take m tables = ap vectors_of (take-min m tables) ∙ map-take m tables
