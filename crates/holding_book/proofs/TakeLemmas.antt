-- What is left while the uses of holdings are taken, one after the other.
use Rattle.std.proofs.Common.{◌≡◌, ℕ, ◌+◌, ◌<◌, ◌≤◌, List, [], ◌∷◌, ◌++◌, length, take, drop, sym, ap, ◌∙◌, subst, arith, add-one, Some}
use Rattle.std.specs.Prelude.{All}
use Rattle.std.specs.List.{slice_get}
use Rattle.std.proofs.Math.Seq.{take-suc, take-length}
use Rattle.std.proofs.lemmas.List.{take-append-drop}
use Rattle.std.proofs.lemmas.Option.{get_or_from_slice_get}
use Rattle.season_days.specs.Capacity.{Capacity, declared_resources}
use Rattle.capacity_windows.specs.Windows.{WindowsFit}
use Rattle.choice_problem.specs.Counts.{GrowsBy, HasUses}
use Rattle.series_model.specs.TimedLines.{line_movements}
use Rattle.holding_book.specs.declared.holding.Holding.{Holding}
use Rattle.holding_book.specs.declared.uses.Uses.{Uses}
use Rattle.holding_book.specs.Books.{held_movements}
use Rattle.holding_book.specs.Private.Loads.{AreLeft}
use Rattle.holding_book.specs.Private.Uses.{book_uses_of, AreUsesOf, AreInRange}
use Rattle.holding_book.proofs.LoadLemmas.{line_load, held_load, held_load-append, held_load-cons}

pub all_at : (P : Holding → Type 0) (holdings : List Holding) (n : ℕ) (held : Holding) → All P holdings → n < length holdings → slice_get holdings n ≡ Some held → P held
all_at P holdings n held all lt is = subst P (get_or_from_slice_get holdings n held held is) (all n held lt)

prefix_load : (c : Capacity) (holdings : List Holding) (k r : ℕ) → held_load c (take k holdings) r ≤ held_load c holdings r
prefix_load c holdings k r =
    let e : held_load c (take k holdings ++ drop k holdings) r ≡ held_load c holdings r = ap (λ (l : List Holding). held_load c l r) (take-append-drop k holdings) in
    omega (arith, e, held_load-append c (take k holdings) (drop k holdings) r)

module _ (c : Capacity) (holdings : List Holding) (n : ℕ) (held : Holding) (lt : n < length holdings) (is : slice_get holdings n ≡ Some held) where
  next_load : (r : ℕ) → held_load c (take (n + 1) holdings) r ≡ held_load c (take n holdings) r + line_load c held.line r
  next_load r =
      let t : take (n + 1) holdings ≡ take n holdings ++ held ∷ [] = ap (λ (k : ℕ). take k holdings) (add-one n) ∙ take-suc holdings n held lt ∙ ap (λ (h : Holding). take n holdings ++ h ∷ []) (get_or_from_slice_get holdings n held held is) in
      let e : held_load c (take (n + 1) holdings) r ≡ held_load c (take n holdings ++ held ∷ []) r = ap (λ (l : List Holding). held_load c l r) t in
      omega (arith, e, held_load-append c (take n holdings) (held ∷ []) r, held_load-cons c held [] r)

  module _ (left : List ℕ) (kept : AreLeft c (held_movements c.season (take n holdings)) left) (uses : Uses) (of : AreUsesOf c (line_movements c.season held.line) uses) where
    pub in_left : AreInRange (length left) uses
    in_left = subst (λ (k : ℕ). AreInRange k uses) (sym kept.count) of.there

    pub has_left : WindowsFit c (held_movements c.season holdings) → HasUses left (λ r. book_uses_of uses r)
    has_left fits r l =
        let there : r < declared_resources c = omega (arith, l, kept.count) in
        omega (arith, kept.each r there, of.loads r, next_load r, prefix_load c holdings (n + 1) r, fits r there)

    pub left_next : (after : List ℕ) → length after ≡ length left → GrowsBy after left (λ r. book_uses_of uses r) → AreLeft c (held_movements c.season (take (n + 1) holdings)) after
    left_next after same grows = record {
      count = same ∙ kept.count;
      each = λ r there. omega (arith, kept.each r there, of.loads r, next_load r, grows r (omega (arith, there, same, kept.count)));
    }

pub left_all : (c : Capacity) (holdings : List Holding) (n : ℕ) (left : List ℕ) → n ≤ length holdings → length holdings ≤ n → AreLeft c (held_movements c.season (take n holdings)) left → AreLeft c (held_movements c.season holdings) left
left_all c holdings n left le ge kept =
    let e : n ≡ length holdings = omega (arith, le, ge) in
    subst (λ (l : List Holding). AreLeft c (held_movements c.season l) left) (ap (λ (k : ℕ). take k holdings) e ∙ take-length holdings) kept
