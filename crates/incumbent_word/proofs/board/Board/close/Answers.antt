use Rattle.std.proofs.Common.{◌≡◌, ◌∙◌, ℕ, min, Option, ap, sym, subst, arith}
use Rattle.std.specs.List.{count_by}
use Rattle.incumbent_word.specs.declared.view.Terms.{Terms}
use Rattle.incumbent_word.specs.declared.view.View.{View}
use Rattle.incumbent_word.specs.Core.{AtMost, EachOnce}
use Rattle.incumbent_word.specs.Seats.{BoardView, SeatView, EndsAs}
use Rattle.incumbent_word.proofs.Ends.{Ended, ends}
use Rattle.incumbent_word.proofs.Once.{once_length}
use Rattle.incumbent_word.proofs.board.Board.close.Goals as goal

pub free-requires : goal.free-requires
free-requires c k below = let counts = c.close_with-closed.ensures.counts.1 in let none = c.self.invariant.1 in absurd (omega arith)

pub returns : goal.returns
returns c = let terms = ap (λ (p : BoardView). p.terms) c.self.view_is in let view = ap (λ (s : SeatView). s.view) c.seat.view_is in
    let whole = ap (λ (v : View). v.share) view ∙ c.requires.last in
    let e = ends _ _ _ _ _ _ _ _ c.close_with-closed.ensures.values.2 whole c.seat.invariant.1 c.word-claimed.ensures c.word-taken.ensures c.word-least.ensures in
    let e' = subst (λ (t : Terms). Ended t c.args.seat.view c.word-claimed.result c.word-taken.result c.word-least.result) terms (subst (λ (v : View). Ended c.self.inside.table.shared.key v c.word-claimed.result c.word-taken.result c.word-least.result) view e) in
    let pieces = ap (λ (t : Terms). t.pieces) terms in let budget = ap (λ (t : Terms). t.budget) terms in
    let claimed : c.min.result ≡ min c.word-claimed.result c.args.self.terms.pieces = (let i = c.self.invariant in omega (arith, c.min.ensures, c.from.ensures)) in
    let taken : c.min-2.result ≡ min c.word-taken.result c.args.self.terms.budget = (let i = c.self.invariant in omega (arith, c.min-2.ensures, c.from-2.ensures)) in record {
      last = subst (λ (n : ℕ × ℕ × Option ℕ). EndsAs c.args.self.terms c.args.seat.view n.0 n.1 n.2) (λ i. (sym claimed i, sym taken i, sym c.read_cost.ensures i)) e'.last;
      counts = (omega arith, omega arith);
      pieces = subst (λ (n : ℕ). EachOnce (λ x. count_by (λ y. Rattle.std.proofs.Common.eqb y x) c.args.seat.view.worker.pieces) n) (sym claimed) e'.pieces;
      numbers = subst (λ (n : ℕ). EachOnce (λ x. count_by (λ y. Rattle.std.proofs.Common.eqb y x) c.args.seat.view.worker.numbers) n) (sym taken) e'.numbers;
      piece_count = once_length c.args.seat.view.worker.pieces _ e'.pieces ∙ sym claimed;
      number_count = once_length c.args.seat.view.worker.numbers _ e'.numbers ∙ sym taken;
      least = c.read_cost.ensures ∙ e'.least;
      seen = subst (λ (n : Option ℕ). AtMost n c.args.seat.view.worker.seen) (sym c.read_cost.ensures) e'.seen;
      all_pieces = λ marked. claimed ∙ e'.all_pieces marked;
      all_numbers = λ marked. taken ∙ e'.all_numbers marked;
    }
