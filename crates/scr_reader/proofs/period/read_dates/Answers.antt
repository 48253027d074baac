use Rattle.std.proofs.Common.{ℕ, List, sym, subst, ◌∙◌, arith, inl, inr, refl}
use Rattle.std.proofs.lemmas.List.{take-append-drop}
use Rattle.scr_reader.specs.Parts.{SpellsDay}
use Rattle.scr_reader.proofs.DayLemmas.{by_five, by_ten, five_or_ten, halves}
use Rattle.scr_reader.proofs.period.read_dates.Goals as goal

pub returns-in_err-day-clause-only : goal.returns-in_err-day-clause-only
returns-in_err-day-clause-only c = λ first last is.
    let season = c.args.season.now in
    absurd (c.in_err-day.ensures.only first (by_five season c.args.text.now first last (omega arith) is).0)

pub returns-then-text-eq5-clause-only : goal.returns-then-text-eq5-clause-only
returns-then-text-eq5-clause-only c = λ first last is.
    let season = c.args.season.now in
    let one = by_five season c.args.text.now first last (omega arith) is in
    let same = c.in_ok-day.ensures.only first one.0 in
    (same, same ∙ sym one.1)

pub returns-then-text-ne10-clause-only : goal.returns-then-text-ne10-clause-only
returns-then-text-ne10-clause-only c = λ first last is.
    absurd (elim (five_or_ten c.args.season.now c.args.text.now first last is) [
      | inl five ↦ omega (arith, five)
      | inr ten ↦ omega (arith, ten)
    ])

pub returns-in_err-first-clause-only : goal.returns-in_err-first-clause-only
returns-in_err-first-clause-only c = λ first last is.
    let season = c.args.season.now in
    let half = halves season c.args.text.now first last (by_ten season c.args.text.now first last (omega arith) is) in
    absurd (c.in_err-first.ensures.only first (subst (λ (t : List ℕ). SpellsDay season t first) (sym c.split_at.ensures.front) half.0))

pub returns-in_err-last-clause-only : goal.returns-in_err-last-clause-only
returns-in_err-last-clause-only c = λ first last is.
    let season = c.args.season.now in
    let half = halves season c.args.text.now first last (by_ten season c.args.text.now first last (omega arith) is) in
    absurd (c.in_err-last.ensures.only last (subst (λ (t : List ℕ). SpellsDay season t last) (sym c.split_at.ensures.back) half.1))

pub returns-then-last-first-clause-only : goal.returns-then-last-first-clause-only
returns-then-last-first-clause-only c = λ first last is.
    let season = c.args.season.now in
    let half = halves season c.args.text.now first last (by_ten season c.args.text.now first last (omega arith) is) in
    let f = c.in_ok-first.ensures.only first (subst (λ (t : List ℕ). SpellsDay season t first) (sym c.split_at.ensures.front) half.0) in
    let l = c.in_ok-last.ensures.only last (subst (λ (t : List ℕ). SpellsDay season t last) (sym c.split_at.ensures.back) half.1) in
    absurd (omega (arith, is.ordered, f, l))

pub returns-clause-only : goal.returns-clause-only
returns-clause-only c = λ first last is.
    let season = c.args.season.now in
    let half = halves season c.args.text.now first last (by_ten season c.args.text.now first last (omega arith) is) in (
      c.in_ok-first.ensures.only first (subst (λ (t : List ℕ). SpellsDay season t first) (sym c.split_at.ensures.front) half.0),
      c.in_ok-last.ensures.only last (subst (λ (t : List ℕ). SpellsDay season t last) (sym c.split_at.ensures.back) half.1),
    )

pub returns-clause-found : goal.returns-clause-found
returns-clause-found c =
    record {
      dates = inl (record {
        first_text = c.split_at.result.0.now;
        last_text = c.split_at.result.1.now;
        first_day = c.in_ok-first.ensures.found;
        last_day = c.in_ok-last.ensures.found;
        spelled = sym (take-append-drop 5 c.args.text.now) ∙ rw (c.split_at.ensures.front, c.split_at.ensures.back) refl;
      });
      ordered = omega arith;
    }
