use Rattle.std.proofs.Common.{get_or, ◌≡◌, ℕ, List, take, drop, EachIndex, sym, ap, subst, ◌∙◌, arith}
use Rattle.std.proofs.lemmas.List.{take_rest}
use Rattle.amend_journal.specs.Format.{filled}
use Rattle.amend_journal.proofs.FormatLemmas.{text_found}
use Rattle.amend_journal.proofs.slot.text_in.Goals as goal

pub returns-then-are_zeros-clause-found : goal.returns-then-are_zeros-clause-found
returns-then-are_zeros-clause-found c =
    let slot = c.args.slot.now in
    let size = c.from-size.result in
    let zeros = subst (λ (l : List ℕ). EachIndex l (λ k. get_or l k 0 ≡ 0)) (c.split_at.ensures.back ∙ ap (λ (l : List ℕ). drop size l) (take_rest slot 2)) (c.are_zeros.ensures.0 c.if-are_zeros.true) in
    text_found slot size c.requires (sym c.from-size.ensures) (omega (arith, c.if-size-gt-TEXT_ROOM.false)) zeros
    ∙ ap (λ (l : List ℕ). filled (get_or slot 0 0) l) (sym (c.split_at.ensures.front ∙ ap (λ (l : List ℕ). take size l) (take_rest slot 2)))
