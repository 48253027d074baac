use Rattle.left_counts.proofs.BitLemmas.{bits_clear, places_clear}
use Rattle.left_counts.proofs.words.are_clear.Goals as goal

pub returns : goal.returns
returns c =
    let words = c.args.words.now in
    let some = c.if-start-end.false in
    let same = c.if-start-end-2.false in (
      λ clear. places_clear words c.args.start c.args.end some same (c.has_none.ensures.0 clear),
      λ clear. c.has_none.ensures.1 (bits_clear words c.args.start c.args.end some same clear),
    )
