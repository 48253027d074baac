use Rattle.std.proofs.Common.{ℕ, ◌+◌, ◌∙◌, ap, List, ◌++◌, drop}
use Rattle.scr_replies.specs.History.{entries_text}
use Rattle.scr_replies.proofs.AnswerLemmas.{here, entry_next}
use Rattle.scr_replies.proofs.history.put_entries.Goals as goal

pub loop-i-preserved : goal.loop-i-preserved
loop-i-preserved c =
    let i = c.loop-i.i in
    let season = c.args.season.now in
    let history = c.args.history.now in
    let entry = c.index-history-i.result in
    ap (λ (t : List ℕ). t ++ entries_text season (i + 1 + 1) (drop (i + 1) history)) c.in_ok-put_entry.ensures
    ∙ entry_next season history i entry c.loop-i.out.items (here history i entry c.loop-i-test.true c.index-history-i.is)
    ∙ c.loop-i.invariant
