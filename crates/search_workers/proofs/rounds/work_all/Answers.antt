use Rattle.std.proofs.Common.{◌≡◌, ◌∙◌, ◌^◌}
use Rattle.std.proofs.lemmas.Result.{IfOk-weaker}
use Rattle.search_workers.specs.Rounds.{shares}
use Rattle.search_workers.proofs.SeatLemmas.{shares_same}
use Rattle.search_workers.proofs.rounds.work_all.Goals as goal

pub returns-clause-share : goal.returns-clause-share
returns-clause-share g c =
    let first = c.in_ok-searchers.searchers.items in
    let last = c.in_ok-searchers-2.searchers.items in
    let e = c.in_ok-searchers-2.ensures in
    let all : shares last ≡ 2 ^ 32 = shares_same first last e.count e.shares ∙ c.in_ok-searchers.ensures.shares in
    IfOk-weaker c.unite_all.result _ _ (λ s h. h ∙ all) c.unite_all.ensures.share
