use Rattle.std.proofs.Common.{◌∙◌, sym, ap, subst, arith, List, ℕ}
use Rattle.season_days.specs.declared.declaration.Declaration.{Declaration}
use Rattle.season_days.specs.Capacity.{IsDeclaration}
use Rattle.series_model.specs.Stages.{AreFitting}
use Rattle.wasg_stages.specs.StageProblems.{IsStageProblem}
use Rattle.season_report.specs.Rows.{allotted_stage, allotted_reasons}
use Rattle.season_report.specs.Reports.{with_texts}
use Rattle.season_report.specs.Private.{AreAll, texts_of}
use Rattle.season_report.proofs.TriedLemmas.{told_of}
use Rattle.season_report.proofs.StageLemmas.{earlier_after, loads_room, moved_all, moved_choice}
use Rattle.season_report.proofs.tried.put_allotted.Goals as goal

pub count_taken-requires-clause-problem : goal.count_taken-requires-clause-problem
count_taken-requires-clause-problem c =
    subst (λ (k : Declaration). IsStageProblem k c.args.stage c.args.states.now c.args.problem.now) (sym c.declaration-declaration.ensures.value) c.requires.problem

pub count_taken-requires-clause-choice : goal.count_taken-requires-clause-choice
count_taken-requires-clause-choice c =
    moved_choice c.declaration-declaration.result.now c.args.submission.now.declaration c.args.stage c.args.states.now c.items-taken.result.now c.args.choice.now c.declaration-declaration.ensures.value c.items-taken.ensures c.requires.choice

pub put_reasons-requires-clause-told : goal.put_reasons-requires-clause-told
put_reasons-requires-clause-told c =
    told_of _ c.args.submission.now.declaration c.args.states.now c.declaration-declaration.ensures.value
    (subst IsDeclaration c.declaration-declaration.ensures.value c.declaration-declaration.ensures.keeps)
    c.windows-windows.ensures.value c.requires.problem c.requires.loads c.requires.earlier

pub put_reasons-requires-clause-fits : goal.put_reasons-requires-clause-fits
put_reasons-requires-clause-fits c = subst (λ (k : Declaration). AreFitting k c.args.states.now) (sym c.declaration-declaration.ensures.value) c.requires.states.fit

pub put_reasons-requires-clause-choice : goal.put_reasons-requires-clause-choice
put_reasons-requires-clause-choice c =
    moved_choice c.declaration-declaration.result.now c.args.submission.now.declaration c.args.stage c.args.states.now c.items-taken.result.now c.args.choice.now c.declaration-declaration.ensures.value c.items-taken.ensures c.requires.choice

pub put_reasons-requires-clause-all : goal.put_reasons-requires-clause-all
put_reasons-requires-clause-all c = c.in_ok-counts.ensures

pub put_reasons-requires-clause-few : goal.put_reasons-requires-clause-few
put_reasons-requires-clause-few c = c.requires.states.few

pub add_counts-requires-clause-count : goal.add_counts-requires-clause-count
add_counts-requires-clause-count c =
    let all : AreAll (allotted_stage c.args.submission.now.declaration c.args.stage c.args.states.now c.args.choice.now) c.put_reasons.new.counts =
    moved_all c.declaration-declaration.result.now c.args.submission.now.declaration c.args.stage c.args.states.now c.items-taken.result.now c.args.choice.now c.in_ok-counts.counts c.put_reasons.new.counts
    c.declaration-declaration.ensures.value c.items-taken.ensures c.in_ok-put_reasons.ensures.counts c.in_ok-counts.ensures in
    c.requires.loads ∙ sym all.length

pub add_counts-requires-clause-few : goal.add_counts-requires-clause-few
add_counts-requires-clause-few c =
    let keeps = subst IsDeclaration c.declaration-declaration.ensures.value c.declaration-declaration.ensures.keeps in
    omega (arith, c.requires.loads, keeps.capacity.few)

pub add_counts-requires-clause-room : goal.add_counts-requires-clause-room
add_counts-requires-clause-room c =
    let d = c.args.submission.now.declaration in
    let keeps = subst IsDeclaration c.declaration-declaration.ensures.value c.declaration-declaration.ensures.keeps in
    let all : AreAll (allotted_stage d c.args.stage c.args.states.now c.args.choice.now) c.put_reasons.new.counts =
    moved_all c.declaration-declaration.result.now d c.args.stage c.args.states.now c.items-taken.result.now c.args.choice.now c.in_ok-counts.counts c.put_reasons.new.counts
    c.declaration-declaration.ensures.value c.items-taken.ensures c.in_ok-put_reasons.ensures.counts c.in_ok-counts.ensures in
    loads_room d c.args.stage c.args.states.now c.args.choice.now c.put_reasons.new.counts c.args.given.now keeps.capacity keeps.share c.requires.fits c.requires.choice c.requires.loads c.requires.earlier all.each

pub returns-clause-reasons : goal.returns-clause-reasons
returns-clause-reasons c =
    let old = texts_of c.args.reasons.now in
    c.in_ok-put_reasons.ensures.texts
    ∙ ap (λ (k : Declaration). with_texts old (allotted_reasons (allotted_stage k c.args.stage c.args.states.now c.items-taken.result.now))) c.declaration-declaration.ensures.value
    ∙ ap (λ (x : List ℕ). with_texts old (allotted_reasons (allotted_stage c.args.submission.now.declaration c.args.stage c.args.states.now x))) c.items-taken.ensures

pub returns-clause-given : goal.returns-clause-given
returns-clause-given c =
    let d = c.args.submission.now.declaration in
    let all : AreAll (allotted_stage d c.args.stage c.args.states.now c.args.choice.now) c.put_reasons.new.counts =
    moved_all c.declaration-declaration.result.now d c.args.stage c.args.states.now c.items-taken.result.now c.args.choice.now c.in_ok-counts.counts c.put_reasons.new.counts
    c.declaration-declaration.ensures.value c.items-taken.ensures c.in_ok-put_reasons.ensures.counts c.in_ok-counts.ensures in
    earlier_after d c.args.stage c.args.states.now c.args.choice.now c.put_reasons.new.counts c.args.given.now c.add_counts.new.loads c.requires.fresh c.requires.loads c.requires.earlier all.each c.add_counts.ensures.added
