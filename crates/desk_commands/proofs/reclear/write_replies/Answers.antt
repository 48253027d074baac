use Rattle.std.proofs.Common.{◌≡◌, List, Some, sym, ap, ◌∙◌, subst}
use Rattle.std.specs.Prelude.{All, IfSome, Option}
use Rattle.scr_reader.specs.declared.header.Header.{Header}
use Rattle.series_model.specs.declared.state.UnitState.{UnitState}
use Rattle.scr_replies.specs.SeasonReplies.{IsAnswerable}
use Rattle.wait_list.specs.Waiting.{allotted_states}
use Rattle.desk_commands.specs.Reclearing.{waiting_replies}
use Rattle.desk_commands.proofs.AllottedLemmas.{allotted_answerable}
use Rattle.desk_commands.proofs.reclear.write_replies.Goals as goal

pub reply_to-requires : goal.reply_to-requires
reply_to-requires c =
    let left = c.args.left.now in
    let header : Header = c.in-Some.header in
    let same = subst (λ (o : Option Header). IfSome o (λ h. h.season ≡ left.book.book.declaration.season)) c.in-Some.is c.requires.header in
    subst (λ (states : List UnitState). All (IsAnswerable header.season) states) (sym (c.deref.ensures.value ∙ c.in_ok-states.ensures))
    (allotted_answerable c.spelled_alternatives.ensures c.option_bounds.ensures.times left.book.book.declaration left.waiting c.args.stage.now.choice header c.requires.spelled same)

pub returns : goal.returns
returns c =
    let left = c.args.left.now in
    let header : Header = c.in-Some.header in
    let states : List UnitState = allotted_states left.book.book.declaration left.waiting c.args.stage.now.choice in
    c.in_ok-replies.ensures ∙ (ap (waiting_replies (Some header)) (c.deref.ensures.value ∙ c.in_ok-states.ensures) ∙ ap (λ (o : Option Header). waiting_replies o states) (sym c.in-Some.is))
