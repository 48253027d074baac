use Rattle.std.proofs.Common.{ℕ, ◌++◌, codes, refl, ap, ◌∙◌, rules}
use Rattle.command_words.specs.Words.{Word}
use Rattle.desk_commands.specs.Reports.{refused, unopened, unread, unwritten, missing, large, out_of_form, over_limit, not_valid, no_next, cabinet_line, numbered_line, extra_fails, bad_form, past_limit, cause_line}
use Rattle.desk_commands.specs.Jobs.{name_at}
use Rattle.desk_commands.specs.Stops.{limit_text, journal_refusal}
use Rattle.desk_commands.proofs.TextLemmas.{verdict_of, extra_of}
use Rattle.desk_commands.proofs.stop.Stop.text.Goals as goal

pub returns-in_ok-cabinet_line-in-Missing : goal.returns-in_ok-cabinet_line-in-Missing
returns-in_ok-cabinet_line-in-Missing c =
    (refused (missing (name_at c.args.names.now c.in-Missing.place)), rw c.in-Missing.is refl, c.in_ok-cabinet_line-in-Missing.ensures ∙ ap (λ (n : Word). cabinet_line n (codes "MISSING")) c.name_at.ensures)

pub returns-in_ok-cabinet_line-in-Large : goal.returns-in_ok-cabinet_line-in-Large
returns-in_ok-cabinet_line-in-Large c =
    (refused (large (name_at c.args.names.now c.in-Large.place)), rw c.in-Large.is refl, c.in_ok-cabinet_line-in-Large.ensures ∙ ap (λ (n : Word). cabinet_line n (codes "LARGE")) c.name_at-in-Large.ensures)

pub returns-in_ok-cabinet_line-in-Unread : goal.returns-in_ok-cabinet_line-in-Unread
returns-in_ok-cabinet_line-in-Unread c =
    (unread (name_at c.args.names.now c.in-Unread.place), rw c.in-Unread.is refl, c.in_ok-cabinet_line-in-Unread.ensures ∙ ap (λ (n : Word). cabinet_line n (codes "READ")) c.name_at-in-Unread.ensures)

pub returns-in_ok-cabinet_line-in-Unwritten : goal.returns-in_ok-cabinet_line-in-Unwritten
returns-in_ok-cabinet_line-in-Unwritten c =
    (unwritten (name_at c.args.names.now c.in-Unwritten.place), rw c.in-Unwritten.is refl, c.in_ok-cabinet_line-in-Unwritten.ensures ∙ ap (λ (n : Word). cabinet_line n (codes "WRITE")) c.name_at-in-Unwritten.ensures)

pub returns-in_ok-numbered_line-in-OutOfForm : goal.returns-in_ok-numbered_line-in-OutOfForm
returns-in_ok-numbered_line-in-OutOfForm c =
    let name = name_at c.args.names.now c.in-OutOfForm.place in (
      refused (out_of_form name c.in-OutOfForm.line),
      rw c.in-OutOfForm.is refl,
      c.in_ok-numbered_line-in-OutOfForm.ensures
          ∙ (ap (λ (n : Word). numbered_line (codes "FORM") n c.from.result) c.name_at-name.ensures ∙ ap (numbered_line (codes "FORM") name) c.from.ensures),
    )

pub returns-in_ok-numbered_line-in-OverLimit : goal.returns-in_ok-numbered_line-in-OverLimit
returns-in_ok-numbered_line-in-OverLimit c = (
  refused (over_limit (limit_text c.in-OverLimit.limit) c.in-OverLimit.number),
  rw c.in-OverLimit.is refl,
  c.in_ok-numbered_line-in-OverLimit.ensures ∙ ap (λ (n : Word). numbered_line (codes "LIMIT") n c.in-OverLimit.number) c.limit_name.ensures,
)

pub returns-in_ok-verdict_line-in-NotValid : goal.returns-in_ok-verdict_line-in-NotValid
returns-in_ok-verdict_line-in-NotValid c = (
  refused (not_valid c.in-NotValid.line c.in-NotValid.reason),
  rw c.in-NotValid.is refl,
  c.in_ok-verdict_line-in-NotValid.ensures ∙ ap (verdict_of c.in-NotValid.line) c.reason_name.ensures,
)

pub returns-in_ok-journal_line-in-Unopened : goal.returns-in_ok-journal_line-in-Unopened
returns-in_ok-journal_line-in-Unopened c =
    (unopened (journal_refusal c.in-Unopened.why), rw c.in-Unopened.is refl, c.in_ok-journal_line-in-Unopened.ensures)

pub returns-in_ok-from_str-in-NoNext : goal.returns-in_ok-from_str-in-NoNext
returns-in_ok-from_str-in-NoNext c = (refused no_next, rw c.in-NoNext.is refl, search rules)

pub returns-in_ok-extra_line-in-ExtraFails : goal.returns-in_ok-extra_line-in-ExtraFails
returns-in_ok-extra_line-in-ExtraFails c = (
  refused (extra_fails c.in-ExtraFails.line c.in-ExtraFails.reason),
  rw c.in-ExtraFails.is refl,
  c.in_ok-extra_line-in-ExtraFails.ensures ∙ ap (extra_of c.in-ExtraFails.line) c.reason_name-in-ExtraFails.ensures,
)

pub returns-in_ok-caused_lines-in-BadForm : goal.returns-in_ok-caused_lines-in-BadForm
returns-in_ok-caused_lines-in-BadForm c =
    let name = name_at c.args.names.now c.in-BadForm.place in
    let more = cause_line c.in-BadForm.cause in (
      refused (bad_form name c.in-BadForm.line c.in-BadForm.cause),
      rw c.in-BadForm.is refl,
      c.in_ok-caused_lines-in-BadForm.ensures
          ∙ (ap (λ (n : Word). numbered_line (codes "FORM") n c.from-in-BadForm.result ++ more) c.name_at-name-in-BadForm.ensures ∙ ap (λ (n : ℕ). numbered_line (codes "FORM") name n ++ more) c.from-in-BadForm.ensures),
    )

pub returns-in_ok-caused_lines-in-PastLimit : goal.returns-in_ok-caused_lines-in-PastLimit
returns-in_ok-caused_lines-in-PastLimit c =
    let more = cause_line c.in-PastLimit.cause in (
      refused (past_limit (limit_text c.in-PastLimit.limit) c.in-PastLimit.number c.in-PastLimit.cause),
      rw c.in-PastLimit.is refl,
      c.in_ok-caused_lines-in-PastLimit.ensures ∙ ap (λ (n : Word). numbered_line (codes "LIMIT") n c.in-PastLimit.number ++ more) c.limit_name-in-PastLimit.ensures,
    )
