-- Why a job stopped, as the code has it. No clause of `desk` cites this.
use Rattle.std.specs.Prelude.{ℕ, List, Option, Some, None, codes}
use Rattle.capacity_file.specs.Texts.{cap_limit_text}
use Rattle.fault_causes.specs.declared.cause.Cause.{Cause}
use Rattle.command_words.specs.Words.{Word}
use Rattle.desk_commands.specs.Reports.{Report, Refusal, refused, unopened, unread, unwritten}
use Rattle.desk_commands.specs.Reports.{missing, large, out_of_form, over_limit, not_valid, no_next}
use Rattle.desk_commands.specs.Reports.{extra_fails}
use Rattle.desk_commands.specs.Reports.{bad_form, past_limit}
use Rattle.desk_commands.specs.Reports.{JournalRefusal, no_journal, other_journal, bad_slot}
use Rattle.desk_commands.specs.Reports.{journal_fault}
use Rattle.desk_commands.specs.Judgements.{NamedBytes, Judgement}
use Rattle.desk_commands.specs.Steps.{Step}
use Rattle.desk_commands.specs.Jobs.{name_at}
use Rattle.desk_commands.specs.Desk.{World}
use Rattle.desk_commands.specs.Leads.{RefusesAlone, RefusedLead, UnreadLead, MemoryLead}
use Rattle.desk_commands.specs.declared.stop.Limit.{Limit}
use Rattle.desk_commands.specs.declared.stop.Limit.TheVariants as limits
use Rattle.desk_commands.specs.declared.stop.NoJournal.{NoJournal}
use Rattle.desk_commands.specs.declared.stop.NoJournal.TheVariants as journals
use Rattle.desk_commands.specs.declared.stop.Stop.{Stop}
use Rattle.desk_commands.specs.declared.stop.Stop.TheVariants as stops

abbrev pub limit_text : Limit → List ℕ
limit_text (limits.Capacity limit) = cap_limit_text limit
limit_text limits.Units = codes "UNITS"
limit_text limits.Waiting = codes "WAITING"

abbrev pub journal_refusal : NoJournal → JournalRefusal
journal_refusal journals.Missing = no_journal
journal_refusal journals.Other = other_journal
journal_refusal (journals.Slot number) = bad_slot number
journal_refusal journals.Fault = journal_fault

-- what is reported, by the names of the job; want of memory is no report
abbrev pub report_of : List Word → Stop → Option Report
report_of names (stops.Missing place) = Some (refused (missing (name_at names place)))
report_of names (stops.Large place) = Some (refused (large (name_at names place)))
report_of names (stops.Unread place) = Some (unread (name_at names place))
report_of names (stops.Unwritten place) = Some (unwritten (name_at names place))
report_of names (stops.OutOfForm place line) =
    Some (refused (out_of_form (name_at names place) line))
report_of names (stops.OverLimit limit number) =
    Some (refused (over_limit (limit_text limit) number))
report_of names (stops.NotValid line reason) = Some (refused (not_valid line reason))
report_of names (stops.Unopened why) = Some (unopened (journal_refusal why))
report_of names stops.NoNext = Some (refused no_next)
report_of names (stops.ExtraFails line reason) = Some (refused (extra_fails line reason))
report_of names (stops.BadForm place line cause) =
    Some (refused (bad_form (name_at names place) line cause))
report_of names (stops.PastLimit limit number cause) =
    Some (refused (past_limit (limit_text limit) number cause))
report_of names stops.Memory = None

-- the stop is a refusal that the property has, or want of memory
abbrev pub IsRefusalBy : List Word → (Refusal → Type 0) → Stop → Type 0
IsRefusalBy names Has (stops.Missing place) = ⊥
IsRefusalBy names Has (stops.Large place) = ⊥
IsRefusalBy names Has (stops.Unread place) = ⊥
IsRefusalBy names Has (stops.Unwritten place) = ⊥
IsRefusalBy names Has (stops.OutOfForm place line) = Has (out_of_form (name_at names place) line)
IsRefusalBy names Has (stops.OverLimit limit number) = Has (over_limit (limit_text limit) number)
IsRefusalBy names Has (stops.NotValid line reason) = Has (not_valid line reason)
IsRefusalBy names Has (stops.Unopened why) = ⊥
IsRefusalBy names Has stops.NoNext = Has no_next
IsRefusalBy names Has (stops.ExtraFails line reason) = Has (extra_fails line reason)
IsRefusalBy names Has (stops.BadForm place line cause) =
    Has (bad_form (name_at names place) line cause)
IsRefusalBy names Has (stops.PastLimit limit number cause) =
    Has (past_limit (limit_text limit) number cause)
IsRefusalBy names Has stops.Memory = Unit {0}

-- why files that were read are refused, by a judgement
abbrev pub IsJudged : List Word → Judgement → Word → List NamedBytes → Stop → Type 0
IsJudged names j name read stop = IsRefusalBy names (RefusesAlone j name read) stop

-- the same with its cause
abbrev pub caused : Stop → Cause → Stop
caused (stops.OutOfForm place line) cause = stops.BadForm place line cause
caused (stops.OverLimit limit number) cause = stops.PastLimit limit number cause
caused stop cause = stop

-- where a job stopped at one of its steps
abbrev pub StopLeads : List Word → World → List Step → Stop → World → Type 0
StopLeads names w all (stops.Missing place) v = RefusedLead w all (missing (name_at names place)) v
StopLeads names w all (stops.Large place) v = RefusedLead w all (large (name_at names place)) v
StopLeads names w all (stops.Unread place) v = UnreadLead w all (name_at names place) v
StopLeads names w all (stops.Unwritten place) v = ⊥
StopLeads names w all (stops.OutOfForm place line) v =
    RefusedLead w all (out_of_form (name_at names place) line) v
StopLeads names w all (stops.OverLimit limit number) v =
    RefusedLead w all (over_limit (limit_text limit) number) v
StopLeads names w all (stops.NotValid line reason) v =
    RefusedLead w all (not_valid line reason) v
StopLeads names w all (stops.Unopened why) v = ⊥
StopLeads names w all stops.NoNext v = RefusedLead w all no_next v
StopLeads names w all (stops.ExtraFails line reason) v =
    RefusedLead w all (extra_fails line reason) v
StopLeads names w all (stops.BadForm place line cause) v =
    RefusedLead w all (bad_form (name_at names place) line cause) v
StopLeads names w all (stops.PastLimit limit number cause) v =
    RefusedLead w all (past_limit (limit_text limit) number cause) v
StopLeads names w all stops.Memory v = MemoryLead w all v
