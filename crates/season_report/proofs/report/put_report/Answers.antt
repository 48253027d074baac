use Rattle.std.proofs.Common.{◌≡◌, ◌++◌, ◌<◌, ◌∙◌, sym, ap, subst, length, List, ℕ}
use Rattle.std.specs.Prelude.{All, codes, slice_index}
use Rattle.std.proofs.lemmas.List.{length-map}
use Rattle.season_days.specs.declared.declaration.Declaration.{Declaration}
use Rattle.season_days.specs.Capacity.{Capacity, capacity_of, declared_resources}
use Rattle.report_lines.specs.Heads.{head_text}
use Rattle.report_lines.specs.Peaks.{earlier_load, profile_lines}
use Rattle.season_report.specs.declared.decided.Decided.{Decided}
use Rattle.season_report.specs.Decisions.{season_decided, states_before}
use Rattle.season_report.specs.Reports.{stages_text, airlines_text, units_text, season_reasons, season_profile, reasons_after}
use Rattle.season_report.specs.Private.{IsTold, texts_of}
use Rattle.season_report.proofs.ReportLemmas.{six_parts}
use Rattle.season_report.proofs.report.put_report.Goals as goal

pub put_stages-requires-clause-count : goal.put_stages-requires-clause-count
put_stages-requires-clause-count c =
    sym (length-map c.args.reasons.now _) ∙ ap (λ (ts : List (List ℕ)). length ts) c.requires.texts ∙ length-map c.args.submission.now.units _

pub put_airlines-requires-clause-told : goal.put_airlines-requires-clause-told
put_airlines-requires-clause-told c = subst (λ (k : Declaration). All (IsTold k) c.args.units.now) (sym c.declaration-declaration.ensures.value) c.requires.told

pub put_units-requires-clause-count : goal.put_units-requires-clause-count
put_units-requires-clause-count c =
    c.in_ok-put_stages.ensures.count
    ∙ sym (length-map c.args.reasons.now _) ∙ ap (λ (ts : List (List ℕ)). length ts) c.requires.texts ∙ length-map c.args.submission.now.units _
    ∙ sym c.requires.all

pub put_units-requires-clause-told : goal.put_units-requires-clause-told
put_units-requires-clause-told c = subst (λ (k : Declaration). All (IsTold k) c.args.units.now) (sym c.declaration-declaration.ensures.value) c.requires.told

pub put_profile-requires-clause-windows : goal.put_profile-requires-clause-windows
put_profile-requires-clause-windows c = c.windows-windows.ensures.value ∙ ap capacity_of (sym c.declaration-declaration.ensures.value)

pub put_profile-requires-clause-loads : goal.put_profile-requires-clause-loads
put_profile-requires-clause-loads c = c.in_ok-put_stages.ensures.loads ∙ c.requires.loads ∙ ap declared_resources (sym c.windows-windows.ensures.value)

pub returns : goal.returns
returns c =
    let s = c.args.submission.now in
    let e = c.args.certificate.now in
    let d = s.declaration in
    let out = c.args.out.now.items in
    let decl = c.declaration-declaration.ensures.value in
    let load = earlier_load d (states_before s e 5) in
    let own : (r : ℕ) → r < declared_resources c.windows-windows.result.now → slice_index c.put_stages.new.given r ≡ load r = λ r lt.
    c.in_ok-put_stages.ensures.given r (subst (λ (w : Capacity). r < declared_resources w) c.windows-windows.ensures.value lt) in
    let reasons = c.in_ok-put_stages.ensures.reasons ∙ ap (λ (ts : List (List ℕ)). reasons_after s e 1 ts e.stages) c.requires.texts in
    six_parts out (head_text d) (stages_text s e 1 e.stages) (airlines_text d (season_decided s e)) (units_text d (season_decided s e) (season_reasons s e)) (season_profile s e) (codes "END\n")
    c.put_head.new.out.items c.put_stages.new.out.items c.put_airlines.new.out.items c.put_units.new.out.items c.put_profile.new.out.items c.put.new.out.items
    (c.in_ok-put_head.ensures ∙ ap (λ (k : Declaration). out ++ head_text k) decl)
    c.in_ok-put_stages.ensures.text
    (c.in_ok-put_airlines.ensures
    ∙ ap (λ (k : Declaration). c.put_stages.new.out.items ++ airlines_text k c.args.units.now) decl
    ∙ ap (λ (us : List Decided). c.put_stages.new.out.items ++ airlines_text d us) c.requires.units)
    (c.in_ok-put_units.ensures
    ∙ ap (λ (k : Declaration). c.put_airlines.new.out.items ++ units_text k c.args.units.now (texts_of c.put_stages.new.reasons)) decl
    ∙ ap (λ (us : List Decided). c.put_airlines.new.out.items ++ units_text d us (texts_of c.put_stages.new.reasons)) c.requires.units
    ∙ ap (λ (ts : List (List ℕ)). c.put_airlines.new.out.items ++ units_text d (season_decided s e) ts) reasons)
    (c.in_ok-put_profile.ensures load own ∙ ap (λ (w : Capacity). c.put_units.new.out.items ++ profile_lines w load) c.windows-windows.ensures.value)
    c.in_ok-put.ensures
