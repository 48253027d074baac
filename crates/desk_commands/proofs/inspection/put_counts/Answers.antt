use Rattle.std.proofs.Common.{◌≡◌, ◌++◌, ◌∙◌, ℕ, List, ap, length}
use Rattle.season_days.specs.Capacity.{capacity_of, declared_resources}
use Rattle.season_days.specs.declared.declaration.Declaration.{Declaration}
use Rattle.season_days.specs.declared.declaration.Rule.{Rule}
use Rattle.scr_reader.specs.declared.message.Message.{Message}
use Rattle.series_model.specs.declared.unit.Unit.{Unit as SlotUnit}
use Rattle.report_lines.specs.Heads.{season_line}
use Rattle.desk_commands.specs.Inspections.{messages_line, units_line, dates_line, caps_line}
use Rattle.desk_commands.proofs.InspectionLemmas.{step_as}
use Rattle.desk_commands.proofs.inspection.put_counts.Goals as goal

pub returns : goal.returns
returns c =
    let s = c.args.submission.now in
    let d = s.declaration in
    let declared : c.declaration-declaration.result.now ≡ d = c.declaration-declaration.ensures.value in
    let units : c.units-units.result.now ≡ s.units = c.units-units.ensures.value in
    let messages : length c.items-messages.result.now ≡ length s.messages =
    ap (λ (ms : List Message). length ms) (c.items-messages.ensures ∙ c.messages.ensures.value) in
    let rules : length c.items-caps.result.now ≡ length d.rules =
    ap (λ (rs : List Rule). length rs) c.items-caps.ensures ∙ ap (λ (k : Declaration). length k.rules) declared in
    let windows : c.from.result ≡ declared_resources (capacity_of d) =
    c.from.ensures ∙ c.resources-windows.ensures.count ∙ ap declared_resources c.windows.ensures.value in
    let one : List ℕ = season_line d in
    let two : List ℕ = messages_line (length s.messages) in
    let three : List ℕ = units_line s.units in
    let four : List ℕ = dates_line d.season s.units in
    let five : List ℕ = caps_line (length d.rules) (declared_resources (capacity_of d)) in
    let last = c.put_caps.new.out.items in
    step_as c.args.out.now.items c.put_season.new.out.items last (season_line c.declaration-declaration.result.now) (two ++ (three ++ (four ++ five))) one
    (ap season_line declared) c.in_ok-put_season.ensures
    (step_as c.put_season.new.out.items c.put_messages.new.out.items last (messages_line (length c.items-messages.result.now)) (three ++ (four ++ five)) two
    (ap messages_line messages) c.in_ok-put_messages.ensures
    (step_as c.put_messages.new.out.items c.put_units.new.out.items last (units_line c.units-units.result.now) (four ++ five) three
    (ap units_line units) c.in_ok-put_units.ensures
    (step_as c.put_units.new.out.items c.put_dates.new.out.items last (dates_line c.declaration-declaration.result.now.season c.units-units.result.now) five four
    (ap (λ (k : Declaration). dates_line k.season c.units-units.result.now) declared ∙ ap (λ (us : List SlotUnit). dates_line d.season us) units) c.in_ok-put_dates.ensures
    (c.in_ok-put_caps.ensures ∙ ap (λ (n : ℕ). c.put_dates.new.out.items ++ caps_line n c.from.result) rules ∙ ap (λ (n : ℕ). c.put_dates.new.out.items ++ caps_line (length d.rules) n) windows))))
