-- The stages of a certificate, one after the other: their text, the reasons of the units, and the
-- loads.
use Rattle.std.proofs.Common.{◌≡◌, ℕ, zero, suc, ◌+◌, ◌-◌, ◌<◌, ◌≤◌, Bool, true, false, sym, ◌∙◌, ap, subst, arith, List, [], ◌∷◌, ◌++◌, length, get_or, drop}
use Rattle.std.specs.Prelude.{Option, Some, None, All, IfSome, slice_get, slice_index}
use Rattle.std.specs.List.{AllByRecursion}
use Rattle.std.proofs.lemmas.List.{append-nil, append_assoc, drop_more, drop_all}
use Rattle.std.proofs.lemmas.Option.{slice_get-get_or}
use Rattle.season_days.specs.Term.{Term}
use Rattle.season_days.specs.declared.declaration.Declaration.{Declaration}
use Rattle.season_days.specs.declared.declaration.TheConstants.{HIGHEST_SHARE}
use Rattle.season_days.specs.Capacity.{capacity_of, declared_resources, IsCapacity}
use Rattle.capacity_windows.specs.Windows.{window_load}
use Rattle.capacity_windows.specs.declared.movement.Movement.{Movement}
use Rattle.cert_format.specs.Spelling.{is_tried}
use Rattle.cert_format.specs.Printable.{IsPrintableStage, IsPrintableAs}
use Rattle.cert_format.specs.declared.cert.StageCert.{StageCert}
use Rattle.cert_format.specs.declared.cert.Certificate.{Certificate}
use Rattle.cert_format.specs.Choices.{choices_of}
use Rattle.choice_problem.specs.Counts.{GrowsBy, HasRoom}
use Rattle.window_counts.specs.Placed.{AreZero}
use Rattle.series_model.specs.declared.unit.Unit.{Unit as SlotUnit}
use Rattle.series_model.specs.declared.state.UnitState.{UnitState}
use Rattle.series_model.specs.declared.times.Times.{Times}
use Rattle.series_model.specs.Allotments.{IsFeasibleAllotment, allotted_load}
use Rattle.series_model.specs.Submissions.{SubmissionView}
use Rattle.series_model.specs.Stages.{movements_given, first_states, stage_units, stage_limit, stage_times, after_allotment, after_stage, GivenFits, IsFeasibleChoice, AreFeasibleFrom}
use Rattle.report_lines.specs.Peaks.{AreEarlier, earlier_load}
use Rattle.season_report.specs.declared.decided.Decided.{Decided}
use Rattle.season_report.specs.Decisions.{states_before, season_decided}
use Rattle.season_report.specs.Reports.{stage_line, tried_lines, stages_text, with_texts, stage_reasons, reasons_after}
use Rattle.season_report.specs.Rows.{allotted_stage}
use Rattle.season_report.specs.Private.{IsOpen, AreAll}
use Rattle.season_report.proofs.StateLemmas.{OneMoreStage, choice_of_block, before_next}
use Rattle.season_report.proofs.LawLemmas.{for_some, feasible_at}
use Rattle.season_report.proofs.GivenLemmas.{load_after, limit_small, declared_small}

-- ---- one stage more

pub text_next : (s : SubmissionView) (c : Certificate) (units : List Decided) (states : List UnitState) (certs : List StageCert) (i stage : ℕ) (block : StageCert) (before written : List ℕ) → i < length certs → block ≡ get_or certs i block →
    units ≡ season_decided s c → states ≡ states_before s c stage →
    written ≡ before ++ (stage_line s.declaration units stage block ++ tried_lines s.declaration stage states block (is_tried block.mark)) →
    written ++ stages_text s c (stage + 1) (drop (i + 1) certs) ≡ before ++ stages_text s c stage (drop i certs)
text_next s c units states certs i stage block before written lt is decided are wrote =
    let d = s.declaration in
    let later = stages_text s c (stage + 1) (drop (i + 1) certs) in
    let own = stage_line d (season_decided s c) stage block ++ tried_lines d stage (states_before s c stage) block (is_tried block.mark) in
    let next : suc stage ≡ stage + 1 = omega arith in
    let all : stages_text s c stage (drop i certs) ≡ own ++ later =
    ap (stages_text s c stage) (drop_more certs i block lt ∙ ap (λ (b : StageCert). b ∷ drop (i + 1) certs) (sym is))
    ∙ ap (λ (k : ℕ). own ++ stages_text s c k (drop (i + 1) certs)) next in
    ap (λ (t : List ℕ). t ++ later) (
    wrote
    ∙ ap (λ (us : List Decided). before ++ (stage_line d us stage block ++ tried_lines d stage states block (is_tried block.mark))) decided
    ∙ ap (λ (st : List UnitState). before ++ (stage_line d (season_decided s c) stage block ++ tried_lines d stage st block (is_tried block.mark))) are
    )
    ∙ append_assoc before own later
    ∙ ap (λ (t : List ℕ). before ++ t) (sym all)

pub reasons_later : (s : SubmissionView) (c : Certificate) (states : List UnitState) (certs : List StageCert) (i stage : ℕ) (block : StageCert) (before after : List (List ℕ)) → i < length certs → block ≡ get_or certs i block →
    states ≡ states_before s c stage → after ≡ with_texts before (stage_reasons s.declaration stage states block.choice) →
    reasons_after s c (stage + 1) after (drop (i + 1) certs) ≡ reasons_after s c stage before (drop i certs)
reasons_later s c states certs i stage block before after lt is are made =
    let d = s.declaration in
    let next : suc stage ≡ stage + 1 = omega arith in
    let own = with_texts before (stage_reasons d stage (states_before s c stage) block.choice) in
    let all : reasons_after s c stage before (drop i certs) ≡ reasons_after s c (stage + 1) own (drop (i + 1) certs) =
    ap (reasons_after s c stage before) (drop_more certs i block lt ∙ ap (λ (b : StageCert). b ∷ drop (i + 1) certs) (sym is))
    ∙ ap (λ (k : ℕ). reasons_after s c k own (drop (i + 1) certs)) next in
    ap (λ (ts : List (List ℕ)). reasons_after s c (stage + 1) ts (drop (i + 1) certs))
    (made ∙ ap (λ (st : List UnitState). with_texts before (stage_reasons d stage st block.choice)) are)
    ∙ sym all

-- ---- its choice

pub choice_here : (s : SubmissionView) (c : Certificate) (states : List UnitState) (i stage : ℕ) (block : StageCert) → AreFeasibleFrom s.declaration 1 (first_states s.units) (choices_of c) → i < length c.stages → block ≡ get_or c.stages i block →
    stage ≡ i + 1 → states ≡ states_before s c stage → IfSome block.choice (IsFeasibleChoice s.declaration stage states)
choice_here s c states i stage block are lt is number before =
    let at : slice_get c.stages i ≡ Some block = slice_get-get_or c.stages i block lt ∙ ap (λ (b : StageCert). Some b) (sym is) in
    for_some (IsFeasibleChoice s.declaration stage states) block.choice (λ x made.
    subst (λ (st : List UnitState). IsFeasibleChoice s.declaration stage st x) (sym before)
    (subst (λ (k : ℕ). IsFeasibleChoice s.declaration k (states_before s c k) x) (sym number) (feasible_at s c i block x are at made)))

printable_at : (version : ℕ) (certs : List StageCert) (i : ℕ) (block : StageCert) → AllByRecursion (IsPrintableStage version) certs → i < length certs → block ≡ get_or certs i block → IsPrintableStage version block
printable_at version [] i block all lt is = absurd (omega arith)
printable_at version (c ∷ certs) zero block all lt is = subst (IsPrintableStage version) (sym is) all.0
printable_at version (c ∷ certs) (suc i) block all lt is = printable_at version certs i block all.1 (omega arith) is

untried_by : (version : ℕ) (block : StageCert) (b : Bool) → IsPrintableAs version block b → b ≡ false → block.choice ≡ None
untried_by version block true form off = cc
untried_by version block false form off = form.choice

pub untried_none : (version : ℕ) (certs : List StageCert) (i : ℕ) (block : StageCert) → AllByRecursion (IsPrintableStage version) certs → i < length certs → block ≡ get_or certs i block → is_tried block.mark ≡ false → block.choice ≡ None
untried_none version certs i block all lt is off = untried_by version block (is_tried block.mark) (printable_at version certs i block all lt is) off

-- ---- what was given fits

-- the law of the model
abbrev pub FitsOn : Type 0
FitsOn = (d : Declaration) (stage : ℕ) (states : List UnitState) (times : List Times) → d.share ≤ HIGHEST_SHARE → GivenFits d states →
    IsFeasibleAllotment d (stage_units stage states) (stage_limit d stage states) times → GivenFits d (after_allotment stage states times)

pub fits_after : FitsOn → (d : Declaration) (stage : ℕ) (states : List UnitState) (choice : Option (List ℕ)) → d.share ≤ HIGHEST_SHARE → GivenFits d states → IfSome choice (IsFeasibleChoice d stage states) →
    GivenFits d (after_stage d stage states choice)
fits_after law d stage states None share fits feasible = fits
fits_after law d stage states (Some x) share fits feasible = law d stage states (stage_times d stage states x) share fits feasible.feasible

-- ---- the loads with what the stage gave

pub earlier_after : (d : Declaration) (stage : ℕ) (states : List UnitState) (choice counts old new : List ℕ) → All (IsOpen stage) states → length old ≡ declared_resources (capacity_of d) → AreEarlier d states old →
    ((r : ℕ) → r < declared_resources (capacity_of d) → slice_index counts r ≡ allotted_load d (stage_units stage states) (stage_times d stage states choice) r) →
    GrowsBy old new (λ r. slice_index counts r) → AreEarlier d (after_stage d stage states (Some choice)) new
earlier_after d stage states choice counts old new fresh long earlier all grown r lt =
    omega (
      arith,
      load_after d stage states (stage_times d stage states choice) r fresh,
      earlier r lt,
      all r lt,
      grown r (omega (arith, lt, long)),
    )

pub loads_room : (d : Declaration) (stage : ℕ) (states : List UnitState) (choice counts old : List ℕ) → IsCapacity (capacity_of d) → d.share ≤ HIGHEST_SHARE → GivenFits d states → IsFeasibleChoice d stage states choice →
    length old ≡ declared_resources (capacity_of d) → AreEarlier d states old →
    ((r : ℕ) → r < declared_resources (capacity_of d) → slice_index counts r ≡ allotted_load d (stage_units stage states) (stage_times d stage states choice) r) →
    HasRoom old (λ r. slice_index counts r)
loads_room d stage states choice counts old keeps share fits feasible long earlier all r lt =
    let there : r < declared_resources (capacity_of d) = omega (arith, lt, long) in
    omega (
      arith,
      earlier r there,
      fits r there,
      all r there,
      feasible.feasible.fits r there,
      limit_small d stage states r share,
      declared_small (capacity_of d) r keeps,
    )

-- the counts of the stage, at equal values
pub moved_all : (d e : Declaration) (stage : ℕ) (states : List UnitState) (x y counts after : List ℕ) → d ≡ e → x ≡ y → after ≡ counts → AreAll (allotted_stage d stage states x) counts → AreAll (allotted_stage e stage states y) after
moved_all d e stage states x y counts after same list back all =
    subst (λ (ns : List ℕ). AreAll (allotted_stage e stage states y) ns) (sym back)
    (subst (λ (z : List ℕ). AreAll (allotted_stage e stage states z) counts) list
    (subst (λ (k : Declaration). AreAll (allotted_stage k stage states x) counts) same all))

pub moved_choice : (d e : Declaration) (stage : ℕ) (states : List UnitState) (x y : List ℕ) → d ≡ e → x ≡ y → IsFeasibleChoice e stage states y → IsFeasibleChoice d stage states x
moved_choice d e stage states x y same list feasible =
    subst (λ (z : List ℕ). IsFeasibleChoice d stage states z) (sym list) (subst (λ (k : Declaration). IsFeasibleChoice k stage states y) (sym same) feasible)

-- ---- before the first stage

-- the law of the model
abbrev pub NothingFirst : Type 0
NothingFirst = (season : Term) (units : List SlotUnit) → movements_given season (first_states units) ≡ []

pub first_earlier : NothingFirst → (d : Declaration) (units : List SlotUnit) (states : List UnitState) (loads : List ℕ) → states ≡ first_states units → length loads ≡ declared_resources (capacity_of d) → AreZero loads → AreEarlier d states loads
first_earlier law d units states loads is long zeros r lt =
    let nothing : earlier_load d states r ≡ 0 =
    ap (λ (st : List UnitState). earlier_load d st r) is ∙ ap (λ (m : List Movement). window_load (capacity_of d) m r) (law d.season units) in
    omega (arith, nothing, zeros r (omega (arith, lt, long)))

pub first_fits : NothingFirst → (d : Declaration) (units : List SlotUnit) (states : List UnitState) → states ≡ first_states units → GivenFits d states
first_fits law d units states is r lt =
    let nothing : earlier_load d states r ≡ 0 =
    ap (λ (st : List UnitState). earlier_load d st r) is ∙ ap (λ (m : List Movement). window_load (capacity_of d) m r) (law d.season units) in
    omega (arith, nothing)

-- one stage more
pub states_next : OneMoreStage → (s : SubmissionView) (c : Certificate) (states after : List UnitState) (i stage : ℕ) (block : StageCert) → i < length c.stages → block ≡ get_or c.stages i block → stage ≡ i + 1 →
    states ≡ states_before s c stage → after ≡ after_stage s.declaration stage states block.choice → after ≡ states_before s c (stage + 1)
states_next more s c states after i stage block lt is number before made =
    let same : i ≡ stage - 1 = omega (arith, number) in
    let choice : get_or (choices_of c) (stage - 1) None ≡ block.choice = subst (λ (k : ℕ). get_or (choices_of c) k None ≡ block.choice) same (choice_of_block c i block lt is) in
    made
    ∙ ap (λ (st : List UnitState). after_stage s.declaration stage st block.choice) before
    ∙ sym (before_next more s c stage block.choice (omega (arith, number)) (omega (arith, number, lt)) choice)

-- no block is left
pub text_end : (s : SubmissionView) (c : Certificate) (certs : List StageCert) (i stage : ℕ) (written whole : List ℕ) → length certs ≤ i → written ++ stages_text s c stage (drop i certs) ≡ whole → written ≡ whole
text_end s c certs i stage written whole past so_far =
    sym (append-nil written) ∙ ap (λ (t : List ℕ). written ++ t) (sym (ap (stages_text s c stage) (drop_all i certs past))) ∙ so_far

pub reasons_end : (s : SubmissionView) (c : Certificate) (certs : List StageCert) (i stage : ℕ) (texts whole : List (List ℕ)) → length certs ≤ i → reasons_after s c stage texts (drop i certs) ≡ whole → texts ≡ whole
reasons_end s c certs i stage texts whole past so_far = sym (ap (reasons_after s c stage texts) (drop_all i certs past)) ∙ so_far
