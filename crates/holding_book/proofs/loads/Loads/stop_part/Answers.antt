use Rattle.std.proofs.Common.{◌≡◌, arith, ap, ◌∙◌, subst, Some}
use Rattle.season_days.specs.Capacity.{Capacity, capacity_of, declared_resources}
use Rattle.std.specs.Option.{ForSome}
use Rattle.choice_problem.specs.Strips.{IsPartInRange}
use Rattle.holding_book.specs.Private.Loads.{LoadsView}
use Rattle.holding_book.specs.Private.Uses.{IsOnce, IsStopPart}
use Rattle.holding_book.proofs.loads.Loads.stop_part.Goals as goal

for_some : {T : Type 0} (P : T → Type 0) (x : T) → P x → ForSome (Some x) P
for_some P x h y e =
    let same : x ≡ y = cc in
    subst P same h

pub returns : goal.returns
returns c =
    let part = c.in_ok-part.part in
    let ensured = c.in_ok-part.ensures in
    let same : c.self.inside.windows ≡ capacity_of c.args.self.now.declaration = c.self.invariant.declared ∙ ap (λ (v : LoadsView). capacity_of v.declaration) c.self.view_is in
    let here : IsStopPart c.self.inside.windows c.args.kind (Some c.in-Some.field-0) c.args.minute c.args.period (Some part) = record {
      there = for_some (IsPartInRange (declared_resources c.self.inside.windows)) part ensured.range;
      once = for_some (IsOnce c.self.inside.windows) part ensured.once;
      loads = ensured.uses;
      few = λ r. omega (arith, ensured.few_uses r);
    } in
    rw c.in-Some.is (subst (λ (w : Capacity). IsStopPart w c.args.kind (Some c.in-Some.field-0) c.args.minute c.args.period (Some part)) same here)
