use Rattle.std.proofs.Common.{◌≡◌, ◌<◌, ◌++◌, ◌∷◌, [], ◌∙◌, length, true, false, Some, arith, rules}
use Rattle.std.proofs.lemmas.Grind.{common_steps}
use Rattle.std.proofs.lemmas.List.Elements.{All-pop}
use Rattle.choice_problem.specs.Walks.{AreFrames}
use Rattle.choice_problem.proofs.WalkLemmas.{into_high, out_of_high, changed_more}
use Rattle.choice_problem.proofs.walks.go_up.Goals as goal

pub returns-then-not-frame-clause-walk : goal.returns-then-not-frame-clause-walk
returns-then-not-frame-clause-walk c =
    let f = c.in-Some.frame in
    let low : f.in_high ≡ false = grind (arith, common_steps) in
    let popped : c.loop-frame.frames.items ≡ c.pop.new.self.items ++ f ∷ [] = c.in-Some.ensures.items in
    let again : c.push.new.self.items ≡ c.pop.new.self.items ++ record f { in_high = true } ∷ [] = c.in_ok-push.ensures.items in
    rw c.change.ensures.value
    (into_high c.loop-frame.ranges c.pop.new.self.items c.loop-frame.frames.items c.push.new.self.items f low popped again ∙ c.loop-frame.invariant.same)

pub returns-then-not-frame-clause-changed : goal.returns-then-not-frame-clause-changed
returns-then-not-frame-clause-changed c =
    let f = c.in-Some.frame in
    let named : f.unit < length c.loop-frame.ranges = search rules in
    let there : f.unit < length c.args.ranges.now = rw c.loop-frame.invariant.spans at named in
    rw c.change.ensures.value
    (changed_more c.args.ranges.now c.loop-frame.ranges c.args.changed.now.items c.loop-frame.changed.items c.change.new.changed.items f.unit (f.cut, f.high)
    c.loop-frame.invariant.changes there c.in_ok-change.ensures.added)

pub loop-frame-preserved : goal.loop-frame-preserved
loop-frame-preserved c =
    let f = c.in-Some.frame in
    let high : f.in_high ≡ true = grind (arith, common_steps) in
    let popped : c.loop-frame.frames.items ≡ c.pop.new.self.items ++ f ∷ [] = c.in-Some.ensures.items in
    let parts : AreFrames (length c.loop-frame.ranges) c.pop.new.self.items × (f.unit < length c.loop-frame.ranges) =
    All-pop (λ g. g.unit < length c.loop-frame.ranges) c.loop-frame.frames.items c.pop.new.self.items (Some f) popped c.loop-frame.invariant.frames in
    let named = parts.1 in
    let kept : length c.change-in-Some.new.ranges ≡ length c.loop-frame.ranges = search rules in
    let there : f.unit < length c.args.ranges.now = rw c.loop-frame.invariant.spans at named in
    record {
      spans = kept ∙ c.loop-frame.invariant.spans;
      frames = rw kept parts.0;
      same =
          rw c.change-in-Some.ensures.value
          (out_of_high c.loop-frame.ranges c.pop.new.self.items c.loop-frame.frames.items f high popped ∙ c.loop-frame.invariant.same);
      changes =
          rw c.change-in-Some.ensures.value
          (changed_more c.args.ranges.now c.loop-frame.ranges c.args.changed.now.items c.loop-frame.changed.items c.change-in-Some.new.changed.items f.unit (f.low, f.high)
          c.loop-frame.invariant.changes there c.in_ok-change-2.ensures.added);
    }
