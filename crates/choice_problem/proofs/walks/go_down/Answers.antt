use Rattle.std.proofs.Common.{◌≡◌, ◌++◌, ◌∷◌, [], ap, false}
use Rattle.choice_problem.specs.Bounds.{low_of, high_of}
use Rattle.choice_problem.specs.Trees.{low_part}
use Rattle.choice_problem.proofs.WalkLemmas.{split_below}
use Rattle.choice_problem.proofs.walks.go_down.Goals as goal

pub returns-clause-walk : goal.returns-clause-walk
returns-clause-walk c =
    let spans = c.args.ranges.now in
    let unit = c.args.unit in
    let cut = c.args.cut in
    let pushed : c.push.new.self.items ≡ c.args.frames.now.items ++
    record { unit = unit; low = low_of spans unit; high = high_of spans unit; cut = cut; in_high = false } ∷ [] =
    rw (c.low-low.ensures, c.high-high.ensures) at c.in_ok-push.ensures.items in
    rw (c.change.ensures.value, c.low-low.ensures)
    (ap (λ s. low_part spans unit cut ∷ s) (split_below spans c.args.frames.now.items c.push.new.self.items unit cut pushed))
