use Rattle.std.proofs.Common.{rules, ◌≡◌, ◌∷◌, ◌≤◌, [], List, length, arith}
use Rattle.std.proofs.lemmas.List.Elements.{All-cons, All-nil}
use Rattle.std.proofs.lemmas.List.Sums.{sum_by-cons}
use Rattle.choice_problem.specs.declared.vectors.Price.{Price}
use Rattle.choice_problem.specs.Bounds.{IsVector}
use Rattle.search_workers.specs.Outcomes.{AreFurther, price_count}
use Rattle.thread_rows.proofs.searches.vec_of.Goals as goal

pub returns : goal.returns
returns g c =
    let p = c.args._problem.now in
    let v = c.args.vector in
    let pushed : c.push.new.self.items ≡ v ∷ [] = search rules in
    let sum = sum_by-cons (λ (prices : List Price). length prices) v [] in
    rw pushed (record {
      few = omega arith;
      each = All-cons (IsVector p) v [] c.requires.vector (All-nil (IsVector p));
      few_prices = omega (arith, sum, c.requires.few);
    })
