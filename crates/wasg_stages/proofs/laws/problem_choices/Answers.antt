use Rattle.wasg_stages.proofs.ChoiceLemmas.{choice-numbers, choice-there, choice-displacement, choice-load, choice-feasible, choice-feasible_back, choice-named, choice-least, choice-none, choice-bound}
use Rattle.wasg_stages.proofs.laws.problem_choices.Goals as goal

pub returns : goal.returns
returns c = record {
  numbers = choice-numbers;
  there = choice-there;
  displacement = choice-displacement;
  loads = choice-load;
  feasible = choice-feasible;
  back = choice-feasible_back;
  all = choice-named;
  least = choice-least;
  none = choice-none;
  bound = choice-bound;
}
