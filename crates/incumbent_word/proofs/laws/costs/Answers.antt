use Rattle.incumbent_word.proofs.Costs.{at_most_refl, at_most_none, at_most_trans, at_most_both, lesser_left, lesser_right, lesser_greatest, lesser_none, lesser_assoc, lesser_either}
use Rattle.incumbent_word.proofs.laws.costs.Goals as goal

pub returns : goal.returns
returns c = record {
  itself = at_most_refl;
  none_is_greatest = at_most_none;
  chain = at_most_trans;
  both_ways = at_most_both;
  left = lesser_left;
  right = lesser_right;
  greatest = lesser_greatest;
  with_none = lesser_none;
  grouping = lesser_assoc;
  either = lesser_either;
}
