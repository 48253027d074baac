use Rattle.tied_choice.proofs.scales.greatest_divisor.Given as goal

abbrev pub decreases-loop-two : goal.decreases-loop-two
decreases-loop-two l = l.two
