use Rattle.std.proofs.Common.{ℕ, ◌≤◌, List, length, sym, ◌∙◌, subst, arith}
use Rattle.desk_commands.specs.declared.files.TheConstants.{LONGEST_FILE}
use Rattle.desk_commands.proofs.trial.generate.Goals as goal

pub declare-requires-clause-short : goal.declare-requires-clause-short
declare-requires-clause-short c =
    subst (λ (b : List ℕ). length b ≤ LONGEST_FILE) (sym (c.deref.ensures.value ∙ c.in_ok-capacity.ensures.capacity)) (omega (arith, c.sizes.ensures.capacity c.args.units c.requires))

pub submit-requires-clause-short : goal.submit-requires-clause-short
submit-requires-clause-short c =
    subst (λ (b : List ℕ). length b ≤ LONGEST_FILE) (sym (c.deref-2.ensures.value ∙ c.in_ok-capacity.ensures.requests)) (omega (arith, c.requires, c.sizes.ensures.requests c.args.number c.args.units c.requires))
