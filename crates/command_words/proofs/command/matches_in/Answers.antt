use Rattle.std.proofs.Common.{◌≡◌, true, refl, sym, subst}
use Rattle.clap.specs.Simple.{App}
use Rattle.clap.specs.Words.{FailsBy, fault_of, is_simple_and_free}
use Rattle.command_words.specs.Words.{words_of}
use Rattle.command_words.specs.App.{desk_app}
use Rattle.command_words.proofs.command.matches_in.Goals as goal

pub returns-clause-kinds : goal.returns-clause-kinds
returns-clause-kinds c =
    let same = c.in_ok-command.ensures in
    let free : is_simple_and_free desk_app ≡ true = refl in
    subst (λ (a : App). FailsBy (fault_of a (words_of c.args.words.now)) c.try_get_matches_from.result) same
    (c.try_get_matches_from.ensures.kinds (subst (λ (a : App). is_simple_and_free a ≡ true) (sym same) free))
