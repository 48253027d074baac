use Rattle.std.proofs.Common.{drop}
use Rattle.std.specs.List.{AllByRecursion}
use Rattle.std.specs.Str.{IsUtf8}
use Rattle.command_words.specs.Words.{words_of}
use Rattle.command_words.proofs.words.check_texts.Given as goal

-- all words are text where those from the index on are
abbrev pub invariant-loop-word : goal.invariant-loop-word
invariant-loop-word l = AllByRecursion IsUtf8 (words_of (drop l.word-index l.words)) → AllByRecursion IsUtf8 (words_of l.words)
