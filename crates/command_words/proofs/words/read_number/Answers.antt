use Rattle.std.proofs.Common.{ℕ, List, subst, arith}
use Rattle.slot_text.specs.Numbers.{IsNumber}
use Rattle.command_words.proofs.JobLemmas.{number_read}
use Rattle.command_words.proofs.words.read_number.Goals as goal

pub returns : goal.returns
returns c =
    number_read c.args.least c.args.most c.in-Ok.n c.args.word.now (subst (λ (w : List ℕ). IsNumber w c.in-Ok.n) c.as_bytes.ensures.value c.in-Ok.ensures.found)
    (omega (arith, c.if-n-from.false, c.from.ensures)) (omega (arith, c.if-n-from-2.false, c.from-else-n-from.ensures))
