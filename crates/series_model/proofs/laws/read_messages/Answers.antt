use Rattle.std.proofs.Common.{arith}
use Rattle.series_model.proofs.ReadLemmas.{read_pairs, read_items, read_numbers}
use Rattle.series_model.proofs.laws.read_messages.Goals as goal

pub returns : goal.returns
returns c = record { pairs = read_pairs; few = λ bytes messages few reads. let items = read_items bytes messages reads in omega (arith, items, few); numbers = read_numbers }
