use Rattle.std.proofs.Common.{arith, List, length, ap, Bor, ℕ}
use Rattle.scr_reader.proofs.TextLemmas.{table_few}
use Rattle.scr_reader.proofs.texts.read_message.Goals as goal

pub read_first-requires : goal.read_first-requires
read_first-requires c =
    let same = ap (λ (l : List (Bor (List ℕ))). length l) c.as_slice.ensures.value in
    omega (arith, c.requires, table_few c.args.bytes.now c.in_ok-lines.lines.items c.in_ok-lines.ensures.found, same)
