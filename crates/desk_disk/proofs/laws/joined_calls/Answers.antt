use Rattle.desk_disk.specs.Stops.{IsFirst, IsFirstImage}
use Rattle.desk_disk.proofs.StopLemmas.{read_more, read_whole, left_more, left_whole, read_is_left, first_is_image, shown_snoc}
use Rattle.desk_disk.proofs.laws.joined_calls.Goals as goal

pub returns : goal.returns
returns c = record {
  read = λ s log more. read_more (IsFirst s) log more;
  read_back = λ s log more. read_whole (IsFirst s) log more;
  left = λ s log more. left_more (IsFirst s) (IsFirstImage s) log more;
  left_back = λ s log more. left_whole (IsFirst s) (IsFirstImage s) log more;
  among = λ s log c. read_is_left log (IsFirst s) (IsFirstImage s) c (first_is_image s);
  shown = λ log passage. shown_snoc 0 log passage;
}
