-- The passage that a call notes.
use Rattle.desk_outside.specs.Passages.{Passage, read, wrote, write_failed, took, put, put_failed}
use Rattle.desk_outside.specs.declared.log.Note.{Note}
use Rattle.desk_outside.specs.declared.log.Note.TheVariants as noted

abbrev pub passage_of : Note → Passage
passage_of (noted.Read name bytes) = read name.now bytes.now
passage_of (noted.Wrote name bytes) = wrote name.now bytes.now
passage_of (noted.WriteFailed name bytes) = write_failed name.now bytes.now
passage_of (noted.Took bytes) = took bytes.now
passage_of (noted.Put bytes) = put bytes.now
passage_of (noted.PutFailed bytes) = put_failed bytes.now
