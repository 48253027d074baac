use Rattle.session_desk.proofs.PassedLemmas.{put_takes_nothing, failed_takes_nothing, passed_put}
use Rattle.session_desk.proofs.session.answer.Goals as goal

pub returns-in-Ok-put-clause-taken : goal.returns-in-Ok-put-clause-taken
returns-in-Ok-put-clause-taken g c = put_takes_nothing c.joined_logs.ensures.taken _ _ _ c.in-Ok-put.ensures.sent.log

pub returns-in-Ok-put-clause-told : goal.returns-in-Ok-put-clause-told
returns-in-Ok-put-clause-told g c t h =
    passed_put t _ _ _ _ (put_takes_nothing c.joined_logs.ensures.taken _ _ _ c.in-Ok-put.ensures.sent.log) h c.in-Ok-put.ensures.sent

pub returns-in-Ok-clause-taken : goal.returns-in-Ok-clause-taken
returns-in-Ok-clause-taken g c = failed_takes_nothing c.joined_logs.ensures.taken _ _ _ c.in-Err.ensures.sent.log

pub returns-in-Ok-clause-told : goal.returns-in-Ok-clause-told
returns-in-Ok-clause-told g c t h =
    passed_put t _ _ _ _ (failed_takes_nothing c.joined_logs.ensures.taken _ _ _ c.in-Err.ensures.sent.log) h c.in-Err.ensures.sent
