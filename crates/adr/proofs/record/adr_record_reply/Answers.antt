use Rattle.std.proofs.Common.{rules}
use Rattle.recording_state.specs.Reply.{reply_of}
use Rattle.numbers.specs.Arguments.{as_reply}
use Rattle.adr.proofs.CallLaws.{through_session}
use Rattle.adr.proofs.record.adr_record_reply.Goals as goal

pub returns : goal.returns
returns c = through_session (λ t. reply_of t (as_reply c.args.reply)) c.args.s c.in-Ok.state _ _ c.in-Ok.ensures c.into-2.ensures (search rules)
