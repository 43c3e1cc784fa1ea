use Rattle.std.proofs.Common.{rules}
use Rattle.recording_state.specs.Accept.{close_of}
use Rattle.adr.proofs.CallLaws.{through_session}
use Rattle.adr.proofs.record.adr_record_close.Goals as goal

pub returns : goal.returns
returns c = through_session close_of c.args.s c.in-Ok.state _ _ c.in-Ok.ensures c.into.ensures (search rules)
