use Rattle.std.proofs.Common.{rules}
use Rattle.recording_state.specs.Accept.{filemark_of}
use Rattle.adr.proofs.CallLaws.{through_session}
use Rattle.adr.proofs.record.adr_record_filemark.Goals as goal

pub returns : goal.returns
returns c = through_session filemark_of c.args.s c.in-Ok.state _ _ c.in-Ok.ensures c.into.ensures (search rules)
