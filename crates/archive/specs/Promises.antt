-- The statements over whole lists of calls, over all calls, and over what is built.
use Rattle.frame.specs.ReadBack.{ReadBack}
use Rattle.header.specs.ReadBack.{HeaderReadBack}
use Rattle.elements.specs.Former.{AsFormerly}
use Rattle.archive.specs.Demand.{Demand3}
use Rattle.archive.specs.EndNamed.{EndNamed}
use Rattle.archive_lists.specs.Fold.{ReadingIsFold, FoldOfUserFrames}
use Rattle.archive.specs.Chain.{Adds, Chains}
use Rattle.archive.specs.Trails.{WritesNameMarkers, ChainsNameMarkers}
use Rattle.archive.specs.WorstCase.{WorstCase, WorstReached, WorstOnBlank}
use Rattle.archive.specs.PowerCut.{PowerCut, EarlierFirst, ClosingCopy, BeforeFirstCopy}
use Rattle.archive.specs.Exchanges.{CommandsSent, RepliesRefused}
use Rattle.archive_lists.specs.Refusals.{RefusedCalls}

-- all of them, each by its name
pub record Promises : Type 0 where
  -- 00, demand 1: what a refused call leaves; 01, "Replies": which replies are refused with 8
  pub refused_calls : RefusedCalls
  pub replies_refused : RepliesRefused
  -- 00, demand 2: fields written read back; the command answered is the command sent
  pub read_back : ReadBack
  pub header_read_back : HeaderReadBack
  pub commands_sent : CommandsSent
  -- 00, demand 3, and what a reading of any cartridge gives
  pub demand_3 : Demand3
  pub end_named : EndNamed
  pub reading_is_fold : ReadingIsFold
  pub fold_of_user_frames : FoldOfUserFrames
  -- 02, Cards 1 and 6: the same where a session adds, and over a chain, with or without elements given up
  pub adds : Adds
  pub chains : Chains
  -- 02, Card 6: with T = 0 what is due and what a write error changes are as they were before there was a tail
  pub as_formerly : AsFormerly
  -- 01, "AUX bytes": where frames go, and which filemarks they name
  pub writes_name_markers : WritesNameMarkers
  pub chains_name_markers : ChainsNameMarkers
  -- 02, Card 12: the most frames that the drive takes, and that there are replies which make it so many
  pub worst_case : WorstCase
  pub worst_reached : WorstReached
  pub worst_on_blank : WorstOnBlank
  -- 02, Card 14: what is read of a cartridge wherever the power went, behind closed sessions, and where a closing header reads; before the first new
  -- header copy, what was
  pub power_cut : PowerCut
  pub earlier_first : EarlierFirst
  pub closing_copy : ClosingCopy
  pub before_first_copy : BeforeFirstCopy
