-- All that is promised over whole lists and over all calls holds. Assumes nothing.
use Rattle.frame.proofs.ReadBack.{read_back}
use Rattle.header.proofs.ReadBack.{header_reads_back}
use Rattle.elements.proofs.FormerLaws.{as_formerly}
use Rattle.archive.specs.Promises.{Promises}
use Rattle.archive.proofs.Demand.{demand_3}
use Rattle.archive.proofs.EndNamed.{end_named}
use Rattle.archive_lists.proofs.Fold.{reading_is_fold, fold_of_user_frames}
use Rattle.archive.proofs.Chain.{adds, chains, earlier_first}
use Rattle.archive.proofs.Trails.{writes_name_markers, chains_name_markers}
use Rattle.archive.proofs.WorstCase.{worst_case}
use Rattle.archive.proofs.WorstReached.{worst_reached, worst_on_blank}
use Rattle.archive.proofs.PowerCut.{power_cut}
use Rattle.archive.proofs.ClosingCopy.{closing_copy}
use Rattle.archive.proofs.BeforeFirstCopy.{before_first_copy}
use Rattle.archive.proofs.SentCommands.{commands_sent}
use Rattle.archive.proofs.RepliesRefused.{replies_refused}
use Rattle.archive_lists.proofs.Refusals.{refused_calls}

pub promises : Promises
promises = record {
  refused_calls = refused_calls;
  replies_refused = replies_refused;
  read_back = read_back;
  header_read_back = header_reads_back;
  commands_sent = commands_sent;
  demand_3 = demand_3;
  end_named = end_named;
  reading_is_fold = reading_is_fold;
  fold_of_user_frames = fold_of_user_frames;
  adds = adds;
  chains = chains;
  as_formerly = as_formerly;
  writes_name_markers = writes_name_markers;
  chains_name_markers = chains_name_markers;
  worst_case = worst_case;
  worst_reached = worst_reached;
  worst_on_blank = worst_on_blank;
  power_cut = power_cut;
  earlier_first = earlier_first;
  closing_copy = closing_copy;
  before_first_copy = before_first_copy;
}
