-- Which replies are refused with 8, at every point of a list: by the invariants of both sessions. Assumes nothing.
use mathlib.Core.Bool.{true}
use Rattle.archive.specs.Chain.{earlier_of}
use Rattle.archive.specs.Exchanges.{RepliesRefused}
use Rattle.archive_lists.proofs.recording.Noted.{noted}
use Rattle.archive.proofs.recording.ListedReplies.{unlisted_8, unlawful_8, listed_not_8}
use Rattle.archive.proofs.reading.ListedReplies.{reading_refuses}
use Rattle.archive.proofs.Continued.{kept_after}
use Rattle.archive_lists.proofs.Fold.{reading_kept}

pub replies_refused : RepliesRefused
replies_refused = record {
  recording = λ g last d s b w x c frame r q.
      let i = (kept_after g last d w s b x).whole in
      let v = noted (earlier_of b) true w in
      record { unlisted = unlisted_8 v c frame q i r; unlawful = unlawful_8 v c frame q i r; no_other = λ listed lawful. listed_not_8 v c frame q i r lawful listed };
  reading = λ g last t h w sized x c r lent q long.
      reading_refuses w c lent q long (reading_kept g last t h x.at x.calls w sized.segtrk sized.trks sized.is_last x.cartridge x.opens x.runs) r;
}
