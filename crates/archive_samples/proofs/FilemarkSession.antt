-- A sample session that adds one filemark and meets no error, from its opening to done, wherever it begins. Assumes nothing.
use Prim.Native.Nat.{ℕ, ◌+◌, ◌≤◌, ◌<◌}
use mathlib.Core.Path.{◌≡◌, ◌∙◌}
use mathlib.Core.Bool.{Bool}
use mathlib.Core.List.{List, [], ◌∷◌}
use mathlib.Core.Logic.{inl}
use mathlib.Core.Option.{some}
use native.Mathlib.Omega.{arith}
use Rattle.geometry.specs.Place.{as_address, as_seq}
use Rattle.frame.specs.declared.header.Header.{Header}
use Rattle.frame.specs.declared.trail.Trail.{Trail}
use Rattle.drive.specs.declared.command.Command.TheVariants.{Locate, ReadPosition}
use Rattle.carried_headers.specs.Carried.{closing_of}
use Rattle.elements.specs.Reply as reply
use Rattle.elements.specs.declared.elements.Elements.{Elements}
use Rattle.recording_state.specs.Open.{started_at, setup_of}
use Rattle.recording_state.specs.Written.{written_frame}
use Rattle.archive_lists.specs.Conduct.{Drive}
use Rattle.archive_lists.specs.Tape.{Tape, put}
use Rattle.archive_lists.specs.Recordings.{filemark, World, Runs, started}
use Rattle.archive_samples.specs.Sample.{depth, window, filemark_calls}
use Rattle.archive_lists.proofs.tape.FoldLaws.{put_other}
use Rattle.archive_samples.proofs.Exchange.{reported}
use Rattle.archive_samples.proofs.Flush.{buffered}
use Rattle.archive_samples.proofs.Headers.{writing, ending, finished, headers_written, opening_written_at, closing_written}
use Rattle.archive_samples.proofs.Tapes.{headers_elsewhere}
use Rattle.archive_samples.proofs.Filemark.{Reaches, located, eod_due, eod_on_tape, filemark_begun, filemark_written, eod_written_lem}
use Rattle.archive_samples.proofs.FirstRecording.{window_long}

-- its opening header, the address, number and trail that it begins with, the drive, and the frames of the filemark and of EOD
module _ (h : Header) (a number : ℕ) (trail : Trail) (d : Drive) (mark eod : List ℕ) where
  abbrev last : ℕ
  last = h.last.0

  abbrev marks : List Bool
  marks = (located last a number trail).queue.marks

  abbrev pub eod_written : Elements
  eod_written = eod_on_tape last a number a trail marks

  -- a tape with the filemark on it
  abbrev marked : Tape → Tape
  marked t = put t a (some mark)

  -- the drive after the opening headers, and after EOD
  abbrev pub opened : Drive
  opened = headers_written h d

  abbrev pub written : Drive
  written = buffered (put (marked opened.tape) (a + 1) (some eod)) (a + 1 + 1) ((a + 1) ∷ a ∷ opened.written) []

  abbrev closing_header : Header
  closing_header = closing_of h eod_written.course.next

  -- the close has reported done
  abbrev done : World
  done = reported window (filemark ∷ []) (finished 0 closing_header eod_written) (headers_written closing_header written)

  pub filemark_runs : Reaches last → a < 2989
      → written_frame (writing 0 h (located last a number trail) (Locate (as_address a))) window ≡ mark
      → written_frame (ending 0 h (eod_due last a number a trail marks) ReadPosition) window ≡ eod
      → Runs (started (started_at (setup_of depth 1 0) h (as_address a) (as_seq number) trail) window d) filemark_calls done
  unfolding reply.confirmed_of
  filemark_runs large low mark_frame eod_frame =
      opening_written_at 0 window window_long h (as_address a) (as_seq number) trail d
      (filemark_begun last a number trail large h (omega arith) opened
      (filemark_written last a number a trail marks h large low (filemark ∷ []) opened.tape opened.written mark (Locate (as_address a)) mark_frame
      (eod_written_lem last a number a trail marks h large low (filemark ∷ []) (marked opened.tape) (a ∷ opened.written) eod eod_frame
      (closing_written 0 window window_long (filemark ∷ []) eod_written closing_header written))))

  -- below where it begins the tape is as it was
  pub as_left : (closing : Header) (c : ℕ) → 10 ≤ c → c < a → a < 2989 → (headers_written closing written).tape c ≡ d.tape c
  as_left closing c low high first_group =
      headers_elsewhere closing written c (inl (low, omega arith))
      ∙ put_other (marked opened.tape) (a + 1) (some eod) c (λ e. omega arith)
      ∙ put_other opened.tape a (some mark) c (λ e. omega arith)
      ∙ headers_elsewhere h d c (inl (low, omega arith))
