-- The command that a fetch answers, by number and address, is the one that its session holds and that goes to the drive. Assumes nothing.
use Prim.Native.Nat.{ℕ}
use mathlib.Core.Path.{◌≡◌, ap, ◌∙◌}
use mathlib.Core.List.{List}
use Rattle.geometry.proofs.Impossible.{never}
use Rattle.drive.specs.Command.{command_code, command_by, command_for}
use Rattle.drive.specs.declared.command.Command.{Command}
use Rattle.drive.proofs.CaseLaws.{command_by_lem}
use Rattle.recording_state.specs.Answer as answer
use Rattle.recording_state.specs.Fetch as recording
use Rattle.recording_state.specs.Fetch.{sending}
use Rattle.recording_state.specs.declared.state.State.{State}
use Rattle.recording_state.proofs.FetchView as view
use Rattle.recording_state.proofs.FetchView.{FetchView, fetch_view}
use Rattle.reading_state.specs.Fetch as reading
use Rattle.reading_state.specs.declared.state.State.{State as Reading}
use Rattle.reading_state.proofs.FetchView as reading_view
use Rattle.archive_lists.specs.Recordings as recordings
use Rattle.archive_lists.specs.Readings as readings
use Rattle.archive.specs.Exchanges.{NamesCommand, CommandsSent}

named : {number address : ℕ} {c : Command} → NamesCommand number address c → command_by number address ≡ c
named {number} {address} {c} n = ap (λ (x : ℕ). command_by x address) n.number_is ∙ ap (λ (x : ℕ). command_by (command_code c) x) n.address_is ∙ command_by_lem c

-- ---- a recording

module _ (s : State) (lent frame : List ℕ) (n a : ℕ) where
  sends : (c : Command) → (sending s c lent frame).said ≡ answer.command n a → NamesCommand n a (sending s c lent frame).session.exchange.command
  unfolding sending
  sends c e = record { number_is = cc; address_is = cc }

  pub answered_command : (recording.fetch_of s lent frame).said ≡ answer.command n a → NamesCommand n a (recording.fetch_of s lent frame).session.exchange.command
  answered_command = go (fetch_view s lent frame)
    where
      go : {f : recording.FetchedSaid} → FetchView s lent frame f → f.said ≡ answer.command n a → NamesCommand n a f.session.exchange.command
      go (view.wrong_phase _) e = never (cc)
      go (view.wrong_length _ _ _) e = never (cc)
      go (view.repeating _ _) e = sends s.exchange.command e
      go (view.copying _ _ _) e = sends _ e
      go (view.stepping _ _ _ x _) e = sends (command_for x) e
      go (view.resting _ _ _ _) e = never (cc)
      go (view.stopping _ _ _ _ _) e = never (cc)
      go (view.finished _ _ _) e = never (cc)

-- it goes to the drive with the frame as the fetch left it
pub sent_command : (w : recordings.World) (lent frame : List ℕ) (n a : ℕ) → (recording.fetch_of w.session lent frame).said ≡ answer.command n a
    → (recordings.after_fetch w lent frame).flight ≡ recordings.sent (recordings.after_fetch w lent frame).session.exchange.command (recording.fetch_of w.session lent frame).frame
sent_command w lent frame n a e =
    ap (λ (x : answer.AnswerSaid). recordings.flight_after x w.flight (recording.fetch_of w.session lent frame).frame) e
    ∙ ap (λ (c : Command). recordings.sent c (recording.fetch_of w.session lent frame).frame) (named (answered_command w.session lent frame n a e))

-- ---- a reading

pub read_command : (s : Reading) (n a : ℕ) → (reading.fetch_of s).said ≡ reading.command n a → NamesCommand n a (reading.fetch_of s).session.exchange.command
read_command s n a = go (reading_view.fetch_view s)
  where
    go : {f : reading.FetchedSaid} → reading_view.FetchView s f → f.said ≡ reading.command n a → NamesCommand n a f.session.exchange.command
    go (reading_view.wrong_phase _) e = never (cc)
    go (reading_view.repeats _ _) e = record { number_is = cc; address_is = cc }
    go (reading_view.ends _ _ _) e = never (cc)
    go (reading_view.past_last _ _ _ _) e = never (cc)
    go (reading_view.locates _ _ _) e = record { number_is = cc; address_is = cc }
    go (reading_view.crosses _ _ _ _) e = record { number_is = cc; address_is = cc }
    go (reading_view.reads _ _ _ _) e = record { number_is = cc; address_is = cc }

pub sent_read : (w : readings.World) (n a : ℕ) → (reading.fetch_of w.session).said ≡ reading.command n a → (readings.after_fetch w).flight ≡ readings.sent (readings.after_fetch w).session.exchange.command
sent_read w n a e = ap (λ (x : reading.AnswerSaid). readings.flight_after x w.flight) e ∙ ap (λ (c : Command). readings.sent c) (named (read_command w.session n a e))

pub commands_sent : CommandsSent
commands_sent = record {
  recording = λ w lent frame n a e. record { held = answered_command w.session lent frame n a e; goes = sent_command w lent frame n a e };
  reading = λ w n a e. record { held = read_command w.session n a e; goes = sent_read w n a e };
}
