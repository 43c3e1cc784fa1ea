-- A command is fetched, the drive answers it as is wanted, and the reply is brought: a WRITE is taken, a LOCATE is carried out, READ POSITION finds
-- all that the drive holds on tape, or a write error at the oldest. In whatever stage. Assumes nothing.
use Prim.Native.Nat.{ℕ, ◌+◌, ◌≤◌}
use mathlib.Core.Path.{◌≡◌, refl, sym, ap, subst, ◌∙◌}
use mathlib.Core.Bool.{Bool}
use mathlib.Core.List.{List}
use mathlib.Core.Logic.{inl}
use native.Mathlib.Omega.{arith}
use lib.ListN.{length, replicate, length-replicate}
use Rattle.geometry.specs.Pick.{pick}
use Rattle.geometry.specs.Place.{as_address}
use Rattle.geometry.specs.declared.address.Address.{Address}
use Rattle.geometry.proofs.TestLaws.{neither}
use Rattle.drive.specs.Cases as cases
use Rattle.drive.specs.Command.{command_said, write, locate, read_position}
use Rattle.drive.specs.Listed.{Means}
use Rattle.drive.specs.Senses.{meaning_in, good, write_error}
use Rattle.drive.specs.declared.command.Command.{Command}
use Rattle.drive.specs.declared.command.Command.TheVariants.{Write, Locate, ReadPosition}
use Rattle.drive.specs.declared.reply.Reply.{Reply}
use Rattle.drive.proofs.CaseLaws.{command_by_lem}
use Rattle.recording_state.specs.State.{OutcomeSaid, accepting}
use Rattle.recording_state.specs.Answer.{giving}
use Rattle.recording_state.specs.Due.{decision_of}
use Rattle.recording_state.specs.Fetch.{FetchedSaid, awaits, frame_for, sending, fetch_of}
use Rattle.recording_state.specs.Reply as reply
use Rattle.recording_state.specs.Reply.{reply_by, reply_of}
use Rattle.recording_state.specs.Written.{written_frame}
use Rattle.recording_state.specs.declared.state.Setup.{Setup}
use Rattle.recording_state.specs.declared.state.State.{State}
use Rattle.recording_state.specs.declared.state.Stage.{Stage}
use Rattle.recording_state.proofs.FetchView.{fetch_sends}
use Rattle.recording_state.proofs.ReplyView.{reply_so}
use Rattle.archive_lists.specs.Conduct as conduct
use Rattle.archive_lists.specs.Conduct.{Drive, Answers, taking, moved}
use Rattle.archive_lists.specs.Recordings as recordings
use Rattle.archive_lists.specs.Recordings.{Element, World, with_drive, fetch_number, flight_after, reported_after}
use Rattle.archive_counts.specs.Counts.{is_taken, is_failed}
use Rattle.archive_counts.proofs.run.Goes.{Account, counting, Goes, goes_none, goes_call, goes_answer}
use Rattle.archive_counts.proofs.run.Calm.{Calm, lending, exchanged}
use Rattle.archive_counts.proofs.run.Holding.{Holds, holds_as, failed, goes_writes, goes_fails}

-- ---- replies

abbrev pub good_reply : Reply
good_reply = record { key = 0; asc = 0; ascq = 0; buffered = 0; position = as_address 0; skip = 0 }

abbrev pub error_reply : ℕ → ℕ → Reply
error_reply p skip = record { key = 0x03; asc = 0x0C; ascq = 0; buffered = 0; position = as_address p; skip = skip }

means_good : Means good_reply good
unfolding meaning_in
means_good = refl

means_error : (p skip : ℕ) → Means (error_reply p skip) write_error
unfolding meaning_in
means_error p skip = refl

-- ---- a whole exchange

-- the frame that is lent; a shut name, so that its bytes are never looked at
unfoldable pub blank_frame : List ℕ
blank_frame = replicate 33280 0

pub blank_long : length blank_frame ≡ 33280
unfolding blank_frame
blank_long = length-replicate {A = ℕ} 33280 0

abbrev pub fetched : World → FetchedSaid → World
fetched w x = record {
  session = x.session;
  window = w.window;
  drive = w.drive;
  flight = flight_after x.said w.flight x.frame;
  notes = lending w (reported_after x.said w.notes.reported);
}

-- its command is with the drive
abbrev out : World → Command → Command → World
out w c k = record {
  session = awaits w.session c;
  window = w.window;
  drive = w.drive;
  flight = recordings.sent k (frame_for c w.session w.window blank_frame);
  notes = lending w w.notes.reported;
}

sent_number : (s : State) (c : Command) (window frame : List ℕ) → fetch_number (sending s c window frame).said ≡ 0
unfolding sending
sent_number s c window frame = refl

sent_out : {P : World → Type 0} {t : Account} (w : World) (c : Command) → Goes (out w c c) t P → Goes (fetched w (sending w.session c w.window blank_frame)) t P
unfolding sending
sent_out {P} {t} w c g = subst (λ (k : Command). Goes (out w c k) t P) (sym (command_by_lem c)) g

exchange : {P : World → Type 0} {t : Account} {stage : Stage} {setup : Setup} {closed : Bool} {xs : List Element} (w : World) → Calm stage setup closed xs w
    → (c : Command) → decision_of w.session ≡ giving (command_said c)
    → (r : Reply) (d : Drive) → Answers w.drive (frame_for c w.session w.window blank_frame) c r d
    → (s : State) → reply_by (awaits w.session c) (cases.case_of c r) r ≡ accepting s
    → Goes (exchanged w s d) t P
    → Goes w (counting stage (pick (is_taken (cases.case_of c r)) 1 0) (pick (is_failed (cases.case_of c r)) 1 0) t) P
exchange {P} {t} {stage} w x c due r d a s so g =
    let sends : fetch_of w.session w.window blank_frame ≡ sending w.session c w.window blank_frame =
    fetch_sends w.session w.window blank_frame (neither _ _ x.between.going x.between.free) x.wide blank_long c due in
    let brought : reply_of (awaits w.session c) r ≡ accepting s = reply_so (awaits w.session c) r (neither _ _ x.between.going refl) refl ∙ so in
    let told : Account = counting stage (pick (is_taken (cases.case_of c r)) 1 0) (pick (is_failed (cases.case_of c r)) 1 0) t in
    let sent : Goes (out w c c) told P =
    goes_answer (out w c c) stage x.stage_is c (frame_for c w.session w.window blank_frame) r d refl a
    (goes_call (recordings.replies r refl (inl (ap (λ (y : OutcomeSaid). y.number) brought)))
    (subst (λ (y : OutcomeSaid). Goes (exchanged w y.session d) t P) (sym brought) g)) in
    goes_call (recordings.fetches w.window blank_frame (inl (ap (λ (y : FetchedSaid). fetch_number y.said) sends ∙ sent_number w.session c w.window blank_frame)))
    (subst (λ (y : FetchedSaid). Goes (fetched w y) told P) (sym sends) (sent_out w c sent))

module _ {P : World → Type 0} {t : Account} {stage : Stage} {setup : Setup} {closed : Bool} {xs : List Element} (w : World) (x : Calm stage setup closed xs w) (s : State) where
  pub takes : (a : Address) → decision_of w.session ≡ giving (write a.0) → reply.taken_of (awaits w.session (Write a)) ≡ accepting s
      → Goes (exchanged w s (taking w.drive (written_frame w.session w.window))) t P → Goes w (counting stage 1 0 t) P
  unfolding meaning_in reply_by
  takes a due so g = exchange w x (Write a) due good_reply (taking w.drive (written_frame w.session w.window)) (conduct.takes a good_reply means_good) s so g

  pub locates : (a : Address) → decision_of w.session ≡ giving (locate a.0) → reply.located_of (awaits w.session (Locate a)) ≡ accepting s
      → Goes (exchanged w s (moved w.drive a.0)) t P → Goes w t P
  unfolding meaning_in reply_by
  locates a due so g = goes_none (exchange w x (Locate a) due good_reply (moved w.drive a.0) (conduct.locates a good_reply means_good) s so g)

  -- with all that the drive holds written first
  pub confirms : {o a : ℕ} → Holds o a w.drive → decision_of w.session ≡ giving read_position → reply.counted_of (awaits w.session ReadPosition) 0 ≡ accepting s
      → ((d : Drive) → Holds 0 a d → Goes (exchanged w s d) t P) → Goes w t P
  unfolding meaning_in reply_by
  confirms h due so g =
      goes_writes w.drive.buffer w refl h.sound
      (λ d y. goes_none (exchange (with_drive w d w.flight) x ReadPosition due good_reply d (conduct.counts good_reply means_good (sym y.buffered)) s so
      (g d (holds_as (omega (arith, h.buffered, h.at_is)) y))))

  -- with the oldest frame that the drive holds failed first, at address p
  pub meets : {o a : ℕ} → Holds o a w.drive → 1 ≤ o → (p skip : ℕ) → p + o ≡ a → decision_of w.session ≡ giving read_position
      → reply.failed_of (awaits w.session ReadPosition) (as_address p) skip ≡ accepting s
      → Goes (exchanged w s (failed w.drive)) t P → Goes w (counting stage 0 1 t) P
  unfolding meaning_in reply_by
  meets h least p skip place due so g =
      goes_fails w.drive.buffer w refl (let q = h.buffered in omega arith) h.sound
      (exchange (with_drive w (failed w.drive) w.flight) x ReadPosition due (error_reply p skip) (failed w.drive)
      (conduct.position_fails (error_reply p skip) (means_error p skip) refl (let q = h.at_is in omega arith)) s so g)
