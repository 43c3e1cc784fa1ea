-- What is known of a session by what a fetch gives. Assumes nothing.
use Rattle.std.proofs.Common.{◌≡◌, ◌<◌, ◌≤◌, true, false, ◌||◌, eqb, ltb, ◌⊎◌, ltb-false, ltb-true, eqb-true}
use borrow.Author.Tests.{eqb-false}
use Rattle.geometry.specs.Place.{as_address}
use Rattle.geometry.proofs.PickLaws.{pick_by}
use Rattle.drive.specs.Command.{CommandSaid, command_said, command_for}
use Rattle.drive.specs.declared.command.Command.TheVariants.{Read, Locate}
use Rattle.reading_state.specs.declared.state.State.{State}
use Rattle.reading_state.specs.Fetch.{command_of, command, end, refused, giving, FetchedSaid, awaits, sending, fetch_of}
use Rattle.reading_state.specs.State.{ended_of}
use Rattle.geometry.proofs.TestLaws.{or_true, or_false}

-- the session may be asked for a command
pub record Ready (s : State) : Type 0 where
  pub running : s.ended ≡ false
  pub free : s.exchange.awaiting ≡ false

-- and gives the next one
pub record Due (s : State) : Type 0 where
  pub ready : Ready s
  pub unfinished : s.finished ≡ false
  pub within : s.position.next.0 ≤ s.told.last.0

pub data FetchView (s : State) : FetchedSaid → Type 0 where
  wrong_phase : (s.ended ≡ true) ⊎ (s.exchange.awaiting ≡ true) → FetchView s (record { session = s; said = refused 7 })
  repeats : Ready s → s.exchange.again ≡ true → FetchView s (record { session = awaits s s.exchange.command; said = giving (command_said s.exchange.command) })
  ends : Ready s → s.exchange.again ≡ false → s.finished ≡ true → FetchView s (record { session = s; said = end })
  past_last : Ready s → s.exchange.again ≡ false → s.finished ≡ false → s.told.last.0 < s.position.next.0 → FetchView s (record { session = ended_of s; said = refused 12 })
  locates : Due s → s.exchange.again ≡ false → s.position.locate ≡ true → FetchView s (record { session = awaits s (Locate s.position.next); said = command 0x2B s.position.next.0 })
  crosses : Due s → s.exchange.again ≡ false → s.position.locate ≡ false → s.position.next.0 ≡ 2990 → FetchView s (record { session = awaits s (Locate (as_address 3000)); said = command 0x2B 3000 })
  reads : Due s → s.exchange.again ≡ false → s.position.locate ≡ false → (s.position.next.0 ≡ 2990 → ⊥) → FetchView s (record { session = awaits s (Read s.position.next); said = command 0x08 s.position.next.0 })

module _ (s : State) where
  abbrev Sent : CommandSaid → Type 0
  Sent x = FetchView s (sending s (command_for x))

  due_view : Due s → s.exchange.again ≡ false → Sent (command_of s)
  unfolding command_of
  due_view due once =
      pick_by Sent s.position.locate (locates due once)
      (λ there. pick_by Sent (eqb s.position.next.0 2990) (λ e. crosses due once there (eqb-true _ _ e))
      (λ e. reads due once there (eqb-false _ _ e)))

  pub fetch_view : FetchView s (fetch_of s)
  unfolding fetch_of
  fetch_view =
      pick_by (FetchView s) (s.ended || s.exchange.awaiting) (λ e. wrong_phase (or_true _ _ e))
      (λ e.
      let phase = or_false s.ended s.exchange.awaiting e in
      let ready : Ready s = record { running = phase.0; free = phase.1 } in
      pick_by (FetchView s) s.exchange.again (repeats ready)
      (λ once. pick_by (FetchView s) s.finished (ends ready once)
      (λ unfinished. pick_by (FetchView s) (ltb s.told.last.0 s.position.next.0) (λ above. past_last ready once unfinished (ltb-true _ _ above))
      (λ above. due_view (record { ready = ready; unfinished = unfinished; within = ltb-false s.told.last.0 s.position.next.0 above }) once))))
