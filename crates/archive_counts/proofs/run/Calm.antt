-- A session between two exchanges, and what a stage leaves alone of it. Assumes nothing.
use Prim.Native.Nat.{ℕ}
use mathlib.Core.Path.{◌≡◌, refl, ap}
use mathlib.Core.Bool.{Bool, true, ◌&&◌}
use mathlib.Core.List.{List}
use lib.ListN.{length}
use Rattle.buffer.specs.Bytes.{agree}
use Rattle.buffer.proofs.Agreement.{agree_same}
use Rattle.drive.specs.declared.command.Command.{Command}
use Rattle.copies.specs.declared.copies.Copies.{Copies}
use Rattle.elements.specs.declared.elements.Elements.{Elements}
use Rattle.recording_state.specs.State.{with_stage, with_copies, with_elements, window_length}
use Rattle.recording_state.specs.Fetch.{awaits}
use Rattle.recording_state.specs.Reply.{replied_of}
use Rattle.recording_state.specs.declared.state.Setup.{Setup}
use Rattle.recording_state.specs.declared.state.State.{State}
use Rattle.recording_state.specs.declared.state.Stage.{Stage}
use Rattle.recording_state.proofs.FetchView.{both}
use Rattle.archive_lists.specs.Conduct.{Drive}
use Rattle.archive_lists.specs.Recordings as recordings
use Rattle.archive_lists.specs.Recordings.{Element, World, Notes}
use Rattle.archive_counts.proofs.Between.{Between}

-- these elements were accepted, none of them given up, and the window was lent as left each time
pub record Noted (xs : List Element) (notes : Notes) : Type 0 where
  pub accepted : notes.accepted ≡ xs
  pub unaltered : notes.unaltered ≡ true
  pub ungiven : notes.given_up ≡ 0

-- what a stage leaves alone, whatever the drive does
pub record CalmIn (stage : Stage) (setup : Setup) (closed : Bool) (xs : List Element) (s : State) (window : List ℕ) (notes : Notes) : Type 0 where
  pub stage_is : s.stage ≡ stage
  pub setup_is : s.setup ≡ setup
  pub closed_is : s.closed ≡ closed
  pub wide : length window ≡ window_length s
  pub between : Between s.ended s.exchange
  pub noted : Noted xs notes

abbrev pub Calm : Stage → Setup → Bool → List Element → World → Type 0
Calm stage setup closed xs w = CalmIn stage setup closed xs w.session w.window w.notes

pub depth_is : {stage : Stage} {setup : Setup} {closed : Bool} {xs : List Element} (w : World) → Calm stage setup closed xs w → w.session.setup.depth ≡ setup.depth
depth_is w k = ap (λ (y : Setup). y.depth) k.setup_is

-- what is noted when the window is lent as it was left
abbrev pub lending : World → Bool → Notes
lending w reported = record {
  accepted = w.notes.accepted;
  unaltered = w.notes.unaltered && agree w.window w.window;
  reported = reported;
  given_up = w.notes.given_up;
}

-- the world behind an exchange
abbrev pub exchanged : World → State → Drive → World
exchanged w s d = record { session = s; window = w.window; drive = d; flight = recordings.no_command; notes = lending w w.notes.reported }

-- the session behind one, given its header copies and its elements
abbrev pub replied : State → Command → Copies → Elements → State
replied s c x e = with_elements (with_copies (replied_of (awaits s c)) x) e

pub lent_same : (w : World) → w.notes.unaltered ≡ true → (w.notes.unaltered && agree w.window w.window) ≡ true
lent_same w e = both e (agree_same w.window)

pub noted_lending : {xs : List Element} (w : World) (reported : Bool) → Noted xs w.notes → Noted xs (lending w reported)
noted_lending w reported k = record { accepted = k.accepted; unaltered = lent_same w k.unaltered; ungiven = k.ungiven }

module _ {stage : Stage} {setup : Setup} {closed : Bool} {xs : List Element} where
  pub calm_after : (w : World) (c : Command) (x : Copies) (e : Elements) (d : Drive) → Calm stage setup closed xs w → Calm stage setup closed xs (exchanged w (replied w.session c x e) d)
  calm_after w c x e d k = record {
    stage_is = k.stage_is;
    setup_is = k.setup_is;
    closed_is = k.closed_is;
    wide = k.wide;
    between = record { going = k.between.going; free = refl; told = refl };
    noted = noted_lending w w.notes.reported k.noted;
  }

  -- in another stage, with other copies
  pub calm_in : {s : State} {window : List ℕ} {notes : Notes} (next k : Stage) (x : Copies) → next ≡ k → CalmIn stage setup closed xs s window notes
      → CalmIn k setup closed xs (with_stage (with_copies s x) next) window notes
  calm_in next k x e c = record { stage_is = e; setup_is = c.setup_is; closed_is = c.closed_is; wide = c.wide; between = c.between; noted = c.noted }
