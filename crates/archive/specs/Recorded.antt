-- 01, "The lists of demand 3": where a list of a recording's calls starts, for every claim over such lists.
use Rattle.std.specs.Prelude.{ℕ, ◌≡◌, List, []}
use Rattle.geometry.specs.declared.cartridge.Geometry.{Geometry}
use Rattle.recording_state.specs.declared.state.State.{State}
use Rattle.archive_lists.specs.Tape.{HasLast, Cartridge}
use Rattle.archive_lists.specs.Conduct.{Drive, AtRest}
use Rattle.archive_lists.specs.Recordings as recordings

-- from a session just opened, with a drive, the calls have come to w. How the session was opened is said beside this
pub record HasRecorded (g : Geometry) (last : ℕ) (d : Drive) (s : State) (w : recordings.World) : Type 0 where
  -- LAST is that of the geometry
  pub sized : HasLast g last
  -- the drive has such a cartridge, whoever wrote it
  pub cartridge : Cartridge last d.tape
  -- it has written nothing for this session yet
  pub unwritten : d.written ≡ []
  -- and writes nothing for an earlier one
  pub rests : AtRest d
  -- the window holds anything
  pub window : List ℕ
  -- any calls, with whatever they bring, and the drive acting between them as the conduct has it
  pub calls : List recordings.Call
  pub runs : recordings.Runs (recordings.started s window d) calls w
