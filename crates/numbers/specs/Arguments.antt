-- What C gives as numbers: geometries, sizes and replies. One that does not fit counts as one that is refused, in its place in the order of 01.
use Rattle.std.specs.Prelude.{ℕ, Bool, ◌&&◌, eqb, leb}
use Rattle.geometry.specs.Pick.{pick}
use Rattle.geometry.specs.Place.{as_address}
use Rattle.geometry.specs.declared.cartridge.Geometry.{Geometry}
use Rattle.geometry.specs.declared.cartridge.LoadPoint.{LoadPoint}
use Rattle.geometry.specs.declared.cartridge.LoadPoint.TheVariants.{Beginning, Centre}
use Rattle.drive.specs.Senses.{meaning_of, write_error}
use Rattle.drive.specs.declared.reply.Reply.{Reply}
use Rattle.recording_state.specs.declared.state.Sizes.{Sizes}
use Rattle.numbers.specs.declared.arguments.AdrGeometry.{AdrGeometry}
use Rattle.numbers.specs.declared.arguments.AdrReply.{AdrReply}

-- SEGTRK and TRKS have 16 bits; the load point is 0, the beginning, or 1, the centre
abbrev pub is_geometry : AdrGeometry → Bool
is_geometry g = (leb g.segtrk 65535 && leb g.trks 65535) && leb g.load 1

-- the load point that a number is
abbrev pub load_of : ℕ → LoadPoint
load_of n = pick (eqb n 0) Beginning Centre

-- any other is a cartridge without frames: refusal 2
abbrev pub without_frames : Geometry
without_frames = record { segtrk = 0; trks = 0; load = Beginning }

-- the geometry that has these numbers
unfoldable pub geometry_of : AdrGeometry → Geometry
geometry_of g = pick (is_geometry g) (record { segtrk = g.segtrk; trks = g.trks; load = load_of g.load }) without_frames

-- D, W and T have 8 bits; any other D or W counts as 0: refusal 4
abbrev pub fitting_of : ℕ → ℕ
fitting_of n = pick (leb n 255) n 0

-- 02, Card 6: a T of 0 is lawful, so any other T is refused by its D, which counts as 0
abbrev pub fitting_depth : ℕ → ℕ → ℕ
fitting_depth depth tail = pick (leb tail 255) (fitting_of depth) 0

-- D, W and T, as an opening takes them
abbrev pub sizes_of : ℕ → ℕ → ℕ → Sizes
sizes_of depth blocks tail = record { depth = fitting_depth depth tail; blocks = fitting_of blocks; tail = fitting_of tail }

-- a triple that has no meaning: as a reply, refusal 8
abbrev pub meaningless : Reply
meaningless = record { key = 0xFF; asc = 0xFF; ascq = 0xFF; buffered = 0; position = as_address 0; skip = 0 }

-- whether a reply is the one that a skip comes with
abbrev pub is_write_error : AdrReply → Bool
is_write_error r = eqb (meaning_of r.key r.asc r.ascq) write_error

-- 01, "Replies": a skip comes with a write error, and with no other reply
abbrev pub skip_of : AdrReply → ℕ
skip_of r = pick (is_write_error r) r.skip 0

-- the reply that has these numbers, where its skip is 0 to 255
unfoldable pub as_reply : AdrReply → Reply
as_reply r =
    pick (leb (skip_of r) 255)
    (record { key = r.key; asc = r.asc; ascq = r.ascq; buffered = r.buffered; position = as_address r.position; skip = skip_of r })
    meaningless
