-- 02, Card 6: with T = 0 nothing changes. Rules 1, 3 and 4 and a write error's target as they were before there was a tail, and that with
-- T = 0 they are so still.
use Rattle.std.specs.Prelude.{◌≡◌, ℕ, ◌^◌, ◌<◌, Bool, true, ◌&&◌, ◌||◌, ◌==◌, nat_le, nat_lt}
use Rattle.geometry.specs.Pick.{pick}
use Rattle.geometry.specs.Wrap.{wrap32}
use Rattle.geometry.specs.Cartridge.{second_group, second_user}
use Rattle.geometry.specs.declared.address.Address.{Address}
use Rattle.drive.specs.Command.{write, locate, read_position}
use Rattle.geometry.specs.Place as place
use Rattle.geometry.specs.Place.{as_address}
use Rattle.write_error.specs.WriteError.{target_address, target_of}
use Rattle.elements.specs.declared.elements.Elements.{Elements}
use Rattle.elements.specs.Elements.{base_of}
use Rattle.elements.specs.Due.{DueSaid, send, idle, refused, due_of}
use Rattle.elements.specs.Reply.{SteppedSaid, kept, ending, noted_of, failed_of}

-- one limit for elements and EOD, END + 1
abbrev pub former_above : Elements → Bool
former_above e = nat_le e.course.limit.0 e.course.next.0

-- rule 3
abbrev pub former_confirm : ℕ → Elements → Bool
former_confirm depth e = nat_le depth e.queue.outstanding || (nat_lt 0 e.queue.outstanding && (e.course.next.0 == second_group || former_above e))

-- the rules
abbrev pub former_due : ℕ → Elements → DueSaid
former_due depth e =
    pick e.course.locate (send (locate e.course.target.0))
    (pick (nat_le e.queue.pending e.queue.outstanding) (pick (e.queue.outstanding == 0) idle (send read_position))
    (pick (former_confirm depth e) (send read_position)
    (pick (former_above e) (refused 9)
    (pick (e.course.next.0 == second_group) (send (locate second_user))
    (send (write e.course.next.0))))))

-- the target that a 9 notes: its last 32 bits
abbrev pub former_failed_to : Elements → Address → ℕ → place.PlaceSaid → SteppedSaid
former_failed_to e p skip (place.address t) = kept (noted_of e p (as_address t))
former_failed_to e p skip (place.refused n) = ending (noted_of e p (as_address (wrap32 (target_address p skip)))) n

-- a write error
abbrev pub former_failed : Elements → Address → ℕ → SteppedSaid
former_failed e p skip =
    pick (nat_lt p.0 (base_of e).0) (ending e 8)
    (pick (nat_le e.course.next.0 p.0) (ending e 8)
    (former_failed_to e p skip (target_of p skip e.course.limit)))

-- they say what the present ones say with T = 0
pub record AsFormerly : Type 0 where
  -- where a noted target is not above END: Chain.Untailed says that it is so wherever a fetch asks
  pub due : (depth : ℕ) (e : Elements) → (e.course.locate ≡ true → e.course.target.0 < e.course.limit.0) → due_of depth 0 e ≡ former_due depth e
  -- where the target fits 32 bits, as it does on every cartridge with a skip of at most 255
  pub failed : (e : Elements) (p : Address) (skip : ℕ) → target_address p skip < 2 ^ 32 → failed_of 0 e p skip ≡ former_failed e p skip
