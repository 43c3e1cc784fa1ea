-- The number of a case, a command's code × 256 + the meaning of its reply, tells both. Assumes nothing.
use Prim.Native.Nat.{ℕ, ◌+◌, ◌*◌, ◌<◌}
use mathlib.Core.Path.{◌≡◌, refl}
use native.Mathlib.Omega.{arith}
use Rattle.geometry.specs.declared.address.Address.{Address}
use Rattle.drive.specs.Command.{read_code, write_code, locate_code, read_position_code, command_code, command_address, command_by}
use Rattle.drive.specs.Senses.{meaning_of}
use Rattle.drive.specs.declared.command.Command.{Command}
use Rattle.drive.specs.declared.command.Command.TheVariants.{Read, Write, Locate, ReadPosition}
use Rattle.drive.specs.declared.reply.Reply.{Reply}
use Rattle.drive.proofs.SenseLaws.{meaning_bound}

pub case_parts : (c : Command) (r : Reply) (code meaning : ℕ) → meaning < 256 → command_code c * 256 + meaning_of r.key r.asc r.ascq ≡ code * 256 + meaning → (command_code c ≡ code) × (meaning_of r.key r.asc r.ascq ≡ meaning)
case_parts c r code meaning h e =
    let bound = meaning_bound r.key r.asc r.ascq in
    (omega arith, omega arith)

-- ---- a code names its command

pub command_by_lem : (c : Command) → command_by (command_code c) (command_address c).0 ≡ c
command_by_lem (Read a) = refl
command_by_lem (Write a) = refl
command_by_lem (Locate a) = refl
command_by_lem ReadPosition = refl

module _ (P : Command → Type 0) where
  pub by_read : (c : Command) → command_code c ≡ read_code → ((a : Address) → P (Read a)) → P c
  by_read (Read a) e h = h a
  by_read (Write a) e h = absurd (omega arith)
  by_read (Locate a) e h = absurd (omega arith)
  by_read ReadPosition e h = absurd (omega arith)

  pub by_write : (c : Command) → command_code c ≡ write_code → ((a : Address) → P (Write a)) → P c
  by_write (Read a) e h = absurd (omega arith)
  by_write (Write a) e h = h a
  by_write (Locate a) e h = absurd (omega arith)
  by_write ReadPosition e h = absurd (omega arith)

  pub by_locate : (c : Command) → command_code c ≡ locate_code → ((a : Address) → P (Locate a)) → P c
  by_locate (Read a) e h = absurd (omega arith)
  by_locate (Write a) e h = absurd (omega arith)
  by_locate (Locate a) e h = h a
  by_locate ReadPosition e h = absurd (omega arith)

  pub by_position : (c : Command) → command_code c ≡ read_position_code → P ReadPosition → P c
  by_position (Read a) e h = absurd (omega arith)
  by_position (Write a) e h = absurd (omega arith)
  by_position (Locate a) e h = absurd (omega arith)
  by_position ReadPosition e h = h
