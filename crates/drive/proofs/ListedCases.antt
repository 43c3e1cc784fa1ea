-- A case whose number is a listed one has a listed meaning. Assumes nothing.
use Prim.Native.Nat.{ℕ, ◌+◌, ◌*◌, ◌<◌}
use mathlib.Core.Path.{◌≡◌, refl, sym, subst}
use Rattle.geometry.specs.declared.address.Address.{Address}
use Rattle.drive.specs.Command.{read_code, write_code, locate_code, read_position_code, command_code}
use Rattle.drive.specs.Listed.{Listed}
use Rattle.drive.specs.Senses.{meaning_of}
use Rattle.drive.specs.declared.command.Command.{Command}
use Rattle.drive.specs.declared.command.Command.TheVariants.{Read, Write, Locate, ReadPosition}
use Rattle.drive.specs.declared.reply.Reply.{Reply}
use Rattle.drive.proofs.CaseLaws.{case_parts, by_read, by_write, by_locate, by_position}

module _ (c : Command) (r : Reply) (m : ℕ) (low : m < 256) where
  abbrev Here : Type 0
  Here = Listed c (meaning_of r.key r.asc r.ascq)

  abbrev IsCase : ℕ → Type 0
  IsCase code = command_code c * 256 + meaning_of r.key r.asc r.ascq ≡ code * 256 + m

  -- the meaning is m, and so it is enough that m is listed
  meant : (code : ℕ) → IsCase code → (command_code c ≡ code → Listed c m) → Here
  meant code e h = let p = case_parts c r code m low e in subst (Listed c) (sym p.1) (h p.0)

  pub at_read : ((a : Address) → Listed (Read a) m) → IsCase read_code → Here
  at_read h e = meant read_code e (λ code. by_read (λ (k : Command). Listed k m) c code h)

  pub at_locate : ((a : Address) → Listed (Locate a) m) → IsCase locate_code → Here
  at_locate h e = meant locate_code e (λ code. by_locate (λ (k : Command). Listed k m) c code h)

  pub at_position : Listed ReadPosition m → IsCase read_position_code → Here
  at_position h e = meant read_position_code e (λ code. by_position (λ (k : Command). Listed k m) c code h)

  pub at_write : ((a : Address) → c ≡ Write a → Listed (Write a) m) → IsCase write_code → Here
  at_write h e = meant write_code e (λ code. by_write (λ (k : Command). ((a : Address) → k ≡ Write a → Listed (Write a) m) → Listed k m) c code (λ a x. x a refl) h)
