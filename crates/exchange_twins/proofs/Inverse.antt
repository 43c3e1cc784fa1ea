-- An exchange as numbers and back. Assumes nothing.
use Prim.Native.Nat.{ℕ}
use mathlib.Core.Path.{◌≡◌, refl}
use mathlib.Core.Bool.{true}
use Rattle.std.proofs.Common.{rules}
use Rattle.geometry.proofs.TestLaws.{and_true}
use Rattle.drive.specs.Command.{command_by}
use Rattle.drive.proofs.CaseLaws.{command_by_lem}
use Rattle.drive.specs.declared.command.Command.{Command}
use Rattle.drive.specs.declared.command.Command.TheVariants.{Read, Write, Locate, ReadPosition}
use Rattle.drive.specs.declared.exchange.Exchange.{Exchange}
use Rattle.exchange_twins.specs.declared.numbers.AdrExchange.{AdrExchange}
use Rattle.exchange_twins.specs.Numbers.{is_flag, is_command, command_twin, is_exchange, exchange_of, exchange_twin}
use Rattle.exchange_twins.proofs.FlagLaws.{flag_back, flag_known, flag_number_lem}

command_known : (c : Command) → is_command (command_twin c) ≡ true
command_known (Read a) = refl
command_known (Write a) = refl
command_known (Locate a) = refl
command_known ReadPosition = refl

command_number : (k a : ℕ) → is_command (record { code = k; address = a }) ≡ true → command_twin (command_by k a) ≡ record { code = k; address = a }
command_number k a h = search rules

pub exchange_back : (x : Exchange) → exchange_of (exchange_twin x) ≡ x
exchange_back x = rw (command_by_lem x.command, flag_back x.awaiting, flag_back x.again)

pub exchange_known : (x : Exchange) → is_exchange (exchange_twin x) ≡ true
exchange_known x = rw (command_known x.command, flag_known x.awaiting, flag_known x.again)

pub exchange_number : (x : AdrExchange) → is_exchange x ≡ true → exchange_twin (exchange_of x) ≡ x
exchange_number x h =
    let h2 = and_true _ (is_flag x.again) h in
    let h1 = and_true (is_command x.command) (is_flag x.awaiting) h2.0 in
    rw (command_number x.command.code x.command.address h1.0, flag_number_lem x.awaiting h1.1, flag_number_lem x.again h2.1)
