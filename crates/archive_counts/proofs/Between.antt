-- A session between two exchanges. Assumes nothing.
use mathlib.Core.Path.{◌≡◌}
use mathlib.Core.Bool.{Bool, false}
use Rattle.drive.specs.declared.exchange.Exchange.{Exchange}

-- it goes on, and no command is in flight or to be given again
pub record Between (ended : Bool) (x : Exchange) : Type 0 where
  pub going : ended ≡ false
  pub free : x.awaiting ≡ false
  pub told : x.again ≡ false
