-- Marks as flags.
use Rattle.std.specs.Prelude.{ℕ, Bool, List}
use Rattle.std.specs.List.{list_all}
use Rattle.exchange_twins.specs.Numbers.{is_flag}

-- whether each number is a flag
abbrev pub all_flags : List ℕ → Bool
all_flags = list_all is_flag
