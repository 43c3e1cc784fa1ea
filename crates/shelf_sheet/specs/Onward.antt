-- Why the program comes to its end: each field ends the sheet or takes the next number, and there are 2³² numbers.
use Rattle.std.specs.Prelude.{◌+◌, ◌≤◌, ◌≡◌, true, ◌⊎◌}
use Rattle.sheet.specs.declared.sheet.Sheet.{Sheet}
use Rattle.sheet.specs.Step.{highest_number}

-- the sheet has ended, or one number is gone
abbrev pub Onward : Sheet → Sheet → Type 0
Onward s r = (r.ended ≡ true) ⊎ ((r.next ≡ s.next + 1) × (r.next ≤ highest_number + 1))
