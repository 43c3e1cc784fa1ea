-- `geometry::cartridge::copy_at`: what is left to find is found among the copies that are left.
use Rattle.std.proofs.Common.{◌-◌, ◌≡◌}
use Rattle.geometry.specs.Cartridge.{group_copies, copy_from, copy_at}
use Rattle.geometry.proofs.cartridge.copy_at.Given as goal

abbrev pub invariant-loop-copy : goal.invariant-loop-copy
invariant-loop-copy l = copy_from (group_copies - l.copy) l.group l.copy l.a.0 ≡ copy_at l.group l.a.0
