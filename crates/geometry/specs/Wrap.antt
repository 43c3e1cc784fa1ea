-- Counters wrap: behind the highest number of so many bits the next is 0. No session that calls returned comes to that.
use Rattle.std.specs.Prelude.{ℕ, ◌%◌, ◌^◌}

abbrev pub wrap8 : ℕ → ℕ
wrap8 n = n % 2 ^ 8

abbrev pub wrap16 : ℕ → ℕ
wrap16 n = n % 2 ^ 16

abbrev pub wrap32 : ℕ → ℕ
wrap32 n = n % 2 ^ 32
