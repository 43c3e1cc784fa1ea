-- 01, "A recording session", of sessions that are handed over whole: for C as numbers, from which each comes back.
use Rattle.std.specs.Prelude.{◌≡◌, Bool, true}

-- given whether numbers are a session's, the session that they stand for, and the numbers of a session
pub record ComesBack {Session Numbers : Type 0} (is_one : Numbers → Bool) (of : Numbers → Session) (twin : Session → Numbers) : Type 0 where
  -- every session comes back from its numbers
  pub back : (s : Session) → of (twin s) ≡ s
  -- and its numbers are a session's
  pub known : (s : Session) → is_one (twin s) ≡ true
  -- numbers that are a session's come back from it: no others stand for that session, and a call that leaves it leaves its numbers
  pub numbers : (n : Numbers) → is_one n ≡ true → twin (of n) ≡ n
