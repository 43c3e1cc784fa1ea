-- A list of calls goes on alike whatever is noted: so what is shown of lists that start behind elements accepted earlier, or of which it is not
-- noted that the window was unaltered, holds of those that start with none. Assumes nothing.
use Prim.Native.Nat.{ℕ}
use mathlib.Core.Path.{◌≡◌, refl, subst}
use mathlib.Core.Bool.{Bool, true, false, ◌&&◌}
use mathlib.Core.List.{List, [], ◌∷◌, ◌++◌, append_assoc}
use lib.Dec.{eqb}
use Prim.Native.Nat.{◌≤◌}
use Rattle.geometry.specs.Pick.{pick}
use Rattle.buffer.specs.Bytes.{agree}
use Rattle.recording_state.specs.Accept.{filemark_of, block_of}
use Rattle.archive_lists.specs.Recordings.{Element, block, filemark, World, Call, accept_block, accept_filemark, close, fetch, reply, refusal, accepted_after, after_refusal, after_block, after_filemark, after_fetch, Calls, refuses, accepts_block, accepts_filemark, closes, fetches, replies, Moves, acts, answers, Runs, stop, call, drive}

-- the world with more accepted before, and with its window noted as unaltered or not
abbrev pub noted : List Element → Bool → World → World
noted earlier kept w = record {
  session = w.session;
  window = w.window;
  drive = w.drive;
  flight = w.flight;
  notes = record { accepted = earlier ++ w.notes.accepted; unaltered = kept && w.notes.unaltered; reported = w.notes.reported; given_up = w.notes.given_up };
}

accepted_with : (earlier xs : List Element) (x : Element) (n : ℕ) → accepted_after n (earlier ++ xs) x ≡ earlier ++ accepted_after n xs x
accepted_with earlier xs x n = go (eqb n 0)
  where
    go : (b : Bool) → pick b ((earlier ++ xs) ++ x ∷ []) (earlier ++ xs) ≡ earlier ++ pick b (xs ++ x ∷ []) xs
    go true = append_assoc earlier xs (x ∷ [])
    go false = refl

kept_with : (kept b c : Bool) → (kept && b) && c ≡ kept && (b && c)
kept_with true b c = refl
kept_with false b c = refl

module _ (earlier : List Element) (kept : Bool) where
  abbrev as_noted : World → List Element → Bool → World
  as_noted w xs u = record { session = w.session; window = w.window; drive = w.drive; flight = w.flight; notes = record { accepted = xs; unaltered = u; reported = w.notes.reported; given_up = w.notes.given_up } }

  refuses_with : (w : World) (c : Call) → 1 ≤ refusal w.session c → refusal w.session c ≤ 7 → Calls (noted earlier kept w) c (noted earlier kept (after_refusal w c))
  refuses_with w (accept_block b lent) l h = refuses (accept_block b lent) l h
  refuses_with w accept_filemark l h = refuses accept_filemark l h
  refuses_with w close l h = refuses close l h
  refuses_with w (fetch lent frame) l h = refuses (fetch lent frame) l h
  refuses_with w (reply r) l h = refuses (reply r) l h

  pub calls_with : {w v : World} {c : Call} → Calls w c v → Calls (noted earlier kept w) c (noted earlier kept v)
  calls_with {w} (refuses c l h) = refuses_with w c l h
  calls_with {w} (accepts_block b lent te) =
      subst (λ (u : Bool). Calls (noted earlier kept w) (accept_block b lent) (as_noted (after_block w b lent) (earlier ++ (after_block w b lent).notes.accepted) u)) (kept_with kept w.notes.unaltered (agree lent w.window))
      (subst (λ (xs : List Element). Calls (noted earlier kept w) (accept_block b lent) (as_noted (after_block w b lent) xs ((kept && w.notes.unaltered) && agree lent w.window)))
      (accepted_with earlier w.notes.accepted (block b) (block_of w.session b lent).result.number) (accepts_block b lent te))
  calls_with {w} (accepts_filemark te) =
      subst (λ (xs : List Element). Calls (noted earlier kept w) accept_filemark (as_noted (after_filemark w) xs (kept && w.notes.unaltered)))
      (accepted_with earlier w.notes.accepted filemark (filemark_of w.session).number) (accepts_filemark te)
  calls_with (closes te) = closes te
  calls_with {w} (fetches lent frame te) =
      subst (λ (u : Bool). Calls (noted earlier kept w) (fetch lent frame) (as_noted (after_fetch w lent frame) (earlier ++ w.notes.accepted) u)) (kept_with kept w.notes.unaltered (agree lent w.window))
      (fetches lent frame te)
  calls_with (replies r q te) = replies r q te

  pub moves_with : {w v : World} → Moves w v → Moves (noted earlier kept w) (noted earlier kept v)
  moves_with (acts d a) = acts d a
  moves_with (answers c frame r d q a) = answers c frame r d q a

  pub runs_with : {w v : World} {cs : List Call} → Runs w cs v → Runs (noted earlier kept w) cs (noted earlier kept v)
  runs_with stop = stop
  runs_with (call c rest) = call (calls_with c) (runs_with rest)
  runs_with (drive m rest) = drive (moves_with m) (runs_with rest)
