-- 01, "A recording session": accepting blocks and filemarks, and close.
use Rattle.std.specs.Prelude.{ℕ, ◌%◌, Bool, true, false, ◌&&◌, ◌||◌, List, eqb, ltb, length, Result}
use Rattle.geometry.specs.Pick.{pick}
use Rattle.frame.specs.Lengths.{data_length}
use Rattle.elements.specs.Elements as elements
use Rattle.elements.specs.Queue as queue
use Rattle.recording_state.specs.declared.state.State.{State}
use Rattle.geometry.specs.declared.refusal.Refusal.{Refusal}
use Rattle.recording_state.specs.State.{blocks_of, window_length, OutcomeSaid, outcome_said, accepting, refusing}
use Rattle.recording_state.specs.State.{with_elements, closed_of, given_up_of, settled_of}
use Rattle.recording_state.specs.Window.{put_block}

-- refusal 7: the session has ended, or close was called
abbrev pub accepts_none : State → Bool
accepts_none s = s.ended || s.closed

-- refusal 6: as many elements are not known to be on tape as the window has blocks
abbrev pub is_full : State → Bool
is_full s = ltb s.setup.highest s.elements.queue.pending

-- one element more, a filemark or not
abbrev pub with_element : State → Bool → State
with_element s mark = with_elements s (elements.accepted_of s.elements mark)

-- accepting a filemark: the window is not lent, and stays
unfoldable pub filemark_of : State → OutcomeSaid
filemark_of s =
    pick (accepts_none s) (refusing s 7)
    (pick (is_full s) (refusing s 6)
    (accepting (with_element s true)))

-- the window block of the next element to be accepted: its number mod W
abbrev pub place_of : State → ℕ
place_of s = (queue.number_of s.elements.queue s.elements.queue.pending).0 % blocks_of s

-- a call's result, and the window that it leaves
pub record StoredSaid : Type 0 where
  pub result : OutcomeSaid
  pub window : List ℕ

-- what the code returns and leaves, in these terms
abbrev pub stored_said : State × Result Unit Refusal → List ℕ → StoredSaid
stored_said r window = record { result = outcome_said r; window = window }

-- accepting a block: 7, 1 and 6 in this order; else it is stored at its place
unfoldable pub block_of : State → List ℕ → List ℕ → StoredSaid
block_of s block window =
    pick (accepts_none s) (record { result = refusing s 7; window = window })
    (pick (eqb (length block) data_length && eqb (length window) (window_length s))
    (pick (is_full s) (record { result = refusing s 6; window = window })
    (record { result = accepting (with_element s false); window = put_block window (place_of s) block }))
    (record { result = refusing s 1; window = window }))

-- close of a session that is not spent
abbrev pub unspent_close : State → OutcomeSaid
unspent_close s = pick (accepts_none s) (refusing s 7) (accepting (settled_of (closed_of s)))

-- 02, Card 6: the session has ended, and close may still be called, whether it was called before or not
abbrev pub is_spent : State → Bool
is_spent s = s.ended && s.spent

-- close: a spent session gives up what is not on tape
unfoldable pub close_of : State → OutcomeSaid
close_of s = pick (is_spent s) (accepting (given_up_of s)) (unspent_close s)
