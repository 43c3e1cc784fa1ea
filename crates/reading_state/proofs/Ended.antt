-- An ended reading is refused with 7 by every call and stays as it is; the end is said again at each fetch. Assumes nothing.
use Rattle.std.proofs.Common.{◌≡◌, ℕ, true, false, List}
use Rattle.drive.specs.declared.reply.Reply.{Reply}
use Rattle.reading_state.specs.declared.state.State.{State}
use Rattle.reading_state.specs.Fetch as fetch
use Rattle.reading_state.specs.Reply as reply

module _ (s : State) where
  pub ended_fetch : s.ended ≡ true → fetch.fetch_of s ≡ record { session = s; said = fetch.refused 7 }
  unfolding fetch.fetch_of
  ended_fetch ended = rw ended

  pub ended_reply : s.ended ≡ true → (r : Reply) (frame : List ℕ) → reply.reply_of s r frame ≡ record { session = s; said = reply.refused 7 }
  unfolding reply.reply_of
  ended_reply ended r frame = rw ended

  pub end_again : s.ended ≡ false → s.exchange.awaiting ≡ false → s.exchange.again ≡ false → s.finished ≡ true → fetch.fetch_of s ≡ record { session = s; said = fetch.end }
  unfolding fetch.fetch_of
  end_again running answered once finished = rw (running, answered, once, finished)
