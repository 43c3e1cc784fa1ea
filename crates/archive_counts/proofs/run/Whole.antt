-- The list that reaches the bounds of 02, Card 12, from a session just opened on: m elements are accepted and taken, and the oldest fails, e times; then
-- all goes well, the others one by one. Of h groups of headers the first copy fails. Assumes nothing.
use Prim.Native.Nat.{ℕ, ◌+◌, ◌*◌, ◌%◌, ◌^◌, ◌≤◌}
use mathlib.Core.Path.{◌≡◌, refl, sym, ap, subst, ◌∙◌}
use mathlib.Core.Bool.{false}
use mathlib.Core.List.{List, []}
use mathlib.Core.Logic.{inr}
use native.Mathlib.Omega.{arith}
use lib.ListN.{length, length-append}
use Rattle.geometry.specs.Place.{as_address}
use Rattle.geometry.specs.declared.address.Seq.{Seq}
use Rattle.frame.specs.declared.header.Header.{Header}
use Rattle.frame.specs.declared.trail.Trail.{Trail}
use Rattle.frame_bounds.specs.Bounds.{copies_again}
use Rattle.elements.specs.declared.elements.Elements.{Elements}
use Rattle.recording_state.specs.State.{window_length}
use Rattle.recording_state.specs.Open.{started_at}
use Rattle.recording_state.specs.declared.state.Setup.{Setup}
use Rattle.recording_state.specs.declared.state.State.{State}
use Rattle.recording_state.specs.declared.state.Stage.TheVariants as S
use Rattle.archive_lists.specs.Conduct.{Drive}
use Rattle.archive_lists.specs.Recordings.{Element, World, with_session, started}
use Rattle.archive_counts.specs.Acceptable.{Acceptable}
use Rattle.archive_counts.proofs.run.Parts.{Parts, parted}
use Rattle.archive_counts.proofs.run.Goes.{Account, counting, nothing, Goes, goes_twice}
use Rattle.archive_counts.proofs.run.HeaderExchanges.{at_opening}
use Rattle.archive_counts.proofs.run.HeaderStages.{headers_through}
use Rattle.archive_counts.proofs.run.Standing.{Sizes, Batch, Stand, Seek, settled_open}
use Rattle.archive_counts.proofs.run.ElementExchanges.{locate_one, confirm_all}
use Rattle.archive_counts.proofs.run.Places.{Clear, Room, room_for, room_as, room_behind}
use Rattle.archive_counts.proofs.run.Rounds.{stand_as, accept_many, take_many, rounds, still_open, one_by_one}
use Rattle.archive_counts.proofs.run.Closing.{Ends, finish}

-- what is counted over it: n elements and EOD with e write errors, and headers with h at the opening and k at the close
abbrev pub account_of : ℕ → ℕ → ℕ → ℕ → ℕ → ℕ → Account
account_of n e m depth h k =
    counting S.OpeningHeaders (10 + h * copies_again depth) h (counting S.Elements (n + 1 + e * m) e (counting S.ClosingHeaders (10 + k * copies_again depth) k nothing))

module _ {setup : Setup} {limit : ℕ} (sizes : Sizes setup limit) where
  -- from the LOCATE of the first address to the last element on tape
  pub elements_go : {P : World → Type 0} {t : Account} (m e i : ℕ) (xs : List Element) {a : ℕ} (w : World) → Acceptable xs → Batch setup m → m ≤ length xs
      → Room m setup.tail limit a (e + (length xs + i)) → Clear a m
      → Seek setup limit false false [] 0 a w → ((b : ℕ) (v : World) → Stand setup limit false false xs 0 0 b v → Room m setup.tail limit b i → Goes v t P)
      → Goes w (counting S.Elements (length xs + e * m) e t) P
  elements_go m e i xs w able batch enough room clear s g =
      let p : Parts m xs = parted m xs enough able in
      let all : m + length p.back ≡ length xs = let q = p.long in omega (arith, length-append p.front p.back, ap length p.is) in
      let far = room_for room in
      let narrow = sizes.narrow in
      let deep = batch.deep in
      let wide = batch.wide in
      locate_one w s (inr (refl, refl)) (omega arith)
      (λ v y. accept_many sizes p.front p.front_acceptable v y (let q = p.long in omega arith)
      (λ v y. goes_twice (omega arith) (omega arith)
      (rounds sizes m e (length xs + i) v batch (omega arith) (stand_as refl (let q = p.long in omega arith) refl refl y) room clear
      (λ b v y r c. let near = room_for r in
      goes_twice all refl
      (take_many sizes m v y (omega arith) (omega arith) (omega arith) (omega arith) c
      (λ v y. confirm_all {a = b + m} v (stand_as refl refl (omega arith) refl y) batch.least
      (λ x v q y. one_by_one sizes m i p.back p.back_acceptable v (still_open sizes x v q y)
      (room_behind (length p.back + i) (room_as (omega (arith, all)) r) c)
      (λ d v y l. g d v (stand_as p.is refl refl refl y) l))))))))

  -- the whole list
  pub all_goes : (m e h k : ℕ) (header : Header) (number : Seq) (trail : Trail) (at : ℕ) (xs : List Element) (window : List ℕ) (d : Drive)
      → (header.last.0 + 1) % 2 ^ 32 ≡ limit → length window ≡ window_length (started_at setup header (as_address at) number trail)
      → Acceptable xs → h ≤ 2 → k ≤ 2 → Batch setup m → m ≤ length xs → Room m setup.tail limit at (e + (length xs + 1)) → Clear at m
      → Goes (started (started_at setup header (as_address at) number trail) window d) (account_of (length xs) e m setup.depth h k) (Ends xs)
  all_goes m e h k header number trail at xs window d limit_is wide able opening closing batch enough room clear =
      let s = started_at setup header (as_address at) number trail in
      headers_through {still = at_opening setup s.elements} h (started s window d) opening sizes.deep
      (record {
        calm = record { stage_is = refl; setup_is = refl; closed_is = refl; wide = wide; between = record { going = refl; free = refl; told = refl }; noted = record { accepted = refl; unaltered = refl; ungiven = refl } };
        elements_is = refl;
        copies_are = record { group_is = refl; copy_is = refl; out_is = refl; locate_is = refl; least = omega arith; most = omega arith };
      })
      (λ x v c.
      let same = c.elements_is in
      let eod_is : x.elements.eod ≡ false = ap (λ (y : Elements). y.eod) same in
      let seeks : Seek setup limit false false [] 0 at (with_session v x) =
      record {
        calm = c.calm;
        pending_are = record { eod_is = eod_is; pending_is = ap (λ (y : Elements). y.queue.pending) same; limit_is = ap (λ (y : Elements). y.course.limit.0) same ∙ limit_is };
        out_is = ap (λ (y : Elements). y.queue.outstanding) same;
        target_is = ap (λ (y : Elements). y.course.target.0) same;
        unplaced = ap (λ (y : Elements). y.course.locate) same;
      } in
      goes_twice (omega arith) (omega arith)
      (elements_go m e 1 xs v able batch enough room clear
      (subst (λ (y : State). Seek setup limit false false [] 0 at (with_session v y)) (sym (c.settled ∙ settled_open x c.calm.stage_is c.calm.closed_is eod_is)) seeks)
      (λ b v y l. finish sizes m k v closing y l)))
