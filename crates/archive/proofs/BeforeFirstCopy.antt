-- Until a new header copy is on tape nothing of the old cartridge is lost. Assumes nothing.
use Prim.Native.Nat.{ℕ, ◌+◌, ◌^◌, ◌≤◌, ◌<◌}
use mathlib.Core.Path.{◌≡◌, refl, sym, subst, ◌∙◌}
use mathlib.Core.Bool.{false}
use mathlib.Core.List.{List}
use mathlib.Core.Logic.{inl}
use native.Mathlib.Decide.{dec_le}
use native.Mathlib.Omega.{arith}
use Rattle.geometry.specs.Place.{address}
use Rattle.geometry.specs.Cartridge.{last_of}
use Rattle.geometry.specs.declared.cartridge.Geometry.{Geometry}
use Rattle.header.specs.Valid.{header_of, update_of}
use Rattle.header.proofs.Facts.{valid_last}
use Rattle.frame.specs.declared.header.Header.{Header}
use Rattle.recording_state.specs.declared.state.State.{State}
use Rattle.reading_state.specs.Open as reading
use Rattle.archive_lists.specs.Tape.{Tape, SameFrames}
use Rattle.archive_lists.specs.Headers.{HeaderAt}
use Rattle.archive_lists.specs.Readings as readings
use Rattle.archive_lists.specs.Openings.{on_header, on_none}
use Rattle.archive_lists.specs.Fold.{fold_of, Standing, goes_on, at_end, stops, finds_no_end, IsFold, ReadingIsFold}
use Rattle.archive_lists.proofs.tape.FoldLaws.{fold_users}
use Rattle.archive_lists.proofs.recording.Trailing.{Prior, prior_of}
use Rattle.archive_lists.proofs.recording.Start.{renewed_count}
use Rattle.archive_lists.proofs.recording.Completion.{opens_at}
use Rattle.archive_lists.proofs.Fold.{reading_is_fold}
use Rattle.archive_cuts.proofs.Throughout.{throughout_as}
use Rattle.archive_cuts.proofs.HeldCopies.{at_rest}
use Rattle.archive_cuts.proofs.Untouched.{NoneOwn, Unchanged, unchanged}
use Rattle.archive.specs.Chain.{Start, fresh, added, earlier_of, OnItsNewest, AsItStands, NoneInTheWay}
use Rattle.archive.specs.WorstCase.{start_of}
use Rattle.archive.specs.PowerCut.{NoneNewer, BeforeFirstCopy}
use Rattle.archive.proofs.Continued.{added_counts, start_begins}

-- ---- what reads alike

module _ (told : Header) (t u : Tape) (alike : (a : ℕ) → fold_of told t a ≡ fold_of told u a) where
  standing_alike : {w : readings.World} → Standing told t w → Standing told u w
  standing_alike {w} (goes_on n m d) = goes_on n m (sym (alike w.session.position.next.0) ∙ d)
  standing_alike (at_end n m d all) = at_end n m (sym (alike _) ∙ d) (sym (alike (told.last.0 + 1)) ∙ all)
  standing_alike (stops n m d) = stops n m (sym (alike (told.last.0 + 1)) ∙ d)
  standing_alike (finds_no_end n m d) = finds_no_end n m (sym (alike (told.last.0 + 1)) ∙ d)

  is_fold_alike : {w : readings.World} → IsFold told t w → IsFold told u w
  is_fold_alike x = record { standing = standing_alike x.standing; faithful = λ xs e all. x.faithful xs e (alike (told.last.0 + 1) ∙ all) }

-- ---- a header that is not newer counts less than the session's own

counts_less : (last : ℕ) (h0 : List ℕ) (least : ℕ) (t : Tape) → update_of h0 < least → ((a : ℕ) (h : List ℕ) → HeaderAt last t a h → update_of h0 < update_of h → ⊥) → NoneOwn last least t
counts_less last h0 least t l none a h at = go (dec_le (update_of h) (update_of h0))
  where
    go : Dec (update_of h ≤ update_of h0) → update_of h < least
    go (yes low) = omega arith
    go (no high) = absurd (none a h at (omega arith))

none_own : (g : Geometry) (last : ℕ) → g.segtrk < 2 ^ 16 → g.trks < 2 ^ 16 → last_of g ≡ address last → (s : State) (b : Start g last s) (t : Tape) → NoneNewer b t → NoneOwn last s.copies.header.update t
none_own g last seg trk e s (fresh depth blocks tail (on_header h0) q) t none = counts_less last h0 s.copies.header.update t (renewed_count g last depth blocks tail s e h0 q) (λ a h at newer. none a h at (omega arith))
none_own g last seg trk e s (fresh depth blocks tail on_none q) t none = λ a h at. absurd (none a h at tt)
none_own g last seg trk e s (added depth blocks tail u h0 r read q) t none = counts_less last h0 s.copies.header.update t (added_counts g last seg trk e s depth blocks tail u h0 r read q) (λ a h at newer. none a h at (omega arith))

-- ---- the whole

pub before_first_copy : BeforeFirstCopy
unfolding BeforeFirstCopy ReadingIsFold
before_first_copy g last d s b w recorded none = record {
  cartridge = y.cartridge;
  user_frames = y.users;
  headers = y.headers;
  newest = λ a h at n. record { address = a; here = at; highest = λ c other there. n.highest c other (y.headers c other there) };
  opens = opens;
  reads = λ a h at from read r runs2.
      let users = subst (λ (n : ℕ). SameFrames n d.tape w.drive.tape) (sym (valid_last last h at.valid)) y.users in
      is_fold_alike (header_of h) w.drive.tape d.tape (λ n. sym (fold_users (header_of h) d.tape w.drive.tape users n))
      (reading_is_fold g last w.drive.tape h from read r recorded.sized y.cartridge (opens a h at) runs2);
}
  where
    prior : Prior
    prior = prior_of last s.copies.header (earlier_of b) (start_of b) d.tape (AsItStands b d.tape)

    seg : g.segtrk < 2 ^ 16
    seg = recorded.sized.segtrk

    trk : g.trks < 2 ^ 16
    trk = recorded.sized.trks

    e : last_of g ≡ address last
    e = recorded.sized.is_last

    y : Unchanged last s.copies.header.pass (OnItsNewest b d.tape) (NoneInTheWay b d.tape) prior d.tape (start_begins g last seg trk e d recorded.window recorded.cartridge recorded.unwritten recorded.rests s b).set w.drive.tape
    y =
        let k = start_begins g last seg trk e d recorded.window recorded.cartridge recorded.unwritten recorded.rests s b in
        unchanged last s.copies.header.pass (OnItsNewest b d.tape) (NoneInTheWay b d.tape) prior d.tape k.set (earlier_of b) false k.frames
        (record { cartridge = recorded.cartridge; users = λ a u. refl; traced = λ a f at. inl at.reads; holds = at_rest recorded.rests }) recorded.runs
        (throughout_as (NoneNewer b) (NoneOwn last s.copies.header.update) (none_own g last seg trk e s b) recorded.runs none)

    opens : (a : ℕ) (h : List ℕ) → HeaderAt last w.drive.tape a h → (reading.open_of g h).number ≡ 0
    opens a h at = opens_at g last w.drive.tape a h e y.cartridge at
