-- What the invariant tells of a recording that has not reported done, and of one with a command in flight. Assumes nothing.
use Prim.Native.Nat.{ℕ}
use mathlib.Core.Path.{◌≡◌, refl, ap}
use mathlib.Core.Bool.{Bool, true, false}
use mathlib.Core.List.{List}
use Rattle.geometry.proofs.PickLaws.{pick_t}
use Rattle.geometry.proofs.TestLaws.{either_right}
use Rattle.recording_state.specs.Fetch.{FetchedSaid, fetch_of}
use Rattle.recording_state.specs.declared.state.State.{State}
use Rattle.recording_state.specs.declared.state.Stage.TheVariants as S
use Rattle.archive_lists.specs.Recordings as recordings
use Rattle.archive_lists.specs.Recordings.{World, Flight, fetch_number}
use Rattle.archive_lists.specs.Conduct.{Drive}
use Rattle.archive_lists.proofs.recording.Trailing.{Prior}
use Rattle.archive_lists.proofs.recording.CopiesLink as copies
use Rattle.archive_lists.proofs.recording.CopiesLink.{Copying}
use Rattle.archive_lists.proofs.recording.ElementsLink as elements
use Rattle.archive_lists.proofs.recording.ElementsLink.{Writing}
use Rattle.archive_lists.proofs.recording.Invariant as invariant
use Rattle.archive_lists.proofs.recording.Invariant.{Course, Live, Inv, live, rejecting, spent, over}

pub unreported : {last pass : ℕ} {on_newest none_bears : Type 0} {prior : Prior} {w : World} → Live last pass on_newest none_bears prior w → (w.session.stage ≡ S.Done → ⊥) → w.notes.reported ≡ false
unreported {w = w} l n = go w.notes.reported refl
  where
    go : (b : Bool) → w.notes.reported ≡ b → w.notes.reported ≡ false
    go true e = absurd (n (l.reported e))
    go false e = e

-- a command in flight is awaited

copying_awaits : {s : State} {d : Drive} {f : Flight} → Copying s d f → (f ≡ recordings.no_command → ⊥) → s.exchange.awaiting ≡ true
copying_awaits (copies.at_place _ _ _) h = absurd (h refl)
copying_awaits (copies.to_seek _ _ _) h = absurd (h refl)
copying_awaits (copies.again _ _ _) h = absurd (h refl)
copying_awaits (copies.under_way _ _ a _ _ _ _) h = a
copying_awaits (copies.replied _ a _ _) h = a

writing_awaits : {last : ℕ} {s : State} {d : Drive} {k edge : ℕ} {f : Flight} → Writing last s d k edge f → (f ≡ recordings.no_command → ⊥) → s.exchange.awaiting ≡ true
writing_awaits (elements.at_place _ _ _) h = absurd (h refl)
writing_awaits (elements.to_locate _ _ _ _) h = absurd (h refl)
writing_awaits (elements.again _ _ _) h = absurd (h refl)
writing_awaits (elements.under_way _ _ a _ _ _) h = a
writing_awaits (elements.replied _ a _ _) h = a

course_awaits : {last n : ℕ} {w : World} {k edge : ℕ} → Course last n w k edge → (w.flight ≡ recordings.no_command → ⊥) → w.session.exchange.awaiting ≡ true
course_awaits (invariant.opening _ _ _ a) h = copying_awaits a.copying h
course_awaits (invariant.writing _ _ a) h = writing_awaits a h
course_awaits (invariant.closing _ _ _ _ _ a) h = copying_awaits a.copying h
course_awaits (invariant.finished _ _ _ _ _ none _ _ _ _) h = absurd (h none)

pub flight_awaits : {last pass : ℕ} {on_newest none_bears : Type 0} {prior : Prior} {w : World} → Inv last pass on_newest none_bears prior w → (w.flight ≡ recordings.no_command → ⊥) → w.session.exchange.awaiting ≡ true
flight_awaits (live _ l) h = course_awaits l.course h
flight_awaits (rejecting _ d) h = d.awaits
flight_awaits (spent _ x) h = absurd (h x.none)
flight_awaits (over _ o) h = absurd (h o.none)

-- so another fetch is refused with 7
pub fetch_awaited : (s : State) (lent frame : List ℕ) → s.exchange.awaiting ≡ true → fetch_number (fetch_of s lent frame).said ≡ 7
unfolding fetch_of
fetch_awaited s lent frame a = ap (λ (x : FetchedSaid). fetch_number x.said) (pick_t _ (either_right s.ended s.exchange.awaiting a))
