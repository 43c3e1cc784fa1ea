-- The drive's own moves and its answers keep what the elements know of it. Assumes nothing.
use Prim.Native.Nat.{ℕ, suc, ◌+◌, ◌≤◌}
use mathlib.Core.Path.{◌≡◌, refl, sym, ap, subst, ◌∙◌}
use mathlib.Core.Bool.{Bool, true, false}
use mathlib.Core.List.{List, [], ◌∷◌, ◌++◌}
use mathlib.Core.Logic.{inl, inr, ⊎_elim}
use mathlib.Core.Option.{Option}
use native.Mathlib.Omega.{arith}
use lib.ListN.{length, length-append}
use Rattle.geometry.specs.Cartridge.{is_header, is_user}
use Rattle.geometry.specs.declared.address.Address.{Address}
use Rattle.geometry.proofs.TestLaws.{either_right}
use Rattle.geometry.proofs.Impossible.{clash}
use Rattle.geometry.proofs.UserFrames.{user_not_header, ranges_user}
use Rattle.archive_lists.specs.Conduct as conduct
use Rattle.archive_lists.specs.Conduct.{Drive, wrote, failing, taking, moved, empty}
use Rattle.drive.specs.Senses.{meaning_of}
use Rattle.drive.specs.declared.command.Command.{Command}
use Rattle.drive.specs.declared.command.Command.TheVariants.{Write, Locate, ReadPosition}
use Rattle.drive.specs.declared.reply.Reply.{Reply}
use Rattle.drive.specs.Listed.{Listed}
use Rattle.recording_state.specs.declared.state.State.{State}
use Rattle.recording_state.proofs.Kept.{Held, held_of}
use Rattle.archive_lists.specs.Recordings.{Flight}
use Rattle.archive_lists.proofs.recording.CopiesMoves.{rests_still, rests_safe}
use Rattle.archive_lists.proofs.recording.ElementsLink.{edge_of, Linked, Moving, Asks, writes, asks, moves, Answered, taken, counted, failed_write, failed_position, filled, waits, Writing, at_place, to_locate, again, under_way, replied}
use Rattle.archive_lists.proofs.recording.ElementsLink as link
use Rattle.archive_lists.proofs.recording.Invariant.{Safe, allowed}

-- what a step of the drive's own leaves: so many on tape, and the address that it tried
pub record Goes (last : ℕ) (first pending : ℕ) (d : Drive) (rest : List (List ℕ)) (k edge : ℕ) (A : Drive → ℕ → ℕ → Type 0) : Type 0 where
  pub place : is_user last d.at ≡ true
  pub edge_here : edge ≡ d.at
  pub room : k + 1 ≤ first + pending
  pub written : (v : Option (List ℕ)) → A (wrote d rest v) (k + 1) (d.at + 1)
  pub broken : (v : Option (List ℕ)) → A (failing d v) k (d.at + 1)

map_goes : {last first pending : ℕ} {d : Drive} {rest : List (List ℕ)} {k edge : ℕ} {A B : Drive → ℕ → ℕ → Type 0} → ((e : Drive) (j x : ℕ) → A e j x → B e j x)
    → Goes last first pending d rest k edge A → Goes last first pending d rest k edge B
map_goes g m = record { place = m.place; edge_here = m.edge_here; room = m.room; written = λ v. g _ _ _ (m.written v); broken = λ v. g _ _ _ (m.broken v) }

module _ (last : ℕ) (h : Held) (d : Drive) (k edge : ℕ) (pending : ℕ) (held : h.outstanding ≤ pending) (f : List ℕ) (rest : List (List ℕ)) (b : d.buffer ≡ f ∷ rest) (free : d.failed ≡ false) where
  size : length d.buffer ≡ suc (length rest)
  size = ap length b

  link_user : {extra : ℕ} → Linked last h d k edge extra → is_user last d.at ≡ true
  link_user l =
      let next_is = l.next_is in
      let known = l.known in
      let roof = l.roof in
      let spread = l.spread in
      ranges_user last d.at (⊎_elim (λ z. inl (omega arith, omega (arith, size))) (λ z. inr (omega arith, omega (arith, size))) l.zone)

  link_goes : {extra : ℕ} → h.outstanding + extra ≤ pending → Linked last h d k edge extra → Goes last h.first.0 pending d rest k edge (λ e j x. Linked last h e j x extra)
  link_goes {extra} fits l =
      let taken_is = l.taken_is in
      let next_is = l.next_is in
      let known = l.known in
      let spread = l.spread in
      record {
        place = link_user l;
        edge_here = l.edge_is ∙ ap (λ (x : Bool). edge_of x d.at) free;
        room = omega (arith, size);
        written = λ v. record {
          placed = l.placed;
          taken_is = omega (arith, size);
          next_is = omega (arith, size);
          known = omega (arith, size);
          roof = l.roof;
          zone = l.zone;
          spread = omega arith;
          edge_is = refl;
        };
        broken = λ v. record {
          placed = l.placed;
          taken_is = l.taken_is;
          next_is = l.next_is;
          known = l.known;
          roof = l.roof;
          zone = l.zone;
          spread = l.spread;
          edge_is = refl;
        };
      }

  still : h.outstanding + 0 ≤ pending
  still = omega (arith, held)

  asks_goes : {c : Command} → Asks last h pending d k edge c → Goes last h.first.0 pending d rest k edge (λ e j x. Asks last h pending e j x c)
  asks_goes (writes a p due off low l) = map_goes (λ _ _ _ x. writes a p due off low x) (link_goes still l)
  asks_goes (asks l) = map_goes (λ _ _ _ x. asks x) (link_goes still l)
  asks_goes (moves a _ m) = rests_still b free m.rests

  answered_goes : {r : Reply} {c : Command} → Answered last h pending d k edge r c → Goes last h.first.0 pending d rest k edge (λ e j x. Answered last h pending e j x r c)
  answered_goes (taken a m due l) = map_goes (λ _ _ _ x. taken a m due x) (link_goes (omega arith) l)
  answered_goes (counted m bound l) =
      let g = link_goes still l in
      record {
        place = g.place;
        edge_here = g.edge_here;
        room = g.room;
        written = λ v. counted m (omega (arith, size, bound)) (g.written v);
        broken = λ v. counted m bound (g.broken v);
      }
  answered_goes (failed_write a m x p l) = clash x free
  answered_goes (failed_position m x p l) = clash x free
  answered_goes (filled a m low l) = map_goes (λ _ _ _ x. filled a m low x) (link_goes still l)
  answered_goes (link.moved a m none_left fresh at _ s) = rests_still b free s.rests
  answered_goes (waits c m a) = map_goes (λ _ _ _ x. waits c m x) (asks_goes a)

pub writing_goes : {last : ℕ} {s : State} {d : Drive} {k edge : ℕ} {g : Flight} (f : List ℕ) (rest : List (List ℕ)) → s.elements.queue.outstanding ≤ s.elements.queue.pending → d.buffer ≡ f ∷ rest → d.failed ≡ false
    → Writing last s d k edge g → Goes last s.elements.queue.first.0 s.elements.queue.pending d rest k edge (λ e j x. Writing last s e j x g)
writing_goes {last} {s} {d} {k} {edge} f rest held b free (at_place a g l) = map_goes (λ _ _ _ x. at_place a g x) (link_goes last (held_of s) d k edge s.elements.queue.pending held f rest b free (omega (arith, held)) l)
writing_goes f rest held b free (to_locate a g r l) = rests_still b free l.rests
writing_goes {last} {s} {d} {k} {edge} f rest held b free (again a g x) = map_goes (λ _ _ _ y. again a g y) (asks_goes last (held_of s) d k edge s.elements.queue.pending held f rest b free x)
writing_goes {last} {s} {d} {k} {edge} f rest held b free (under_way c fr a g e x) = map_goes (λ _ _ _ y. under_way c fr a g e y) (asks_goes last (held_of s) d k edge s.elements.queue.pending held f rest b free x)
writing_goes {last} {s} {d} {k} {edge} f rest held b free (replied r a g x) = map_goes (λ _ _ _ y. replied r a g y) (answered_goes last (held_of s) d k edge s.elements.queue.pending held f rest b free x)

-- ---- what it may still write

pub link_safe : {last : ℕ} {h : Held} {d : Drive} {k edge extra : ℕ} → Linked last h d k edge extra → Safe last d
link_safe {last} {h} {d} {k} {edge} {extra} l = allowed (λ i below.
    let next_is = l.next_is in
    let known = l.known in
    let roof = l.roof in
    let spread = l.spread in
    either_right (is_header (d.at + i)) (is_user last (d.at + i)) (ranges_user last (d.at + i) (⊎_elim (λ z. inl (omega arith, omega arith)) (λ z. inr (omega arith, omega arith)) l.zone)))

-- ---- it answers

link_takes : {last : ℕ} {h : Held} {d : Drive} {k edge : ℕ} (f : List ℕ) → (h.course.next.0 ≡ 2990 → ⊥) → h.course.next.0 ≤ last → Linked last h d k edge 0 → Linked last h (taking d f) k edge 1
link_takes {last} {h} {d} {k} f off low l =
    let more : length (d.buffer ++ f ∷ []) ≡ length d.buffer + 1 = length-append d.buffer (f ∷ []) in
    let taken_is = l.taken_is in
    let next_is = l.next_is in
    let known = l.known in
    record {
      placed = l.placed;
      taken_is = omega (arith, more);
      next_is = omega (arith, more);
      known = omega (arith, more);
      roof = omega arith;
      zone = ⊎_elim (λ z. inl (omega (arith, off))) inr l.zone;
      spread = l.spread;
      edge_is = l.edge_is;
    }

-- the drive has moved to where it is told
move_moved : {last : ℕ} {h : Held} {d : Drive} {k edge : ℕ} (a : ℕ) → Moving last h d k edge a → Moving last h (moved d a) k edge a
move_moved a m = record { none_out = m.none_out; first_is = m.first_is; rests = empty refl; low = m.low; zone = m.zone; spread = m.spread; edge_is = m.edge_is }

-- an element's WRITE goes to no header group
pub asks_off_header : {last : ℕ} {h : Held} {pending : ℕ} {d : Drive} {k edge : ℕ} {a : Address} → Asks last h pending d k edge (Write a) → is_header a.0 ≡ false
asks_off_header {last} {h} {d = d} {k} (writes a p due off low l) =
    let next_is = l.next_is in
    let spread = l.spread in
    let user : is_user last h.course.next.0 ≡ true = ranges_user last h.course.next.0 (⊎_elim (λ z. inl (omega arith, omega (arith, off))) (λ z. inr (omega arith, low)) l.zone) in
    subst (λ (x : Address). is_header x.0 ≡ false) (sym p) (user_not_header last h.course.next.0 user)

pub data ElementsOutcome (last : ℕ) (h : Held) (pending : ℕ) (d : Drive) (k edge : ℕ) (r : Reply) (c : Command) : Type 0 where
  goes_on : Answered last h pending d k edge r c → ElementsOutcome last h pending d k edge r c
  reject : (Listed c (meaning_of r.key r.asc r.ascq) → ⊥) → Safe last d → ElementsOutcome last h pending d k edge r c

pub elements_answer : {last : ℕ} {h : Held} {pending : ℕ} {d e : Drive} {k edge : ℕ} {frame : List ℕ} {c : Command} {r : Reply} → Asks last h pending d k edge c → conduct.Answers d frame c r e → ElementsOutcome last h pending e k edge r c
elements_answer {frame = frame} (writes a p due off low l) (conduct.takes _ r m) = goes_on (taken a m due (link_takes frame off low l))
elements_answer {last} (writes a p due off low l) (conduct.overflows _ r off_header m) = goes_on (filled a m (subst (λ (x : Address). x.0 ≤ last) (sym p) low) l)
elements_answer (writes a p due off low l) (conduct.write_fails _ r m x q) = goes_on (failed_write a m x q l)
elements_answer (writes a p due off low l) (conduct.waits _ r m) = goes_on (waits (Write a) m (writes a p due off low l))
elements_answer (writes a p due off low l) (conduct.rejects _ r m) = reject m (link_safe l)
elements_answer (asks l) (conduct.counts r m q) = goes_on (counted m (omega (arith, q)) l)
elements_answer (asks l) (conduct.position_fails r m x q) = goes_on (failed_position m x q l)
elements_answer (asks l) (conduct.waits _ r m) = goes_on (waits ReadPosition m (asks l))
elements_answer (asks l) (conduct.rejects _ r m) = reject m (link_safe l)
elements_answer (moves a roof m) (conduct.locates _ r g) = goes_on (link.moved a g refl refl refl roof (move_moved a.0 m))
elements_answer (moves a roof m) (conduct.waits _ r g) = goes_on (waits (Locate a) g (moves a roof m))
elements_answer (moves a roof m) (conduct.waits_located _ r g) = goes_on (waits (Locate a) g (moves a roof (move_moved a.0 m)))
elements_answer (moves a roof m) (conduct.rejects _ r g) = reject g (rests_safe m.rests)
elements_answer (moves a roof m) (conduct.rejects_located _ r g) = reject g (rests_safe (empty refl))
