-- What accepting and close leave alone, the agreement of session and drive holds on. Assumes nothing.
use Prim.Native.Nat.{ℕ, ◌+◌, ◌≤◌, ◌<◌}
use mathlib.Core.Path.{◌≡◌, sym, ap, subst, ◌∙◌}
use mathlib.Core.Bool.{false}
use mathlib.Core.List.{List}
use mathlib.Core.Logic.{inl, inr, ⊎_elim}
use native.Mathlib.Omega.{arith}
use lib.ListN.{length}
use Rattle.geometry.specs.declared.address.Address.{Address}
use Rattle.geometry.specs.declared.address.Seq.{Seq}
use Rattle.geometry.proofs.Impossible.{clash}
use Rattle.archive_lists.specs.Conduct.{Drive, AtRest, empty, stopped}
use Rattle.drive.specs.declared.command.Command.{Command}
use Rattle.drive.specs.declared.command.Command.TheVariants.{Write}
use Rattle.drive.specs.declared.reply.Reply.{Reply}
use Rattle.copies.specs.declared.copies.Copies.{Copies}
use Rattle.copies.proofs.Counts.{CountsOf}
use Rattle.copies.proofs.Placed.{PlacedOf}
use Rattle.elements.specs.declared.course.Course.{Course}
use Rattle.recording_state.specs.declared.state.State.{State}
use Rattle.recording_state.proofs.Kept.{Held, held_of}
use Rattle.archive_lists.specs.Recordings as recordings
use Rattle.archive_lists.specs.Recordings.{Flight}
use Rattle.archive_lists.proofs.recording.CopiesLink as copies
use Rattle.archive_lists.proofs.recording.CopiesLink.{CopyLink, CopySeek, CopyAsks, CopyAnswered, HeaderSent, Copying, CopiesAgree}
use Rattle.archive_lists.proofs.recording.ElementsLink as elements
use Rattle.archive_lists.proofs.recording.ElementsLink.{Linked, Moving, Asks, Answered, Writing}

-- ---- header copies

module _ (s v : State) (d : Drive) (h : held_of v ≡ held_of s) (c : v.copies ≡ s.copies) where
  awaiting_is : v.exchange.awaiting ≡ s.exchange.awaiting
  awaiting_is = ap (λ (x : Held). x.exchange.awaiting) h

  again_is : v.exchange.again ≡ s.exchange.again
  again_is = ap (λ (x : Held). x.exchange.again) h

  command_is : v.exchange.command ≡ s.exchange.command
  command_is = ap (λ (x : Held). x.exchange.command) h

  copying_as : {f : Flight} → Copying s d f → Copying v d f
  copying_as (copies.at_place a g l) = copies.at_place (awaiting_is ∙ a) (again_is ∙ g) (subst (λ (x : Copies). CopyLink x d 0) (sym c) l)
  copying_as (copies.to_seek a g l) = copies.to_seek (awaiting_is ∙ a) (again_is ∙ g) (subst (λ (x : Copies). CopySeek x d) (sym c) l)
  copying_as (copies.again a g l) = copies.again (awaiting_is ∙ a) (again_is ∙ g) (subst (λ (y : Command). CopyAsks v.copies d y) (sym command_is) (subst (λ (x : Copies). CopyAsks x d s.exchange.command) (sym c) l))
  copying_as (copies.under_way k fr a g e sent l) =
      copies.under_way k fr (awaiting_is ∙ a) (again_is ∙ g) (command_is ∙ e) (subst (λ (x : Copies). HeaderSent x k fr) (sym c) sent) (subst (λ (x : Copies). CopyAsks x d k) (sym c) l)
  copying_as (copies.replied r a g l) = copies.replied r (awaiting_is ∙ a) (again_is ∙ g) (subst (λ (y : Command). CopyAnswered v.copies d r y) (sym command_is) (subst (λ (x : Copies). CopyAnswered x d r s.exchange.command) (sym c) l))

  pub agree_as : {f : Flight} → CopiesAgree s d f → CopiesAgree v d f
  agree_as a = record {
    counts = subst (λ (x : Copies). CountsOf x) (sym c) a.counts;
    placed = subst (λ (x : Copies). PlacedOf x) (sym c) a.placed;
    copying = copying_as a.copying;
  }

-- ---- elements

asks_more : {last : ℕ} {h : Held} {n m : ℕ} {d : Drive} {k edge : ℕ} {c : Command} → n ≤ m → Asks last h n d k edge c → Asks last h m d k edge c
asks_more l (elements.writes a p due off low x) = elements.writes a p (omega arith) off low x
asks_more l (elements.asks x) = elements.asks x
asks_more l (elements.moves a roof x) = elements.moves a roof x

answered_more : {last : ℕ} {h : Held} {n m : ℕ} {d : Drive} {k edge : ℕ} {r : Reply} {c : Command} → n ≤ m → Answered last h n d k edge r c → Answered last h m d k edge r c
answered_more l (elements.taken a m due x) = elements.taken a m (omega arith) x
answered_more l (elements.counted m b x) = elements.counted m b x
answered_more l (elements.failed_write a m f p x) = elements.failed_write a m f p x
answered_more l (elements.failed_position m f p x) = elements.failed_position m f p x
answered_more l (elements.filled a m low x) = elements.filled a m low x
answered_more l (elements.moved a m e f p roof x) = elements.moved a m e f p roof x
answered_more l (elements.waits c m x) = elements.waits c m (asks_more l x)

module _ (last : ℕ) (s v : State) (d : Drive) (k edge : ℕ) (h : held_of v ≡ held_of s) (more : s.elements.queue.pending ≤ v.elements.queue.pending) where
  asks_as : {c : Command} → Asks last (held_of s) s.elements.queue.pending d k edge c → Asks last (held_of v) v.elements.queue.pending d k edge c
  asks_as {c} x = subst (λ (y : Held). Asks last y v.elements.queue.pending d k edge c) (sym h) (asks_more more x)

  answered_as : {r : Reply} {c : Command} → Answered last (held_of s) s.elements.queue.pending d k edge r c → Answered last (held_of v) v.elements.queue.pending d k edge r c
  answered_as {r} {c} x = subst (λ (y : Held). Answered last y v.elements.queue.pending d k edge r c) (sym h) (answered_more more x)

  pub writing_as : {f : Flight} → Writing last s d k edge f → Writing last v d k edge f
  writing_as (elements.at_place a g l) = elements.at_place (ap (λ (x : Held). x.exchange.awaiting) h ∙ a) (ap (λ (x : Held). x.exchange.again) h ∙ g) (subst (λ (y : Held). Linked last y d k edge 0) (sym h) l)
  writing_as (elements.to_locate a g r l) =
      elements.to_locate (ap (λ (x : Held). x.exchange.awaiting) h ∙ a) (ap (λ (x : Held). x.exchange.again) h ∙ g) (ap (λ (x : Held). x.course.locate) h ∙ r)
      (subst (λ (y : Held). Moving last y d k edge y.course.target.0) (sym h) l)
  writing_as (elements.again a g x) =
      elements.again (ap (λ (y : Held). y.exchange.awaiting) h ∙ a) (ap (λ (y : Held). y.exchange.again) h ∙ g) (subst (λ (c : Command). Asks last (held_of v) v.elements.queue.pending d k edge c) (sym (ap (λ (y : Held). y.exchange.command) h)) (asks_as x))
  writing_as (elements.under_way c f a g e x) =
      elements.under_way c f (ap (λ (y : Held). y.exchange.awaiting) h ∙ a) (ap (λ (y : Held). y.exchange.again) h ∙ g) (ap (λ (y : Held). y.exchange.command) h ∙ e) (asks_as x)
  writing_as (elements.replied r a g x) =
      elements.replied r (ap (λ (y : Held). y.exchange.awaiting) h ∙ a) (ap (λ (y : Held). y.exchange.again) h ∙ g) (subst (λ (c : Command). Answered last (held_of v) v.elements.queue.pending d k edge r c) (sym (ap (λ (y : Held). y.exchange.command) h)) (answered_as x))

-- ---- numbers in a writing stage

pub record Numbers (last first outstanding pending k : ℕ) (d : Drive) : Type 0 where
  pub low : first + 10 ≤ last + 1
  pub least : first ≤ k
  pub most : k ≤ first + pending
  pub fits : d.failed ≡ false → k + length d.buffer ≤ first + pending

link_numbers : {last : ℕ} {h : Held} {d : Drive} {k edge extra : ℕ} (pending : ℕ) → h.outstanding + extra ≤ pending → Linked last h d k edge extra → Numbers last h.first.0 h.outstanding pending k d
link_numbers pending b l =
    let taken_is = l.taken_is in
    let next_is = l.next_is in
    let known = l.known in
    let roof = l.roof in
    let spread = l.spread in
    record { low = omega arith; least = omega arith; most = omega arith; fits = λ _. omega arith }

move_numbers : {last : ℕ} {h : Held} {d : Drive} {k edge target : ℕ} (pending : ℕ) → Moving last h d k edge target → Numbers last h.first.0 h.outstanding pending k d
move_numbers {last} {h} {d} {k} pending m =
    let low = m.low in
    let spread = m.spread in
    let first_is = m.first_is in
    record { low = omega arith; least = omega arith; most = omega arith; fits = λ free. go free m.rests }
  where
    go : d.failed ≡ false → AtRest d → k + length d.buffer ≤ h.first.0 + pending
    go free (stopped e) = clash e free
    go free (empty e) = let z : length d.buffer ≡ 0 = ap length e in let f = m.first_is in omega arith

asks_numbers : {last : ℕ} {h : Held} {pending : ℕ} {d : Drive} {k edge : ℕ} {c : Command} → h.outstanding ≤ pending → Asks last h pending d k edge c → Numbers last h.first.0 h.outstanding pending k d
asks_numbers {pending = pending} b (elements.writes a p due off low l) = link_numbers pending (omega (arith, b)) l
asks_numbers {pending = pending} b (elements.asks l) = link_numbers pending (omega (arith, b)) l
asks_numbers {pending = pending} b (elements.moves a _ m) = move_numbers pending m

answered_numbers : {last : ℕ} {h : Held} {pending : ℕ} {d : Drive} {k edge : ℕ} {r : Reply} {c : Command} → h.outstanding ≤ pending → Answered last h pending d k edge r c → Numbers last h.first.0 h.outstanding pending k d
answered_numbers {pending = pending} b (elements.taken a m due l) = link_numbers pending (omega arith) l
answered_numbers {pending = pending} b (elements.counted m x l) = link_numbers pending (omega (arith, b)) l
answered_numbers {pending = pending} b (elements.failed_write a m f p l) = link_numbers pending (omega (arith, b)) l
answered_numbers {pending = pending} b (elements.failed_position m f p l) = link_numbers pending (omega (arith, b)) l
answered_numbers {pending = pending} b (elements.filled a m low l) = link_numbers pending (omega (arith, b)) l
answered_numbers {pending = pending} b (elements.moved a m e f p _ x) = move_numbers pending x
answered_numbers {pending = pending} b (elements.waits c m x) = asks_numbers b x

pub writing_numbers : {last : ℕ} {s : State} {d : Drive} {k edge : ℕ} {f : Flight} → s.elements.queue.outstanding ≤ s.elements.queue.pending → Writing last s d k edge f → Numbers last s.elements.queue.first.0 s.elements.queue.outstanding s.elements.queue.pending k d
writing_numbers {s = s} b (elements.at_place a g l) = link_numbers s.elements.queue.pending (omega (arith, b)) l
writing_numbers {s = s} b (elements.to_locate a g r m) = move_numbers s.elements.queue.pending m
writing_numbers b (elements.again a g x) = asks_numbers b x
writing_numbers b (elements.under_way c f a g e x) = asks_numbers b x
writing_numbers b (elements.replied r a g x) = answered_numbers b x

-- a WRITE in flight is of something due
pub sent_due : {last : ℕ} {s : State} {d : Drive} {k edge : ℕ} {a : Address} {f : List ℕ} → Writing last s d k edge (recordings.sent (Write a) f) → s.elements.queue.outstanding < s.elements.queue.pending
sent_due (elements.under_way _ _ a g e (elements.writes b p due off low l)) = due

-- ---- the same elements, by another command

pub relink : {last : ℕ} {d : Drive} {k edge extra : ℕ} (h v : Held) → v.first ≡ h.first → v.outstanding ≡ h.outstanding → v.course ≡ h.course → Linked last h d k edge extra → Linked last v d k edge extra
relink h v a b c l =
    let a0 = ap (λ (x : Seq). x.0) a in
    let c0 = ap (λ (x : Course). x.next.0) c in
    let taken_is = l.taken_is in
    let next_is = l.next_is in
    let known = l.known in
    let roof = l.roof in
    record {
      placed = ap (λ (x : Course). x.locate) c ∙ l.placed;
      taken_is = omega arith;
      next_is = omega arith;
      known = omega arith;
      roof = omega arith;
      zone = ⊎_elim (λ z. inl (omega arith)) (λ z. inr (omega arith)) l.zone;
      spread = l.spread;
      edge_is = l.edge_is;
    }

pub remove : {last : ℕ} {d : Drive} {k edge target : ℕ} (h v : Held) → v.first ≡ h.first → v.outstanding ≡ h.outstanding → Moving last h d k edge target → Moving last v d k edge target
remove h v a b m =
    let a0 = ap (λ (x : Seq). x.0) a in
    record { none_out = b ∙ m.none_out; first_is = a0 ∙ m.first_is; rests = m.rests; low = m.low; zone = m.zone; spread = m.spread; edge_is = m.edge_is }

pub reask : {last pending : ℕ} {d : Drive} {k edge : ℕ} {c : Command} (h v : Held) → v.first ≡ h.first → v.outstanding ≡ h.outstanding → v.course ≡ h.course → Asks last h pending d k edge c → Asks last v pending d k edge c
reask h v a b c (elements.writes x p due off low l) =
    let c0 = ap (λ (y : Course). y.next.0) c in
    elements.writes x (p ∙ sym (ap (λ (y : Course). y.next) c)) (omega arith) (λ q. off (sym c0 ∙ q)) (omega arith) (relink h v a b c l)
reask h v a b c (elements.asks l) = elements.asks (relink h v a b c l)
reask h v a b c (elements.moves x roof m) = elements.moves x roof (remove h v a b m)
