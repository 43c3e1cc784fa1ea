-- The drive's own moves and its answers keep what the header copies know of it. Assumes nothing.
use Prim.Native.Nat.{ℕ, suc, ◌+◌, ◌-◌, ◌≤◌, ◌<◌}
use mathlib.Core.Path.{◌≡◌, refl, sym, ap, subst, ◌∙◌}
use mathlib.Core.Bool.{true, false}
use mathlib.Core.List.{List, [], ◌∷◌, ◌++◌, nil≢cons, head-eq_of_cons-eq, tail-eq_of_cons-eq}
use mathlib.Core.Logic.{inl, inr, ⊎_elim}
use mathlib.Core.Option.{Option, some}
use native.Mathlib.Nat.{le_refl}
use native.Mathlib.Omega.{arith}
use lib.ListN.{length, replicate, length-append, replicate-append-replicate}
use Rattle.geometry.specs.Cartridge.{is_header, is_user, header_address}
use Rattle.geometry.proofs.TestLaws.{either_left}
use Rattle.geometry.proofs.Impossible.{clash}
use Rattle.frame.specs.Header.{header_frame}
use Rattle.frame.specs.Sent.{ReadsAs}
use Rattle.frame.specs.declared.header.Header.{Header}
use Rattle.archive_lists.specs.Conduct as conduct
use Rattle.archive_lists.specs.Conduct.{Drive, Written, wrote, failing, taking, AtRest, empty, stopped}
use Rattle.drive.specs.Senses.{meaning_of}
use Rattle.archive_lists.specs.Tape.{Tape, put}
use Rattle.drive.specs.declared.command.Command.{Command}
use Rattle.drive.specs.declared.command.Command.TheVariants.{Write, Locate, ReadPosition}
use Rattle.drive.specs.declared.reply.Reply.{Reply}
use Rattle.drive.specs.Listed.{Listed}
use Rattle.copies.specs.declared.copies.Copies.{Copies}
use Rattle.copies.proofs.Counts.{CountsOf}
use Rattle.geometry.proofs.HeaderPlaces.{is_header_lem, header_from_first}
use Rattle.recording_state.specs.declared.state.State.{State}
use Rattle.archive_lists.specs.Recordings.{Flight}
use Rattle.archive_lists.proofs.recording.HeaderCopies.{Copy}
use Rattle.archive_lists.proofs.tape.FoldLaws.{put_same, put_other}
use Rattle.archive_lists.proofs.recording.CopiesLink.{next_address, CopyLink, CopyAsks, writes, asks, seeks, CopyAnswered, taken, counted, failed_write, failed_position, waits, HeaderSent, Copying, at_place, to_seek, again, under_way, replied}
use Rattle.archive_lists.proofs.recording.CopiesLink as link
use Rattle.archive_lists.proofs.recording.Invariant.{Safe, halted, allowed}

pub rests_still : {X : Type 0} {d : Drive} {f : List ℕ} {rest : List (List ℕ)} → d.buffer ≡ f ∷ rest → d.failed ≡ false → AtRest d → X
rests_still b free (stopped e) = clash e free
rests_still b free (empty e) = absurd (nil≢cons (sym e ∙ b))

-- ---- by itself

-- what a step of the drive's own leaves
pub record CopyGoes (h : Header) (d : Drive) (f : List ℕ) (rest : List (List ℕ)) (A : Drive → Type 0) : Type 0 where
  pub place : is_header d.at ≡ true
  pub same : f ≡ header_frame h
  pub written : (v : Option (List ℕ)) → Written f v → A (wrote d rest v)
  pub broken : (v : Option (List ℕ)) → A (failing d v)

map_goes : {h : Header} {d : Drive} {f : List ℕ} {rest : List (List ℕ)} {A B : Drive → Type 0} → ((e : Drive) → A e → B e) → CopyGoes h d f rest A → CopyGoes h d f rest B
map_goes g m = record { place = m.place; same = m.same; written = λ v x. g _ (m.written v x); broken = λ v. g _ (m.broken v) }

copy_written : {h : Header} {f : List ℕ} (t : Tape) (a : ℕ) (v : Option (List ℕ)) → is_header a ≡ true → f ≡ header_frame h → Written f v → Copy h (put t a v) (a + 1)
copy_written {h} t a v at same (conduct.reads read r) = record {
  address = a;
  frame = read;
  group = at;
  low = omega arith;
  reads = put_same t a (some read);
  as_sent = subst (λ x. ReadsAs x read) same r;
}

copy_put : {h : Header} {t : Tape} {bound : ℕ} (a : ℕ) (v : Option (List ℕ)) → bound ≤ a → Copy h t bound → Copy h (put t a v) bound
copy_put {t = t} a v l c = let low = c.low in record {
  address = c.address;
  frame = c.frame;
  group = c.group;
  low = c.low;
  reads = put_other t a v c.address (λ e. omega arith) ∙ c.reads;
  as_sent = c.as_sent;
}

module _ (c : Copies) (counts : CountsOf c) (d : Drive) (f : List ℕ) (rest : List (List ℕ)) (b : d.buffer ≡ f ∷ rest) where
  size : length d.buffer ≡ suc (length rest)
  size = ap length b

  link_place : {extra : ℕ} → CopyLink c d extra → is_header d.at ≡ true
  link_place {extra} l =
      let q = c.copy + extra - length d.buffer in
      let held = counts.held in
      let known = l.known in
      let roof = l.roof in
      let next_is = l.next_is in
      let low : q < 5 = omega (arith, size) in
      let there : d.at ≡ header_address c.group 0 + q = omega (arith, size) in
      subst (λ (x : ℕ). is_header x ≡ true) (header_from_first c.group q low ∙ sym there) (is_header_lem c.group q)

  link_goes : {extra : ℕ} → CopyLink c d extra → CopyGoes c.header d f rest (λ e. CopyLink c e extra)
  link_goes {extra} l =
      let alike : f ∷ rest ≡ header_frame c.header ∷ replicate (length rest) (header_frame c.header) =
      sym b ∙ l.alike ∙ ap (λ (n : ℕ). replicate n (header_frame c.header)) size in
      let same = head-eq_of_cons-eq alike in
      let next_is = l.next_is in
      let known = l.known in
      record {
        place = link_place l;
        same = same;
        written = λ v x. record {
          placed = l.placed;
          next_is = omega (arith, size);
          known = omega (arith, size);
          roof = l.roof;
          alike = tail-eq_of_cons-eq alike;
          kept = inr (copy_written d.tape d.at v (link_place l) same x);
        };
        broken = λ v. record {
          placed = l.placed;
          next_is = l.next_is;
          known = l.known;
          roof = l.roof;
          alike = l.alike;
          kept = ⊎_elim inl (λ y. inr (copy_put d.at v (le_refl d.at) y)) l.kept;
        };
      }

  asks_goes : d.failed ≡ false → {k : Command} → CopyAsks c d k → CopyGoes c.header d f rest (λ e. CopyAsks c e k)
  asks_goes free (writes a p left l) = map_goes (λ _ x. writes a p left x) (link_goes l)
  asks_goes free (asks l) = map_goes (λ _ x. asks x) (link_goes l)
  asks_goes free (seeks a p s) = rests_still b free s.rests

  answered_goes : d.failed ≡ false → {r : Reply} {k : Command} → CopyAnswered c d r k → CopyGoes c.header d f rest (λ e. CopyAnswered c e r k)
  answered_goes free (taken a m l) = map_goes (λ _ x. taken a m x) (link_goes l)
  answered_goes free (counted m bound l) =
      let g = link_goes l in
      record {
        place = g.place;
        same = g.same;
        written = λ v x. counted m (omega (arith, size, bound)) (g.written v x);
        broken = λ v. counted m bound (g.broken v);
      }
  answered_goes free (failed_write a m x p l) = clash x free
  answered_goes free (failed_position m x p l) = clash x free
  answered_goes free (link.moved a m p none_left fresh at s) = rests_still b free s.rests
  answered_goes free (waits k m a) = map_goes (λ _ x. waits k m x) (asks_goes free a)

pub copying_goes : {s : State} {d : Drive} {g : Flight} (f : List ℕ) (rest : List (List ℕ)) → CountsOf s.copies → d.buffer ≡ f ∷ rest → d.failed ≡ false → Copying s d g → CopyGoes s.copies.header d f rest (λ e. Copying s e g)
copying_goes {s} {d} f rest n b free (at_place a g l) = map_goes (λ _ x. at_place a g x) (link_goes s.copies n d f rest b l)
copying_goes f rest n b free (to_seek a g l) = rests_still b free l.rests
copying_goes {s} {d} f rest n b free (again a g x) = map_goes (λ _ y. again a g y) (asks_goes s.copies n d f rest b free x)
copying_goes {s} {d} f rest n b free (under_way c fr a g e h x) = map_goes (λ _ y. under_way c fr a g e h y) (asks_goes s.copies n d f rest b free x)
copying_goes {s} {d} f rest n b free (replied r a g x) = map_goes (λ _ y. replied r a g y) (answered_goes s.copies n d f rest b free x)

-- ---- what it may still write

-- its buffered frames lie in a header group
pub link_place_of : {c : Copies} {d : Drive} {extra : ℕ} → CountsOf c → CopyLink c d extra → (i : ℕ) → i < length d.buffer → is_header (d.at + i) ≡ true
link_place_of {c} {d} {extra} counts l i h =
    let q = c.copy + extra - length d.buffer + i in
    let held = counts.held in
    let known = l.known in
    let roof = l.roof in
    let next_is = l.next_is in
    let low : q < 5 = omega arith in
    let there : d.at + i ≡ header_address c.group 0 + q = omega arith in
    subst (λ (x : ℕ). is_header x ≡ true) (header_from_first c.group q low ∙ sym there) (is_header_lem c.group q)

link_safe : {last : ℕ} {c : Copies} {d : Drive} {extra : ℕ} → CountsOf c → CopyLink c d extra → Safe last d
link_safe {last} {c} {d} {extra} counts l = allowed (λ i h. either_left (is_header (d.at + i)) (is_user last (d.at + i)) (link_place_of counts l i h))

pub rests_safe : {last : ℕ} {d : Drive} → AtRest d → Safe last d
rests_safe (stopped e) = halted e
rests_safe (empty e) = allowed (λ i h. let z = ap length e in absurd (omega arith))

asks_safe : {last : ℕ} {c : Copies} {d : Drive} {k : Command} → CountsOf c → CopyAsks c d k → Safe last d
asks_safe n (writes a p left l) = link_safe n l
asks_safe n (asks l) = link_safe n l
asks_safe n (seeks a p s) = rests_safe s.rests

pub answered_safe : {last : ℕ} {c : Copies} {d : Drive} {r : Reply} {k : Command} → CountsOf c → CopyAnswered c d r k → Safe last d
answered_safe n (taken a m l) = link_safe n l
answered_safe n (counted m bound l) = link_safe n l
answered_safe n (failed_write a m x p l) = link_safe n l
answered_safe n (failed_position m x p l) = link_safe n l
answered_safe n (link.moved a m p none_left fresh at s) = rests_safe s.rests
answered_safe n (waits k m a) = asks_safe n a

-- ---- it answers

link_takes : {c : Copies} {d : Drive} (f : List ℕ) → f ≡ header_frame c.header → c.copy < 5 → CopyLink c d 0 → CopyLink c (taking d f) 1
link_takes {c} {d} f same left l =
    let more : length (d.buffer ++ f ∷ []) ≡ length d.buffer + 1 = length-append d.buffer (f ∷ []) in
    let next_is = l.next_is in
    let known = l.known in
    record {
      placed = l.placed;
      next_is = omega (arith, more);
      known = omega (arith, more);
      roof = omega arith;
      alike =
          ap (λ (x : List (List ℕ)). x ++ f ∷ []) l.alike
          ∙ ap (λ (x : List ℕ). replicate (length d.buffer) (header_frame c.header) ++ x ∷ []) same
          ∙ replicate-append-replicate (length d.buffer) 1 (header_frame c.header)
          ∙ ap (λ (n : ℕ). replicate n (header_frame c.header)) (sym more);
      kept = ⊎_elim (λ h. inl (omega (arith, more))) inr l.kept;
    }

-- a header's WRITE goes to a header group
pub next_header : (c : Copies) → c.copy < 5 → is_header (next_address c) ≡ true
next_header c left = subst (λ (x : ℕ). is_header x ≡ true) (header_from_first c.group c.copy left) (is_header_lem c.group c.copy)

-- an answer that the session goes on with, or ends at
pub data CopyOutcome (last : ℕ) (c : Copies) (d : Drive) (r : Reply) (k : Command) : Type 0 where
  goes_on : CopyAnswered c d r k → CopyOutcome last c d r k
  reject : (Listed k (meaning_of r.key r.asc r.ascq) → ⊥) → Safe last d → CopyOutcome last c d r k

pub copies_answer : {last : ℕ} {c : Copies} {d e : Drive} {frame : List ℕ} {k : Command} {r : Reply} → CountsOf c → HeaderSent c k frame → CopyAsks c d k → conduct.Answers d frame k r e → CopyOutcome last c e r k
copies_answer n h (writes a p left l) (conduct.takes _ r m) = goes_on (taken a m (link_takes _ h left l))
copies_answer {c = c} n h (writes a p left l) (conduct.overflows _ r off m) = clash (subst (λ (x : ℕ). is_header x ≡ true) (sym p) (next_header c left)) off
copies_answer n h (writes a p left l) (conduct.write_fails _ r m x q) = goes_on (failed_write a m x q l)
copies_answer n h (writes a p left l) (conduct.waits _ r m) = goes_on (waits (Write a) m (writes a p left l))
copies_answer n h (writes a p left l) (conduct.rejects _ r m) = reject m (link_safe n l)
copies_answer n h (asks l) (conduct.counts r m q) = goes_on (counted m (omega (arith, q)) l)
copies_answer n h (asks l) (conduct.position_fails r m x q) = goes_on (failed_position m x q l)
copies_answer n h (asks l) (conduct.waits _ r m) = goes_on (waits ReadPosition m (asks l))
copies_answer n h (asks l) (conduct.rejects _ r m) = reject m (link_safe n l)
copies_answer n h (seeks a p s) (conduct.locates _ r m) = goes_on (link.moved a m p refl refl refl (record { due = s.due; rests = empty refl; kept = s.kept }))
copies_answer n h (seeks a p s) (conduct.waits _ r m) = goes_on (waits (Locate a) m (seeks a p s))
copies_answer n h (seeks a p s) (conduct.waits_located _ r m) = goes_on (waits (Locate a) m (seeks a p (record { due = s.due; rests = empty refl; kept = s.kept })))
copies_answer n h (seeks a p s) (conduct.rejects _ r m) = reject m (rests_safe s.rests)
copies_answer n h (seeks a p s) (conduct.rejects_located _ r m) = reject m (rests_safe (empty refl))
