-- What a reply leaves of the header copies and the drive. Assumes nothing.
use Prim.Native.Nat.{ℕ, ◌+◌, ◌-◌, ◌%◌, ◌≤◌, ◌<◌}
use mathlib.Core.Path.{◌≡◌, refl, sym, ap, ◌∙◌}
use mathlib.Core.Bool.{Bool, true, false}
use mathlib.Core.List.{[]}
use mathlib.Core.Logic.{◌⊎◌, inl, inr, ⊎_elim}
use native.Mathlib.Omega.{arith}
use borrow.Author.Tests.{ltb-false}
use lib.Dec.{eqb, ltb}
use lib.ListN.{length, replicate}
use Rattle.geometry.specs.Pick.{pick}
use Rattle.geometry.specs.Cartridge.{header_address, copy_at}
use Rattle.geometry.specs.declared.address.Address.{Address}
use Rattle.geometry.proofs.CopyPlaces.{copy_address}
use Rattle.geometry.proofs.PickLaws.{pick_by}
use Rattle.geometry.proofs.Impossible.{clash}
use Rattle.frame.specs.Header.{header_frame}
use Rattle.frame.specs.declared.header.Header.{Header}
use Rattle.archive_lists.specs.Conduct.{Drive, AtRest, empty, stopped}
use Rattle.archive_lists.specs.Tape.{Tape}
use Rattle.copies.specs.Copies as copying
use Rattle.copies.specs.Copies.{taken_of, located_of, confirmed_of, failed_at, next_group, counted_of, oldest_copy, failed_of}
use Rattle.copies.specs.declared.copies.Copies.{Copies}
use Rattle.copies.proofs.ReplyView as view
use Rattle.copies.proofs.Counts.{CountsOf, taken_counts, taken_exact, confirmed_counts, confirmed_exact, failed_counts}
use Rattle.copies.proofs.Placed.{Placed, PlacedOf}
use Rattle.archive_lists.proofs.recording.HeaderCopies.{Copy}
use Rattle.archive_lists.proofs.recording.CopiesLink.{first_address, next_address, CopyLink, CopySeek}
use Rattle.archive_lists.proofs.tape.Basics.{no_frames}

pub copy_higher : {h : Header} {t : Tape} {a b : ℕ} → a ≤ b → Copy h t a → Copy h t b
copy_higher l c = let low = c.low in record { address = c.address; frame = c.frame; group = c.group; low = omega arith; reads = c.reads; as_sent = c.as_sent }

-- the addresses of the groups
group_low : (c : Copies) → c.group ≤ 1 → (first_address c ≡ 5) ⊎ (first_address c ≡ 2990)
group_low c l = go (eqb (c.group % 2) 0)
  where
    go : (b : Bool) → (pick b 5 2990 + 0 % 5 ≡ 5) ⊎ (pick b 5 2990 + 0 % 5 ≡ 2990)
    go true = inl refl
    go false = inr refl

group_first : (c : Copies) → c.group ≡ 0 → first_address c ≡ 5
group_first c e = ap (λ (n : ℕ). header_address n 0) e

-- the copies on their way: at their place, or behind a failed one
pub data Ready (c : Copies) (d : Drive) : Type 0 where
  placed : CopyLink c d 0 → Ready c d
  spoiled : c.locate ≡ true → c.outstanding ≡ 0 → d.failed ≡ true → (c.confirmed ≡ 0) ⊎ Copy c.header d.tape (next_address c) → Ready c d

-- what a reply gives: more copies, done with them, or an end
pub data Next (h : Header) (d : Drive) : copying.ProgressSaid → Type 0 where
  at_place : (c : Copies) → c.header ≡ h → CountsOf c → PlacedOf c → CopyLink c d 0 → Next h d (copying.more c)
  to_seek : (c : Copies) → c.header ≡ h → CountsOf c → PlacedOf c → CopySeek c d → Next h d (copying.more c)
  through : AtRest d → Copy h d.tape 2995 → Next h d copying.complete
  ends : (n : ℕ) → eqb n 9 ≡ false → Next h d (copying.refused n)

ready_rests : {c : Copies} {d : Drive} → c.outstanding ≡ 0 → Ready c d → AtRest d
ready_rests {d = d} none (placed l) = let known = l.known in empty (no_frames d.buffer (omega arith))
ready_rests none (spoiled t o f k) = stopped f

-- a confirmed copy reads, below the next address
ready_kept : {c : Copies} {d : Drive} → c.outstanding ≡ 0 → Ready c d → (c.confirmed ≡ 0) ⊎ Copy c.header d.tape (next_address c)
ready_kept none (placed l) =
    let known = l.known in
    let next_is = l.next_is in
    ⊎_elim (λ h. inl (omega arith)) (λ y. inr (copy_higher (omega arith) y)) l.kept
ready_kept none (spoiled t o f k) = k

unlocated : {b : Bool} {n m : ℕ} → b ≡ false → Placed b n m
unlocated e = record { left = λ t. clash t e; empty = λ t. clash t e }

onward_next : (c : Copies) (d : Drive) → CountsOf c → Ready c d → {s : copying.ProgressSaid} → view.OnwardView c s → Next c.header d s
onward_next c d n (placed l) (view.unfinished x) = at_place c refl n (unlocated l.placed) l
onward_next c d n (spoiled t o f k) (view.unfinished x) =
    to_seek c refl n (record { left = λ _. ⊎_elim (λ h. h) (λ h. omega arith) x; empty = λ _. o }) (record { due = t; rests = stopped f; kept = k })
onward_next c d n r (view.turning filled none first) =
    let copies_low = n.copies in
    let low = group_first c first in
    to_seek (next_group c) refl
    (record { groups = omega arith; copies = omega arith; held = omega arith; written = let x = n.written in let h = n.held in omega arith })
    (record { left = λ _. omega arith; empty = λ _. none })
    (record { due = refl; rests = ready_rests none r; kept = ⊎_elim inl (λ y. inr (copy_higher (omega arith) y)) (ready_kept none r) })
onward_next c d n r (view.unwritten filled none later lost) = ends 12 refl
onward_next c d n r (view.through filled none later some) =
    through (ready_rests none r) (⊎_elim (λ e. absurd (omega arith)) (λ y. copy_higher (low (group_low c n.groups)) y) (ready_kept none r))
  where
    low : (first_address c ≡ 5) ⊎ (first_address c ≡ 2990) → next_address c ≤ 2995
    low (inl e) = let x = n.copies in omega arith
    low (inr e) = let x = n.copies in omega arith

module _ (c : Copies) (d : Drive) (n : CountsOf c) where
  pub taken_next : CopyLink c d 1 → Next c.header d (copying.more (taken_of c))
  taken_next l =
      let roof = l.roof in
      let next_is = l.next_is in
      let known = l.known in
      let left : c.copy < 5 = omega arith in
      let exact = taken_exact c n left in
      let copy_is = exact.0 in
      let out_is = exact.1 in
      at_place (taken_of c) refl (taken_counts c n left) (unlocated l.placed) (record {
        placed = l.placed;
        next_is = omega arith;
        known = omega arith;
        roof = omega arith;
        alike = l.alike;
        kept = ⊎_elim (λ h. inl (omega arith)) inr l.kept;
      })

  pub located_next : PlacedOf c → CopySeek c d → d.buffer ≡ [] → d.at ≡ next_address c → Next c.header d (copying.more (located_of c))
  located_next p s e at =
      let none = p.empty s.due in
      let left = p.left s.due in
      let size : length d.buffer ≡ 0 = ap length e in
      at_place (located_of c) refl n (unlocated refl) (record {
        placed = refl;
        next_is = omega arith;
        known = omega arith;
        roof = omega arith;
        alike = e ∙ ap (λ (k : ℕ). replicate k (header_frame c.header)) (sym size);
        kept = ⊎_elim (λ z. inl (omega arith)) (λ y. inr (copy_higher (omega arith) y)) s.kept;
      })

  pub counted_next : (f : ℕ) → length d.buffer ≤ f → CopyLink c d 0 → Next c.header d (counted_of c f)
  unfolding counted_of
  counted_next f bound l =
      pick_by (λ (s : copying.ProgressSaid). Next c.header d s) (ltb c.outstanding f) (λ _. ends 8 refl)
      (λ e.
      let few = ltb-false c.outstanding f e in
      let m = c.outstanding - f in
      let exact = confirmed_exact c n m (omega arith) in
      let next_is = l.next_is in
      let known = l.known in
      onward_next (confirmed_of c m) d (confirmed_counts c n m (omega arith)) (placed (record {
        placed = l.placed;
        next_is = l.next_is;
        known = omega arith;
        roof = l.roof;
        alike = l.alike;
        kept = ⊎_elim (λ h. inl (omega arith)) inr l.kept;
      })) (view.onward_view (confirmed_of c m)))

  pub failed_next : (p : Address) → p.0 ≡ d.at → d.failed ≡ true → CopyLink c d 0 → Next c.header d (failed_of c p)
  failed_next p at f l = go (view.failed_view c i)
    where
      i : ℕ
      i = copy_at c.group p.0

      go : {s : copying.ProgressSaid} → view.FailedView c i s → Next c.header d s
      go (view.before _) = ends 8 refl
      go (view.behind _) = ends 8 refl
      go (view.failed low high) =
          let held = n.held in
          let most = n.copies in
          let known = l.known in
          let next_is = l.next_is in
          let there = copy_address c.group p.0 (omega arith) in
          let exact = confirmed_exact c n (i - oldest_copy c) (omega arith) in
          onward_next (failed_at c (i - oldest_copy c) i) d (failed_counts c n i low high)
          (spoiled refl refl f (⊎_elim (λ h. inl (omega arith)) (λ z. inr (copy_higher (omega arith) z)) l.kept))
          (view.onward_view (failed_at c (i - oldest_copy c) i))
