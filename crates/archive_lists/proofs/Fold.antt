-- Every list of a reading's calls gives the fold. Assumes nothing.
use Prim.Native.Nat.{ℕ, ◌+◌, ◌^◌, ◌<◌, ◌≤◌}
use mathlib.Core.Path.{◌≡◌, refl, sym, ap, subst, ◌∙◌}
use mathlib.Core.Bool.{true}
use mathlib.Core.List.{List}
use native.Mathlib.Omega.{arith}
use Rattle.geometry.specs.Place.{address, as_address}
use Rattle.geometry.specs.Cartridge.{last_of}
use Rattle.geometry.specs.declared.cartridge.Geometry.{Geometry}
use Rattle.geometry.proofs.Last.{frames_of_lem, last_small}
use Rattle.frame.specs.declared.header.Header.{Header}
use Rattle.header.specs.Read as checked
use Rattle.header.specs.Read.{CheckedSaid, read_header}
use Rattle.header.specs.Valid.{valid_header, header_of}
use Rattle.header.proofs.Facts.{valid_last}
use Rattle.header.proofs.ReadLaws.{taken_valid, refused_number}
use Rattle.reading_state.specs.Open.{OpenedSaid, fresh, open_for, open_of}
use Rattle.archive_lists.specs.Tape.{Tape, Cartridge}
use Rattle.archive_lists.specs.Readings.{World, Call, Runs, started}
use Rattle.archive_lists.specs.Faithful.{reply_bound}
use Rattle.archive_lists.specs.Fold.{FoldOfUserFrames, ReadingIsFold}
use Rattle.archive_lists.proofs.tape.FoldLaws.{fold_users}
use Rattle.archive_lists.proofs.reading.Facts.{ReadTape}
use Rattle.archive_lists.proofs.reading.Invariant.{ReadInv}
use Rattle.archive_lists.proofs.reading.Serves.{read_begins}
use Rattle.archive_lists.proofs.reading.Calls.{reads_keep}
use Rattle.archive_lists.proofs.reading.BoundedLists.{runs_few}
use Rattle.archive_lists.proofs.reading.Promises.{is_fold}

-- the cartridge that is read
read_tape : (g : Geometry) (told : Header) (t : Tape) → g.segtrk < 2 ^ 16 → g.trks < 2 ^ 16 → last_of g ≡ address told.last.0 → Cartridge told.last.0 t → ReadTape told t
read_tape g told t seg trk e cart =
    let f = frames_of_lem g told.last.0 e in
    let small : told.last.0 + 65 < 2 ^ 32 = last_small g told.last.0 seg trk f in
    record { large = f.large; small = small; cartridge = cart }

-- a header that the opening accepts was taken for valid
pub record Opens (last : ℕ) (h : List ℕ) (r : OpenedSaid) : Type 0 where
  pub opened : r ≡ record { session = fresh (header_of h); number = 0 }
  pub valid : valid_header (as_address last) h ≡ true
  pub last_is : (header_of h).last.0 ≡ last

pub opened_as : (g : Geometry) (last : ℕ) (h : List ℕ) → last_of g ≡ address last → (open_of g h).number ≡ 0 → Opens last h (open_of g h)
unfolding open_of
opened_as g last h e = go (read_header g h) refl
  where
    go : (c : CheckedSaid) → read_header g h ≡ c → (open_for c).number ≡ 0 → Opens last h (open_for c)
    go (checked.valid fields) r z =
        let taken = taken_valid g h e r in
        record { opened = ap (λ (x : Header). record { session = fresh x; number = 0 }) taken.told; valid = taken.is_valid; last_is = valid_last last h taken.is_valid }
    go (checked.refused n) r z = let some = refused_number g h e r in absurd (omega arith)

-- the invariant of a reading after every list of its calls
module _ (g : Geometry) (last : ℕ) (t : Tape) (h : List ℕ) (at : ℕ) (calls : List Call) (w : World) (seg : g.segtrk < 2 ^ 16) (trk : g.trks < 2 ^ 16) (e : last_of g ≡ address last)
    (cart : Cartridge last t) (opens : (open_of g h).number ≡ 0) (runs : Runs t (started (open_of g h).session at) calls w) where
  pub reading_opened : Opens last h (open_of g h)
  reading_opened = opened_as g last h e opens

  pub tape_read : ReadTape (header_of h) t
  tape_read = let o = reading_opened in read_tape g (header_of h) t seg trk (e ∙ ap address (sym o.last_is)) (subst (λ (n : ℕ). Cartridge n t) (sym o.last_is) cart)

  pub reading_kept : ReadInv (header_of h) t w
  reading_kept = reads_keep tape_read (read_begins tape_read at) (subst (λ (x : OpenedSaid). Runs t (started x.session at) calls w) reading_opened.opened runs)

  pub reading_few : w.notes.replies ≤ reply_bound (header_of h).last.0
  reading_few = runs_few tape_read (read_begins tape_read at) (omega arith) (subst (λ (x : OpenedSaid). Runs t (started x.session at) calls w) reading_opened.opened runs)

pub reading_is_fold : ReadingIsFold
unfolding ReadingIsFold
reading_is_fold g last t h at calls w sized cart opens runs =
    let seg = sized.segtrk in
    let trk = sized.trks in
    let e = sized.is_last in
    is_fold (tape_read g last t h at calls w seg trk e cart opens runs) w (reading_few g last t h at calls w seg trk e cart opens runs) (reading_kept g last t h at calls w seg trk e cart opens runs)

pub fold_of_user_frames : FoldOfUserFrames
unfolding FoldOfUserFrames
fold_of_user_frames = fold_users
