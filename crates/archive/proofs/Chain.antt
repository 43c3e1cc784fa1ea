-- Adding to a cartridge: Adds and Chains hold. Assumes nothing.
use Prim.Native.Nat.{ℕ, ◌+◌, ◌-◌, ◌^◌, ◌<◌}
use mathlib.Core.Path.{◌≡◌, sym, ap, subst, ◌∙◌}
use mathlib.Core.Bool.{true}
use mathlib.Core.List.{List, [], ◌∷◌, ◌++◌, append_assoc, append-nil}
use native.Mathlib.Omega.{arith}
use lib.ListN.{length, take}
use lib.Seq.{take-length}
use Rattle.geometry.specs.Place.{address}
use Rattle.geometry.specs.Cartridge.{last_of}
use Rattle.geometry.specs.declared.cartridge.Geometry.{Geometry}
use Rattle.geometry.proofs.Impossible.{never}
use Rattle.header.specs.Valid.{header_of}
use Rattle.header.proofs.Facts.{valid_last}
use Rattle.recording_state.specs.declared.state.State.{State}
use Rattle.archive_lists.specs.Tape.{Tape, Cartridge, SameFrames}
use Rattle.archive_lists.specs.Conduct.{Drive}
use Rattle.archive_lists.specs.Headers.{Newest}
use Rattle.archive_lists.specs.Fold.{finished, whole_of}
use Rattle.archive_lists.specs.Recordings as recordings
use Rattle.archive_lists.specs.Recordings.{Element, promised}
use Rattle.archive.specs.Recorded.{HasRecorded}
use Rattle.archive.specs.Demand.{Readable}
use Rattle.archive.specs.PowerCut.{EarlierFirst}
use Rattle.archive.specs.Chain.{Start, fresh, added, earlier_of, OnItsNewest, AsItStands, NoneInTheWay, Read, Adds, Closed, Way, adding, way_of, Chain, first, more, Together, one_more, none, accepted_in, NoneGiven, ReadTogether, WithoutTails, Chains}
use Rattle.archive_lists.proofs.reading.Facts.{finished_list}
use Rattle.archive_lists.proofs.tape.FoldLaws.{fold_users}
use Rattle.archive.proofs.Continued.{left_whole, readable, read_count, read_behind, leaves, start_kept, added_ended, continued}
use Rattle.archive_lists.proofs.recording.Noted.{noted}
use Rattle.archive_lists.proofs.recording.Setting.{Leaves}

pub adds : Adds
unfolding Adds
adds = continued

-- ---- one session more

accepted_more : (ns : List recordings.Notes) (n : recordings.Notes) → accepted_in (ns ++ n ∷ []) ≡ accepted_in ns ++ n.accepted
unfolding accepted_in
accepted_more [] n = append-nil n.accepted
accepted_more (m ∷ ns) n = ap (λ (xs : List Element). m.accepted ++ xs) (accepted_more ns n) ∙ sym (append_assoc m.accepted (accepted_in ns) n.accepted)

none_given_more : (ns : List recordings.Notes) (n : recordings.Notes) → NoneGiven ns → n.given_up ≡ 0 → NoneGiven (ns ++ n ∷ [])
unfolding NoneGiven
none_given_more [] n h e = (e, tt)
none_given_more (m ∷ ns) n h e = (h.0, none_given_more ns n h.1 e)

none_given_back : (ns : List recordings.Notes) (n : recordings.Notes) → NoneGiven (ns ++ n ∷ []) → NoneGiven ns × (n.given_up ≡ 0)
unfolding NoneGiven
none_given_back [] n h = (tt, h.0)
none_given_back (m ∷ ns) n h = let x = none_given_back ns n h.1 in ((h.0, x.0), x.1)

-- of which all is read where nothing was given up
pub whole_more : (xs : List Element) (ns : List recordings.Notes) (n : recordings.Notes) (ys : List Element) (m : ℕ) → (NoneGiven ns → ys ≡ xs ++ accepted_in ns) → Read n m → NoneGiven (ns ++ n ∷ []) → ys ++ take m n.accepted ≡ xs ++ accepted_in (ns ++ n ∷ [])
whole_more xs ns n ys m whole read h =
    let x = none_given_back ns n h in
    let ungiven = x.1 in
    let least = read.least in
    let within = read.within in
    let all : m ≡ length n.accepted = omega arith in
    ap (λ (zs : List Element). zs ++ take m n.accepted) (whole x.0)
    ∙ ap (λ (i : ℕ). (xs ++ accepted_in ns) ++ take i n.accepted) all
    ∙ ap (λ (zs : List Element). (xs ++ accepted_in ns) ++ zs) (take-length n.accepted)
    ∙ append_assoc xs (accepted_in ns) n.accepted
    ∙ ap (λ (zs : List Element). xs ++ zs) (sym (accepted_more ns n))

nothing_given : NoneGiven []
unfolding NoneGiven
nothing_given = tt

pub nothing_whole : (xs : List Element) → NoneGiven [] → xs ≡ xs ++ accepted_in []
unfolding accepted_in
nothing_whole xs _ = sym (append-nil xs)

-- ---- a chain

-- what one session leaves of which m elements are read: the fold over the tape has them behind what there was
pub record Left (g : Geometry) (last : ℕ) (t : Tape) (earlier : List Element) (n : recordings.Notes) (m : ℕ) : Type 0 where
  pub read : Read n m
  pub readable : Readable g last t (earlier ++ take m n.accepted)
  pub end_at : ℕ
  pub whole : (h : List ℕ) → Newest last t h → whole_of (header_of h) t ≡ finished (earlier ++ take m n.accepted) end_at

-- what the next session that adds needs of the tape: that it reads as all that came before
pub record Held (g : Geometry) (last : ℕ) (t : Tape) (xs : List Element) (ns : List recordings.Notes) : Type 0 where
  pub reads : ReadTogether g last t xs ns
  pub end_at : ℕ
  pub whole : (h : List ℕ) → Newest last t h → whole_of (header_of h) t ≡ finished reads.elements end_at

-- one session behind others
abbrev pub held_behind : (g : Geometry) (last : ℕ) (t : Tape) (xs : List Element) (ns : List recordings.Notes) (ys : List Element) (n : recordings.Notes) (m : ℕ) → Together xs ns ys → (NoneGiven ns → ys ≡ xs ++ accepted_in ns) → Left g last t ys n m → Held g last t xs (ns ++ n ∷ [])
held_behind g last t xs ns ys n m together whole l = record {
  reads = record { elements = ys ++ take m n.accepted; together = one_more ns ys n m together l.read; whole = whole_more xs ns n ys m whole l.read; readable = l.readable };
  end_at = l.end_at;
  whole = l.whole;
}

module _ (g : Geometry) (last : ℕ) (seg : g.segtrk < 2 ^ 16) (trk : g.trks < 2 ^ 16) (e : last_of g ≡ address last) where
  pub closed_leaves : (d : Drive) (s : State) (b : Start g last s) (w : recordings.World) → Cartridge last d.tape → Closed g last d s b w
      → Leaves last s.copies.header.pass (length (earlier_of b)) (AsItStands b d.tape × NoneInTheWay b d.tape) w.drive.tape (promised (noted (earlier_of b) true w).notes) (earlier_of b ++ w.notes.accepted)
  closed_leaves d s b w cart c =
      leaves (start_kept g last seg trk e d c.window c.calls w cart c.unwritten c.rests s b c.runs) c.on_newest c.as_it_stands c.none_in_the_way c.unaltered c.reported

  -- how many of its elements are read
  abbrev pub closed_count : (d : Drive) (s : State) (b : Start g last s) (w : recordings.World) → Cartridge last d.tape → Closed g last d s b w → ℕ
  closed_count d s b w cart c = (closed_leaves d s b w cart c).reads.count - length (earlier_of b)

  pub closed_left : (d : Drive) (s : State) (b : Start g last s) (w : recordings.World) (cart : Cartridge last d.tape) (c : Closed g last d s b w) → Left g last w.drive.tape (earlier_of b) w.notes (closed_count d s b w cart c)
  closed_left d s b w cart c =
      let l = closed_leaves d s b w cart c in
      record {
        read = read_count (earlier_of b) w l;
        readable = subst (λ (ys : List Element). Readable g last w.drive.tape ys) (read_behind (earlier_of b) w l) (readable g last s.copies.header.pass (length (earlier_of b)) w.drive.tape (promised (noted (earlier_of b) true w).notes) (earlier_of b ++ w.notes.accepted) seg trk e l);
        end_at = l.headers.end_at;
        whole = λ h n. left_whole l h n ∙ ap (λ (ys : List Element). finished ys l.headers.end_at) (read_behind (earlier_of b) w l);
      }

  -- its reading delivered what the chain before holds
  pub earlier_is : (t : Tape) (xs : List Element) (ns : List recordings.Notes) (held : Held g last t xs ns) (s : State) (b : Start g last s) → way_of b ≡ adding → OnItsNewest b t → AsItStands b t → earlier_of b ≡ held.reads.elements
  earlier_is t xs ns held s (fresh depth blocks tail o op) is on same = never (cc)
  earlier_is t xs ns held s (added depth blocks tail u h r read op) is on same =
      let told = (header_of h) in
      let x = added_ended g last seg trk e s depth blocks tail u h r read op in
      finished_list (sym x.ended.whole ∙ fold_users told u t (subst (λ (n : ℕ). SameFrames n u t) (sym (valid_last last h on.here.valid)) same) ((header_of h).last.0 + 1) ∙ held.whole h on)

  -- the frames read are those that the session before left
  pub as_left : (t v : Tape) (s : State) (b : Start g last s) → SameFrames last t v → AsItStands b v → AsItStands b t
  as_left t v s (fresh depth blocks tail o op) same stands = tt
  as_left t v s (added depth blocks tail u h r read op) same stands = λ a user. stands a user ∙ sym (same a user)

  chain_held : {begun : Way} {t : Tape} {xs : List Element} {ns : List recordings.Notes} → Chain g last begun t xs ns → Held g last t xs ns
  chain_held (first d s b w cart is c) = held_behind g last w.drive.tape (earlier_of b) [] (earlier_of b) w.notes _ none (nothing_whole (earlier_of b)) (closed_left d s b w cart c)
  chain_held (more t xs ns before d s b w cart is same on c) =
      let h = chain_held before in
      held_behind g last w.drive.tape xs ns h.reads.elements w.notes _ h.reads.together h.reads.whole
      (subst (λ (ys : List Element). Left g last w.drive.tape ys w.notes (closed_count d s b w cart c)) (earlier_is t xs ns h s b is on (as_left t d.tape s b same c.as_it_stands)) (closed_left d s b w cart c))

  -- without a tail nothing is given up in it
  ungiven : (d : Drive) (s : State) (b : Start g last s) (w : recordings.World) → Cartridge last d.tape → Closed g last d s b w → s.setup.tail ≡ 0 → w.notes.given_up ≡ 0
  ungiven d s b w cart c untailed = ((continued g last d s b w recorded).untailed untailed).ungiven
    where
      recorded : HasRecorded g last d s w
      recorded = record { sized = record { segtrk = seg; trks = trk; is_last = e }; cartridge = cart; unwritten = c.unwritten; rests = c.rests; window = c.window; calls = c.calls; runs = c.runs }

  none_given : {begun : Way} {t : Tape} {xs : List Element} {ns : List recordings.Notes} (c : Chain g last begun t xs ns) → WithoutTails c → NoneGiven ns
  unfolding WithoutTails
  none_given (first d s b w cart is c) tailless = none_given_more [] w.notes nothing_given (ungiven d s b w cart c tailless)
  none_given (more t xs ns before d s b w cart is same on c) tailless = none_given_more ns w.notes (none_given before tailless.0) (ungiven d s b w cart c tailless.1)

pub chains : Chains
unfolding Chains
chains g last begun t xs ns sized c =
    let seg = sized.segtrk in
    let trk = sized.trks in
    let e = sized.is_last in
    ((chain_held g last seg trk e c).reads, none_given g last seg trk e c)

-- ---- and a session behind it

pub earlier_first : EarlierFirst
unfolding EarlierFirst
earlier_first g last begun t xs ns s b sized c is on same =
    let seg = sized.segtrk in
    let trk = sized.trks in
    let e = sized.is_last in
    let h = chain_held g last seg trk e c in
    let q = sym (earlier_is g last seg trk e t xs ns h s b is on same) in
    (subst (Together xs ns) q h.reads.together, λ none. sym q ∙ h.reads.whole none)
