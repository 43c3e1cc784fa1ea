-- The tape that the header copies of a sample recording leave, and the frames of its elements. Assumes nothing.
use Prim.Native.Nat.{ℕ, zero, suc, ◌+◌, ◌^◌, ◌≤◌, ◌<◌}
use mathlib.Core.Path.{◌≡◌, refl, sym, ap, subst, ◌∙◌}
use mathlib.Core.Bool.{true, false, true≢false}
use mathlib.Core.List.{List, ◌∷◌}
use mathlib.Core.Logic.{◌⊎◌, inl, inr}
use mathlib.Core.Option.{Option, none, some}
use native.Mathlib.Decide.{ℕ_discrete}
use native.Mathlib.Nat.{le_refl}
use native.Mathlib.Omega.{arith}
use lib.ListN.{length, drop, replicate}
use Rattle.geometry.specs.Place.{as_address}
use Rattle.geometry.specs.Cartridge.{is_header}
use Rattle.geometry.proofs.UserFrames.{ranges, User, user_ranges}
use Rattle.buffer.specs.Bytes.{get16}
use Rattle.frame.specs.Aux.{element_aux}
use Rattle.frame.specs.Frame.{element_frame, element_fits}
use Rattle.frame.specs.Header.{header_frame}
use Rattle.frame.specs.declared.element.Element.{Element}
use Rattle.frame.specs.declared.header.Header.{Header}
use Rattle.frame.proofs.AuxFields.{aux_pass}
use Rattle.frame.proofs.Frames.{element_aux_lem, element_length, header_length}
use Rattle.header.specs.Valid.{valid_header, update_of}
use Rattle.archive_lists.specs.Conduct.{Drive}
use Rattle.archive_lists.specs.Tape.{Tape, put, Cartridge}
use Rattle.archive_lists.specs.Headers.{Newest, NoHeader}
use Rattle.archive_lists.specs.Openings.{NoneBears}
use Rattle.archive_lists.proofs.tape.Basics.{none_some, some_same}
use Rattle.archive_lists.proofs.tape.FoldLaws.{put_same, put_other}
use Rattle.archive_lists.proofs.tape.SeenLaws.{cartridge_put}
use Rattle.archive_samples.proofs.Flush.{flushed}
use Rattle.archive_samples.proofs.Headers.{group_written, headers_written, last_copy_failed}

-- ---- n frames f from an address on

module _ (f : List ℕ) where
  abbrev run : Tape → ℕ → List ℕ → ℕ → Tape
  run t at written n = (flushed t at written (replicate n f)).tape

  run_elsewhere : (n : ℕ) (t : Tape) (at : ℕ) (written : List ℕ) (a : ℕ) → (a < at) ⊎ (at + n ≤ a) → run t at written n a ≡ t a
  run_elsewhere zero t at written a outside = refl
  run_elsewhere (suc n) t at written a (inl low) =
      run_elsewhere n (put t at (some f)) (at + 1) (at ∷ written) a (inl (omega arith)) ∙ put_other t at (some f) a (λ e. omega arith)
  run_elsewhere (suc n) t at written a (inr high) =
      run_elsewhere n (put t at (some f)) (at + 1) (at ∷ written) a (inr (omega arith)) ∙ put_other t at (some f) a (λ e. omega arith)

  run_reads : (n : ℕ) (t : Tape) (at : ℕ) (written : List ℕ) (a : ℕ) → at ≤ a → a < at + n → run t at written n a ≡ some f
  run_reads zero t at written a low high = absurd (omega arith)
  run_reads (suc n) t at written a low high = go (ℕ_discrete a at) (λ differ. run_reads n (put t at (some f)) (at + 1) (at ∷ written) a (omega (arith, differ)) (omega arith))
    where
      go : Dec (a ≡ at) → ((a ≡ at → ⊥) → run t at written (suc n) a ≡ some f) → run t at written (suc n) a ≡ some f
      go (yes e) later =
          run_elsewhere n (put t at (some f)) (at + 1) (at ∷ written) a (inl (omega arith))
          ∙ ap (put t at (some f)) e ∙ put_same t at (some f)
      go (no differ) later = later differ

  run_cartridge : (last n : ℕ) (t : Tape) (at : ℕ) (written : List ℕ) → length f ≡ 33280 → at + n ≤ last + 1 → Cartridge last t → Cartridge last (run t at written n)
  run_cartridge last zero t at written long low c = c
  run_cartridge last (suc n) t at written long low c =
      run_cartridge last n (put t at (some f)) (at + 1) (at ∷ written) long (omega arith)
      (cartridge_put last t at (some f) (omega arith) (λ g e. ap length (sym (some_same e)) ∙ long) c)

-- ---- the header copies

module _ (h : Header) (d : Drive) where
  abbrev first_group : Drive
  first_group = group_written h 0 d

  -- a copy at each address of the groups
  headers_read : (a : ℕ) → is_header a ≡ true → (headers_written h d).tape a ≡ some (header_frame h)
  headers_read a group = go (ranges 5 9 2990 2994 a group)
    where
      go : ((5 ≤ a) × (a ≤ 9)) ⊎ ((2990 ≤ a) × (a ≤ 2994)) → (headers_written h d).tape a ≡ some (header_frame h)
      go (inl r) =
          run_elsewhere (header_frame h) 5 first_group.tape 2990 first_group.written a (inl (omega (arith, r.1)))
          ∙ run_reads (header_frame h) 5 d.tape 5 d.written a r.0 (omega (arith, r.1))
      go (inr r) = run_reads (header_frame h) 5 first_group.tape 2990 first_group.written a r.0 (omega (arith, r.1))

  -- nothing else has changed
  pub headers_elsewhere : (a : ℕ) → ((10 ≤ a) × (a ≤ 2989)) ⊎ (2995 ≤ a) → (headers_written h d).tape a ≡ d.tape a
  headers_elsewhere a (inl r) =
      run_elsewhere (header_frame h) 5 first_group.tape 2990 first_group.written a (inl (omega (arith, r.1)))
      ∙ run_elsewhere (header_frame h) 5 d.tape 5 d.written a (inr (omega (arith, r.0)))
  headers_elsewhere a (inr r) =
      run_elsewhere (header_frame h) 5 first_group.tape 2990 first_group.written a (inr (omega arith))
      ∙ run_elsewhere (header_frame h) 5 d.tape 5 d.written a (inr (omega arith))

  pub headers_cartridge : (last : ℕ) → 2994 ≤ last → Cartridge last d.tape → Cartridge last (headers_written h d).tape
  headers_cartridge last large c =
      run_cartridge (header_frame h) last 5 first_group.tape 2990 first_group.written (header_length h) (omega arith)
      (run_cartridge (header_frame h) last 5 d.tape 5 d.written (header_length h) (omega arith) c)

  -- the copies are newest headers, the one at 5 for instance
  pub headers_newest : (last : ℕ) → valid_header (as_address last) (header_frame h) ≡ true → Newest last (headers_written h d).tape (header_frame h)
  headers_newest last valid = record {
    address = 5;
    here = record { group = refl; reads = headers_read 5 refl; valid = valid };
    highest = λ a other at.
        let e : header_frame h ≡ other = some_same (sym (headers_read a at.group) ∙ at.reads) in
        subst (λ (f : List ℕ). update_of f ≤ update_of (header_frame h)) e (le_refl (update_of (header_frame h)));
  }

  pub headers_bear_none : (last pass : ℕ) → NoneBears last d.tape pass → NoneBears last (headers_written h d).tape pass
  headers_bear_none last pass clean a f user reads = clean a f user (sym (headers_elsewhere a (outside (user_ranges last a user))) ∙ reads)
    where
      outside : User last a → ((10 ≤ a) × (a ≤ 2989)) ⊎ (2995 ≤ a)
      outside (inl r) = inl r
      outside (inr r) = inr (omega (arith, r.0))

-- ---- the frames of elements and EOD

abbrev pub empty : Tape
empty = λ a. none

pub empty_cartridge : (last : ℕ) → Cartridge last empty
empty_cartridge last = record { long = λ a f e. none_some e; bounded = λ a h. refl }

pub empty_bears_none : (last pass : ℕ) → NoneBears last empty pass
empty_bears_none last pass a f user reads bears = none_some reads

-- one frame, and no header
pub frame_on_none : (last a : ℕ) (v : Option (List ℕ)) → is_header a ≡ false → NoHeader last (put empty a v)
frame_on_none last a v off b h there =
    none_some (sym (put_other empty a v b (λ e. true≢false (sym there.group ∙ ap is_header e ∙ off))) ∙ there.reads)

module _ (e : Element) (block : List ℕ) (fits : element_fits e.kind 33280 (length block) ≡ true) (t : Tape) (a : ℕ) where
  pub frame_cartridge : (last : ℕ) → a ≤ last → Cartridge last t → Cartridge last (put t a (some (element_frame e block)))
  frame_cartridge last low c = cartridge_put last t a (some (element_frame e block)) low (λ f same. ap length (sym (some_same same)) ∙ element_length e block fits) c

  -- over frames of another pass
  pub frame_bears_none : (last pass : ℕ) → e.pass < 2 ^ 16 → (e.pass ≡ pass → ⊥) → NoneBears last t pass → NoneBears last (put t a (some (element_frame e block))) pass
  frame_bears_none last pass small differ clean b f user reads bears = go (ℕ_discrete b a)
    where
      own : get16 (drop 32768 (element_frame e block)) 22 ≡ e.pass
      own = ap (λ (x : List ℕ). get16 x 22) (element_aux_lem e block fits) ∙ aux_pass (element_aux e) small

      go : Dec (b ≡ a) → ⊥
      go (yes q) =
          let same : element_frame e block ≡ f = some_same (sym (put_same t a (some (element_frame e block))) ∙ ap (put t a (some (element_frame e block))) (sym q) ∙ reads) in
          differ (sym own ∙ ap (λ (x : List ℕ). get16 (drop 32768 x) 22) same ∙ bears)
      go (no other) = clean b f user (sym (put_other t a (some (element_frame e block)) b other) ∙ reads) bears

-- a failed address that reads as before
module _ (t : Tape) (a : ℕ) where
  pub same_reads : (b : ℕ) → put t a (t a) b ≡ t b
  same_reads b = go (ℕ_discrete b a)
    where
      go : Dec (b ≡ a) → put t a (t a) b ≡ t b
      go (yes e) = ap (put t a (t a)) e ∙ put_same t a (t a) ∙ ap t (sym e)
      go (no differ) = put_other t a (t a) b differ

  pub same_cartridge : (last : ℕ) → Cartridge last t → Cartridge last (put t a (t a))
  same_cartridge last c = record { long = λ b f e. c.long b f (sym (same_reads b) ∙ e); bounded = λ b h. same_reads b ∙ c.bounded b h }

  pub same_bears_none : (last pass : ℕ) → NoneBears last t pass → NoneBears last (put t a (t a)) pass
  same_bears_none last pass clean b f user reads = clean b f user (sym (same_reads b) ∙ reads)

-- the header copies, of which the last failed
module _ (h : Header) (d : Drive) where
  pub last_copy_elsewhere : (a : ℕ) → 10 ≤ a → a ≤ 2989 → (last_copy_failed h d).tape a ≡ d.tape a
  last_copy_elsewhere a low high =
      let g : Drive = group_written h 0 d in
      same_reads (run (header_frame h) g.tape 2990 g.written 4) 2994 a
      ∙ run_elsewhere (header_frame h) 4 g.tape 2990 g.written a (inl (omega arith))
      ∙ run_elsewhere (header_frame h) 5 d.tape 5 d.written a (inr (omega arith))
