-- The frame that a fetch builds stands for the element that is due. Assumes nothing.
use Prim.Native.Nat.{ℕ, ◌+◌, ◌%◌, ◌^◌, ◌≤◌, ◌<◌}
use mathlib.Core.Path.{◌≡◌, refl, sym, ap, subst, ◌∙◌}
use mathlib.Core.Bool.{Bool, true, false}
use mathlib.Core.List.{List}
use native.Mathlib.Nat.{mod-eq_of_lt}
use native.Mathlib.Omega.{arith}
use lib.Dec.{lit<}
use lib.ListN.{length, get_or, take}
use Rattle.geometry.specs.Pick.{pick}
use Rattle.geometry.proofs.PickLaws.{pick_t, pick_f}
use Rattle.frame.specs.Frame.{data_bytes}
use Rattle.frame.specs.declared.element.Kind.{Kind}
use Rattle.frame.specs.declared.element.Kind.TheVariants.{Data, Marker}
use Rattle.judgement.proofs.Facts.{FoundAs}
use Rattle.elements.specs.Elements.{kind_of}
use Rattle.elements.specs.Queue.{number_of, is_mark}
use Rattle.elements.specs.Trail.{trail_before}
use Rattle.recording_state.specs.State.{blocks_of, window_length}
use Rattle.recording_state.specs.Window.{block_at}
use Rattle.recording_state.specs.Written.{element_place, written_element, among_elements, written_frame}
use Rattle.recording_state.specs.declared.state.State.{State}
use Rattle.recording_state.specs.declared.state.Stage.TheVariants as S
use Rattle.archive_lists.specs.Recordings.{Element, block, filemark}
use Rattle.archive_lists.specs.Filemarks.{Item, element, eod, item_at, kind_for, latest_among, NamesLatest}
use Rattle.archive_lists.proofs.tape.Basics.{reads_itself}
use Rattle.archive_lists.proofs.tape.Marks.{is_filemark, kind_marker, kind_data, filemarks_few, latest_low}
use Rattle.archive_lists.proofs.recording.Trailing.{Traces, Says}
use Rattle.archive_lists.proofs.tape.WrittenFrames.{written_found, written_data, written_filemarks, written_marker}
use Rattle.archive_lists.proofs.tape.Stands.{Carries, telling, Stands, StoredAs}
use Rattle.archive_lists.proofs.tape.StandsLaws.{item_in, item_past}

module _ (last pass : ℕ) (s : State) (window : List ℕ) (xs : List Element) (last_is : s.copies.header.last.0 ≡ last) (pass_is : s.copies.header.pass ≡ pass) (low : pass ≤ 65534)
    (long : length window ≡ window_length s) (small : s.elements.queue.first.0 + s.elements.queue.outstanding < 2 ^ 32) where
  exact : (number_of s.elements.queue s.elements.queue.outstanding).0 ≡ s.elements.queue.first.0 + s.elements.queue.outstanding
  exact = mod-eq_of_lt small

  found : FoundAs (telling last pass 0) (record { 0 = s.elements.queue.first.0 + s.elements.queue.outstanding }) (kind_of s.elements) (written_element s window)
  found =
      subst (λ (n : ℕ). FoundAs (telling last pass 0) (record { 0 = n }) (kind_of s.elements) (written_element s window)) exact
      (subst (λ (n : ℕ). FoundAs (telling last n 0) (number_of s.elements.queue s.elements.queue.outstanding) (kind_of s.elements) (written_element s window)) pass_is
      (subst (λ (n : ℕ). FoundAs (telling n s.copies.header.pass 0) (number_of s.elements.queue s.elements.queue.outstanding) (kind_of s.elements) (written_element s window)) last_is
      (written_found s window long (omega (arith, pass_is)) (reads_itself (written_element s window)))))

  place_is : element_place s ≡ (s.elements.queue.first.0 + s.elements.queue.outstanding) % blocks_of s
  place_is = ap (λ (n : ℕ). n % blocks_of s) exact

  data_is : {k : Kind} → kind_of s.elements ≡ k → take 32768 (written_element s window) ≡ data_bytes k (block_at window ((s.elements.queue.first.0 + s.elements.queue.outstanding) % blocks_of s))
  data_is {k} e = written_data s window long ∙ ap (λ (x : Kind). data_bytes x (block_at window (element_place s))) e ∙ ap (λ (n : ℕ). data_bytes k (block_at window n)) place_is

  stands_as : (x : Item) → kind_of s.elements ≡ kind_for x → Carries x (written_element s window) → Stands last pass x (s.elements.queue.first.0 + s.elements.queue.outstanding) (written_element s window)
  stands_as x kind carries = record { found = subst (λ (k : Kind). FoundAs (telling last pass 0) (record { 0 = s.elements.queue.first.0 + s.elements.queue.outstanding }) k (written_element s window)) kind found; carries = carries }

  -- an element, as the window and the marks have it
  element_stands : (x : Element) → s.elements.eod ≡ false → StoredAs (element x) window s.elements.queue.marks (blocks_of s) (s.elements.queue.first.0 + s.elements.queue.outstanding)
      → Stands last pass (element x) (s.elements.queue.first.0 + s.elements.queue.outstanding) (written_element s window)
  element_stands (block b) v stored =
      let kind : kind_of s.elements ≡ Data = pick_f _ v ∙ ap (λ (m : Bool). pick m Marker Data) stored.1 in
      stands_as (element (block b)) kind (data_is kind ∙ stored.0)
  element_stands filemark v stored =
      let kind : kind_of s.elements ≡ Marker = pick_f _ v ∙ ap (λ (m : Bool). pick m Marker Data) stored in
      stands_as (element filemark) kind tt

  eod_stands : s.elements.eod ≡ true → Stands last pass eod (s.elements.queue.first.0 + s.elements.queue.outstanding) (written_element s window)
  eod_stands v = stands_as eod (pick_t _ v) tt

  written_is : s.stage ≡ S.Elements → written_frame s window ≡ written_element s window
  unfolding written_frame
  written_is st = pick_t _ (ap among_elements st)

  pub sent_element : s.stage ≡ S.Elements → s.elements.eod ≡ false → s.elements.queue.first.0 + s.elements.queue.outstanding < length xs
      → StoredAs (item_at xs (s.elements.queue.first.0 + s.elements.queue.outstanding)) window s.elements.queue.marks (blocks_of s) (s.elements.queue.first.0 + s.elements.queue.outstanding)
      → Stands last pass (item_at xs (s.elements.queue.first.0 + s.elements.queue.outstanding)) (s.elements.queue.first.0 + s.elements.queue.outstanding) (written_frame s window)
  sent_element st v inside stored =
      let n = s.elements.queue.first.0 + s.elements.queue.outstanding in
      let is = item_in xs n inside in
      subst (λ (f : List ℕ). Stands last pass (item_at xs n) n f) (sym (written_is st))
      (subst (λ (x : Item). Stands last pass x n (written_element s window)) (sym is)
      (element_stands (get_or xs n filemark) v (subst (λ (x : Item). StoredAs x window s.elements.queue.marks (blocks_of s) n) is stored)))

  pub sent_eod : s.stage ≡ S.Elements → s.elements.eod ≡ true → s.elements.queue.first.0 + s.elements.queue.outstanding ≡ length xs
      → Stands last pass (item_at xs (s.elements.queue.first.0 + s.elements.queue.outstanding)) (s.elements.queue.first.0 + s.elements.queue.outstanding) (written_frame s window)
  sent_eod st v all =
      let n = s.elements.queue.first.0 + s.elements.queue.outstanding in
      subst (λ (f : List ℕ). Stands last pass (item_at xs n) n f) (sym (written_is st))
      (subst (λ (x : Item). Stands last pass x n (written_element s window)) (sym (item_past xs n (omega (arith, all)))) (eod_stands v))

  -- ---- what it says of the filemarks before it, whatever the window holds

  pub kind_element : s.elements.eod ≡ false → s.elements.queue.first.0 + s.elements.queue.outstanding < length xs → is_mark s.elements.queue ≡ is_filemark xs (s.elements.queue.first.0 + s.elements.queue.outstanding)
      → kind_of s.elements ≡ kind_for (item_at xs (s.elements.queue.first.0 + s.elements.queue.outstanding))
  kind_element v inside mark = pick_f _ v ∙ ap (λ (m : Bool). pick m Marker Data) mark ∙ go (is_filemark xs (s.elements.queue.first.0 + s.elements.queue.outstanding)) refl
    where
      go : (b : Bool) → is_filemark xs (s.elements.queue.first.0 + s.elements.queue.outstanding) ≡ b → pick b Marker Data ≡ kind_for (item_at xs (s.elements.queue.first.0 + s.elements.queue.outstanding))
      go true e = sym (kind_marker xs (s.elements.queue.first.0 + s.elements.queue.outstanding) e)
      go false e = sym (kind_data xs (s.elements.queue.first.0 + s.elements.queue.outstanding) inside e)

  pub kind_eod : s.elements.eod ≡ true → s.elements.queue.first.0 + s.elements.queue.outstanding ≡ length xs → kind_of s.elements ≡ kind_for (item_at xs (s.elements.queue.first.0 + s.elements.queue.outstanding))
  kind_eod v all = pick_t _ v ∙ sym (ap (λ (x : Item). kind_for x) (item_past xs (s.elements.queue.first.0 + s.elements.queue.outstanding) (omega (arith, all))))

  pub sent_says : (P : ℕ → ℕ → Type 0) → s.stage ≡ S.Elements → kind_of s.elements ≡ kind_for (item_at xs (s.elements.queue.first.0 + s.elements.queue.outstanding))
      → ((j a : ℕ) → j < s.elements.queue.first.0 + s.elements.queue.outstanding → P j a → a < 2 ^ 32) → Traces xs P (s.elements.queue.first.0 + s.elements.queue.outstanding) (trail_before s.elements)
      → Says last pass xs P (s.elements.queue.first.0 + s.elements.queue.outstanding) (written_frame s window)
  sent_says P st kind bound x =
      let n = s.elements.queue.first.0 + s.elements.queue.outstanding in
      let few = filemarks_few xs n in
      let counts = x.counts in
      subst (Says last pass xs P n) (sym (written_is st)) (record {
        found = subst (λ (k : Kind). FoundAs (telling last pass 0) (record { 0 = n }) k (written_element s window)) kind found;
        counts = written_filemarks s window long (omega arith) ∙ counts;
        names =
            let y = x.names in
            subst (λ (name : ℕ). NamesLatest (latest_among xs n) P name) (sym (written_marker s window long (latest_low xs n P (trail_before s.elements).marker.0 (2 ^ 32) (lit< tt) (λ j l _ p. bound j (trail_before s.elements).marker.0 l p) y))) y;
      })
