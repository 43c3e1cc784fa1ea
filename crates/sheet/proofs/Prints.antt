-- The calls on a dump print its sheet. Assumes nothing.
use Rattle.std.proofs.Common.{◌≡◌, ℕ, zero, suc, ◌+◌, ◌-◌, ◌*◌, ◌/◌, ◌≤◌, Bool, true, false, ◌&&◌, eqb, ltb, leb, List, [], ◌∷◌, ◌++◌, length, take, drop, sym, refl, ap, ◌∙◌, subst, append_assoc, append-nil, arith, length-drop, length-take-le, ltb-false, ltb-true, le-ltb, lt-ltb, eq-eqb, le-leb, Option, Some, None}
use Rattle.std.proofs.Math.Dec.{leb-suc-suc}
use borrow.Author.Tests.{lt-leb}
use lib.Seq.{take-nil}
use Rattle.geometry.specs.Pick.{pick}
use Rattle.geometry.proofs.PickLaws.{pick_by}
use Rattle.sheet.specs.declared.sheet.Sheet.{Sheet}
use Rattle.frame.specs.declared.element.Kind.{Kind}
use Rattle.frame.specs.declared.element.Kind.TheVariants.{Data, Marker, Eod}
use Rattle.sheet.specs.Line.{line_of, heading, asterisks}
use Rattle.sheet.specs.Answer.{EnteredSaid, printing}
use Rattle.sheet.specs.Step.{field_entry, step_of}
use Rattle.sheet.specs.Calls.{new_sheet, open_of, enter_of, finish_of}
use Rattle.sheet.specs.Dump.{pieces, fields_of, entries_from, is_whole, Job, jobs_from, lines_from, sheet_of}
use Rattle.sheet.specs.Prints.{printed_by, enter_all, PrintsSheet}

abbrev sheet_at : ℕ → ℕ → ℕ → Bool → Sheet
sheet_at job first next ended = record { job = job; first = first; next = next; ended = ended }

-- the sheet from a job on, of which and of those behind it so many have a line
abbrev body : ℕ → ℕ → Bool → List Job → List ℕ
body job most whole jobs = lines_from job (take most jobs) ++ pick (whole && leb (length jobs) most) [] asterisks

no_jobs : (job most : ℕ) → body job most false [] ≡ asterisks
unfolding lines_from
no_jobs job most = rw (take-nil most)

all_jobs : (job most : ℕ) → body job most true [] ≡ []
unfolding lines_from
all_jobs job most = rw (take-nil most, le-leb 0 most (omega arith))

-- no job more has a line
full : (job : ℕ) (whole : Bool) (j : Job) (js : List Job) → body job 0 whole (j ∷ js) ≡ asterisks
unfolding lines_from
full job true j js = rw (lt-leb (suc (length js)) 0 (omega arith))
full job false j js = refl

-- a job's line, and the rest
one_line : (job most : ℕ) (whole : Bool) (j : Job) (js : List Job) → body job (suc most) whole (j ∷ js) ≡ line_of job j.first j.blocks ++ body (job + 1) most whole js
unfolding lines_from
one_line job most whole j js = rw (leb-suc-suc (length js) most) (append_assoc (line_of job j.first j.blocks) (lines_from (job + 1) (take most js)) _)

module _ (lines : ℕ → List ℕ) where
  -- what a call has printed, and the calls behind it
  abbrev go_on : ℕ → EnteredSaid → List (List ℕ) → List ℕ
  go_on k r fs = printed_by r ++ enter_all lines (k + 1) r.sheet fs

  -- an ended sheet prints nothing more
  module _ (job first next : ℕ) where
    abbrev over : Sheet
    over = sheet_at job first next true

    all_ended : (k : ℕ) (fs : List (List ℕ)) → enter_all lines k over fs ≡ []
    unfolding enter_all enter_of finish_of
    all_ended k [] = pick_by (λ (r : EnteredSaid). printed_by r ≡ []) (eqb (length (lines k)) 28) (λ _. refl) (λ _. refl)
    all_ended k (f ∷ fs) =
        pick_by (λ (r : EnteredSaid). go_on k r fs ≡ enter_all lines (k + 1) over fs) (eqb (length f) 512 && eqb (length (lines k)) 28) (λ _. refl) (λ _. refl)
        ∙ all_ended (k + 1) fs

  ended_prints : (k : ℕ) (s : Sheet) (fs : List (List ℕ)) → s.ended ≡ true → enter_all lines k s fs ≡ []
  ended_prints k s fs e =
      subst (λ (b : Bool). enter_all lines k (sheet_at s.job s.first s.next b) fs ≡ []) (sym e) (all_ended s.job s.first s.next k fs)

  module _ (long : (k : ℕ) → length (lines k) ≡ 28) where
    -- while it is not ended, a whole field is a step, and the end of the dump breaks it off
    module _ (job first next k : ℕ) where
      enter_whole : (f : List ℕ) → length f ≡ 512 → enter_of (sheet_at job first next false) f (lines k) ≡ step_of (sheet_at job first next false) (field_entry next f) (lines k)
      unfolding enter_of
      enter_whole f h = rw (eq-eqb _ 512 h, eq-eqb _ 28 (long k))

      finish_cut : printed_by (finish_of (sheet_at job first next false) (lines k)) ≡ asterisks
      unfolding finish_of
      finish_cut = rw (eq-eqb _ 28 (long k))

    -- the rest of the sheet, from an open job on
    abbrev Prints : List (List ℕ) → Type 0
    Prints fs =
        (k job most first next : ℕ) → job + most ≡ 100000 → first ≤ next
        → enter_all lines k (sheet_at job first next false) fs ≡ body job most (is_whole (entries_from next fs)) (jobs_from first (next - first) (entries_from next fs))

    module _ (fs : List (List ℕ)) (rest : Prints fs) (k job first next : ℕ) (low : first ≤ next) where
      abbrev entries : List (Option Kind)
      entries = entries_from (next + 1) fs

      abbrev At : ℕ → Option Kind → Type 0
      At most e =
          go_on k (step_of (sheet_at job first next false) e (lines k)) fs ≡ body job most (is_whole (e ∷ entries)) (jobs_from first (next - first) (e ∷ entries))

      abbrev this : Job
      this = record { first = first; blocks = next - first }

      broken : enter_all lines (k + 1) (sheet_at job first next true) fs ≡ []
      broken = all_ended job first next (k + 1) fs

      at_end : (most : ℕ) → job + most ≡ 100000 → (b : Bool) → ltb first next ≡ b → At most (Some Eod)
      unfolding step_of is_whole jobs_from
      at_end zero room true e =
          let h = ltb-true first next e in
          let some : ltb 0 (next - first) ≡ true = lt-ltb 0 (next - first) (omega arith) in
          let above : leb job 99999 ≡ false = lt-leb job 99999 (omega arith) in
          rw (e, above, some, broken) (append-nil asterisks ∙ sym (full job true this []))
      at_end (suc most) room true e =
          let h = ltb-true first next e in
          let some : ltb 0 (next - first) ≡ true = lt-ltb 0 (next - first) (omega arith) in
          let within : leb job 99999 ≡ true = le-leb job 99999 (omega arith) in
          rw (e, within, some, broken) (ap (λ (t : List ℕ). line_of job first (next - first) ++ t) (sym (all_jobs (job + 1) most)) ∙ sym (one_line job most true this []))
      at_end most room false e =
          let h = ltb-false first next e in
          let no_blocks : ltb 0 (next - first) ≡ false = le-ltb 0 (next - first) (omega arith) in
          rw (e, no_blocks, broken) (sym (all_jobs job most))

      turn : (most : ℕ) (e : Option Kind) → job + most ≡ 100000 → At most e
      unfolding step_of is_whole jobs_from
      turn most (Some Data) room =
          let more : next + 1 - first ≡ next - first + 1 = omega arith in
          rest (k + 1) job most first (next + 1) room (omega arith) ∙ rw more
      turn zero (Some Marker) room =
          let above : leb job 99999 ≡ false = lt-leb job 99999 (omega arith) in
          rw (above, broken) (append-nil asterisks ∙ sym (full job (is_whole entries) this (jobs_from (first + (next - first) + 1) 0 entries)))
      turn (suc most) (Some Marker) room =
          let within : leb job 99999 ≡ true = le-leb job 99999 (omega arith) in
          let begin : first + (next - first) + 1 ≡ next + 1 = omega arith in
          let none : next + 1 - (next + 1) ≡ 0 = omega arith in
          let behind : ℕ → ℕ → List ℕ = λ f b. body (job + 1) most (is_whole entries) (jobs_from f b entries) in
          let others : enter_all lines (k + 1) (sheet_at (job + 1) (next + 1) (next + 1) false) fs ≡ behind (first + (next - first) + 1) 0 =
          rest (k + 1) (job + 1) most (next + 1) (next + 1) (omega arith) (omega arith) ∙ ap (behind (next + 1)) none ∙ ap (λ (f : ℕ). behind f 0) (sym begin) in
          rw within
          (ap (λ (t : List ℕ). line_of job first (next - first) ++ t) others
          ∙ sym (one_line job most (is_whole entries) this (jobs_from (first + (next - first) + 1) 0 entries)))
      turn most (Some Eod) room = at_end most room (ltb first next) refl
      turn most None room = rw broken (append-nil asterisks ∙ sym (no_jobs job most))

    prints : (n : ℕ) (bytes : List ℕ) → n * 512 ≤ length bytes → Prints (pieces n bytes)
    unfolding enter_all entries_from is_whole jobs_from
    prints zero bytes h k job most first next room low = finish_cut job first next k ∙ sym (no_jobs job most)
    prints (suc n) bytes h k job most first next room low =
        let f = take 512 bytes in
        let fs = pieces n (drop 512 bytes) in
        ap (λ (r : EnteredSaid). go_on k r fs) (enter_whole job first next k f (length-take-le 512 bytes (omega arith)))
        ∙ turn fs (prints n (drop 512 bytes) (rw length-drop (omega arith))) k job first next low most (field_entry next f) room

    open_sheet : open_of (lines 0) ≡ printing new_sheet heading
    unfolding open_of
    open_sheet = rw (eq-eqb _ 28 (long 0))

    dump_prints : (dump : List ℕ) → go_on 0 (open_of (lines 0)) (fields_of dump) ≡ sheet_of dump
    unfolding fields_of sheet_of heading is_whole asterisks jobs_from
    dump_prints dump =
        ap (λ (r : EnteredSaid). go_on 0 r (fields_of dump)) open_sheet
        ∙ ap (λ (t : List ℕ). heading ++ t) (prints (length dump / 512) dump (omega arith) 1 1 99999 0 0 refl (omega arith))

pub prints_sheet : PrintsSheet
prints_sheet = record { prints = dump_prints; ended = ended_prints }
