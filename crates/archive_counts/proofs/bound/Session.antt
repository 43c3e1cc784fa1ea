-- A session's own counts tell how many frames the drive can have taken from it. Nothing here looks at the tape. Assumes nothing.
use Prim.Native.Nat.{ℕ, ◌+◌, ◌*◌, ◌%◌, ◌^◌, ◌≤◌, ◌<◌}
use mathlib.Core.Path.{◌≡◌, refl, sym, subst}
use mathlib.Core.Bool.{Bool, true, false, not, true≢false}
use mathlib.Core.Logic.{◌⊎◌, inl, ⊎_elim}
use native.Mathlib.Nat.{mod-eq_of_lt}
use native.Mathlib.Omega.{arith}
use borrow.Author.Tests.{ltb-false}
use lib.Dec.{eqb, ltb}
use Rattle.geometry.proofs.Impossible.{never, clash}
use Rattle.geometry.proofs.PickLaws.{pick_by}
use Rattle.geometry.proofs.TestLaws.{and_true}
use Rattle.frame_bounds.specs.Bounds.{smaller, copies_again, frames_at_most, header_frames_at_most}
use Rattle.drive.specs.Command.{command_code}
use Rattle.drive.specs.declared.command.Command.{Command}
use Rattle.elements.specs.Elements as elements
use Rattle.recording_state.specs.State.{is_spending, ended_of, given_up_of, closed_of, closing_header, closing_started, eod_due, settled_by, settled_of}
use Rattle.recording_state.specs.Accept.{is_full, is_spent, with_element}
use Rattle.recording_state.specs.Fetch.{awaits}
use Rattle.recording_state.specs.Reply.{repeated_of}
use Rattle.recording_state.specs.declared.state.Setup.{Setup}
use Rattle.recording_state.specs.declared.state.State.{State}
use Rattle.recording_state.specs.declared.state.Stage.{Stage}
use Rattle.recording_state.specs.declared.state.Stage.TheVariants as S
use Rattle.recording_state.proofs.Stages.{HeaderStage, ElementStage}
use Rattle.archive_counts.proofs.Between.{Between}
use Rattle.archive_counts.proofs.Tallies.{Tally}
use Rattle.archive_counts.proofs.bound.ElementCounts as element
use Rattle.archive_counts.proofs.bound.HeaderCounts as header

-- D and W, as the session was opened
pub record Sizes (D W : ℕ) (setup : Setup) : Type 0 where
  pub depth_is : setup.depth ≡ D
  pub width_is : setup.highest + 1 ≡ W
  pub deep : 1 ≤ D
  pub narrow : W ≤ 64

-- a WRITE goes out, or out again, only where something is due and the drive has room
pub record Room (D : ℕ) (s : State) : Type 0 where
  pub elements : ElementStage s → element.Room D s.elements
  pub headers : HeaderStage s → header.Room D s.copies

pub record Fit (D W n : ℕ) (t : Tally) (s : State) : Type 0 where
  pub sizes : Sizes D W s.setup
  pub elements : element.Counts D W n t.taken (t.errors * smaller D W) s.elements
  pub headers : header.Counts D t.headers (t.header_errors * copies_again D) s.stage s.copies
  -- EOD is due after close alone, and a spent session has not come to it
  pub closed : s.elements.eod ≡ true → s.closed ≡ true
  pub spare : is_spent s ≡ true → s.elements.eod ≡ false
  pub once : s.exchange.awaiting ≡ true → s.exchange.again ≡ false
  pub asked : s.ended ≡ false → command_code s.exchange.command ≡ 0x0A → (s.exchange.awaiting ≡ true) ⊎ (s.exchange.again ≡ true) → Room D s

-- the bound itself
pub fit_bound : {D W n : ℕ} {t : Tally} (s : State) → Fit D W n t s
    → (t.taken ≤ frames_at_most n t.errors D W) × (t.headers ≤ header_frames_at_most t.header_errors D)
fit_bound s f = (element.counts_bound s.elements f.elements, header.counts_bound s.stage s.copies f.headers)

-- ---- no command is asked

pub unspent : {X : Type 0} (s : State) → s.ended ≡ false → is_spent s ≡ true → X
unspent s going is = clash (and_true s.ended s.spent is).0 going

pub quiet_fit : {D W n : ℕ} {t : Tally} (s : State) → Sizes D W s.setup → element.Counts D W n t.taken (t.errors * smaller D W) s.elements
    → header.Counts D t.headers (t.header_errors * copies_again D) s.stage s.copies → (s.elements.eod ≡ true → s.closed ≡ true) → Between s.ended s.exchange → Fit D W n t s
quiet_fit s sizes e h closed q = record {
  sizes = sizes;
  elements = e;
  headers = h;
  closed = closed;
  spare = λ is. unspent s q.going is;
  once = λ is. clash is q.free;
  asked = λ _ _ a. ⊎_elim (λ is. clash is q.free) (λ is. clash is q.told) a;
}

-- ---- the session has ended

spent_eod : (s : State) (k : ℕ) → is_spending s k ≡ true → s.elements.eod ≡ false
spent_eod s k is = go s.elements.eod (and_true (ltb 0 s.setup.tail) (not s.elements.eod) (and_true (eqb k 9) _ is).1).1
  where
    go : (b : Bool) → not b ≡ true → b ≡ false
    go true e = absurd (true≢false (sym e))
    go false e = refl

pub ended_fit : {D W n : ℕ} {t : Tally} (s : State) (k : ℕ) → Sizes D W s.setup → element.Counts D W n t.taken (t.errors * smaller D W) s.elements
    → header.Counts D t.headers (t.header_errors * copies_again D) s.stage s.copies → (s.elements.eod ≡ true → s.closed ≡ true)
    → (s.exchange.awaiting ≡ true → s.exchange.again ≡ false) → Fit D W n t (ended_of s k)
ended_fit s k sizes e h closed once = record {
  sizes = sizes;
  elements = e;
  headers = h;
  closed = closed;
  spare = λ is. spent_eod s k (and_true true (is_spending s k) is).1;
  once = once;
  asked = λ g _ _. absurd (true≢false g);
}

-- ---- what the calls make of a session

module _ {D W n : ℕ} {t : Tally} (s : State) (f : Fit D W n t s) where
  some : 1 ≤ W
  some = let w = f.sizes.width_is in omega arith

  pub fit_accepted : (mark : Bool) → is_full s ≡ false → Fit D W (n + 1) t (with_element s mark)
  fit_accepted mark room =
      let below : s.elements.queue.pending < W = omega (arith, ltb-false s.setup.highest s.elements.queue.pending room, f.sizes.width_is) in
      let small : (s.elements.queue.pending + 1) % 2 ^ 16 ≡ s.elements.queue.pending + 1 = mod-eq_of_lt (omega (arith, f.sizes.narrow)) in
      record {
        sizes = f.sizes;
        elements = element.counts_accepted s.elements f.elements mark below f.sizes.narrow;
        headers = f.headers;
        closed = f.closed;
        spare = f.spare;
        once = f.once;
        asked = λ g c a.
            let r = f.asked g c a in
            record { elements = λ st. let e = r.elements st in record { due = omega (arith, small, e.due); space = e.space }; headers = r.headers };
      }

  pub fit_closed : Fit D W n t (closed_of s)
  fit_closed = record {
    sizes = f.sizes;
    elements = f.elements;
    headers = f.headers;
    closed = λ _. refl;
    spare = f.spare;
    once = f.once;
    asked = λ g c a. let r = f.asked g c a in record { elements = r.elements; headers = r.headers };
  }

  pub fit_ended : (k : ℕ) → Fit D W n t (ended_of s k)
  fit_ended k = ended_fit s k f.sizes f.elements f.headers f.closed f.once

  -- what is not on tape is given up: none of it is counted any more
  pub fit_given_up : is_spent s ≡ true → Fit D W n t (given_up_of s)
  fit_given_up is =
      let not = f.spare is in
      quiet_fit (given_up_of s) f.sizes
      (element.counts_eod (elements.dropped_of s.elements) (element.counts_dropped s.elements f.elements not) refl not some) f.headers (λ _. refl)
      (record { going = refl; free = refl; told = refl })

  pub fit_sent : (c : Command) → (command_code c ≡ 0x0A → Room D s) → Fit D W n t (awaits s c)
  fit_sent c room = record {
    sizes = f.sizes;
    elements = f.elements;
    headers = f.headers;
    closed = f.closed;
    spare = f.spare;
    once = λ _. refl;
    asked = λ _ k _. let r = room k in record { elements = r.elements; headers = r.headers };
  }

  -- busy: the same command again
  pub fit_repeated : s.exchange.awaiting ≡ true → Fit D W n t (repeated_of s)
  fit_repeated waiting = record {
    sizes = f.sizes;
    elements = f.elements;
    headers = f.headers;
    closed = f.closed;
    spare = f.spare;
    once = λ e. absurd (true≢false (sym e));
    asked = λ g k _. let r = f.asked g k (inl waiting) in record { elements = r.elements; headers = r.headers };
  }

  -- ---- every element that was due is on tape

  -- EOD becomes due: then nothing was, so no WRITE was asked
  pub fit_eod : ElementStage s → s.ended ≡ false → s.elements.queue.pending ≡ 0 → s.elements.eod ≡ false → s.closed ≡ true → Fit D W n t (eod_due s)
  fit_eod st going none not is = record {
    sizes = f.sizes;
    elements = element.counts_eod s.elements f.elements none not some;
    headers = f.headers;
    closed = λ _. is;
    spare = λ e. unspent s going e;
    once = f.once;
    asked = λ g k a. let z = ((f.asked g k a).elements st).due in absurd (omega arith);
  }

  -- the closing headers start
  fit_closing : ElementStage s → s.ended ≡ false → Fit D W n t (closing_started s)
  fit_closing st going = record {
    sizes = f.sizes;
    elements = f.elements;
    headers = header.counts_closing (closing_header s) (subst (λ (k : Stage). header.Counts D t.headers (t.header_errors * copies_again D) k s.copies) st f.headers);
    closed = f.closed;
    spare = λ e. unspent s going e;
    once = f.once;
    asked = λ _ _ _. record { elements = λ e. never (cc); headers = λ _. record { due = omega arith; space = f.sizes.deep } };
  }

  settled_by_fit : s.ended ≡ false → s.elements.queue.pending ≡ 0 → (k : Stage) → s.stage ≡ k → Fit D W n t (settled_by k s)
  settled_by_fit going none S.OpeningHeaders st = f
  settled_by_fit going none S.Elements st =
      pick_by (Fit D W n t) s.elements.eod (λ _. fit_closing st going) (λ not. pick_by (Fit D W n t) s.closed (λ is. fit_eod st going none not is) (λ _. f))
  settled_by_fit going none S.ClosingHeaders st = f
  settled_by_fit going none S.Done st = f

  pub fit_settled : s.ended ≡ false → Fit D W n t (settled_of s)
  unfolding settled_of
  fit_settled going =
      pick_by (Fit D W n t) (ltb 0 s.elements.queue.pending) (λ _. f)
      (λ e. settled_by_fit going (let z = ltb-false 0 s.elements.queue.pending e in omega arith) s.stage refl)
