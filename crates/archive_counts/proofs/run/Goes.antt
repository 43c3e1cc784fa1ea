-- Lists of a recording's calls that are made, not given: from a world there is one that ends as is wanted, with so many frames taken and so many
-- write errors met. Every law takes what is to follow as an argument and counts on top of it, so lists need not be joined. Assumes nothing.
use Prim.Native.Nat.{ℕ, ◌+◌}
use mathlib.Core.Path.{◌≡◌, refl, sym, ap, subst, ◌∙◌}
use mathlib.Core.List.{List, [], ◌∷◌}
use native.Mathlib.Omega.{arith}
use Rattle.drive.specs.Cases.{case_of}
use Rattle.drive.specs.declared.command.Command.{Command}
use Rattle.drive.specs.declared.reply.Reply.{Reply}
use Rattle.recording_state.specs.declared.state.Stage.{Stage}
use Rattle.recording_state.specs.declared.state.Stage.TheVariants as S
use Rattle.archive_lists.specs.Conduct.{Drive, Acts, Answers}
use Rattle.archive_lists.specs.Recordings as recordings
use Rattle.archive_lists.specs.Recordings.{World, Call, Calls, Runs, sent, answered, with_drive}
use Rattle.archive_counts.specs.Counts.{is_taken, is_failed, count_in}
use Rattle.archive_counts.proofs.Tallies.{Tally, tally_same, tally_of, adding, adding_none, one, answered_in, answer_counted_lem}

-- so many frames and so many write errors, of the kind that a stage writes, and what comes behind
pub data Account : Type 0 where
  nothing : Account
  counting : Stage → ℕ → ℕ → Account → Account

abbrev pub total_of : Account → Tally
total_of nothing = record { taken = 0; errors = 0; headers = 0; header_errors = 0 }
total_of (counting stage k e a) = adding stage k e (total_of a)

adding_twice : (stage : Stage) (i j k e f g : ℕ) (t : Tally) → i + j ≡ k → e + f ≡ g → adding stage i e (adding stage j f t) ≡ adding stage k g t
adding_twice S.OpeningHeaders i j k e f g t p q = tally_same refl refl (omega arith) (omega arith)
adding_twice S.Elements i j k e f g t p q = tally_same (omega arith) (omega arith) refl refl
adding_twice S.ClosingHeaders i j k e f g t p q = tally_same refl refl (omega arith) (omega arith)
adding_twice S.Done i j k e f g t p q = refl

-- ---- lists that go

pub record Goes (w : World) (a : Account) (P : World → Type 0) : Type 0 where
  pub calls : List Call
  pub end : World
  pub runs : Runs w calls end
  pub tally_is : tally_of runs ≡ total_of a
  pub holds : P end

pub goes_stop : {P : World → Type 0} (w : World) → P w → Goes w nothing P
unfolding count_in
goes_stop w h = record { calls = []; end = w; runs = recordings.stop; tally_is = refl; holds = h }

module _ {P : World → Type 0} {a : Account} {w : World} where
  -- the same total
  goes_as : {b : Account} → total_of a ≡ total_of b → Goes w a P → Goes w b P
  goes_as e g = record { calls = g.calls; end = g.end; runs = g.runs; tally_is = g.tally_is ∙ e; holds = g.holds }

module _ {P : World → Type 0} {stage : Stage} {a : Account} {w : World} where
  -- nothing more, or none at all
  pub goes_none : Goes w (counting stage 0 0 a) P → Goes w a P
  goes_none = goes_as (adding_none stage (total_of a))

  pub goes_nothing : Goes w a P → Goes w (counting stage 0 0 a) P
  goes_nothing = goes_as (sym (adding_none stage (total_of a)))

  -- the same numbers, and one after the other
  pub goes_same : {i k e g : ℕ} → i ≡ k → e ≡ g → Goes w (counting stage i e a) P → Goes w (counting stage k g a) P
  goes_same {i} {k} {e} {g} p q x = subst (λ (y : ℕ). Goes w (counting stage y g a) P) p (subst (λ (y : ℕ). Goes w (counting stage i y a) P) q x)

  pub goes_twice : {i j k e f g : ℕ} → i + j ≡ k → e + f ≡ g → Goes w (counting stage i e (counting stage j f a)) P → Goes w (counting stage k g a) P
  goes_twice {i} {j} {k} {e} {f} {g} p q = goes_as (adding_twice stage i j k e f g (total_of a) p q)

module _ {P : World → Type 0} {a : Account} where
  pub goes_call : {w v : World} {c : Call} → Calls w c v → Goes v a P → Goes w a P
  unfolding count_in
  goes_call {c = c} x g = record { calls = c ∷ g.calls; end = g.end; runs = recordings.call x g.runs; tally_is = g.tally_is; holds = g.holds }

  -- what the drive does by itself counts for nothing
  pub goes_act : (w : World) (d : Drive) → Acts w.drive d → Goes (with_drive w d w.flight) a P → Goes w a P
  unfolding count_in
  goes_act w d x g = record {
    calls = g.calls;
    end = g.end;
    runs = recordings.drive (recordings.acts d x) g.runs;
    tally_is = tally_same (omega arith) (omega arith) (omega arith) (omega arith) ∙ g.tally_is;
    holds = g.holds;
  }

  -- its answer counts by the stage of the session that awaits it
  pub goes_answer : (w : World) (stage : Stage) → w.session.stage ≡ stage → (c : Command) (frame : List ℕ) (r : Reply) (d : Drive) → w.flight ≡ sent c frame → Answers w.drive frame c r d
      → Goes (with_drive w d (answered r)) a P → Goes w (counting stage (one (is_taken (case_of c r))) (one (is_failed (case_of c r))) a) P
  unfolding count_in
  goes_answer w stage st c frame r d q x g = record {
    calls = g.calls;
    end = g.end;
    runs = recordings.drive (recordings.answers c frame r d q x) g.runs;
    tally_is =
        answer_counted_lem w.session.stage c r (tally_of g.runs)
        ∙ ap (answered_in w.session.stage (case_of c r)) g.tally_is ∙ ap (λ (y : Stage). answered_in y (case_of c r) (total_of a)) st;
    holds = g.holds;
  }
