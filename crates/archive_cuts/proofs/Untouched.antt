-- As long as no new header copy reads, no user frame is tried. Assumes nothing.
use Prim.Native.Nat.{ℕ, ◌≤◌, ◌<◌}
use mathlib.Core.Path.{◌≡◌, refl, sym, ap, subst, ◌∙◌}
use mathlib.Core.Bool.{Bool, true}
use mathlib.Core.List.{List, ◌∷◌}
use mathlib.Core.Logic.{⊎_elim}
use mathlib.Core.Option.{Option, some}
use native.Mathlib.Omega.{arith}
use lib.ListN.{length}
use Rattle.geometry.specs.Cartridge.{is_user, is_header}
use Rattle.geometry.proofs.UserFrames.{header_not_user}
use Rattle.frame.specs.Header.{header_frame}
use Rattle.frame.specs.Sent.{ReadsAs}
use Rattle.frame.specs.declared.header.Header.{Header}
use Rattle.frame.proofs.Frames.{header_length}
use Rattle.header.specs.Valid.{update_of}
use Rattle.archive_lists.specs.Conduct as conduct
use Rattle.archive_lists.specs.Conduct.{Drive, empty, stopped, Acts, Left, as_new, wrote, failing}
use Rattle.archive_lists.specs.Tape.{Tape, Cartridge, SameFrames, put}
use Rattle.archive_lists.specs.Headers.{HeaderAt}
use Rattle.archive_lists.specs.Recordings as recordings
use Rattle.archive_lists.specs.Recordings.{World, Call, Calls, Runs, Element, with_drive}
use Rattle.archive_lists.proofs.tape.FoldLaws.{put_other}
use Rattle.archive_lists.proofs.recording.Trailing.{Prior}
use Rattle.archive_lists.proofs.recording.HeaderCopies.{Carried}
use Rattle.archive_lists.proofs.recording.Setting.{Setting}
use Rattle.archive_lists.proofs.recording.ContentMoves.{cartridge_tried, header_low}
use Rattle.archive_lists.proofs.recording.CopiesMoves.{rests_still}
use Rattle.archive_lists.proofs.recording.Completion.{copy_valid, copy_update}
use Rattle.archive_lists.proofs.recording.Noted.{noted}
use Rattle.archive_lists.proofs.recording.Invariant as inv
use Rattle.archive_lists.proofs.recording.Invariant.{Course, Live, Inv}
use Rattle.archive_cuts.specs.Cuts.{Throughout}
use Rattle.archive_cuts.proofs.Throughout.{at_last}
use Rattle.archive_cuts.proofs.HeldCopies.{Traced, traced_put, CopiesHeld, NoElements, at_rest, copies, goes_here, is_copy, own_copy, rest_held}
use Rattle.archive_cuts.proofs.CutLists.{Keeps, copying_holds, runs_kept}

-- every valid header counts less than the session's own
abbrev pub NoneOwn : ℕ → ℕ → Tape → Type 0
NoneOwn last least t = (a : ℕ) (h : List ℕ) → HeaderAt last t a h → update_of h < least

pub record Untouched (last pass : ℕ) (prior : Prior) (old : Tape) (d : Drive) : Type 0 where
  pub cartridge : Cartridge last d.tape
  pub users : SameFrames last old d.tape
  pub traced : Traced last pass prior old d.tape
  pub holds : NoElements last pass prior d

module _ {last pass : ℕ} {prior : Prior} {old : Tape} {d : Drive} (large : 3000 ≤ last) (x : Untouched last pass prior old d) where
  -- a header copy is tried
  copy_tried : (f : List ℕ) (rest : List (List ℕ)) → d.buffer ≡ f ∷ rest → CopiesHeld last pass prior d → (v : Option (List ℕ)) → Left (d.tape d.at) f v → (e : Drive) → e.tape ≡ put d.tape d.at v → NoElements last pass prior e → Untouched last pass prior old e
  copy_tried f rest q c v left e is holds =
      let here = goes_here c f rest q in
      record {
        cartridge = subst (Cartridge last) (sym is) (cartridge_tried d.at v left (header_low last d.at large here) (ap length (is_copy c f rest q) ∙ header_length c.header) x.cartridge);
        users = λ a u. x.users a u ∙ sym (put_other d.tape d.at v a (λ z. header_not_user last d.at here (ap (is_user last) (sym z) ∙ u))) ∙ ap (λ (t : Tape). t a) (sym is);
        traced = subst (Traced last pass prior old) (sym is) (traced_put d.tape d.at v f left x.traced (λ _. own_copy c f rest q));
        holds = holds;
      }

  acts_by : NoElements last pass prior d → (e : Drive) → Acts d e → Untouched last pass prior old e
  acts_by (at_rest r) e (conduct.writes f rest v q free y) = rests_still q free r
  acts_by (at_rest r) e (conduct.fails f rest v q free y) = rests_still q free r
  acts_by (copies c) e (conduct.writes f rest v q free y) = copy_tried f rest q c v (as_new v y) (wrote d rest v) refl (copies (rest_held c f rest q v))
  acts_by (copies c) e (conduct.fails f rest v q free y) = copy_tried f rest q c v y (failing d v) refl (at_rest (stopped refl))

module _ (last pass : ℕ) (on_newest none_bears : Type 0) (prior : Prior) (old : Tape) (set : Setting last pass) where
  abbrev None : Tape → Type 0
  None = NoneOwn last prior.least

  abbrev Stays : World → Type 0
  Stays w = Untouched last pass prior old w.drive

  -- a copy of its own would be new
  copy_new : (a : ℕ) {h : Header} {spare : ℕ} {t : Tape} {f : List ℕ} → Carried last pass prior spare h → is_header a ≡ true → t a ≡ some f → ReadsAs (header_frame h) f → None t → ⊥
  copy_new a {h} {f = f} c group q r none =
      let less = none a f (record { group = group; reads = q; valid = copy_valid set h c r }) in
      omega (arith, copy_update set h c r, c.newer)

  live_untouched : (w : World) → Live last pass on_newest none_bears prior w → None w.drive.tape → NoElements last pass prior w.drive
  live_untouched w l none = go l.course
    where
      go : Course last (length l.list) w l.k l.edge → NoElements last pass prior w.drive
      go (inv.opening s _ _ a) = copying_holds a.counts _ l.carried a.copying
      go (inv.writing s _ a) = let c = l.copied s in absurd (copy_new c.address l.carried c.group c.reads c.as_sent none)
      go (inv.closing s _ _ _ _ a) = copying_holds a.counts _ l.carried a.copying
      go (inv.finished _ _ _ _ _ _ _ _ rests _) = at_rest rests

  calls_leave : {w v : World} {c : Call} → Calls w c v → Stays w → Stays v
  calls_leave (recordings.refuses c l h) x = x
  calls_leave (recordings.accepts_block b lent te) x = x
  calls_leave (recordings.accepts_filemark te) x = x
  calls_leave (recordings.closes te) x = x
  calls_leave (recordings.fetches lent frame te) x = x
  calls_leave (recordings.replies r q te) x = x

  keeps_untouched : Keeps last pass on_newest none_bears prior Stays None
  keeps_untouched = record {
    call = calls_leave;
    act = λ w d a x. acts_by set.large x x.holds d a;
    answer = λ w f x. x;
    locate = λ w a f x. record { cartridge = x.cartridge; users = x.users; traced = x.traced; holds = at_rest (empty refl) };
    take = λ w d f same l none x. record {
      cartridge = subst (Cartridge last) (sym same) x.cartridge;
      users = subst (SameFrames last old) (sym same) x.users;
      traced = subst (Traced last pass prior old) (sym same) x.traced;
      holds = live_untouched (with_drive w d f) l none;
    };
  }

  -- so every valid header reads as it did
  pub record Unchanged (t : Tape) : Type 0 where
    pub cartridge : Cartridge last t
    pub users : SameFrames last old t
    pub headers : (a : ℕ) (h : List ℕ) → HeaderAt last t a h → HeaderAt last old a h

  pub unchanged : (earlier : List Element) (kept : Bool) {w v : World} {cs : List Call} → Inv last pass on_newest none_bears prior (noted earlier kept w) → Untouched last pass prior old w.drive → (r : Runs w cs v) → Throughout None r → Unchanged v.drive.tape
  unchanged earlier kept i x r h =
      let y = runs_kept last pass on_newest none_bears prior set keeps_untouched earlier kept i x r h in
      record {
        cartridge = y.cartridge;
        users = y.users;
        headers = λ a f at.
            record {
              group = at.group;
              reads = ⊎_elim (λ q. q) (λ o. absurd (copy_new a o.carried at.group at.reads o.as_sent (at_last None r h))) (y.traced a f at);
              valid = at.valid;
            };
      }
