-- What the tape has of a session and of what was there before it, and what the drive may still write of it, whether the session lives or not. Assumes nothing.
use Prim.Native.Nat.{ℕ, suc, ◌+◌, ◌≤◌, ◌<◌}
use mathlib.Core.Path.{◌≡◌, refl, sym, ap, subst, ◌∙◌}
use mathlib.Core.Bool.{true, false, true≢false}
use mathlib.Core.List.{List, [], ◌∷◌, ◌++◌}
use mathlib.Core.Logic.{⊎_elim}
use mathlib.Core.Option.{Option, some}
use native.Mathlib.Omega.{arith}
use lib.ListN.{length, length-append}
use Rattle.geometry.specs.Cartridge.{is_user, is_header}
use Rattle.geometry.proofs.UserFrames.{header_not_user}
use Rattle.frame.specs.Sent.{ReadsAs}
use Rattle.frame.proofs.Frames.{header_length}
use Rattle.archive_lists.specs.Conduct as conduct
use Rattle.archive_lists.specs.Conduct.{Drive, stopped, Acts, Left, as_new, wrote, failing}
use Rattle.archive_lists.specs.Tape.{Tape, Cartridge, put}
use Rattle.archive_lists.specs.Recordings.{Element}
use Rattle.archive_lists.specs.Filemarks.{item_at, kind_for}
use Rattle.archive_lists.specs.Fold.{fold_of}
use Rattle.archive_lists.proofs.tape.Seen.{Has, Seen}
use Rattle.archive_lists.proofs.tape.Stands.{unending, Stands, Queue}
use Rattle.archive_lists.proofs.tape.StandsLaws.{stands_read, stands_long}
use Rattle.archive_lists.proofs.tape.FoldLaws.{fold_put, fold_put_other}
use Rattle.archive_lists.proofs.tape.SeenLaws.{has_more, seen_grows, seen_elsewhere, seen_writes, seen_fails}
use Rattle.archive_lists.proofs.recording.Trailing.{Prior}
use Rattle.archive_lists.proofs.tape.Closed.{user_within}
use Rattle.archive_lists.proofs.recording.ContentMoves.{cartridge_tried, header_low, not_user}
use Rattle.archive_lists.proofs.recording.CopiesMoves.{rests_still}
use Rattle.archive_cuts.proofs.View.{own, Fair}
use Rattle.archive_cuts.proofs.HeldCopies.{OwnCopy, Traced, kept_or_new, traced_put, CopiesHeld, NoElements, at_rest, copies, goes_here, is_copy, own_copy, rest_held}

-- the tape: old is the cartridge as the session was opened on it, xs are the elements that it held then and those accepted since
pub record OnTape (last pass : ℕ) (prior : Prior) (old : Tape) (xs : List Element) (t : Tape) : Type 0 where
  pub cartridge : Cartridge last t
  pub few : prior.base ≤ length xs
  pub traced : Traced last pass prior old t
  pub fair : Fair last pass prior.start t
  pub begun : Has xs prior.base (fold_of (unending last pass) t prior.start)

-- what the drive holds: no element, or elements and EOD from number k on, which go to the edge
pub data Holds (last pass : ℕ) (prior : Prior) (ps : List Element) (k edge : ℕ) (d : Drive) : Type 0 where
  no_elements : NoElements last pass prior d → Holds last pass prior ps k edge d
  elements : edge ≡ d.at → ((i : ℕ) → i < length d.buffer → is_user last (d.at + i) ≡ true) → k + length d.buffer ≤ length ps + 1 → Queue last pass ps k d.buffer → Holds last pass prior ps k edge d

pub record InDrive (last pass : ℕ) (prior : Prior) (xs : List Element) (d : Drive) : Type 0 where
  pub list : List Element
  pub k : ℕ
  pub edge : ℕ
  pub ahead : prior.start ≤ edge
  pub seen : Seen last pass list xs k edge d.tape
  pub holds : Holds last pass prior list k edge d

pub record Intact (last pass : ℕ) (prior : Prior) (old : Tape) (xs : List Element) (d : Drive) : Type 0 where
  pub on_tape : OnTape last pass prior old xs d.tape
  pub in_drive : InDrive last pass prior xs d

-- ---- one more is accepted

pub intact_grows : {last pass : ℕ} {prior : Prior} {old : Tape} {xs : List Element} {d : Drive} (x : Element) → Intact last pass prior old xs d → Intact last pass prior old (xs ++ x ∷ []) d
intact_grows {prior = prior} {xs = xs} x b = record {
  on_tape = let l = b.on_tape in record { cartridge = l.cartridge; few = omega (arith, length-append xs (x ∷ []), l.few); traced = l.traced; fair = l.fair; begun = has_more xs x prior.base l.few l.begun };
  in_drive = let a = b.in_drive in record { list = a.list; k = a.k; edge = a.edge; ahead = a.ahead; seen = seen_grows x a.seen; holds = a.holds };
}

-- ---- a frame is tried

module _ {last pass : ℕ} {prior : Prior} {old : Tape} {xs : List Element} {t : Tape} (large : 3000 ≤ last) (a : ℕ) (v : Option (List ℕ)) (f : List ℕ) (left : Left (t a) f v) (l : OnTape last pass prior old xs t) where
  -- a header
  header_tried : is_header a ≡ true → length f ≡ 33280 → ((g : List ℕ) → ReadsAs f g → OwnCopy last pass prior g) → OnTape last pass prior old xs (put t a v)
  header_tried here long copy =
      let other : is_user last a ≡ false = not_user last a here (is_user last a) refl in
      record {
        cartridge = cartridge_tried a v left (header_low last a large here) long l.cartridge;
        few = l.few;
        traced = traced_put t a v f left l.traced (λ _. copy);
        fair = λ b g low u q. ⊎_elim (λ x. l.fair b g low u x) (λ x. absurd (true≢false (sym u ∙ ap (is_user last) x.0 ∙ other))) (kept_or_new t a v f left b g q);
        begun = subst (Has xs prior.base) (sym (fold_put_other (unending last pass) t a v other prior.start)) l.begun;
      }

  -- an element or EOD
  element_tried : (ps : List Element) (k : ℕ) → Stands last pass (item_at ps k) k f → is_user last a ≡ true → prior.start ≤ a → OnTape last pass prior old xs (put t a v)
  element_tried ps k s here ahead = record {
    cartridge = cartridge_tried a v left (user_within last a large here) (stands_long s) l.cartridge;
    few = l.few;
    traced = traced_put t a v f left l.traced (λ group. absurd (header_not_user last a group here));
    fair = λ b g low u q. ⊎_elim (λ x. l.fair b g low u x) (λ x. own (kind_for (item_at ps k)) k (stands_read s x.1).found) (kept_or_new t a v f left b g q);
    begun = subst (Has xs prior.base) (sym (fold_put (unending last pass) t a v prior.start ahead)) l.begun;
  }

-- ---- the drive acts

module _ {last pass : ℕ} {prior : Prior} {old : Tape} {xs : List Element} {d : Drive} (large : 3000 ≤ last) (b : Intact last pass prior old xs d) where
  abbrev a : InDrive last pass prior xs d
  a = b.in_drive

  module _ (f : List ℕ) (rest : List (List ℕ)) (q : d.buffer ≡ f ∷ rest) where
    size : length d.buffer ≡ suc (length rest)
    size = ap length q

    copy_tried : CopiesHeld last pass prior d → (v : Option (List ℕ)) → Left (d.tape d.at) f v → (e : Drive) → e.tape ≡ put d.tape d.at v → NoElements last pass prior e → Intact last pass prior old xs e
    copy_tried x v left e is holds =
        let here = goes_here x f rest q in
        record {
          on_tape = subst (OnTape last pass prior old xs) (sym is) (header_tried large d.at v f left b.on_tape here (ap length (is_copy x f rest q) ∙ header_length x.header) (own_copy x f rest q));
          in_drive = record {
            list = a.list;
            k = a.k;
            edge = a.edge;
            ahead = a.ahead;
            seen = subst (Seen last pass a.list xs a.k a.edge) (sym is) (seen_elsewhere d.at v (not_user last d.at here (is_user last d.at) refl) a.seen);
            holds = no_elements holds;
          };
        }

    module _ (edge_is : a.edge ≡ d.at) (place : (i : ℕ) → i < length d.buffer → is_user last (d.at + i) ≡ true) (room : a.k + length d.buffer ≤ length a.list + 1) (queue : Queue last pass a.list a.k d.buffer) where
      user_here : is_user last d.at ≡ true
      user_here = let e : d.at + 0 ≡ d.at = omega arith in subst (λ (x : ℕ). is_user last x ≡ true) e (place 0 (omega (arith, size)))

      queued : Stands last pass (item_at a.list a.k) a.k f × Queue last pass a.list (a.k + 1) rest
      unfolding Queue
      queued = subst (Queue last pass a.list a.k) q queue

      fits : a.k ≤ length a.list
      fits = omega (arith, size, room)

      seen_here : Seen last pass a.list xs a.k d.at d.tape
      seen_here = subst (λ (x : ℕ). Seen last pass a.list xs a.k x d.tape) edge_is a.seen

      ahead_here : prior.start ≤ d.at
      ahead_here = omega (arith, a.ahead, edge_is)

      element_writes : (v : Option (List ℕ)) → conduct.Written f v → Intact last pass prior old xs (wrote d rest v)
      element_writes v (conduct.reads read r) = record {
        on_tape = element_tried large d.at (some read) f (as_new (some read) (conduct.reads read r)) b.on_tape a.list a.k queued.0 user_here ahead_here;
        in_drive = record {
          list = a.list;
          k = a.k + 1;
          edge = d.at + 1;
          ahead = omega (arith, ahead_here);
          seen = seen_writes d.at large user_here seen_here fits read (stands_read queued.0 r);
          holds = elements refl (λ i low. let e : d.at + (i + 1) ≡ d.at + 1 + i = omega arith in subst (λ (x : ℕ). is_user last x ≡ true) e (place (i + 1) (omega (arith, size)))) (omega (arith, size, room)) queued.1;
        };
      }

      element_fails : (v : Option (List ℕ)) → Left (d.tape d.at) f v → Intact last pass prior old xs (failing d v)
      element_fails v left = record {
        on_tape = element_tried large d.at v f left b.on_tape a.list a.k queued.0 user_here ahead_here;
        in_drive = record {
          list = a.list;
          k = a.k;
          edge = d.at + 1;
          ahead = omega (arith, ahead_here);
          seen = seen_fails d.at large user_here seen_here fits f v queued.0 left;
          holds = no_elements (at_rest (stopped refl));
        };
      }

  acts_by : Holds last pass prior a.list a.k a.edge d → (e : Drive) → Acts d e → Intact last pass prior old xs e
  acts_by (no_elements (at_rest r)) e (conduct.writes f rest v q free x) = rests_still q free r
  acts_by (no_elements (at_rest r)) e (conduct.fails f rest v q free x) = rests_still q free r
  acts_by (no_elements (copies c)) e (conduct.writes f rest v q free x) = copy_tried f rest q c v (as_new v x) (wrote d rest v) refl (copies (rest_held c f rest q v))
  acts_by (no_elements (copies c)) e (conduct.fails f rest v q free x) = copy_tried f rest q c v x (failing d v) refl (at_rest (stopped refl))
  acts_by (elements n p room queue) e (conduct.writes f rest v q free x) = element_writes f rest q n p room queue v x
  acts_by (elements n p room queue) e (conduct.fails f rest v q free x) = element_fails f rest q n p room queue v x

  pub intact_acts : (e : Drive) → Acts d e → Intact last pass prior old xs e
  intact_acts = acts_by a.holds
