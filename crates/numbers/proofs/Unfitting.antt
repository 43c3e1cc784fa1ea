-- Numbers that do not fit are refused as they must be: a geometry with 2, D, W and T with 4, a write error's skip with 8; another reply's skip is not looked at. Assumes nothing.
use Prim.Native.Nat.{ℕ, ◌<◌}
use mathlib.Core.Path.{◌≡◌, refl, ap, ◌∙◌}
use mathlib.Core.Bool.{Bool, true, false, ◌||◌, not}
use mathlib.Core.List.{List}
use mathlib.Core.Logic.{◌⊎◌, inl, inr}
use borrow.Author.Tests.{lt-leb, eq-eqb}
use lib.Dec.{eqb, leb}
use lib.ListN.{length}
use Rattle.geometry.proofs.PickLaws.{pick_t, pick_f}
use Rattle.geometry.proofs.TestLaws.{either_right}
use Rattle.geometry.specs.Place.{address, refused}
use Rattle.geometry.specs.Cartridge.{last_of}
use Rattle.geometry.specs.declared.cartridge.Geometry.{Geometry}
use Rattle.frame.specs.Lengths.{frame_length}
use Rattle.frame.specs.declared.header.Header.{Header}
use Rattle.header.specs.Read as checked
use Rattle.header.specs.Read.{valid, read_header}
use Rattle.drive.specs.Senses.{meaning_in}
use Rattle.drive.specs.Cases.{case_of}
use Rattle.drive.specs.declared.command.Command.{Command}
use Rattle.drive.specs.declared.command.Command.TheVariants.{Read, Write, Locate, ReadPosition}
use Rattle.recording_state.specs.declared.state.State.{State}
use Rattle.recording_state.specs.State.{ending}
use Rattle.recording_state.specs.Open.{open_refused, is_misfit, open_with, open_of, open_blank_of}
use Rattle.recording_state.specs.Reply.{reply_by, reply_of}
use Rattle.reading_state.specs.declared.state.State as reading
use Rattle.reading_state.specs.Reply as reading_reply
use Rattle.numbers.specs.declared.arguments.AdrReply.{AdrReply}
use Rattle.numbers.specs.declared.arguments.AdrGeometry.{AdrGeometry}
use Rattle.numbers.specs.Arguments.{is_geometry, without_frames, geometry_of, fitting_of, fitting_depth, meaningless, is_write_error, as_reply}

-- numbers that are no geometry's
no_geometry : (g : AdrGeometry) → is_geometry g ≡ false → geometry_of g ≡ without_frames
unfolding geometry_of
no_geometry g h = pick_f _ h

pub last_2 : (g : AdrGeometry) → is_geometry g ≡ false → last_of (geometry_of g) ≡ refused 2
last_2 g h = ap last_of (no_geometry g h)

pub header_2 : (g : AdrGeometry) (header : List ℕ) → is_geometry g ≡ false → length header ≡ frame_length → read_header (geometry_of g) header ≡ checked.refused 2
unfolding read_header
header_2 g header h k = rw (no_geometry g h, eq-eqb _ _ k)

fitting_0 : (n : ℕ) → 255 < n → fitting_of n ≡ 0
fitting_0 n h = pick_f n (lt-leb n 255 h)

-- D, W or T above 255
abbrev pub Unfitting : ℕ → ℕ → ℕ → Type 0
Unfitting depth blocks tail = (255 < depth) ⊎ ((255 < blocks) ⊎ (255 < tail))

depth_0 : (depth tail : ℕ) → (b : Bool) → leb tail 255 ≡ b → 255 < depth → fitting_depth depth tail ≡ 0
depth_0 depth tail true e h = pick_t _ e ∙ fitting_0 depth h
depth_0 depth tail false e h = pick_f _ e

-- then D or W counts as 0
unfitting_0 : (depth blocks tail : ℕ) → Unfitting depth blocks tail → (fitting_depth depth tail ≡ 0) ⊎ (fitting_of blocks ≡ 0)
unfitting_0 depth blocks tail (inl k) = inl (depth_0 depth tail (leb tail 255) refl k)
unfitting_0 depth blocks tail (inr (inl k)) = inr (fitting_0 blocks k)
unfitting_0 depth blocks tail (inr (inr k)) = inl (pick_f _ (lt-leb tail 255 k))

zero_misfit : (depth blocks : ℕ) → (depth ≡ 0) ⊎ (blocks ≡ 0) → is_misfit depth blocks ≡ true
zero_misfit depth blocks (inl k) = rw k
zero_misfit depth blocks (inr k) = rw k (either_right (eqb depth 0) _ refl)

-- refusal 4, wherever an opening looks at its sizes
pub misfit : (depth blocks tail : ℕ) → Unfitting depth blocks tail → is_misfit (fitting_depth depth tail) (fitting_of blocks) ≡ true
misfit depth blocks tail k = zero_misfit (fitting_depth depth tail) (fitting_of blocks) (unfitting_0 depth blocks tail k)

-- where the cartridge and its header are not refused
pub open_4 : (g : Geometry) (depth blocks tail : ℕ) (header : List ℕ) (old : Header) → read_header g header ≡ valid old → Unfitting depth blocks tail → open_of g (fitting_depth depth tail) (fitting_of blocks) (fitting_of tail) header ≡ open_refused 4
unfolding open_of open_with
open_4 g depth blocks tail header old h k = rw h (pick_t _ (misfit depth blocks tail k))

pub blank_4 : (g : Geometry) (depth blocks tail last : ℕ) → last_of g ≡ address last → Unfitting depth blocks tail → open_blank_of g (fitting_depth depth tail) (fitting_of blocks) (fitting_of tail) ≡ open_refused 4
unfolding open_blank_of open_with
blank_4 g depth blocks tail last h k = rw h (pick_t _ (misfit depth blocks tail k))

reply_meaningless : (r : AdrReply) → is_write_error r ≡ true → 255 < r.skip → as_reply r ≡ meaningless
unfolding as_reply
reply_meaningless r e h = pick_f _ (ap (λ n. leb n 255) (pick_t _ e) ∙ lt-leb r.skip 255 h)

no_case : (c : Command) (s : State) → reply_by s (case_of c meaningless) meaningless ≡ ending s 8
unfolding reply_by meaning_in
no_case (Read a) s = refl
no_case (Write a) s = refl
no_case (Locate a) s = refl
no_case ReadPosition s = refl

-- these numbers with another skip
abbrev skipping : AdrReply → ℕ → AdrReply
skipping r n = record { buffered = r.buffered; position = r.position; skip = n; key = r.key; asc = r.asc; ascq = r.ascq }

-- a reply that is no write error is the same whichever skip it has
pub skip_unread : (r : AdrReply) (n : ℕ) → is_write_error r ≡ false → as_reply r ≡ as_reply (skipping r n)
unfolding as_reply
skip_unread r n h = rw h

pub skip_8 : (s : State) (r : AdrReply) → is_write_error r ≡ true → 255 < r.skip → s.ended || not s.exchange.awaiting ≡ false → reply_of s (as_reply r) ≡ ending s 8
unfolding reply_of
skip_8 s r e h k = ap (reply_of s) (reply_meaningless r e h) ∙ pick_f _ k ∙ no_case s.exchange.command s

no_reading_case : (c : Command) (s : reading.State) (frame : List ℕ) → reading_reply.reply_by s (case_of c meaningless) frame ≡ reading_reply.ending s 8
unfolding reading_reply.reply_by meaning_in
no_reading_case (Read a) s frame = refl
no_reading_case (Write a) s frame = refl
no_reading_case (Locate a) s frame = refl
no_reading_case ReadPosition s frame = refl

pub reading_skip_8 : (s : reading.State) (r : AdrReply) (frame : List ℕ) → is_write_error r ≡ true → 255 < r.skip → s.ended || not s.exchange.awaiting ≡ false → length frame ≡ frame_length → reading_reply.reply_of s (as_reply r) frame ≡ reading_reply.ending s 8
unfolding reading_reply.reply_of
reading_skip_8 s r frame e h k l =
    ap (λ x. reading_reply.reply_of s x frame) (reply_meaningless r e h)
    ∙ pick_f _ k
    ∙ pick_t _ (eq-eqb _ _ l)
    ∙ no_reading_case s.exchange.command s frame
