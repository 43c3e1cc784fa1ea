-- A fetch keeps the invariant. Assumes nothing.
use Prim.Native.Nat.{ℕ, ◌+◌, ◌^◌, ◌≤◌, ◌<◌}
use mathlib.Core.Path.{◌≡◌, refl, sym, ap, subst, ◌∙◌}
use mathlib.Core.Bool.{Bool, true, false, ◌&&◌, ◌||◌}
use mathlib.Core.List.{List}
use mathlib.Core.Logic.{◌⊎◌, inl, inr, ⊎_elim}
use native.Mathlib.Nat.{le_refl}
use native.Mathlib.Omega.{arith}
use lib.ListN.{length}
use Rattle.geometry.specs.Place.{as_address}
use Rattle.geometry.specs.declared.address.Address.{Address}
use Rattle.geometry.proofs.TestLaws.{and_true, either_left, either_right}
use Rattle.geometry.proofs.Impossible.{never, clash}
use Rattle.geometry.proofs.PickLaws.{pick_t, pick_f, pick_by}
use Rattle.buffer.specs.Bytes.{agree}
use Rattle.buffer.proofs.Agreement.{agree_is}
use Rattle.frame.specs.Header.{header_frame}
use Rattle.archive_lists.specs.Conduct.{Drive, empty, Within}
use Rattle.drive.specs.Command.{CommandSaid, command_for}
use Rattle.drive.specs.declared.command.Command.{Command}
use Rattle.drive.specs.declared.command.Command.TheVariants.{Read, Write, Locate, ReadPosition}
use Rattle.drive.proofs.CaseLaws.{command_by_lem}
use Rattle.copies.specs.Copies as copying
use Rattle.copies.proofs.CommandView as command
use Rattle.copies.proofs.Placed.{PlacedOf}
use Rattle.geometry.proofs.HeaderPlaces.{header_from_first}
use Rattle.elements.specs.Elements.{kind_of}
use Rattle.elements.specs.Due as due
use Rattle.elements.specs.Elements.{limit_of}
use Rattle.elements.specs.declared.elements.Elements.{Elements}
use Rattle.elements.proofs.DueView as rule
use Rattle.recording_state.specs.State.{blocks_of, window_length, is_spending, ended_of}
use Rattle.recording_state.specs.Written.{among_elements, written_frame}
use Rattle.recording_state.specs.Answer as answer
use Rattle.recording_state.specs.Fetch.{FetchedSaid, fetch_of, awaits, frame_for, sending}
use Rattle.recording_state.specs.declared.state.State.{State}
use Rattle.recording_state.specs.declared.state.Stage.TheVariants as S
use Rattle.recording_state.proofs.FetchView as view
use Rattle.recording_state.proofs.FetchView.{FetchView, fetch_view}
use Rattle.recording_state.proofs.Stages.{HeaderStage, ElementStage, header_not_element, header_not_done, element_not_done}
use Rattle.recording_state.proofs.Kept.{held_of}
use Rattle.archive_lists.specs.Recordings as recordings
use Rattle.archive_lists.specs.Recordings.{World, Flight, TakesEffect, fetch_number, flight_after, reported_after, after_fetch}
use Rattle.archive_lists.specs.Filemarks.{item_at, kind_for}
use Rattle.archive_lists.proofs.tape.Basics.{no_effect, no_frames}
use Rattle.archive_lists.proofs.tape.SeenLaws.{seen_moves, clean_moves}
use Rattle.archive_lists.proofs.tape.Stands.{Stands, StoredAs}
use Rattle.archive_lists.proofs.recording.Trailing.{Prior, Place, on_tape, to_come, Says}
use Rattle.archive_lists.proofs.recording.TrailingMoves.{trailing_edge, trail_before_lem}
use Rattle.archive_lists.proofs.recording.CopiesLink as copies
use Rattle.archive_lists.proofs.recording.CopiesLink.{CopyAsks, HeaderSent, Copying, CopiesAgree}
use Rattle.archive_lists.proofs.recording.CopiesMoves.{rests_safe}
use Rattle.archive_lists.proofs.recording.ElementsLink as elements
use Rattle.archive_lists.proofs.recording.ElementsLink.{edge_of, Linked, Asks, Writing}
use Rattle.archive_lists.proofs.recording.ElementsMoves.{link_safe}
use Rattle.archive_lists.proofs.recording.KeptAgreement.{Numbers, writing_numbers, reask}
use Rattle.archive_lists.proofs.recording.SentFrames.{sent_element, sent_eod, kind_element, kind_eod, sent_says}
use Rattle.archive_lists.proofs.recording.Invariant as inv
use Rattle.archive_lists.proofs.recording.Invariant.{EodDue, total_of, Course, Known, Content, Live, Safe, Inv, live, rejecting, spent, over}
use Rattle.archive_lists.proofs.recording.InvariantLaws.{unreported}
use Rattle.archive_lists.proofs.recording.Setting.{Setting}
use Rattle.archive_lists.proofs.recording.GivesUp.{spending_so, settled_writing, gives_up}

-- ---- the world after a fetch

abbrev fetched_world : World → List ℕ → FetchedSaid → World
fetched_world w lent x = record {
  session = x.session;
  window = lent;
  drive = w.drive;
  flight = flight_after x.said w.flight x.frame;
  notes = record { accepted = w.notes.accepted; unaltered = w.notes.unaltered && agree lent w.window; reported = reported_after x.said w.notes.reported; given_up = w.notes.given_up };
}

abbrev lent_world : World → List ℕ → State → Flight → Bool → World
lent_world w lent s f reported = record { session = s; window = lent; drive = w.drive; flight = f; notes = record { accepted = w.notes.accepted; unaltered = w.notes.unaltered && agree lent w.window; reported = reported; given_up = w.notes.given_up } }

module _ {last pass : ℕ} {on_newest none_bears : Type 0} {prior : Prior} (w : World) (lent frame : List ℕ) (set : Setting last pass) (wr : Within last w.drive.written) (l : Live last pass on_newest none_bears prior w) where
  -- lent as last left
  as_left : (w.notes.unaltered && agree lent w.window) ≡ true → (w.notes.unaltered ≡ true) × (lent ≡ w.window)
  as_left u = let b = and_true w.notes.unaltered (agree lent w.window) u in (b.0, agree_is lent w.window b.1)

  -- what is known after the window was lent
  abbrev KnownLent : Type 0
  KnownLent = (none_bears × ((w.notes.unaltered && agree lent w.window) ≡ true)) ⊎ (w.session.elements.eod ≡ true)

  known_left : KnownLent → Known none_bears w
  known_left n = ⊎_elim (λ y. inl (y.0, (as_left y.1).0)) inr n

  stored_lent : lent ≡ w.window → Content last pass l.list w l.k l.edge → (i : ℕ) → i < w.session.elements.queue.pending
      → StoredAs (item_at l.list (w.session.elements.queue.first.0 + i)) lent w.session.elements.queue.marks (blocks_of w.session) (w.session.elements.queue.first.0 + i)
  stored_lent e c i h = subst (λ (x : List ℕ). StoredAs (item_at l.list (w.session.elements.queue.first.0 + i)) x w.session.elements.queue.marks (blocks_of w.session) (w.session.elements.queue.first.0 + i)) (sym e) (c.stored i h)

  -- ---- nothing goes out: idle, or done

  quiet : (reported : Bool) → (reported ≡ true → w.session.stage ≡ S.Done) → Live last pass on_newest none_bears prior (lent_world w lent w.session w.flight reported)
  quiet reported done = record {
    k = l.k;
    edge = l.edge;
    list = l.list;
    floor = l.floor;
    promises = record { is = l.promises.is; ungiven = l.promises.ungiven; aimed = l.promises.aimed };
    going = l.going;
    counted = l.counted;
    carried = l.carried;
    course = course l.course;
    reported = done;
    outgoing = λ n. let f = l.outgoing (known_left n) in record { queue = f.queue; sent = f.sent };
    eod_place = record { written = l.eod_place.written; named = l.eod_place.named };
    copied = l.copied;
    below = l.below;
    clean = l.clean;
    content = λ p u.
        let b = as_left u in
        let c = l.content p b.0 in
        record { tape = c.tape; seen = c.seen; stored = stored_lent b.1 c };
    trailing = l.trailing;
  }
    where
      course : Course last (length l.list) w l.k l.edge → Course last (length l.list) (lent_world w lent w.session w.flight reported) l.k l.edge
      course (inv.opening q u t c) = inv.opening q u t c
      course (inv.writing q u a) = inv.writing q u a
      course (inv.closing q u c a b g) = inv.closing q u c a b g
      course (inv.finished q u c a b f g h r y) = inv.finished q u c a b f g h r y

  -- ---- a command goes out

  module _ (c : Command) where
    abbrev sent_world : World
    sent_world = lent_world w lent (awaits w.session c) (recordings.sent c (frame_for c w.session lent frame)) w.notes.reported

    goes_out : (edge : ℕ) → Course last (length l.list) sent_world l.k edge
        → ((a : Address) (f : List ℕ) → Known none_bears sent_world → ElementStage w.session → recordings.sent c (frame_for c w.session lent frame) ≡ recordings.sent (Write a) f
        → Stands last pass (item_at l.list (w.session.elements.queue.first.0 + w.session.elements.queue.outstanding)) (w.session.elements.queue.first.0 + w.session.elements.queue.outstanding) f)
        → l.edge ≤ edge
        → ((a : Address) (f : List ℕ) → ElementStage w.session → recordings.sent c (frame_for c w.session lent frame) ≡ recordings.sent (Write a) f
        → Says last pass l.list (Place prior last pass l.k w.drive.at edge w.drive.tape) (w.session.elements.queue.first.0 + w.session.elements.queue.outstanding) f)
        → Live last pass on_newest none_bears prior sent_world
    goes_out edge course sent further says = record {
      k = l.k;
      edge = edge;
      list = l.list;
      floor = (l.floor.0, l.floor.1, omega (arith, l.floor.2));
      promises = record { is = l.promises.is; ungiven = l.promises.ungiven; aimed = l.promises.aimed };
      going = l.going;
      counted = let n = l.counted in record { wide = n.wide; held = n.held; windowed = n.windowed; numbered = n.numbered; marks = n.marks; room = n.room };
      carried = l.carried;
      course = course;
      reported = l.reported;
      outgoing = λ n. record { queue = (l.outgoing (known_left n)).queue; sent = λ a f. sent a f n };
      eod_place = record { written = l.eod_place.written; named = l.eod_place.named };
      copied = l.copied;
      below = l.below;
      clean = λ p. clean_moves edge further (l.clean p);
      content = λ p u.
          let b = as_left u in
          let x = l.content p b.0 in
          record { tape = x.tape; seen = seen_moves edge further x.seen; stored = stored_lent b.1 x };
      trailing =
          let x = trailing_edge l.trailing edge further in
          record { from = x.from; prefix = x.prefix; marked = x.marked; trail = x.trail; written = x.written; behind = x.behind; queue = x.queue; sent = says; tape = x.tape };
    }

  -- ---- from a header stage

  module _ (st : HeaderStage w.session) where
    header_written : written_frame w.session lent ≡ header_frame w.session.copies.header
    unfolding written_frame
    header_written = pick_f _ (⊎_elim (ap among_elements) (ap among_elements) st)

    header_sent : (c : Command) → HeaderSent w.session.copies c (frame_for c w.session lent frame)
    header_sent (Read a) = tt
    header_sent (Write a) = header_written
    header_sent (Locate a) = tt
    header_sent ReadPosition = tt

    header_out : (c : Command) (agree : CopiesAgree w.session w.drive w.flight) → CopyAsks w.session.copies w.drive c
        → (CopiesAgree (awaits w.session c) w.drive (recordings.sent c (frame_for c w.session lent frame)) → Course last (length l.list) (sent_world c) l.k l.edge) → Inv last pass on_newest none_bears prior (sent_world c)
    header_out c agree asked course =
        live wr
        (goes_out c l.edge (course (record { counts = agree.counts; placed = agree.placed; copying = copies.under_way c (frame_for c w.session lent frame) refl refl refl (header_sent c) asked }))
        (λ _ _ _ el _. header_not_element w.session st el) (le_refl l.edge) (λ _ _ el _. header_not_element w.session st el))

    asks_header : {x : CommandSaid} → PlacedOf w.session.copies → command.CommandView w.session.setup.depth w.session.copies x → w.session.exchange.again ≡ false → Copying w.session w.drive recordings.no_command → CopyAsks w.session.copies w.drive (command_for x)
    asks_header pl (command.locating t) ag (copies.at_place a g x) = clash t x.placed
    asks_header pl (command.locating t) ag (copies.to_seek a g x) = copies.seeks (copying.header_at w.session.copies) (header_from_first w.session.copies.group w.session.copies.copy (pl.left t)) x
    asks_header pl (command.locating t) ag (copies.again a g x) = clash g ag
    asks_header pl (command.writing f left room) ag (copies.at_place a g x) = copies.writes (copying.header_at w.session.copies) (header_from_first w.session.copies.group w.session.copies.copy left) left x
    asks_header pl (command.writing f left room) ag (copies.to_seek a g x) = clash x.due f
    asks_header pl (command.writing f left room) ag (copies.again a g x) = clash g ag
    asks_header pl (command.asking f y) ag (copies.at_place a g x) = copies.asks x
    asks_header pl (command.asking f y) ag (copies.to_seek a g x) = clash x.due f
    asks_header pl (command.asking f y) ag (copies.again a g x) = clash g ag

    again_header : w.session.exchange.again ≡ true → Copying w.session w.drive recordings.no_command → CopyAsks w.session.copies w.drive w.session.exchange.command
    again_header ag (copies.at_place a g x) = clash ag g
    again_header ag (copies.to_seek a g x) = clash ag g
    again_header ag (copies.again a g x) = x

  -- ---- from the elements

  record Out (c : Command) : Type 0 where
    edge : ℕ
    further : l.edge ≤ edge
    asks : Asks last (held_of w.session) w.session.elements.queue.pending w.drive l.k edge c

  limit_low : (tail : ℕ) (e : Elements) → (limit_of tail e).0 ≤ e.course.limit.0
  limit_low tail e = pick_by (λ (a : Address). a.0 ≤ e.course.limit.0) e.eod (λ _. le_refl e.course.limit.0) (λ _. omega arith)

  edge_low : (b : Bool) (a : ℕ) → edge_of b a ≤ a + 1
  edge_low true a = le_refl (a + 1)
  edge_low false a = omega arith

  cross : Linked last (held_of w.session) w.drive l.k l.edge 0 → w.session.elements.queue.outstanding ≡ 0 → w.session.elements.course.next.0 ≡ 2990 → Out (Locate (as_address 3000))
  cross x none gap =
      let taken_is = x.taken_is in
      let next_is = x.next_is in
      let known = x.known in
      let spread = x.spread in
      let edge_is = x.edge_is in
      let e = edge_low w.drive.failed w.drive.at in
      record {
        edge = 3000;
        further = omega arith;
        asks = elements.moves (as_address 3000) set.large (record {
          none_out = none;
          first_is = omega arith;
          rests = empty (no_frames w.drive.buffer (omega arith));
          low = let roof = x.roof in omega arith;
          zone = inr (le_refl 3000);
          spread = omega arith;
          edge_is = refl;
        });
      }

  out_element : {x : CommandSaid} → rule.DueView w.session.setup.depth w.session.setup.tail w.session.elements (due.send x) → w.session.exchange.again ≡ false → Writing last w.session w.drive l.k l.edge recordings.no_command → Out (command_for x)
  out_element (rule.relocating r near) ag (elements.at_place a g x) = clash r x.placed
  out_element (rule.relocating r near) ag (elements.to_locate a g q x) = record { edge = l.edge; further = le_refl l.edge; asks = elements.moves w.session.elements.course.target (omega (arith, near, l.counted.room)) x }
  out_element (rule.relocating r near) ag (elements.again a g x) = clash g ag
  out_element (rule.settling r p o) ag (elements.at_place a g x) = record { edge = l.edge; further = le_refl l.edge; asks = elements.asks x }
  out_element (rule.settling r p o) ag (elements.to_locate a g q x) = clash q r
  out_element (rule.settling r p o) ag (elements.again a g x) = clash g ag
  out_element (rule.confirming r p o) ag (elements.at_place a g x) = record { edge = l.edge; further = le_refl l.edge; asks = elements.asks x }
  out_element (rule.confirming r p o) ag (elements.to_locate a g q x) = clash q r
  out_element (rule.confirming r p o) ag (elements.again a g x) = clash g ag
  out_element (rule.jumping r p none below gap) ag (elements.at_place a g x) = cross x none gap
  out_element (rule.jumping r p none below gap) ag (elements.to_locate a g q x) = clash q r
  out_element (rule.jumping r p none below gap) ag (elements.again a g x) = clash g ag
  out_element (rule.writing r p room below off) ag (elements.at_place a g x) =
      record { edge = l.edge; further = le_refl l.edge; asks = elements.writes w.session.elements.course.next refl p off (omega (arith, below, l.counted.room, limit_low w.session.setup.tail w.session.elements)) x }
  out_element (rule.writing r p room below off) ag (elements.to_locate a g q x) = clash q r
  out_element (rule.writing r p room below off) ag (elements.again a g x) = clash g ag

  again_element : w.session.exchange.again ≡ true → Writing last w.session w.drive l.k l.edge recordings.no_command → Out w.session.exchange.command
  again_element ag (elements.at_place a g x) = clash ag g
  again_element ag (elements.to_locate a g q x) = clash ag g
  again_element ag (elements.again a g x) = record { edge = l.edge; further = le_refl l.edge; asks = x }

  due_of : {k edge : ℕ} {a : Address} → Asks last (held_of w.session) w.session.elements.queue.pending w.drive k edge (Write a) → w.session.elements.queue.outstanding < w.session.elements.queue.pending
  due_of (elements.writes a p due off low x) = due

  -- the frame of a WRITE
  module _ (long : length lent ≡ window_length w.session) (numbers : Numbers last w.session.elements.queue.first.0 w.session.elements.queue.outstanding w.session.elements.queue.pending l.k w.drive)
      (phase : EodDue w.session.elements w.session.closed) where
    stands_sent : KnownLent → ElementStage w.session → w.session.elements.queue.outstanding < w.session.elements.queue.pending
        → Stands last pass (item_at l.list (w.session.elements.queue.first.0 + w.session.elements.queue.outstanding)) (w.session.elements.queue.first.0 + w.session.elements.queue.outstanding) (written_frame w.session lent)
    stands_sent known st d = go phase known
      where
        go : EodDue w.session.elements w.session.closed → KnownLent → Stands last pass (item_at l.list (w.session.elements.queue.first.0 + w.session.elements.queue.outstanding)) (w.session.elements.queue.first.0 + w.session.elements.queue.outstanding) (written_frame w.session lent)
        go (inv.not_yet v) (inr e) = clash e v
        go (inv.not_yet v) (inl y) =
            let b = as_left y.1 in
            let n = l.counted.numbered in
            let t = ap (λ (x : Bool). total_of x (length l.list)) v in
            sent_element last pass w.session lent l.list l.carried.last_is l.carried.pass_is set.low long (omega (arith, numbers.low, l.counted.windowed, l.counted.wide, set.small)) st v (omega arith)
            (stored_lent b.1 (l.content y.0 b.0) w.session.elements.queue.outstanding d)
        go (inv.alone v closed one) _ =
            let n = l.counted.numbered in
            let t = ap (λ (x : Bool). total_of x (length l.list)) v in
            sent_eod last pass w.session lent l.list l.carried.last_is l.carried.pass_is set.low long (omega (arith, numbers.low, l.counted.windowed, l.counted.wide, set.small)) st v (omega arith)

    kind_due : w.session.elements.queue.outstanding < w.session.elements.queue.pending → EodDue w.session.elements w.session.closed
        → kind_of w.session.elements ≡ kind_for (item_at l.list (w.session.elements.queue.first.0 + w.session.elements.queue.outstanding))
    kind_due d (inv.not_yet v) =
        let n = l.counted.numbered in
        let t = ap (λ (x : Bool). total_of x (length l.list)) v in
        kind_element last pass w.session lent l.list l.carried.last_is l.carried.pass_is set.low long (omega (arith, numbers.low, l.counted.windowed, l.counted.wide, set.small)) v (omega arith)
        (l.trailing.marked w.session.elements.queue.outstanding d)
    kind_due d (inv.alone v closed one) =
        let n = l.counted.numbered in
        let t = ap (λ (x : Bool). total_of x (length l.list)) v in
        kind_eod last pass w.session lent l.list l.carried.last_is l.carried.pass_is set.low long (omega (arith, numbers.low, l.counted.windowed, l.counted.wide, set.small)) v (omega arith)

    -- and what it says of the filemarks before it
    says_sent : {edge : ℕ} {a : Address} → l.edge ≤ edge → ElementStage w.session → Asks last (held_of w.session) w.session.elements.queue.pending w.drive l.k edge (Write a)
        → Says last pass l.list (Place prior last pass l.k w.drive.at edge w.drive.tape) (w.session.elements.queue.first.0 + w.session.elements.queue.outstanding) (written_frame w.session lent)
    says_sent {edge} further st (elements.writes a p due off low x) =
        let taken_is = x.taken_is in
        let next_is = x.next_is in
        let known = x.known in
        let spread = x.spread in
        let roof = x.roof in
        let fits : w.session.elements.queue.first.0 + w.session.elements.queue.outstanding < 2 ^ 32 = omega (arith, numbers.low, l.counted.windowed, l.counted.wide, set.small) in
        sent_says last pass w.session lent l.list l.carried.last_is l.carried.pass_is set.low long fits (Place prior last pass l.k w.drive.at edge w.drive.tape) st (kind_due due phase)
        (λ j b h y. place_low j b h taken_is next_is low y)
        (trail_before_lem set.large set.small st (trailing_edge l.trailing edge further) l.counted.held fits (omega arith) (omega arith) (let e = edge_low_least w.drive.failed w.drive.at in let i = x.edge_is in omega arith) (omega arith))
      where
        edge_low_least : (b : Bool) (c : ℕ) → c ≤ edge_of b c
        edge_low_least true c = omega arith
        edge_low_least false c = le_refl c

        place_low : (j b : ℕ) → j < w.session.elements.queue.first.0 + w.session.elements.queue.outstanding → w.session.elements.queue.first.0 + w.session.elements.queue.outstanding + 0 ≡ l.k + length w.drive.buffer → w.session.elements.course.next.0 + 0 ≡ w.drive.at + length w.drive.buffer
            → w.session.elements.course.next.0 ≤ last → Place prior last pass l.k w.drive.at edge w.drive.tape j b → b < 2 ^ 32
        place_low j b h taken_is next_is low (on_tape _ m) = omega (arith, m.inside, set.small)
        place_low j b h taken_is next_is low (to_come g e) = omega (arith, set.small)

    element_out : (c : Command) → Out c → ElementStage w.session → ((edge : ℕ) → Writing last (awaits w.session c) w.drive l.k edge (recordings.sent c (frame_for c w.session lent frame)) → Course last (length l.list) (sent_world c) l.k edge)
        → Inv last pass on_newest none_bears prior (sent_world c)
    element_out c o st course =
        live wr
        (goes_out c o.edge (course o.edge (elements.under_way c (frame_for c w.session lent frame) refl refl refl (reask (held_of w.session) (held_of (awaits w.session c)) refl refl refl o.asks)))
        (λ a f known el q.
        let command_is : c ≡ Write a = cc in
        let frame_is : frame_for c w.session lent frame ≡ f = cc in
        subst (λ (y : List ℕ). Stands last pass (item_at l.list (w.session.elements.queue.first.0 + w.session.elements.queue.outstanding)) (w.session.elements.queue.first.0 + w.session.elements.queue.outstanding) y)
        (sym (ap (λ (y : Command). frame_for y w.session lent frame) command_is) ∙ frame_is)
        (stands_sent known el (due_of (subst (λ (y : Command). Asks last (held_of w.session) w.session.elements.queue.pending w.drive l.k o.edge y) command_is o.asks))))
        o.further
        (λ a f el q.
        let command_is : c ≡ Write a = cc in
        let frame_is : frame_for c w.session lent frame ≡ f = cc in
        subst (Says last pass l.list (Place prior last pass l.k w.drive.at o.edge w.drive.tape) (w.session.elements.queue.first.0 + w.session.elements.queue.outstanding))
        (sym (ap (λ (y : Command). frame_for y w.session lent frame) command_is) ∙ frame_is)
        (says_sent o.further el (subst (λ (y : Command). Asks last (held_of w.session) w.session.elements.queue.pending w.drive l.k o.edge y) command_is o.asks))))

-- ---- no reply is awaited, so no command is in flight

copying_idle : {s : State} {d : Drive} {f : Flight} → s.exchange.awaiting ≡ false → Copying s d f → Copying s d recordings.no_command
copying_idle a (copies.at_place b g x) = copies.at_place b g x
copying_idle a (copies.to_seek b g x) = copies.to_seek b g x
copying_idle a (copies.again b g x) = copies.again b g x
copying_idle a (copies.under_way c f b g e h x) = clash b a
copying_idle a (copies.replied r b g x) = clash b a

writing_idle : {last : ℕ} {s : State} {d : Drive} {k edge : ℕ} {f : Flight} → s.exchange.awaiting ≡ false → Writing last s d k edge f → Writing last s d k edge recordings.no_command × (f ≡ recordings.no_command)
writing_idle a (elements.at_place b g x) = (elements.at_place b g x, refl)
writing_idle a (elements.to_locate b g r x) = (elements.to_locate b g r x, refl)
writing_idle a (elements.again b g x) = (elements.again b g x, refl)
writing_idle a (elements.under_way c f b g e x) = clash b a
writing_idle a (elements.replied r b g x) = clash b a

writing_safe : {last : ℕ} {s : State} {d : Drive} {k edge : ℕ} → s.exchange.again ≡ false → Writing last s d k edge recordings.no_command → Safe last d
writing_safe ag (elements.at_place b g x) = link_safe x
writing_safe ag (elements.to_locate b g r x) = rests_safe x.rests
writing_safe ag (elements.again b g x) = clash g ag

module _ {last pass : ℕ} {on_newest none_bears : Type 0} {prior : Prior} (w : World) (lent frame : List ℕ) (set : Setting last pass) (wr : Within last w.drive.written) (l : Live last pass on_newest none_bears prior w) where
  abbrev After : FetchedSaid → Type 0
  After x = Inv last pass on_newest none_bears prior (fetched_world w lent x)

  -- the command goes to the drive as the fetch names it
  as_named : (c : Command) → Inv last pass on_newest none_bears prior (sent_world w lent frame set wr l c) → After (sending w.session c lent frame)
  unfolding sending
  as_named c i =
      subst (λ (x : Command). Inv last pass on_newest none_bears prior (lent_world w lent (awaits w.session c) (recordings.sent x (frame_for c w.session lent frame)) w.notes.reported)) (sym (command_by_lem c)) i

  -- in a header stage
  module _ (st : HeaderStage w.session) (agree : CopiesAgree w.session w.drive w.flight)
      (course : (c : Command) → CopiesAgree (awaits w.session c) w.drive (recordings.sent c (frame_for c w.session lent frame)) → Course last (length l.list) (sent_world w lent frame set wr l c) l.k l.edge) where
    fetch_header : {x : FetchedSaid} → FetchView w.session lent frame x → TakesEffect (fetch_number x.said) → After x
    fetch_header (view.wrong_phase _) te = no_effect (omega arith) (omega arith) te
    fetch_header (view.wrong_length _ _ _) te = no_effect (omega arith) (omega arith) te
    fetch_header (view.repeating r ag) te = as_named w.session.exchange.command (header_out w lent frame set wr l st w.session.exchange.command agree (again_header w lent frame set wr l st ag (copying_idle r.free agree.copying)) (course w.session.exchange.command))
    fetch_header (view.copying r ag _) te =
        let c = command_for (copying.command_of w.session.setup.depth w.session.copies) in
        as_named c (header_out w lent frame set wr l st c agree (asks_header w lent frame set wr l st agree.placed (command.command_view w.session.setup.depth w.session.copies) ag (copying_idle r.free agree.copying)) (course c))
    fetch_header (view.stepping r ag el c d) te = header_not_element w.session st el
    fetch_header (view.resting r ag el d) te = header_not_element w.session st el
    fetch_header (view.stopping r ag el n d) te = header_not_element w.session st el
    fetch_header (view.finished r ag d) te = header_not_done w.session st d

  -- among the elements
  module _ (st : ElementStage w.session) (agree : Writing last w.session w.drive l.k l.edge w.flight) (phase : EodDue w.session.elements w.session.closed)
      (course : (c : Command) (edge : ℕ) → Writing last (awaits w.session c) w.drive l.k edge (recordings.sent c (frame_for c w.session lent frame)) → Course last (length l.list) (sent_world w lent frame set wr l c) l.k edge) where
    numbers : Numbers last w.session.elements.queue.first.0 w.session.elements.queue.outstanding w.session.elements.queue.pending l.k w.drive
    numbers = writing_numbers l.counted.held agree

    fetch_elements : {x : FetchedSaid} → FetchView w.session lent frame x → TakesEffect (fetch_number x.said) → After x
    fetch_elements (view.wrong_phase _) te = no_effect (omega arith) (omega arith) te
    fetch_elements (view.wrong_length _ _ _) te = no_effect (omega arith) (omega arith) te
    fetch_elements (view.repeating r ag) te =
        as_named w.session.exchange.command (element_out w lent frame set wr l r.window_right numbers phase w.session.exchange.command (again_element w lent frame set wr l ag (writing_idle r.free agree).0) st (course w.session.exchange.command))
    fetch_elements (view.copying r ag h) te = header_not_element w.session h st
    fetch_elements (view.stepping r ag el x d) te =
        let c = command_for x in
        as_named c (element_out w lent frame set wr l r.window_right numbers phase c (out_element w lent frame set wr l (subst (rule.DueView w.session.setup.depth w.session.setup.tail w.session.elements) d (rule.due_view w.session.setup.depth w.session.setup.tail w.session.elements)) ag (writing_idle r.free agree).0) st (course c))
    fetch_elements (view.resting r ag el d) te = live wr (quiet w lent frame set wr l w.notes.reported l.reported)
    fetch_elements (view.stopping r ag el n d) te = stops (is_spending w.session n) refl
      where
        idle : Writing last w.session w.drive l.k l.edge recordings.no_command
        idle = (writing_idle r.free agree).0

        no_flight : w.flight ≡ recordings.no_command
        no_flight = (writing_idle r.free agree).1

        -- nothing is outstanding
        none_out : {x : due.DueSaid} → rule.DueView w.session.setup.depth w.session.setup.tail w.session.elements x → x ≡ due.refused n → Writing last w.session w.drive l.k l.edge recordings.no_command → w.session.elements.queue.outstanding ≡ 0
        none_out (rule.relocating _ _) q y = never (cc)
        none_out (rule.too_far t _) q (elements.at_place a g x) = clash t x.placed
        none_out (rule.too_far t _) q (elements.to_locate a g z x) = x.none_out
        none_out (rule.too_far t _) q (elements.again a g x) = clash g ag
        none_out (rule.resting _ _ _) q y = never (cc)
        none_out (rule.settling _ _ _) q y = never (cc)
        none_out (rule.confirming _ _ _) q y = never (cc)
        none_out (rule.full _ _ o _) q y = o
        none_out (rule.jumping _ _ _ _ _) q y = never (cc)
        none_out (rule.writing _ _ _ _ _) q y = never (cc)

        out : w.session.elements.queue.outstanding ≡ 0
        out = none_out (rule.due_view w.session.setup.depth w.session.setup.tail w.session.elements) d idle

        stops : (b : Bool) → is_spending w.session n ≡ b → After (record { session = ended_of w.session n; said = answer.refused n; frame = frame })
        stops true e =
            let why = spending_so w.session n e in
            spent wr (record {
              ended = refl;
              left_spent = e;
              none = no_flight;
              rests = (settled_writing ag out idle).1;
              unreported = unreported l (element_not_done w.session st);
              revives = gives_up (lent_world w lent w.session w.flight w.notes.reported) (quiet w lent frame set wr l w.notes.reported l.reported) st why.unended why.tailed no_flight ag out;
            })
        stops false e = over wr (record { ended = refl; final = e; none = no_flight; safe = writing_safe ag idle; unreported = unreported l (element_not_done w.session st) })
    fetch_elements (view.finished r ag d) te = element_not_done w.session st d

  fetch_done : {x : FetchedSaid} → w.session.stage ≡ S.Done → w.session.exchange.again ≡ false → FetchView w.session lent frame x → TakesEffect (fetch_number x.said) → After x
  fetch_done st ag (view.wrong_phase _) te = no_effect (omega arith) (omega arith) te
  fetch_done st ag (view.wrong_length _ _ _) te = no_effect (omega arith) (omega arith) te
  fetch_done st ag (view.repeating r again) te = clash again ag
  fetch_done st ag (view.copying r _ h) te = header_not_done w.session h st
  fetch_done st ag (view.stepping r _ el c d) te = element_not_done w.session el st
  fetch_done st ag (view.resting r _ el d) te = element_not_done w.session el st
  fetch_done st ag (view.stopping r _ el n d) te = element_not_done w.session el st
  fetch_done st ag (view.finished r _ d) te = live wr (quiet w lent frame set wr l true (λ _. st))

  live_fetch : Course last (length l.list) w l.k l.edge → {x : FetchedSaid} → FetchView w.session lent frame x → TakesEffect (fetch_number x.said) → After x
  live_fetch (inv.opening q u t c) v te = fetch_header (inl q) c (λ _ y. inv.opening q u t y) v te
  live_fetch (inv.writing q u a) v te = fetch_elements q a u (λ _ _ y. inv.writing q u y) v te
  live_fetch (inv.closing q u c a b g) v te = fetch_header (inr q) g (λ _ y. inv.closing q u c a b y) v te
  live_fetch (inv.finished q u c a b f g h r y) v te = fetch_done q h v te

-- refused with 7
wrong_phase : {X : Type 0} (s : State) (lent frame : List ℕ) → s.ended || s.exchange.awaiting ≡ true → TakesEffect (fetch_number (fetch_of s lent frame).said) → X
unfolding fetch_of
wrong_phase s lent frame e te = no_effect (omega arith) (omega arith) (subst (λ (x : FetchedSaid). TakesEffect (fetch_number x.said)) (pick_t _ e) te)

pub keeps_fetch : {last pass : ℕ} {on_newest none_bears : Type 0} {prior : Prior} (w : World) (lent frame : List ℕ) → Setting last pass → Inv last pass on_newest none_bears prior w → TakesEffect (fetch_number (fetch_of w.session lent frame).said) → Inv last pass on_newest none_bears prior (after_fetch w lent frame)
keeps_fetch w lent frame set (live wr l) te = live_fetch w lent frame set wr l l.course (fetch_view w.session lent frame) te
keeps_fetch w lent frame set (rejecting wr d) te = wrong_phase w.session lent frame (either_right w.session.ended w.session.exchange.awaiting d.awaits) te
keeps_fetch w lent frame set (spent wr x) te = wrong_phase w.session lent frame (either_left w.session.ended w.session.exchange.awaiting x.ended) te
keeps_fetch w lent frame set (over wr o) te = wrong_phase w.session lent frame (either_left w.session.ended w.session.exchange.awaiting o.ended) te
