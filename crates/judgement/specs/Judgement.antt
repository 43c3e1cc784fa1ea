-- 01, "Reading a cartridge": what one frame read at an address is to a reading. AUX 4 to 11 are never looked at.
use Rattle.std.specs.Prelude.{ℕ, ◌+◌, ◌-◌, Bool, false, ◌&&◌, not, List, eqb, ltb, length, get_or, take, drop, Option, None, Some, Result, Ok, Err}
use Rattle.geometry.specs.Pick.{pick}
use Rattle.geometry.specs.Refusal.{refusal_number}
use Rattle.geometry.specs.Place.{as_address, as_seq}
use Rattle.buffer.specs.Bytes.{get16, get32, agree}
use Rattle.frame.specs.Aux.{data_type, marker_type, type_of, aux_bytes, element_aux}
use Rattle.frame.specs.declared.element.Element.{Element}
use Rattle.frame.specs.declared.element.Kind.{Kind}
use Rattle.frame.specs.declared.element.Kind.TheVariants.{Data, Marker, Eod}
use Rattle.geometry.specs.declared.address.Address.{Address}
use Rattle.geometry.specs.declared.address.Seq.{Seq}
use Rattle.frame.specs.Lengths.{frame_length, data_length}
use Rattle.frame.specs.declared.header.Header.{Header}
use Rattle.geometry.specs.declared.refusal.Refusal.{Refusal}

-- what a frame is to a reading
pub data JudgementSaid : Type 0 where
  -- passed over
  passed_over : JudgementSaid
  refused : ℕ → JudgementSaid
  -- delivered: a block, a filemark; or the end
  block : JudgementSaid
  filemark : JudgementSaid
  end : JudgementSaid

-- what is found, by its frame type: of the three that a reading looks at, EOD is the last
abbrev found_type : ℕ → JudgementSaid
found_type n = pick (eqb n data_type) block (pick (eqb n marker_type) filemark end)

-- the expected frame, by its kind
abbrev pub found_said : Kind → JudgementSaid
found_said k = found_type (type_of k)

-- what the code answers, in these terms
abbrev pub judgement_said : Result (Option Kind) Refusal → JudgementSaid
judgement_said (Ok None) = passed_over
judgement_said (Err r) = refused (refusal_number r)
judgement_said (Ok (Some k)) = found_said k

-- the element with the expected number; its filemarks and marker are in none of the bytes that are compared
abbrev pub expected_element : Kind → Header → Seq → Element
expected_element k told expected = record {
  kind = k;
  pass = told.pass;
  last = told.last;
  seq = expected;
  filemarks = 0;
  marker = as_address 0;
}

-- bytes a to e - 1 of a list
abbrev pub part : ℕ → ℕ → List ℕ → List ℕ
part a e l = take (e - a) (drop a l)

-- AUX 18-35 and 44-67 are as the table has them for the element
unfoldable pub as_table : Element → List ℕ → Bool
as_table e aux =
    agree (part 18 36 aux) (part 18 36 (aux_bytes (element_aux e)))
    && agree (part 44 68 aux) (part 44 68 (aux_bytes (element_aux e)))

-- 02, Card 1: from which address on an EOD ends reading: where the header says that EOD is or, if it says nothing, the old end that it names
unfoldable pub ends_from : Header → ℕ
ends_from told = pick (eqb told.eod.0 0) told.old.0 told.eod.0

-- an EOD below that
abbrev pub is_earlier_end : Kind → Header → Address → Bool
is_earlier_end Data told at = false
is_earlier_end Marker told at = false
is_earlier_end Eod told at = ltb at.0 (ends_from told)

-- 02, Card 6: whether it is the EOD that the header names; a header without one has 0 there
abbrev pub is_named_end : Kind → Header → Address → Bool
is_named_end Data told at = false
is_named_end Marker told at = false
is_named_end Eod told at = not (eqb told.eod.0 0) && eqb at.0 told.eod.0

-- such an EOD may be numbered one below what is expected: the element that was given up first may have been read at its bad spot
abbrev pub is_one_below : Kind → Header → Address → ℕ → Seq → Bool
is_one_below k told at n expected = is_named_end k told at && eqb (n + 1) expected.0

-- what has this number is delivered, or refused with 11 if it is not as the table has it
abbrev pub judge_table : Kind → Header → Seq → List ℕ → JudgementSaid
judge_table k told number aux = pick (as_table (expected_element k told number) aux) (found_said k) (refused 11)

-- the named EOD, if it is numbered one below; else by how the number compares with the expected one: lower, passed over; higher, refusal 10;
-- the same, passed over if it is an earlier end
unfoldable pub judge_number : Kind → Header → Address → Seq → List ℕ → JudgementSaid
judge_number k told at expected aux =
    pick (is_one_below k told at (get32 aux 44) expected) (judge_table k told (as_seq (get32 aux 44)) aux)
    (pick (ltb (get32 aux 44) expected.0) passed_over
    (pick (ltb expected.0 (get32 aux 44)) (refused 10)
    (pick (is_earlier_end k told at) passed_over
    (judge_table k told expected aux))))

-- ---- the tests that a frame must pass before its number is looked at, one after another

abbrev unless : Bool → JudgementSaid → JudgementSaid → JudgementSaid
unless test over next = pick test next over

-- partition 00, then pass the header's
unfoldable pub judge_kind : Kind → Header → Address → Seq → List ℕ → JudgementSaid
judge_kind k told at expected aux =
    unless (eqb (get_or aux 20 0) 0) passed_over
    (unless (eqb (get16 aux 22) told.pass) passed_over
    (judge_number k told at expected aux))

-- type is data, marker or EOD
unfoldable pub judge_type : Header → Address → Seq → List ℕ → JudgementSaid
judge_type told at expected aux =
    pick (eqb (get16 aux 16) (type_of Data)) (judge_kind Data told at expected aux)
    (pick (eqb (get16 aux 16) (type_of Marker)) (judge_kind Marker told at expected aux)
    (pick (eqb (get16 aux 16) (type_of Eod)) (judge_kind Eod told at expected aux) passed_over))

-- AUX 0-3 are 0
unfoldable pub judge_aux : Header → Address → Seq → List ℕ → JudgementSaid
judge_aux told at expected aux = unless (eqb (get32 aux 0) 0) passed_over (judge_type told at expected aux)

-- a lent length that is not a frame's: refusal 1
unfoldable pub judge_frame : Header → Address → Seq → List ℕ → JudgementSaid
judge_frame told at expected frame =
    pick (eqb (length frame) frame_length) (judge_aux told at expected (drop data_length frame)) (refused 1)
