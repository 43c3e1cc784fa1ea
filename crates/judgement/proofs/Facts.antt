-- The judgement's tests as plain facts. Assumes nothing.
use mathlib.Core.Path.{◌≡◌}
use mathlib.Core.Bool.{true}
use mathlib.Core.List.{List}
use Prim.Native.Nat.{ℕ}
use lib.ListN.{length, get_or, drop}
use Rattle.buffer.specs.Bytes.{get16, get32, agree}
use Rattle.frame.specs.Aux.{type_of, aux_bytes, element_aux}
use Rattle.frame.specs.declared.element.Element.{Element}
use Rattle.frame.specs.declared.element.Kind.{Kind}
use Rattle.geometry.specs.declared.address.Seq.{Seq}
use Rattle.geometry.proofs.TestLaws.{and_true}
use Rattle.buffer.proofs.Agreement.{agree_same, agree_is}
use Rattle.frame.specs.declared.header.Header.{Header}
use Rattle.judgement.specs.Judgement.{expected_element, part, as_table}

-- the frame is of the pass and of a kind
pub record Typed (told : Header) (k : Kind) (frame : List ℕ) : Type 0 where
  pub long : length frame ≡ 33280
  pub format : get32 (drop 32768 frame) 0 ≡ 0
  pub type : get16 (drop 32768 frame) 16 ≡ type_of k
  pub partition : get_or (drop 32768 frame) 20 0 ≡ 0
  pub written : get16 (drop 32768 frame) 22 ≡ told.pass

-- the AUX has the bytes that are compared as the table has them for the element
pub record Alike (e : Element) (aux : List ℕ) : Type 0 where
  pub description : part 18 36 aux ≡ part 18 36 (aux_bytes (element_aux e))
  pub numbers : part 44 68 aux ≡ part 44 68 (aux_bytes (element_aux e))

-- the frame is the expected one
pub record FoundAs (told : Header) (expected : Seq) (k : Kind) (frame : List ℕ) : Type 0 where
  pub typed : Typed told k frame
  pub number : get32 (drop 32768 frame) 44 ≡ expected.0
  pub alike : Alike (expected_element k told expected) (drop 32768 frame)

module _ {e : Element} {aux : List ℕ} where
  pub alike_so : Alike e aux → as_table e aux ≡ true
  unfolding as_table
  alike_so h =
      rw (h.description, h.numbers, agree_same (part 18 36 (aux_bytes (element_aux e))), agree_same (part 44 68 (aux_bytes (element_aux e))))

  pub so_alike : as_table e aux ≡ true → Alike e aux
  unfolding as_table
  so_alike h =
      let t = and_true (agree (part 18 36 aux) (part 18 36 (aux_bytes (element_aux e)))) (agree (part 44 68 aux) (part 44 68 (aux_bytes (element_aux e)))) h in
      record { description = agree_is _ _ t.0; numbers = agree_is _ _ t.1 }
