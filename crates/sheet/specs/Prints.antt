-- 02, Card 9: the calls print the sheet of the dump.
use Rattle.std.specs.Prelude.{◌≡◌, ℕ, ◌+◌, true, List, [], ◌∷◌, ◌++◌, length}
use Rattle.sheet.specs.declared.sheet.Sheet.{Sheet}
use Rattle.sheet.specs.Line.{line_length}
use Rattle.sheet.specs.Answer.{AnswerSaid, EnteredSaid, nothing, whole_line, refused}
use Rattle.sheet.specs.Calls.{open_of, enter_of, finish_of}
use Rattle.sheet.specs.Dump.{fields_of, sheet_of}

-- what the answer to a call tells to print: the line that the call left, or nothing
abbrev to_print : AnswerSaid → List ℕ → List ℕ
to_print nothing l = []
to_print whole_line l = l
to_print (refused n) l = []

abbrev pub printed_by : EnteredSaid → List ℕ
printed_by r = to_print r.said r.line

-- a field after the other is entered, then the dump ends; call k is lent line k, and each call has the sheet that the last one left
unfoldable pub enter_all : (ℕ → List ℕ) → ℕ → Sheet → List (List ℕ) → List ℕ
enter_all lines k s [] = printed_by (finish_of s (lines k))
enter_all lines k s (f ∷ fs) = printed_by (enter_of s f (lines k)) ++ enter_all lines (k + 1) (enter_of s f (lines k)).sheet fs

-- the sheet is opened before
abbrev pub print_all : (ℕ → List ℕ) → List ℕ → List ℕ
print_all lines dump = printed_by (open_of (lines 0)) ++ enter_all lines 1 (open_of (lines 0)).sheet (fields_of dump)

-- whatever 28 bytes each call is lent, what the last one left or others
pub record PrintsSheet : Type 0 where
  -- the calls on a dump print its sheet
  pub prints : (lines : ℕ → List ℕ) → ((k : ℕ) → length (lines k) ≡ line_length) → (dump : List ℕ) → print_all lines dump ≡ sheet_of dump
  -- once the sheet has ended they print nothing more, so that whoever prints may stop there
  pub ended : (lines : ℕ → List ℕ) (k : ℕ) (s : Sheet) (fields : List (List ℕ)) → s.ended ≡ true → enter_all lines k s fields ≡ []
