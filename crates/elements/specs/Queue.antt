-- 01, "A recording session": the elements that are not known to be on tape, EOD among them once it is due. The outstanding ones are taken by the
-- drive, the others are due. All that is subtracted stops at 0.
-- Numbers of 32 and 16 bits wrap in a session that no call returned.
use Rattle.std.specs.Prelude.{ℕ, ◌+◌, ◌-◌, ◌%◌, Bool, false, replicate, slice_index_or, slice_set}
use Rattle.geometry.specs.Place.{as_seq}
use Rattle.geometry.specs.Wrap.{wrap16, wrap32}
use Rattle.geometry.specs.declared.address.Seq.{Seq}
use Rattle.frame.specs.Lengths.{most_blocks}
use Rattle.elements.specs.declared.queue.Queue.{Queue}

-- none yet; the first gets this number
abbrev pub empty_from : Seq → Queue
empty_from number = record { first = number; pending = 0; outstanding = 0; marks = replicate most_blocks false }

-- the number of the element n behind the oldest
abbrev pub number_of : Queue → ℕ → Seq
number_of q n = as_seq (wrap32 (q.first.0 + n))

-- the place of its mark: there are as many marks as a window may have blocks
abbrev pub mark_place : Seq → ℕ → ℕ
mark_place first n = (first.0 + n) % most_blocks

-- one element more, a filemark or not
abbrev pub accepted_of : Queue → Bool → Queue
accepted_of q mark = record q {
  pending = wrap16 (q.pending + 1);
  marks = slice_set q.marks (mark_place q.first q.pending) mark;
}

-- whether the element n behind the oldest is a filemark
abbrev pub mark_at : Queue → ℕ → Bool
mark_at q n = slice_index_or q.marks (mark_place q.first n) false

-- whether the next element to be written is one
abbrev pub is_mark : Queue → Bool
is_mark q = mark_at q q.outstanding

-- so many elements, of which the drive has taken so many
abbrev pub with_counts : Queue → ℕ → ℕ → Queue
with_counts q pending outstanding = record q { pending = pending; outstanding = outstanding }

-- without any: they are given up
abbrev pub dropped_of : Queue → Queue
dropped_of q = with_counts q 0 0

-- the drive has taken one more
abbrev pub taken_of : Queue → Queue
taken_of q = with_counts q q.pending (wrap16 (q.outstanding + 1))

-- all are due again
abbrev pub due_again : Queue → Queue
due_again q = with_counts q q.pending 0

-- without the oldest n, which are on tape
abbrev pub confirmed_of : Queue → ℕ → Queue
confirmed_of q n = record q { first = number_of q n; pending = q.pending - n; outstanding = q.outstanding - n }
