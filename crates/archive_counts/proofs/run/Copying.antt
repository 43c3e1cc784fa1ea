-- Where the header copies are between two exchanges, which command is due, and what a reply makes of it. Assumes nothing.
use Prim.Native.Nat.{ℕ, ◌+◌, ◌-◌, ◌*◌, ◌%◌, ◌^◌, ◌≤◌, ◌<◌}
use mathlib.Core.Path.{◌≡◌, refl}
use mathlib.Core.Bool.{Bool, true, false}
use mathlib.Core.Logic.{◌⊎◌, inl, inr}
use native.Mathlib.Nat.{mod-eq_of_lt}
use native.Mathlib.Omega.{arith}
use Rattle.geometry.proofs.Impossible.{clash}
use Rattle.drive.specs.Command.{CommandSaid, write, locate, read_position}
use Rattle.copies.specs.Copies as copies
use Rattle.copies.specs.Copies.{header_at}
use Rattle.copies.specs.declared.copies.Copies.{Copies}
use Rattle.copies.proofs.CommandView as command
use Rattle.copies.proofs.ReplyView as copying

-- ---- where the copies are

-- in a group copy c is due, o are outstanding, and at most one of this group is spoiled
pub record Copying (group c o : ℕ) (locate : Bool) (x : Copies) : Type 0 where
  pub group_is : x.group ≡ group
  pub copy_is : x.copy ≡ c
  pub out_is : x.outstanding ≡ o
  pub locate_is : x.locate ≡ locate
  pub least : c ≤ x.confirmed + o + 1
  pub most : x.confirmed + o ≤ group * 5 + c

-- ---- what is due, and what a reply makes of it

pub due_write : {depth : ℕ} {x : Copies} {y : CommandSaid} → x.locate ≡ false → x.copy < 5 → x.outstanding < depth → command.CommandView depth x y → y ≡ write (header_at x).0
due_write l p o (command.locating q) = clash q l
due_write l p o (command.writing _ _ _) = refl
due_write l p o (command.asking _ (inl q)) = absurd (omega arith)
due_write l p o (command.asking _ (inr q)) = absurd (omega arith)

pub due_position : {depth : ℕ} {x : Copies} {y : CommandSaid} → x.locate ≡ false → (5 ≤ x.copy) ⊎ (depth ≤ x.outstanding) → command.CommandView depth x y → y ≡ read_position
due_position l p (command.locating q) = clash q l
due_position l (inl p) (command.writing _ q _) = absurd (omega arith)
due_position l (inr p) (command.writing _ _ q) = absurd (omega arith)
due_position l p (command.asking _ _) = refl

pub due_locate : {depth : ℕ} {x : Copies} {y : CommandSaid} → x.locate ≡ true → command.CommandView depth x y → y ≡ locate (header_at x).0
due_locate l (command.locating q) = refl
due_locate l (command.writing q _ _) = clash l q
due_locate l (command.asking q _) = clash l q

pub counted_so : (x : Copies) {y : copies.ProgressSaid} → copying.CountedView x 0 y → y ≡ copies.onward_of (copies.confirmed_of x (x.outstanding - 0))
counted_so x (copying.too_many q) = absurd (omega arith)
counted_so x (copying.counted _) = refl

pub failed_so : (x : Copies) (i : ℕ) {y : copies.ProgressSaid} → copies.oldest_copy x ≤ i → i < x.copy → copying.FailedView x i y
    → y ≡ copies.onward_of (copies.failed_at x (i - copies.oldest_copy x) i)
failed_so x i l h (copying.before q) = absurd (omega arith)
failed_so x i l h (copying.behind q) = absurd (omega arith)
failed_so x i l h (copying.failed _ _) = refl

pub onward_more : (x : Copies) {y : copies.ProgressSaid} → x.copy < 5 → copying.OnwardView x y → y ≡ copies.more x
onward_more x l (copying.unfinished _) = refl
onward_more x l (copying.turning q _ _) = absurd (omega arith)
onward_more x l (copying.unwritten q _ _ _) = absurd (omega arith)
onward_more x l (copying.through q _ _ _) = absurd (omega arith)

pub onward_next : (x : Copies) {y : copies.ProgressSaid} → 5 ≤ x.copy → x.outstanding ≡ 0 → x.group ≡ 0 → copying.OnwardView x y → y ≡ copies.more (copies.next_group x)
onward_next x l o g (copying.unfinished (inl q)) = absurd (omega arith)
onward_next x l o g (copying.unfinished (inr q)) = absurd (omega arith)
onward_next x l o g (copying.turning _ _ _) = refl
onward_next x l o g (copying.unwritten _ _ q _) = absurd (omega arith)
onward_next x l o g (copying.through _ _ q _) = absurd (omega arith)

pub onward_complete : (x : Copies) {y : copies.ProgressSaid} → 5 ≤ x.copy → x.outstanding ≡ 0 → 0 < x.group → 0 < x.confirmed → copying.OnwardView x y → y ≡ copies.complete
onward_complete x l o g k (copying.unfinished (inl q)) = absurd (omega arith)
onward_complete x l o g k (copying.unfinished (inr q)) = absurd (omega arith)
onward_complete x l o g k (copying.turning _ _ q) = absurd (omega arith)
onward_complete x l o g k (copying.unwritten _ _ _ q) = absurd (omega arith)
onward_complete x l o g k (copying.through _ _ _ _) = refl

-- ---- the copies behind a reply

pub taken_copying : {group c o : ℕ} (x : Copies) → group ≤ 1 → c < 5 → o ≤ c → Copying group c o false x → Copying group (c + 1) (o + 1) false (copies.taken_of x)
taken_copying x one low few k =
    let copy = k.copy_is in
    let outs = k.out_is in
    let short : (x.copy + 1) % 2 ^ 8 ≡ x.copy + 1 = mod-eq_of_lt (omega arith) in
    let small : (x.outstanding + 1) % 2 ^ 8 ≡ x.outstanding + 1 = mod-eq_of_lt (omega arith) in
    record {
      group_is = k.group_is;
      copy_is = omega (arith, short);
      out_is = omega (arith, small);
      locate_is = k.locate_is;
      least = let q = k.least in omega arith;
      most = let q = k.most in omega arith;
    }

abbrev pub confirmed : Copies → Copies
confirmed x = copies.confirmed_of x (x.outstanding - 0)

pub confirmed_copying : {group c o : ℕ} (x : Copies) → group ≤ 1 → c ≤ 5 → Copying group c o false x → Copying group c 0 false (confirmed x)
confirmed_copying x one low k =
    let outs = k.out_is in
    let least = k.least in
    let most = k.most in
    let small : (x.confirmed + (x.outstanding - 0)) % 2 ^ 8 ≡ x.confirmed + (x.outstanding - 0) = mod-eq_of_lt (omega arith) in
    record {
      group_is = k.group_is;
      copy_is = k.copy_is;
      out_is = omega arith;
      locate_is = k.locate_is;
      least = omega (arith, small);
      most = omega (arith, small);
    }

-- the first copy of a group fails, with all that were taken outstanding
pub failed_copying : {group c : ℕ} (x : Copies) (i j : ℕ) → group ≤ 1 → c ≤ 5 → i ≡ 0 → j ≡ 0 → Copying group c c false x → Copying group 1 0 true (copies.failed_at x i j)
failed_copying x i j one low none first k =
    let most = k.most in
    let small : (x.confirmed + i) % 2 ^ 8 ≡ x.confirmed + i = mod-eq_of_lt (omega arith) in
    record {
      group_is = k.group_is;
      copy_is = omega arith;
      out_is = refl;
      locate_is = refl;
      least = omega arith;
      most = omega (arith, small);
    }
