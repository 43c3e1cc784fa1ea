-- Header copies that the drive holds, and what one leaves that it tries to write. Assumes nothing.
use Prim.Native.Nat.{ℕ, suc, ◌+◌, ◌<◌}
use mathlib.Core.Path.{◌≡◌, sym, ap, subst, ◌∙◌}
use mathlib.Core.Bool.{true}
use mathlib.Core.List.{List, ◌∷◌, head-eq_of_cons-eq, tail-eq_of_cons-eq}
use mathlib.Core.Logic.{◌⊎◌, inl, inr, ⊎_elim}
use mathlib.Core.Option.{Option, some}
use native.Mathlib.Decide.{ℕ_discrete}
use native.Mathlib.Omega.{arith}
use lib.ListN.{length, replicate}
use Rattle.geometry.specs.Cartridge.{is_header}
use Rattle.frame.specs.Header.{header_frame}
use Rattle.frame.specs.Sent.{ReadsAs}
use Rattle.frame.specs.declared.header.Header.{Header}
use Rattle.archive_lists.specs.Conduct.{Drive, AtRest, Left, wrote}
use Rattle.archive_lists.specs.Tape.{Tape, put}
use Rattle.archive_lists.specs.Headers.{HeaderAt}
use Rattle.archive_lists.proofs.tape.FoldLaws.{put_same, put_other}
use Rattle.archive_lists.proofs.recording.ContentMoves.{left_reads}
use Rattle.archive_lists.proofs.recording.HeaderCopies.{Carried}
use Rattle.archive_lists.proofs.recording.Trailing.{Prior}

-- ---- which headers the tape holds

-- a copy of a header that the session carried
pub record OwnCopy (last pass : ℕ) (prior : Prior) (f : List ℕ) : Type 0 where
  pub header : Header
  pub spare : ℕ
  pub carried : Carried last pass prior spare header
  pub as_sent : ReadsAs (header_frame header) f

-- every valid one reads as it did on the old tape, or is the session's own
abbrev pub Traced : ℕ → ℕ → Prior → Tape → Tape → Type 0
Traced last pass prior old t = (a : ℕ) (f : List ℕ) → HeaderAt last t a f → (old a ≡ some f) ⊎ OwnCopy last pass prior f

-- what reads where a frame was tried: what read there before, or at another address; or the frame
module _ (t : Tape) (a : ℕ) (v : Option (List ℕ)) (f : List ℕ) (left : Left (t a) f v) where
  pub kept_or_new : (b : ℕ) (g : List ℕ) → put t a v b ≡ some g → (t b ≡ some g) ⊎ ((b ≡ a) × ReadsAs f g)
  kept_or_new b g q = go (ℕ_discrete b a)
    where
      go : Dec (b ≡ a) → (t b ≡ some g) ⊎ ((b ≡ a) × ReadsAs f g)
      go (yes e) = ⊎_elim (λ x. inl (ap t e ∙ x)) (λ r. inr (e, r)) (left_reads left (sym (put_same t a v) ∙ ap (put t a v) (sym e) ∙ q))
      go (no n) = inl (sym (put_other t a v b n) ∙ q)

  pub traced_put : {last pass : ℕ} {prior : Prior} {old : Tape} → Traced last pass prior old t → (is_header a ≡ true → (g : List ℕ) → ReadsAs f g → OwnCopy last pass prior g) → Traced last pass prior old (put t a v)
  traced_put traced own b g at =
      ⊎_elim (λ q. traced b g (record { group = at.group; reads = q; valid = at.valid })) (λ q. inr (own (ap is_header (sym q.0) ∙ at.group) g q.1)) (kept_or_new b g at.reads)

-- ---- what the drive holds

-- copies of one header, which go to addresses of a header group
pub record CopiesHeld (last pass : ℕ) (prior : Prior) (d : Drive) : Type 0 where
  pub header : Header
  pub spare : ℕ
  pub carried : Carried last pass prior spare header
  pub placed : (i : ℕ) → i < length d.buffer → is_header (d.at + i) ≡ true
  pub alike : d.buffer ≡ replicate (length d.buffer) (header_frame header)

-- no element: it writes nothing, or header copies
pub data NoElements (last pass : ℕ) (prior : Prior) (d : Drive) : Type 0 where
  at_rest : AtRest d → NoElements last pass prior d
  copies : CopiesHeld last pass prior d → NoElements last pass prior d

-- the oldest of them is tried
module _ {last pass : ℕ} {prior : Prior} {d : Drive} (x : CopiesHeld last pass prior d) (f : List ℕ) (rest : List (List ℕ)) (q : d.buffer ≡ f ∷ rest) where
  size : length d.buffer ≡ suc (length rest)
  size = ap length q

  all_alike : f ∷ rest ≡ header_frame x.header ∷ replicate (length rest) (header_frame x.header)
  all_alike = sym q ∙ x.alike ∙ ap (λ (n : ℕ). replicate n (header_frame x.header)) size

  pub goes_here : is_header d.at ≡ true
  goes_here = let e : d.at + 0 ≡ d.at = omega arith in subst (λ (a : ℕ). is_header a ≡ true) e (x.placed 0 (omega (arith, size)))

  pub is_copy : f ≡ header_frame x.header
  is_copy = head-eq_of_cons-eq all_alike

  pub own_copy : (g : List ℕ) → ReadsAs f g → OwnCopy last pass prior g
  own_copy g r = record { header = x.header; spare = x.spare; carried = x.carried; as_sent = subst (λ (y : List ℕ). ReadsAs y g) is_copy r }

  pub rest_held : (v : Option (List ℕ)) → CopiesHeld last pass prior (wrote d rest v)
  rest_held v = record {
    header = x.header;
    spare = x.spare;
    carried = x.carried;
    placed = λ i low. let e : d.at + (i + 1) ≡ d.at + 1 + i = omega arith in subst (λ (a : ℕ). is_header a ≡ true) e (x.placed (i + 1) (omega (arith, size)));
    alike = tail-eq_of_cons-eq all_alike;
  }
