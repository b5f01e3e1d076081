-- Reads of one part after another.
use Rattle.std.proofs.Common.{◌≡◌, ℕ, ◌+◌, ◌-◌, ◌<◌, ◌≤◌, inl, inr, List, [], ◌++◌, length, get_or, take, refl, sym, ◌∙◌, ap, subst, arith, length-take, length-drop}
use Rattle.std.proofs.lemmas.Bool.{cases_lt}
use Rattle.std.proofs.lemmas.List.{ext_get_or, get_or-take, get_or_append_left, get_or-append_right, length-take-le}
use borrow.Rule.Slice.PartMut.{put_mid, post_of, same_len_mid}
use Rattle.mars_base.specs.Bytes.{range}
use Rattle.pcm_media.proofs.Ranges.{length-range, get_or-range}
use Rattle.media_file.specs.Past.{Past, came, noted, held, AreBefore, Answers, IsHonest}
use Rattle.media_file.specs.Transfer.{Serves}
use Rattle.media_file.proofs.ServeLemmas.{serves_none, serves_more, honest_last}

-- `done` bytes were read
pub record ReadSoFar (moment at done : ℕ) (buf : List ℕ) (old now : Past) : Type 0 where
  pub same : held now ≡ held old
  pub serves : Serves moment [] old now
  pub bytes : (i : ℕ) → i < done → get_or buf i 0 ≡ get_or (held old).bytes (at + i) 0

pub read_none : (moment at : ℕ) (buf : List ℕ) (past : Past) → AreBefore moment past.calls → ReadSoFar moment at 0 buf past past
read_none moment at buf past before = record { same = refl; serves = serves_none moment [] past before; bytes = λ i lt. absurd (omega (arith, lt)) }

module _ (done : ℕ) (buf part : List ℕ) (low : done ≤ length buf) where
  front_is : (i : ℕ) → i < done → get_or (put_mid done (length buf - done) buf part) i 0 ≡ get_or buf i 0
  front_is i lt =
      let front : length (take done buf) ≡ done = length-take-le done buf low in
      get_or_append_left (take done buf) (part ++ post_of done (length buf - done) buf) 0 i (omega arith) ∙ get_or-take done buf i 0 lt

  part_is : (i : ℕ) → done ≤ i → i < done + length part → get_or (put_mid done (length buf - done) buf part) i 0 ≡ get_or part (i - done) 0
  part_is i le lt =
      let front : length (take done buf) ≡ done = length-take-le done buf low in
      get_or-append_right (take done buf) (part ++ post_of done (length buf - done) buf) done i 0 front le
      ∙ get_or_append_left part (post_of done (length buf - done) buf) 0 (i - done) (omega arith)

  -- a call that gave nothing
  pub read_again : (moment at : ℕ) (old now : Past) → ReadSoFar moment at done buf old now → ReadSoFar moment at done (put_mid done (length buf - done) buf part) old now
  read_again moment at old now so_far = record { same = so_far.same; serves = so_far.serves; bytes = λ i lt. front_is i lt ∙ so_far.bytes i lt }

  -- a call that gave `count` bytes
  pub read_more : (moment at count : ℕ) (old now : Past) → count ≤ length part → ReadSoFar moment at done buf old now
      → Answers (came (at + done) (take count part)) (held now) → ReadSoFar moment at (done + count) (put_mid done (length buf - done) buf part) old (noted moment (came (at + done) (take count part)) now)
  read_more moment at count old now few so_far answers = record {
    same = so_far.same;
    serves = serves_more moment [] old now (came (at + done) (take count part)) so_far.serves so_far.serves.touched;
    bytes = λ i lt. elim (cases_lt i done) [
      | inl before ↦ front_is i before ∙ so_far.bytes i before
      | inr from ↦
          let long : length (take count part) ≡ count = length-take-le count part few in
          part_is i from (omega arith)
          ∙ sym (get_or-take count part (i - done) 0 (omega arith))
          ∙ ap (λ (bytes : List ℕ). get_or bytes (i - done) 0) answers
          ∙ get_or-range (held now).bytes (at + done) (length (take count part)) (i - done) (omega arith)
          ∙ ap (λ (k : ℕ). get_or (held now).bytes k 0) (omega arith)
          ∙ ap (λ c. get_or c.bytes (at + i) 0) so_far.same
    ];
  }

  pub read_next : (moment at count reach : ℕ) (old now next : Past) → count ≤ length part → reach ≡ done + count → ReadSoFar moment at done buf old now
      → next ≡ noted moment (came (at + done) (take count part)) now → IsHonest next.first next.calls → ReadSoFar moment at reach (put_mid done (length buf - done) buf part) old next
  read_next moment at count reach old now next few there so_far is honest =
      subst (λ (n : ℕ). ReadSoFar moment at n (put_mid done (length buf - done) buf part) old next) (sym there)
      (subst (λ (p : Past). ReadSoFar moment at (done + count) (put_mid done (length buf - done) buf part) old p) (sym is)
      (read_more moment at count old now few so_far (honest_last moment (came (at + done) (take count part)) now next is honest)))

  pub read_failed : (moment at reach : ℕ) (old now next : Past) → reach ≡ done → ReadSoFar moment at done buf old now → next ≡ now → ReadSoFar moment at reach (put_mid done (length buf - done) buf part) old next
  read_failed moment at reach old now next there so_far is =
      subst (λ (n : ℕ). ReadSoFar moment at n (put_mid done (length buf - done) buf part) old next) (sym there)
      (subst (λ (p : Past). ReadSoFar moment at done (put_mid done (length buf - done) buf part) old p) (sym is) (read_again moment at old now so_far))

-- all of them
pub read_whole : (moment at : ℕ) (buf : List ℕ) (len : ℕ) (old now : Past) → length buf ≡ len → at + len ≤ length (held old).bytes → ReadSoFar moment at len buf old now → buf ≡ range (held old).bytes at len
read_whole moment at buf len old now long within so_far =
    ext_get_or 0 buf (range (held old).bytes at len) (long ∙ sym (length-range (held old).bytes at len within))
    (λ i lt. so_far.bytes i (omega arith) ∙ sym (get_or-range (held old).bytes at len i (omega arith)))

pub length_kept : (done : ℕ) (buf part : List ℕ) → done ≤ length buf → length part ≡ length buf - done → length (put_mid done (length buf - done) buf part) ≡ length buf
length_kept done buf part low len = same_len_mid done (length buf - done) buf part (len ∙ sym (simp (length-take, length-drop) (omega arith)))
