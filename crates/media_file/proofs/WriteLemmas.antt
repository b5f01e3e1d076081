-- Writes of one part after another.
use Rattle.std.proofs.Common.{◌≡◌, ℕ, ◌+◌, ◌-◌, ◌<◌, ◌≤◌, ◌⊎◌, min, max, Bool, true, false, inl, inr, List, [], ◌∷◌, length, get_or, take, drop, refl, sym, ◌∙◌, ap, subst, arith, ne_eqb, eq-eqb}
use Rattle.std.proofs.lemmas.Bool.{cases_lt}
use Rattle.std.proofs.lemmas.List.{ext_get_or, get_or-take, get_or-drop, length-take-le, length-drop}
use Rattle.std.proofs.lemmas.List.Elements.{All-head}
use Rattle.mars_base.specs.Bytes.{put}
use Rattle.mars_base.proofs.Puts.{length-put, get_or-put_before, get_or-put_after, get_or-put_inside}
use Rattle.pcm_media.specs.Images.{Touched, IsOutside, written}
use Rattle.pcm_media.proofs.Left.{get_or-put_outside}
use Rattle.media_file.specs.Past.{Made, Past, stands, noted, held, joined, goes_on, AreBefore}
use Rattle.media_file.specs.Transfer.{Serves}
use Rattle.media_file.proofs.ServeLemmas.{serves_none, serves_more}

-- The parts that were written count as one range, which reaches at least this far.
pub record HasRange (moment at reach len : ℕ) (old now : Past) : Type 0 where
  pub width : ℕ
  pub low : reach ≤ width
  pub high : width ≤ len
  pub unsettled : (held now).unsettled ≡ (at, width) ∷ (held old).unsettled
  pub goes : goes_on moment now.calls ≡ true

-- `done` bytes were written
pub record WrittenSoFar (moment at : ℕ) (bytes : List ℕ) (done : ℕ) (old now : Past) : Type 0 where
  pub serves : Serves moment ((at, length bytes) ∷ []) old now
  pub there : (i : ℕ) → i < done → get_or (held now).bytes (at + i) 0 ≡ get_or bytes i 0
  pub range : ((now ≡ old) × (done ≡ 0)) ⊎ HasRange moment at done (length bytes) old now

pub written_none : (moment at : ℕ) (bytes : List ℕ) (past : Past) → AreBefore moment past.calls → WrittenSoFar moment at bytes 0 past past
written_none moment at bytes past before = record { serves = serves_none moment ((at, length bytes) ∷ []) past before; there = λ i lt. absurd (omega (arith, lt)); range = inl (refl, refl) }

starts : (moment : ℕ) (calls : List Made) → AreBefore moment calls → goes_on moment calls ≡ false
starts moment [] before = refl
starts moment (made ∷ earlier) before = ne_eqb made.moment moment (omega (arith, All-head (λ made. made.moment < moment) made earlier before))

-- one more part, whatever it is, after those that were written
module _ (moment at done len : ℕ) (part : List ℕ) (old now : Past) (few : done + length part ≤ len) (before : AreBefore moment old.calls) where
  range_first : now ≡ old → done ≡ 0 → HasRange moment at (done + length part) len old (noted moment (stands (at + done) part) now)
  range_first same none =
      let new : Past = noted moment (stands (at + done) part) old in
      let first : (held new).unsettled ≡ (at, done + length part) ∷ (held old).unsettled =
      ap (λ (b : Bool). joined b (at + done, length part) (held old).unsettled) (starts moment old.calls before)
      ∙ ap (λ (p : ℕ × ℕ). p ∷ (held old).unsettled) (λ i. (place i, count i)) in
      subst (λ (p : Past). HasRange moment at (done + length part) len old (noted moment (stands (at + done) part) p)) (sym same)
      (record { width = done + length part; low = omega arith; high = few; unsettled = first; goes = eq-eqb moment moment refl })
    where
      place : at + done ≡ at
      place = omega arith

      count : length part ≡ done + length part
      count = omega arith

  range_next : HasRange moment at done len old now → HasRange moment at (done + length part) len old (noted moment (stands (at + done) part) now)
  range_next range = record {
    width = max (done + length part) range.width;
    low = omega arith;
    high = omega (arith, few, range.high);
    unsettled = ap (λ (b : Bool). joined b (at + done, length part) (held now).unsettled) range.goes
        ∙ ap (λ (rs : List (ℕ × ℕ)). joined true (at + done, length part) rs) range.unsettled
        ∙ ap (λ (p : ℕ × ℕ). p ∷ (held old).unsettled) (λ i. (place i, count i));
    goes = eq-eqb moment moment refl;
  }
    where
      place : min (at + done) at ≡ at
      place = omega arith

      count : max (at + done + length part) (at + range.width) - min (at + done) at ≡ max (done + length part) range.width
      count = omega arith

-- A part after the bytes that were written: these stay, and the part stands there.
module _ (moment at done : ℕ) (bytes part : List ℕ) (old now : Past) (few : done + length part ≤ length bytes) (before : AreBefore moment old.calls)
    (within : at + length bytes ≤ length (held old).bytes) (so_far : WrittenSoFar moment at bytes done old now) where
  abbrev new : Past
  new = noted moment (stands (at + done) part) now

  long : length (held now).bytes ≡ length (held old).bytes
  long = so_far.serves.touched.bytes.long

  fits : at + done + length part ≤ length (held now).bytes
  fits = omega (arith, long)

  range_is : HasRange moment at (done + length part) (length bytes) old new
  range_is = elim so_far.range [
    | inl none ↦ range_first moment at done (length bytes) part old now few before none.0 none.1
    | inr range ↦ range_next moment at done (length bytes) part old now few before range
  ]

  touched_is : Touched ((at, length bytes) ∷ []) (held old) (held new)
  touched_is = record {
    bytes = record {
      long = length-put (held now).bytes (at + done) part fits ∙ long;
      same = λ i out. get_or-put_outside (held now).bytes (at + done) part fits i (λ le lt. out.0 (omega arith) (omega arith)) ∙ so_far.serves.touched.bytes.same i out;
    };
    unsettled = λ i out was. subst (λ rs. IsOutside rs i) (sym range_is.unsettled) ((λ le lt. out.0 le (omega (arith, lt, range_is.high))), was);
  }

  serves_is : Serves moment ((at, length bytes) ∷ []) old new
  serves_is = serves_more moment ((at, length bytes) ∷ []) old now (stands (at + done) part) so_far.serves touched_is

  kept : (i : ℕ) → i < done → get_or (held new).bytes (at + i) 0 ≡ get_or bytes i 0
  kept i lt = get_or-put_before (held now).bytes (at + done) part fits (at + i) (omega arith) ∙ so_far.there i lt

  -- a failed write, which may have left anything there
  spoilt : WrittenSoFar moment at bytes done old new
  spoilt = record {
    serves = serves_is;
    there = kept;
    range = inr (record { width = range_is.width; low = omega (arith, range_is.low); high = range_is.high; unsettled = range_is.unsettled; goes = range_is.goes });
  }

  -- a write that took the bytes
  taken : ((i : ℕ) → i < length part → get_or part i 0 ≡ get_or bytes (done + i) 0) → WrittenSoFar moment at bytes (done + length part) old new
  taken is = record {
    serves = serves_is;
    there = λ i lt. elim (cases_lt i done) [
      | inl below ↦ kept i below
      | inr from ↦
          get_or-put_inside (held now).bytes (at + done) part fits (at + i) (omega arith) (omega arith)
          ∙ ap (λ (k : ℕ). get_or part k 0) (omega arith)
          ∙ is (i - done) (omega arith)
          ∙ ap (λ (k : ℕ). get_or bytes k 0) (omega arith)
    ];
    range = inr range_is;
  }

-- the bytes that are not written yet
abbrev pub rest_of : List ℕ → ℕ → List ℕ
rest_of bytes done = take (length bytes - done) (drop done bytes)

pub length_rest : (bytes : List ℕ) (done : ℕ) → length (rest_of bytes done) ≡ length bytes - done
length_rest bytes done = length-take-le (length bytes - done) (drop done bytes) (omega (arith, length-drop done bytes))

rest_is : (bytes : List ℕ) (done count i : ℕ) → count ≤ length (rest_of bytes done) → i < count → get_or (take count (rest_of bytes done)) i 0 ≡ get_or bytes (done + i) 0
rest_is bytes done count i few lt =
    get_or-take count (rest_of bytes done) i 0 lt
    ∙ get_or-take (length bytes - done) (drop done bytes) i 0 (omega (arith, length_rest bytes done))
    ∙ get_or-drop done bytes i 0

module _ (moment at done : ℕ) (bytes : List ℕ) (old now next : Past) (low : done ≤ length bytes) (before : AreBefore moment old.calls)
    (within : at + length bytes ≤ length (held old).bytes) (so_far : WrittenSoFar moment at bytes done old now) where
  -- a call that failed
  pub written_failed : (reach : ℕ) → reach ≡ done → (next ≡ now) ⊎ ((left : List ℕ) × (length left ≡ length (rest_of bytes done)) × (next ≡ noted moment (stands (at + done) left) now)) → WrittenSoFar moment at bytes reach old next
  written_failed reach there failed = subst (λ (n : ℕ). WrittenSoFar moment at bytes n old next) (sym there) (elim failed [
    | inl same ↦ subst (λ (p : Past). WrittenSoFar moment at bytes done old p) (sym same) so_far
    | inr left ↦
        let long = length_rest bytes done in
        subst (λ (p : Past). WrittenSoFar moment at bytes done old p) (sym left.2) (spoilt moment at done bytes left.0 old now (omega (arith, left.1)) before within so_far)
  ])

  -- a call that took `count` bytes
  module _ (count reach : ℕ) (few : count ≤ length (rest_of bytes done)) (there : reach ≡ done + count) (is : next ≡ noted moment (stands (at + done) (take count (rest_of bytes done))) now) where
    count_is : length (take count (rest_of bytes done)) ≡ count
    count_is = length-take-le count (rest_of bytes done) few

    room : done + length (take count (rest_of bytes done)) ≤ length bytes
    room = omega (arith, count_is, length_rest bytes done)

    pub written_next : WrittenSoFar moment at bytes reach old next
    written_next =
        let reaches : done + length (take count (rest_of bytes done)) ≡ reach = omega (arith, count_is) in
        subst (λ (n : ℕ). WrittenSoFar moment at bytes n old next) reaches
        (subst (λ (p : Past). WrittenSoFar moment at bytes (done + length (take count (rest_of bytes done))) old p) (sym is)
        (taken moment at done bytes (take count (rest_of bytes done)) old now room before within so_far (λ i lt. rest_is bytes done count i few (omega (arith, count_is)))))

    has_range : HasRange moment at reach (length bytes) old next
    has_range =
        let reaches : done + length (take count (rest_of bytes done)) ≡ reach = omega (arith, count_is) in
        subst (λ (n : ℕ). HasRange moment at n (length bytes) old next) reaches
        (subst (λ (p : Past). HasRange moment at (done + length (take count (rest_of bytes done))) (length bytes) old p) (sym is)
        (range_is moment at done bytes (take count (rest_of bytes done)) old now room before within so_far))

    -- the last of them
    pub written_whole : reach ≡ length bytes → held next ≡ written at bytes (held old)
    written_whole all =
        let range = has_range in
        let width : range.width ≡ length bytes = omega (arith, range.low, range.high) in
        let unsettled : (held next).unsettled ≡ (at, length bytes) ∷ (held old).unsettled = range.unsettled ∙ ap (λ (n : ℕ). (at, n) ∷ (held old).unsettled) width in
        let same : (held next).bytes ≡ put (held old).bytes at bytes =
        ext_get_or 0 (held next).bytes (put (held old).bytes at bytes) (written_next.serves.touched.bytes.long ∙ sym (length-put (held old).bytes at bytes within)) (λ i lt. elim (cases_lt i at) [
          | inl below ↦ written_next.serves.touched.bytes.same i ((λ le lt'. omega arith), tt) ∙ sym (get_or-put_before (held old).bytes at bytes within i below)
          | inr from ↦ elim (cases_lt i (at + length bytes)) [
            | inl inside ↦
                ap (λ (k : ℕ). get_or (held next).bytes k 0) (omega arith) ∙ written_next.there (i - at) (omega arith)
                ∙ sym (get_or-put_inside (held old).bytes at bytes within i from inside)
            | inr past ↦ written_next.serves.touched.bytes.same i ((λ le lt'. omega arith), tt) ∙ sym (get_or-put_after (held old).bytes at bytes within i past)
          ]
        ]) in
        λ i. record { bytes = same i; unsettled = unsettled i }
