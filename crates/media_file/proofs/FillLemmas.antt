-- Zeros that are written piece by piece.
use Rattle.std.specs.Prelude.{nat_le, if◌then◌else◌}
use Rattle.std.proofs.Common.{◌≡◌, ℕ, ◌+◌, ◌-◌, ◌<◌, ◌≤◌, ◌⊎◌, inl, inr, List, [], ◌++◌, Bool, false, IsTrue, length, get_or, take, take_all, replicate, min, refl, sym, ◌∙◌, ap, subst, arith}
use Rattle.std.proofs.Math.Seq.{get_or-append_right}
use Rattle.std.proofs.lemmas.Bool.{cases_lt, lt-leb}
use Rattle.std.proofs.lemmas.List.{ext_get_or, length-append, length-replicate, take-replicate, get_or-replicate}
use Rattle.mars_base.proofs.Puts.{length-put, get_or-put_before, get_or-put_after, get_or-put_inside}
use Rattle.std.proofs.lemmas.List.Elements.{All-cons}
use Rattle.media_file.specs.Filled.{pieces}
use Rattle.pcm_media.specs.Images.{Content}
use Rattle.media_file.specs.Past.{Made, Past, measured, stands, resized, synced, noted, padded, held, content_after, AreBefore, IsHonest}
use Rattle.media_file.specs.Shown.{opened}
use Rattle.media_file.proofs.ServeLemmas.{honest_last}

-- The first `done` of `len` bytes are zeros, and nothing changed outside these.
pub record ZerosSoFar (moment at len done : ℕ) (old now : Past) : Type 0 where
  pub long : length (held now).bytes ≡ length (held old).bytes
  pub there : (i : ℕ) → i < done → get_or (held now).bytes (at + i) 0 ≡ 0
  pub others : (i : ℕ) → (i < at) ⊎ (at + len ≤ i) → get_or (held now).bytes i 0 ≡ get_or (held old).bytes i 0
  pub before : AreBefore (moment + 1) now.calls

pub zeros_none : (moment at len : ℕ) (past : Past) → AreBefore (moment + 1) past.calls → ZerosSoFar moment at len 0 past past
zeros_none moment at len past before = record { long = refl; there = λ i lt. absurd (omega (arith, lt)); others = λ i out. refl; before = before }

module _ (moment at len done : ℕ) (old now next : Past) (within : at + len ≤ length (held old).bytes) (so_far : ZerosSoFar moment at len done old now) where
  -- a part stands behind the zeros
  module _ (part : List ℕ) (few : done + length part ≤ len) where
    abbrev new : Past
    new = noted moment (stands (at + done) part) now

    fits : at + done + length part ≤ length (held now).bytes
    fits = omega (arith, so_far.long, few, within)

    behind : (reach : ℕ) → reach ≤ done + length part → ((i : ℕ) → done ≤ i → i < reach → get_or part (i - done) 0 ≡ 0) → ZerosSoFar moment at len reach old new
    behind reach up are = record {
      long = length-put (held now).bytes (at + done) part fits ∙ so_far.long;
      there = λ i lt. elim (cases_lt i done) [
        | inl below ↦ get_or-put_before (held now).bytes (at + done) part fits (at + i) (omega (arith, below)) ∙ so_far.there i below
        | inr from ↦
            get_or-put_inside (held now).bytes (at + done) part fits (at + i) (omega (arith, from)) (omega (arith, lt, up))
            ∙ ap (λ (k : ℕ). get_or part k 0) (omega arith)
            ∙ are i from lt
      ];
      others = λ i out. elim out [
        | inl low ↦ get_or-put_before (held now).bytes (at + done) part fits i (omega (arith, low)) ∙ so_far.others i (inl low)
        | inr high ↦ get_or-put_after (held now).bytes (at + done) part fits i (omega (arith, high, few)) ∙ so_far.others i (inr high)
      ];
      before = All-cons (λ (made : Made). made.moment < moment + 1) (record { moment = moment; event = stands (at + done) part }) now.calls (omega arith) so_far.before;
    }

  -- a call that failed, and may have left anything there
  pub zeros_failed : (part : List ℕ) → done + length part ≤ len
      → (next ≡ now) ⊎ ((left : List ℕ) × (length left ≡ length part) × (next ≡ noted moment (stands (at + done) left) now)) → ZerosSoFar moment at len done old next
  zeros_failed part few failed = elim failed [
    | inl same ↦ subst (λ (p : Past). ZerosSoFar moment at len done old p) (sym same) so_far
    | inr left ↦ subst (λ (p : Past). ZerosSoFar moment at len done old p) (sym left.2)
        (behind left.0 (omega (arith, left.1, few)) done (omega arith) (λ i from lt. absurd (omega (arith, from, lt))))
  ]

  -- a call that took `count` zeros
  pub zeros_next : (count : ℕ) (part : List ℕ) → length part ≡ count → done + count ≤ len → ((i : ℕ) → i < count → get_or part i 0 ≡ 0)
      → next ≡ noted moment (stands (at + done) part) now → ZerosSoFar moment at len (done + count) old next
  zeros_next count part long few are is = subst (λ (p : Past). ZerosSoFar moment at len (done + count) old p) (sym is)
      (behind part (omega (arith, long, few)) (done + count) (omega (arith, long)) (λ i from lt. are (i - done) (omega (arith, from, lt))))

-- the zeros that one call is given
module _ (moment at len done : ℕ) (old now next : Past) (within : at + len ≤ length (held old).bytes) (low : done < len) (so_far : ZerosSoFar moment at len done old now)
    (piece : List ℕ) (is_piece : piece ≡ replicate (min (len - done) 4096) 0) where
  pub length_piece : length piece ≡ min (len - done) 4096
  length_piece = let zero : ℕ = 0 in ap length is_piece ∙ length-replicate (min (len - done) 4096) zero

  pub piece_failed : (reach : ℕ) → reach ≡ done → (next ≡ now) ⊎ ((left : List ℕ) × (length left ≡ length piece) × (next ≡ noted moment (stands (at + done) left) now))
      → ZerosSoFar moment at len reach old next
  piece_failed reach there failed =
      subst (λ (n : ℕ). ZerosSoFar moment at len n old next) (sym there) (zeros_failed moment at len done old now next within so_far piece (omega (arith, length_piece, low)) failed)

  pub piece_taken : (count reach : ℕ) → count ≤ length piece → reach ≡ done + count → next ≡ noted moment (stands (at + done) (take count piece)) now → ZerosSoFar moment at len reach old next
  piece_taken count reach few there is =
      let zero : ℕ = 0 in
      let part : take count piece ≡ replicate count zero = ap (take count) is_piece ∙ take-replicate count (min (len - done) 4096) zero (omega (arith, few, length_piece)) in
      subst (λ (n : ℕ). ZerosSoFar moment at len n old next) (sym there)
      (zeros_next moment at len done old now next within so_far count (replicate count zero) (length-replicate count zero) (omega (arith, few, length_piece, low))
      (λ i lt. get_or-replicate count i zero zero lt)
      (is ∙ ap (λ (bytes : List ℕ). noted moment (stands (at + done) bytes) now) part))

-- where calls are sure to be done in full, so are those for the bytes that are left, of which one call is given a piece
module _ {C : Type 0} (steady : C → ℕ → ℕ → Bool) (file : C) (left size : ℕ) (some : 0 < left) (is : size ≡ min left 4096) where
  pub sure_call : (calls more : ℕ) → IsTrue (steady file (calls + pieces left) (left + more)) → IsTrue (steady file (calls + pieces (left - size) + 1) (size + (left - size + more)))
  sure_call calls more sure =
      let fewer : calls + pieces left ≡ calls + pieces (left - size) + 1 = omega (arith, some, is) in
      let same : left + more ≡ size + (left - size + more) = omega (arith, is) in
      subst (λ (n : ℕ). IsTrue (steady file (calls + pieces (left - size) + 1) n)) same (subst (λ (n : ℕ). IsTrue (steady file n (left + more))) fewer sure)

-- What stands in a file that was extended, filled with zeros, and synced.
module _ (least size : ℕ) (before measured_past resized_past filled synced_past : Past) (first_call : before.calls ≡ []) (shorter : size < least)
    (measure : measured_past ≡ noted 0 (measured size) before) (honest : IsHonest measured_past.first measured_past.calls)
    (resize : resized_past ≡ noted 0 (resized least) measured_past)
    (long : length (held filled).bytes ≡ length (held resized_past).bytes)
    (zeros : (i : ℕ) → i < least - size → get_or (held filled).bytes (size + i) 0 ≡ 0)
    (others : (i : ℕ) → (i < size) ⊎ (size + (least - size) ≤ i) → get_or (held filled).bytes i 0 ≡ get_or (held resized_past).bytes i 0)
    (sync : synced_past ≡ noted 0 synced filled) where
  first_held : held before ≡ before.first
  first_held = ap (content_after before.first) first_call

  measured_held : held measured_past ≡ before.first
  measured_held = ap held measure ∙ first_held

  size_is : size ≡ length before.first.bytes
  size_is = honest_last 0 (measured size) before measured_past measure honest ∙ ap (λ (c : Content). length c.bytes) first_held

  resized_bytes : (held resized_past).bytes ≡ padded least before.first.bytes
  resized_bytes = ap (λ (p : Past). (held p).bytes) resize ∙ ap (λ (c : Content). padded least c.bytes) measured_held

  padded_zero : (i : ℕ) → size ≤ i → i < least → get_or (padded least before.first.bytes) i 0 ≡ 0
  padded_zero i from lt =
      let whole = take_all least before.first.bytes (omega (arith, size_is, shorter)) in
      let zero : ℕ = 0 in
      ap (λ (bytes : List ℕ). get_or (bytes ++ replicate (least - length before.first.bytes) zero) i 0) whole
      ∙ get_or-append_right before.first.bytes (replicate (least - length before.first.bytes) zero) i zero (omega (arith, size_is, from))
      ∙ get_or-replicate (least - length before.first.bytes) (i - length before.first.bytes) zero zero (omega (arith, size_is, from, lt))

  length_padded : length (held resized_past).bytes ≡ least
  length_padded =
      let zero : ℕ = 0 in
      ap length resized_bytes ∙ length-append (take least before.first.bytes) (replicate (least - length before.first.bytes) zero)
      ∙ (let whole = ap length (take_all least before.first.bytes (omega (arith, size_is, shorter))) in
      let rest = length-replicate (least - length before.first.bytes) zero in
      omega (arith, whole, rest, size_is, shorter))

  filled_bytes : (held filled).bytes ≡ padded least before.first.bytes
  filled_bytes = ext_get_or 0 (held filled).bytes (padded least before.first.bytes) (long ∙ ap length resized_bytes) (λ i lt. elim (cases_lt i size) [
    | inl below ↦ others i (inl below) ∙ ap (λ (bytes : List ℕ). get_or bytes i 0) resized_bytes
    | inr from ↦
        let inside : i < least = omega (arith, lt, long, length_padded) in
        ap (λ (k : ℕ). get_or (held filled).bytes k 0) (omega (arith, from)) ∙ zeros (i - size) (omega (arith, from, inside)) ∙ sym (padded_zero i from inside)
  ])

  pub lengthened : held synced_past ≡ opened least before.first
  lengthened =
      let short : nat_le least (length before.first.bytes) ≡ false = lt-leb least (length before.first.bytes) (omega (arith, size_is, shorter)) in
      ap held sync ∙ ap (λ (bytes : List ℕ). settled_as bytes) filled_bytes
      ∙ sym (ap (λ (b : Bool). if b then before.first else settled_as (padded least before.first.bytes)) short)
    where
      settled_as : List ℕ → Content
      settled_as bytes = record { bytes = bytes; unsettled = [] }
