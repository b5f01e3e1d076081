-- Vote bytes that become 0.
use Rattle.std.proofs.Common.{◌≡◌, ℕ, ◌+◌, ◌-◌, ◌<◌, ◌≤◌, ◌⊎◌, inl, inr, ⊎_elim, Bool, true, false, cond, nat_eq, List, [], ◌∷◌, ◌++◌, length, get_or, drop, refl, sym, ◌∙◌, ap, subst, arith}
use Rattle.std.proofs.lemmas.Bool.{cases_Bool, cases_eq, cases_lt, cond-false, cond-true, false≢true}
use Rattle.mars_base.specs.Bytes.{put}
use Rattle.mars_base.proofs.Puts.{get_or-put_after, get_or-put_before, get_or-put_inside}
use Rattle.pcm_media.specs.Images.{SameOutside, IsOutside}
use Rattle.pcm_media.proofs.Left.{outside-both}
use Rattle.pcm_media.proofs.Ranges.{get_or-range, range_away}
use Rattle.array_shape.specs.declared.shape.Shape.{Shape}
use Rattle.array_shape.specs.Places.{media_len, row_at}
use Rattle.array_shape.specs.Logged.{AllPlaced, places_of}
use Rattle.row_bytes.specs.Written.{vote_byte}
use Rattle.array_image.specs.Decided.{all_decided}
use Rattle.array_image.specs.Image.{row_of}
use Rattle.array_image.proofs.Data.{outside_data}
use Rattle.array_image.proofs.Parts.{decided_placed}
use Rattle.array_image.proofs.Places.{row_fits_in, row_no_data, same_row}
use Rattle.array_image.proofs.Rows.{voted_at}
use Rattle.commit_queue.specs.Rows.{HasRowBytes, bytes_of, with_votes}
use Rattle.commit_queue.proofs.RowBytes.{body_away, length-row, whole}
use Rattle.device_recovery.specs.Recovered.{HasNoVote, OnlyCleared, recovered_places, voted_places}
use Rattle.device_recovery.proofs.Clearing.{votes_away}
use Rattle.device_recovery.proofs.Goods.{AllGood}

module _ (shape : Shape) where
  pub none_cleared : (image : List ℕ) → OnlyCleared shape image image
  none_cleared image g t lt lt' = inl refl

  pub more_cleared : (old mid new : List ℕ) → OnlyCleared shape old mid → OnlyCleared shape mid new → OnlyCleared shape old new
  more_cleared old mid new first more g t lt lt' = ⊎_elim
      (λ same. ⊎_elim (λ before. inl (same ∙ before)) (λ zero_is. inr (same ∙ zero_is)) (first g t lt lt'))
      (λ zero_is. inr zero_is)
      (more g t lt lt')

  -- one vote byte was written
  pub one_cleared : (old : List ℕ) (h u : ℕ) → length old ≡ media_len shape → h < shape.loggers → u < shape.numbers → OnlyCleared shape old (put old (row_at shape h u) (0 ∷ []))
  one_cleared old h u long below below' g t lt lt' =
      let at = row_at shape h u in
      let byte : List ℕ = 0 ∷ [] in
      let fits : at + 1 ≤ length old = omega (arith, row_fits_in shape h u below below', long) in
      elim (cases_eq (row_at shape g t) at) [
        | inl is ↦ inr (get_or-put_inside old at byte fits (row_at shape g t) (omega (arith, is)) (omega (arith, is)) ∙ ap (λ (j : ℕ). get_or byte j 0) (let first : row_at shape g t - at ≡ 0 = omega (arith, is) in first))
        | inr ne ↦ elim (cases_lt (row_at shape g t) at) [
          | inl lt ↦ inl (get_or-put_before old at byte fits (row_at shape g t) lt)
          | inr le ↦ inl (get_or-put_after old at byte fits (row_at shape g t) (omega (arith, le, ne)))
        ]
      ]

  -- parts lie in no row
  pub parts_clear_nothing : (old new : List ℕ) → length old ≡ media_len shape → AllGood shape old shape.numbers → SameOutside (places_of shape (all_decided shape old)) old new → OnlyCleared shape old new
  parts_clear_nothing old new long good same g t lt lt' =
      inl (same.same (row_at shape g t) (outside_data shape (all_decided shape old) (row_at shape g t) (decided_placed shape old long good) (λ addr small is. row_no_data shape g t addr (row_at shape g t) lt' small (omega arith) (omega arith) is)))

  -- the rows then: those that were voted have vote 0, and nothing else in a row changed
  module _ (old new : List ℕ) (long : length new ≡ media_len shape) (placed : AllPlaced shape (all_decided shape old)) (same : SameOutside (recovered_places shape old) old new) (cleared : OnlyCleared shape old new) (none : HasNoVote shape new) where
    outside_parts : (g t i : ℕ) → t < shape.numbers → row_at shape g t ≤ i → i < row_at shape g t + 16 → IsOutside (places_of shape (all_decided shape old)) i
    outside_parts g t i lt from below = outside_data shape (all_decided shape old) i placed (λ addr small is. row_no_data shape g t addr i lt small from below is)

    body_kept : (g t : ℕ) → t < shape.numbers → drop 1 (bytes_of shape new g t) ≡ drop 1 (bytes_of shape old g t)
    body_kept g t lt = body_away shape (recovered_places shape old) old new g t same (λ i from below.
        outside-both (places_of shape (all_decided shape old)) (voted_places shape old) i (outside_parts g t i lt (omega arith) below)
        (votes_away shape old i (λ h u small small' so is. apart h u i from is (same_row shape g h t u i lt small' (omega arith) below (omega arith) (omega arith)))))
      where
        apart : (h u i : ℕ) → row_at shape g t + 1 ≤ i → i ≡ row_at shape h u → (g ≡ h) × (t ≡ u) → ⊥
        apart h u i from is one = let e : row_at shape g t ≡ row_at shape h u = (λ j. row_at shape (one.0 j) (one.1 j)) in omega (arith, e)

    unvoted_kept : (g t : ℕ) → t < shape.numbers → (row_of shape old g t).voted ≡ false → bytes_of shape new g t ≡ bytes_of shape old g t
    unvoted_kept g t lt lacks = range_away (recovered_places shape old) old new (row_at shape g t) 16 same (λ i from below.
        outside-both (places_of shape (all_decided shape old)) (voted_places shape old) i (outside_parts g t i lt from below)
        (votes_away shape old i (λ h u small small' so is. other h u (same_row shape g h t u i lt small' from below (omega arith) (omega arith)) so)))
      where
        other : (h u : ℕ) → (g ≡ h) × (t ≡ u) → (row_of shape old h u).voted ≡ true → ⊥
        other h u one so = false≢true (sym lacks ∙ (λ i. (row_of shape old (one.0 i) (one.1 i)).voted) ∙ so)

    -- a vote that stood is no vote now, so its byte was written
    zeroed : (g t : ℕ) → g < shape.loggers → t < shape.numbers → (row_of shape old g t).voted ≡ true → get_or (bytes_of shape new g t) 0 0 ≡ 0
    zeroed g t lt lt' voted =
        get_or-range new (row_at shape g t) 16 0 (omega arith) ∙ ap (λ (k : ℕ). get_or new k 0) (let here : row_at shape g t + 0 ≡ row_at shape g t = omega arith in here)
        ∙ ⊎_elim
        (λ kept. absurd (false≢true (sym (none g t lt lt') ∙ voted_at shape new g t ∙ ap (λ (k : ℕ). nat_eq k 195) kept ∙ sym (voted_at shape old g t) ∙ voted)))
        (λ zero_is. zero_is)
        (cleared g t lt lt')

    pub votes_cleared : HasRowBytes shape new (with_votes (λ g t. (row_of shape old g t).voted) false (bytes_of shape old))
    votes_cleared g t lt lt' = ⊎_elim
        (λ voted. whole 0 (drop 1 (bytes_of shape old g t)) (bytes_of shape new g t) (length-row shape new long g t lt lt') (zeroed g t lt lt' voted) (body_kept g t lt')
        ∙ sym (cond-true (row_of shape old g t).voted (vote_byte false ∷ drop 1 (bytes_of shape old g t)) (bytes_of shape old g t) voted))
        (λ lacks. unvoted_kept g t lt' lacks ∙ sym (cond-false (row_of shape old g t).voted (vote_byte false ∷ drop 1 (bytes_of shape old g t)) (bytes_of shape old g t) lacks))
        (cases_Bool (row_of shape old g t).voted)
