-- Where votes lie, and images in which none is cast.
use Rattle.std.proofs.Common.{◌≡◌, ◌≢◌, ℕ, ◌<◌, true, cond, List, [], ◌∷◌, ap, subst, arith}
use Rattle.pcm_media.specs.Images.{IsOutside}
use Rattle.array_shape.specs.declared.shape.Shape.{Shape}
use Rattle.array_shape.specs.Places.{row_at}
use Rattle.array_shape.specs.Logged.{Part, applied}
use Rattle.array_image.specs.Joined.{joined}
use Rattle.array_image.specs.Image.{row_of, data_of}
use Rattle.array_image.specs.Decided.{order_parts, settled_data, orders}
use Rattle.array_image.specs.Votes.{votes_of}
use Rattle.array_image.proofs.Joined.{joined_none, outside_at}
use Rattle.array_image.proofs.Deciding.{not_decided}
use Rattle.array_image.proofs.Parts.{no_order_parts}
use Rattle.array_image.proofs.Frames as frames
use Rattle.device_recovery.specs.Recovered.{HasNoVote, voted_places}
use Rattle.std.proofs.lemmas.Bool.{false≢true}
use Rattle.std.proofs.Common.{Bool, sym, ◌∙◌, false}
use Rattle.array_image.specs.Decided.{decided}

module _ (shape : Shape) where
  pub votes_away : (image : List ℕ) (x : ℕ) → ((g t : ℕ) → g < shape.loggers → t < shape.numbers → (row_of shape image g t).voted ≡ true → x ≢ row_at shape g t) → IsOutside (voted_places shape image) x
  votes_away image x out = frames.votes_away shape (λ g t. (row_of shape image g t).voted) x out

  -- the vote of a row that a test takes is one of the places
  pub vote_within : (test : ℕ → ℕ → Bool) (g t : ℕ) → g < shape.loggers → t < shape.numbers → test g t ≡ true → (i : ℕ) → IsOutside (votes_of shape test) i → IsOutside ((row_at shape g t, 1) ∷ []) i
  vote_within test g t lt lt' so i out =
      subst (λ b. IsOutside (cond b ((row_at shape g t, 1) ∷ []) []) i) so
      (outside_at (λ h. cond (test h t) ((row_at shape h t, 1) ∷ []) []) i 0 shape.loggers
      (outside_at (λ u. joined (λ h. cond (test h u) ((row_at shape h u, 1) ∷ []) []) 0 shape.loggers) i 0 shape.numbers out t (omega arith) (omega arith)) g (omega arith) (omega arith))

  -- the votes of fewer rows
  pub fewer_votes : (test fewer : ℕ → ℕ → Bool) → ((g t : ℕ) → g < shape.loggers → t < shape.numbers → fewer g t ≡ true → test g t ≡ true) → (i : ℕ) → IsOutside (votes_of shape test) i → IsOutside (votes_of shape fewer) i
  fewer_votes test fewer taken i out = frames.votes_away shape fewer i (λ g t lt lt' so is. (vote_within test g t lt lt' (taken g t lt lt' so) i out).0 (omega arith) (omega arith))

  pub none_of : (image : List ℕ) → HasNoVote shape image → (g t : ℕ) → g < shape.loggers → t < shape.numbers → decided shape image g t ≡ false
  none_of image none g t lt lt' = not_decided shape.loggers shape.numbers (row_of shape image) g t lt lt' (none g t lt lt')

  -- if no row is decided, the data is what it settles to
  pub none_settled : (image : List ℕ) → ((g t : ℕ) → g < shape.loggers → t < shape.numbers → decided shape image g t ≡ false) → settled_data shape image ≡ data_of shape image
  none_settled image none = ap (λ (ps : List Part). applied ps (data_of shape image)) (joined_none (order_parts shape image) 0 orders (λ o le below.
      no_order_parts shape image o (λ g t lt lt' so is. false≢true (sym (none g t lt lt') ∙ so))))

  pub no_vote_settled : (image : List ℕ) → HasNoVote shape image → settled_data shape image ≡ data_of shape image
  no_vote_settled image none = none_settled image (none_of image none)
