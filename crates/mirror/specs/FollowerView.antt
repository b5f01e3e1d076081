-- What a follower shows.
use Rattle.std.specs.Prelude.{ℕ, ◌≡◌, Bool, true, false, List}
use Rattle.eaw_face.specs.StoreView.{StoreView}
use Rattle.mirror.specs.Following.{Stand, stand, Follows, StopCause, StopsBroken, StopsAtGap, StandsAs}
use Rattle.mirror.specs.declared.follow_fault.FollowFault.{FollowFault}
use Rattle.mirror.specs.declared.follow_fault.FollowFault.TheVariants.{Dead}

-- its store; how many frames it has applied; the bytes that it keeps of the next; and whether a feed has answered a fault
pub record FollowerView (S : Type 0) : Type 0 where
  pub store : S
  pub applied : ℕ
  pub rest : List ℕ
  pub is_dead : Bool

-- Why a feed answered this fault. Dead comes just where an earlier feed answered a fault, and then nothing changes.
abbrev pub FeedCause : {S : Type 0} → Bool → (S → StoreView) → (old new : FollowerView S) → List ℕ → FollowFault → Type 0
FeedCause tells view old new piece Dead = (old.is_dead ≡ true) × (new ≡ old)
FeedCause tells view old new piece fault = (old.is_dead ≡ false) × StopCause tells (stand (view old.store) old.applied old.rest) (view new.store) piece fault

-- where a follower stands
abbrev pub stand_of : {S : Type 0} → (S → StoreView) → FollowerView S → Stand
stand_of view follower = stand (view follower.store) follower.applied follower.rest

-- the same of followers: a piece was fed; the next whole frame of a piece is out of sequence; its next bytes break a frame; they stand alike
abbrev pub IsFollowed : {S : Type 0} → Bool → (S → StoreView) → (old new : FollowerView S) → List ℕ → Type 0
IsFollowed tells view old new piece = Follows tells (stand_of view old) (stand_of view new) piece

abbrev pub HasGap : {S : Type 0} → Bool → (S → StoreView) → (old new : FollowerView S) → List ℕ → (expected got : ℕ) → Type 0
HasGap tells view old new piece expected got = StopsAtGap tells (stand_of view old) (view new.store) piece expected got

abbrev pub HasBadFrame : {S : Type 0} → Bool → (S → StoreView) → (old new : FollowerView S) → List ℕ → Type 0
HasBadFrame tells view old new piece = StopsBroken tells (stand_of view old) (view new.store) piece

abbrev pub AreAlike : {S : Type 0} → Bool → (S → StoreView) → (one other : FollowerView S) → Type 0
AreAlike tells view one other = StandsAs tells (stand_of view one) (stand_of view other)
