-- What a purge takes out of the index, by the keys that it tries.
use Rattle.std.proofs.Common.{◌≡◌, ◌⊎◌, ◌∙◌, ℕ, suc, inl, inr, true, false, List, [], ◌∷◌, ◌++◌, length, map, filter, Contains, refl, sym, ap, subst, arith}
use Rattle.history.specs.declared.key.Key.{Key}
use Rattle.history.specs.declared.call.Reply.{Reply}
use Rattle.history.specs.declared.call.Reply.TheVariants.{Purged}
use Rattle.caller_steps.specs.State.{State, Index}
use Rattle.caller_steps.specs.Step.{Fails}
use Rattle.caller_steps.specs.Room.{Limits}
use Rattle.caller_steps.specs.Purging.{Try, IsAbsent, Lost, AreFree, lost_among, IsTried, Each, ComesBefore, AreInOrder, Tries, Purges}

-- keys without records are taken out of the index, or the medium fails meanwhile
abbrev pub Clears : Limits → State → Reply → State → Type 0
Clears limits old reply new = ((n : ℕ) × (reply ≡ Purged n) × Purges limits old n new) ⊎ Fails old reply new

module _ (limits : Limits) (old : State) (first : Index) where
  -- the index loses those that were lost
  pub lost_tries : (now : Index) (tries : List Try) → Tries limits old first tries now → Lost first (lost_among tries) now
  lost_tries now [] same = same
  lost_tries now ((key, true) ∷ tries) (before, tried, becomes) = (before, lost_tries before tries tried, becomes.2)
  lost_tries now ((key, false) ∷ tries) (before, tried, becomes) = subst (λ (ix : Index). Lost first (lost_among tries) ix) (sym becomes.1) (lost_tries before tries tried)

  -- of which each has no record, and no live transaction touches it
  pub free_tries : (now : Index) (tries : List Try) → Each (IsAbsent old) tries → Tries limits old first tries now → AreFree old (lost_among tries)
  free_tries now [] absent same = tt
  free_tries now ((key, true) ∷ tries) absent (before, tried, becomes) = ((absent.0, becomes.0), free_tries before tries absent.1 tried)
  free_tries now ((key, false) ∷ tries) absent (before, tried, becomes) = free_tries before tries absent.1 tried

-- so many of them
pub lost_count : (tries : List Try) → length (filter (λ (one : Try). one.1) tries) ≡ length (lost_among tries)
lost_count [] = refl
lost_count ((key, true) ∷ tries) = ap (λ (n : ℕ). suc n) (lost_count tries)
lost_count ((key, false) ∷ tries) = lost_count tries

pub purge_loses : (limits : Limits) (old : State) (n : ℕ) (new : State) → Purges limits old n new → (keys : List Key) × (n ≡ length keys) × AreFree old keys × Lost old.index keys new.index
purge_loses limits old n new purges = (
  lost_among purges.tried,
  purges.count ∙ lost_count purges.tried,
  free_tries limits old old.index purges.index purges.tried purges.absent purges.trail,
  subst (λ (ix : Index). Lost old.index (lost_among purges.tried) ix) (sym (ap (λ (s : State). s.index) purges.same)) (lost_tries limits old old.index purges.index purges.tried purges.trail),
)

-- keys tried after others
pub lost_append : (later tries : List Try) → lost_among (later ++ tries) ≡ lost_among later ++ lost_among tries
lost_append [] tries = refl
lost_append ((key, true) ∷ later) tries = ap (λ (keys : List Key). key ∷ keys) (lost_append later tries)
lost_append ((key, false) ∷ later) tries = lost_append later tries

pub each_append : (P : Key → Type 0) (later tries : List Try) → Each P later → Each P tries → Each P (later ++ tries)
each_append P [] tries a b = b
each_append P (one ∷ later) tries a b = (a.0, each_append P later tries a.1 b)

pub each_as : (P Q : Key → Type 0) → ((key : Key) → P key → Q key) → (tries : List Try) → Each P tries → Each Q tries
each_as P Q so [] each = tt
each_as P Q so (one ∷ tries) each = (so one.0 each.0, each_as P Q so tries each.1)

pub tried_later : (key : Key) (later tries : List Try) → IsTried key later → IsTried key (later ++ tries)
tried_later key [] tries tried = absurd tried
tried_later key (one ∷ later) tries (inl is) = inl is
tried_later key (one ∷ later) tries (inr tried) = inr (tried_later key later tries tried)

pub tried_before : (key : Key) (later tries : List Try) → IsTried key tries → IsTried key (later ++ tries)
tried_before key [] tries tried = tried
tried_before key (one ∷ later) tries tried = inr (tried_before key later tries tried)

-- a key that was tried is among those tried
pub tried_among : (key : Key) (tries : List Try) → IsTried key tries → Contains (map (λ (one : Try). one.0) tries) key
tried_among key [] tried = absurd tried
tried_among key (one ∷ tries) (inl is) = (0, omega arith, is)
tried_among key (one ∷ tries) (inr tried) = let at = tried_among key tries tried in (suc at.0, omega (arith, at.1), at.2)

module _ (names : List (List ℕ)) (P Q : Key → Type 0) (before : (one other : Key) → P one → Q other → ComesBefore names one other) where
  pub order_append : (later tries : List Try) → Each Q later → Each P tries → AreInOrder names later → AreInOrder names tries → AreInOrder names (later ++ tries)
  order_append [] tries of passed order earlier = earlier
  order_append (one ∷ later) tries of passed order earlier = (
    each_append (λ key. ComesBefore names key one.0) later tries order.0 (each_as P (λ key. ComesBefore names key one.0) (λ key is. before key one.0 is of.0) tries passed),
    order_append later tries of.1 passed order.1 earlier,
  )
