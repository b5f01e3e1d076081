-- The logs of a store in memory, as the model says them.
use Rattle.std.proofs.Common.{◌≡◌, ◌≢◌, ℕ, zero, suc, ◌<◌, Bool, true, false, cond, nat_eq, List, [], ◌∷◌, length, set, replicate, refl, sym, ◌∙◌, ap, subst, arith}
use Rattle.std.specs.Prelude.{Option, Some, None, is_some, IsSome, All}
use Rattle.std.specs.Option.{option_map}
use Rattle.std.proofs.lemmas.Bool.{eqb-true, eq-eqb}
use Rattle.std.proofs.lemmas.List.Elements.{All-get_or}
use Rattle.array_shape.specs.declared.shape.Shape.{Shape}
use Rattle.array_shape.specs.Logged.{Part, ranges_of}
use Rattle.eaw_face.specs.State.{Logs, listed, with_log}
use Rattle.mirror.specs.Log.{Log}
use Rattle.memory_eaw.specs.Log.{IsSoundLog, log_of, logged, outline}
use Rattle.mirror.specs.Log.{log_at}

-- a log of a list
pub logged-at : (logs : List Log) (t : ℕ) → t < length logs → logged logs t ≡ log_of (log_at logs t)
logged-at [] t lt = absurd (omega arith)
logged-at (log ∷ logs) zero lt = refl
logged-at (log ∷ logs) (suc t) lt = logged-at logs t (omega arith)

logged-set_same : (logs : List Log) (t : ℕ) (log : Log) → t < length logs → logged (set logs t log) t ≡ log_of log
logged-set_same [] t log lt = absurd (omega arith)
logged-set_same (l ∷ logs) zero log lt = refl
logged-set_same (l ∷ logs) (suc t) log lt = logged-set_same logs t log (omega arith)

logged-set_other : (logs : List Log) (t : ℕ) (log : Log) (u : ℕ) → u ≢ t → logged (set logs t log) u ≡ logged logs u
logged-set_other [] t log u ne = refl
logged-set_other (l ∷ logs) zero log zero ne = absurd (ne refl)
logged-set_other (l ∷ logs) zero log (suc u) ne = refl
logged-set_other (l ∷ logs) (suc t) log zero ne = refl
logged-set_other (l ∷ logs) (suc t) log (suc u) ne = logged-set_other logs t log u (λ is. ne (ap suc is))

logged-set_at : (logs : List Log) (t : ℕ) (log : Log) (u : ℕ) → t < length logs → logged (set logs t log) u ≡ with_log (logged logs) t (log_of log) u
logged-set_at logs t log u lt = go (nat_eq u t) refl
  where
    go : (b : Bool) → nat_eq u t ≡ b → logged (set logs t log) u ≡ cond b (log_of log) (logged logs u)
    go true same = ap (logged (set logs t log)) (eqb-true u t same) ∙ logged-set_same logs t log lt
    go false other = logged-set_other logs t log u (λ is. absurd (cc (sym other ∙ eq-eqb u t is)))

pub logged-set : (logs : List Log) (t : ℕ) (log : Log) → t < length logs → logged (set logs t log) ≡ with_log (logged logs) t (log_of log)
logged-set logs t log lt = λ i u. logged-set_at logs t log u lt i

-- their ranges
outline-with_at : (logs : Logs Part) (t : ℕ) (log : Option (List Part)) (u : ℕ) → outline (with_log logs t log) u ≡ with_log (outline logs) t (option_map ranges_of log) u
outline-with_at logs t log u = go (nat_eq u t)
  where
    go : (b : Bool) → option_map ranges_of (cond b log (logs u)) ≡ cond b (option_map ranges_of log) (option_map ranges_of (logs u))
    go true = refl
    go false = refl

pub outline-with : (logs : Logs Part) (t : ℕ) (log : Option (List Part)) → outline (with_log logs t log) ≡ with_log (outline logs) t (option_map ranges_of log)
outline-with logs t log = λ i u. outline-with_at logs t log u i

with_log-same_at : {A : Type 0} (logs : Logs A) (t : ℕ) (log : Option (List A)) (u : ℕ) → log ≡ logs t → with_log logs t log u ≡ logs u
with_log-same_at {A} logs t log u is = go (nat_eq u t) refl
  where
    go : (b : Bool) → nat_eq u t ≡ b → cond b log (logs u) ≡ logs u
    go true same = is ∙ ap logs (sym (eqb-true u t same))
    go false same = refl

pub with_log-same : {A : Type 0} (logs : Logs A) (t : ℕ) (log : Option (List A)) → log ≡ logs t → with_log logs t log ≡ logs
with_log-same logs t log is = λ i u. with_log-same_at logs t log u is i

pub listed-map : (log : Option (List Part)) → listed (option_map ranges_of log) ≡ ranges_of (listed log)
listed-map None = refl
listed-map (Some parts) = refl

pub listed-log_of : (log : Log) → (log.is_live ≡ false → log.parts ≡ []) → listed (log_of log) ≡ log.parts
listed-log_of log idle = go log.is_live idle
  where
    go : (b : Bool) → (b ≡ false → log.parts ≡ []) → listed (cond b (Some log.parts) None) ≡ log.parts
    go true idle = refl
    go false idle = sym (idle refl)

-- what a number has logged, and whether it is live
module _ (shape : Shape) (logs : List Log) (all : All (IsSoundLog shape) logs) (t : ℕ) (lt : t < length logs) where
  pub sound_log : IsSoundLog shape (log_at logs t)
  sound_log = All-get_or (IsSoundLog shape) logs t (record { is_live = false; parts = []; room = 0 }) lt all

  pub parts_are : listed (logged logs t) ≡ (log_at logs t).parts
  parts_are = ap listed (logged-at logs t lt) ∙ listed-log_of (log_at logs t) sound_log.idle

  pub ranges_are : listed (outline (logged logs) t) ≡ ranges_of (log_at logs t).parts
  ranges_are = listed-map (logged logs t) ∙ ap ranges_of parts_are

module _ (logs : List Log) (t : ℕ) (lt : t < length logs) where
  live_from : (log : Log) → IsSome (option_map ranges_of (log_of log)) → log.is_live ≡ true
  live_from log some = go log.is_live some
    where
      go : (b : Bool) → IsSome (option_map ranges_of (cond b (Some log.parts) None)) → b ≡ true
      go true some = refl
      go false some = absurd (cc some)

  pub is_live_from : IsSome (outline (logged logs) t) → (log_at logs t).is_live ≡ true
  is_live_from some = live_from (log_at logs t) (subst (λ (o : Option (List Part)). IsSome (option_map ranges_of o)) (logged-at logs t lt) some)

  pub some_from : (log_at logs t).is_live ≡ true → IsSome (outline (logged logs) t)
  some_from live =
      subst (λ (o : Option (List Part)). IsSome (option_map ranges_of o)) (sym (logged-at logs t lt))
      (subst (λ (b : Bool). IsSome (option_map ranges_of (cond b (Some (log_at logs t).parts) None))) (sym live) refl)

-- whether a number is live
pub is_some-outline : (logs : List Log) (t : ℕ) → t < length logs → is_some (outline (logged logs) t) ≡ (log_at logs t).is_live
is_some-outline logs t lt = ap (λ (o : Option (List Part)). is_some (option_map ranges_of o)) (logged-at logs t lt) ∙ go (log_at logs t).is_live
  where
    go : (b : Bool) → is_some (option_map ranges_of (cond b (Some (log_at logs t).parts) None)) ≡ b
    go true = refl
    go false = refl

-- none of n fresh logs is live
pub logged-replicate : (n t room : ℕ) → logged (replicate n (record { is_live = false; parts = []; room = room })) t ≡ None
logged-replicate zero t room = refl
logged-replicate (suc n) zero room = refl
logged-replicate (suc n) (suc t) room = logged-replicate n t room
