-- Groups of numbers, one number after another.
use Rattle.std.proofs.Common.{◌≡◌, ℕ, Bool, true, false, cond, ◌||◌, nat_eq, inr, ⊎_elim, List, [], ◌∷◌, ◌++◌, length, refl, sym, ◌∙◌, ap, subst, arith}
use Rattle.std.specs.Prelude.{Option, Some, None, is_some, filter}
use Rattle.std.proofs.lemmas.Bool.{eqb-true, false≢true}
use Rattle.std.proofs.lemmas.List.{length-append}
use Rattle.array_shape.specs.Logged.{Part, applied}
use Rattle.eaw_face.specs.State.{Logs, listed, is_one_of, with_each, group_log}
use Rattle.eaw_face.specs.StoreView.{StoreView, IsLive}
use Rattle.eaw_face.specs.Command.{commit_group}
use Rattle.eaw_face.specs.Causes.{known}

-- the verdict on a group whose first number is live is that on the rest
pub known_next : (store : StoreView) (t : ℕ) (ts : List ℕ) → IsLive store t → (verdict : Option ℕ) → known store (commit_group ts) verdict → known store (commit_group (t ∷ ts)) verdict
known_next store t ts live None is = (live, is)
known_next store t ts live (Some u) is = inr (live, is)

-- one number after another is given x
pub with_each_next : {A : Type 0} (f : ℕ → A) (t : ℕ) (ts : List ℕ) (x : A) → with_each (λ (u : ℕ). cond (nat_eq u t) x (f u)) ts x ≡ with_each f (t ∷ ts) x
with_each_next {A} f t ts x = λ i u. go u (is_one_of ts u) (nat_eq u t) i
  where
    go : (u : ℕ) (later here : Bool) → cond later x (cond here x (f u)) ≡ cond (here || later) x (f u)
    go u true true = refl
    go u true false = refl
    go u false true = refl
    go u false false = refl

-- one that has x already stays
pub with_each_there : {A : Type 0} (f : ℕ → A) (t : ℕ) (ts : List ℕ) (x : A) → f t ≡ x → with_each f ts x ≡ with_each f (t ∷ ts) x
with_each_there {A} f t ts x there = λ i u. go u (is_one_of ts u) (nat_eq u t) refl i
  where
    go : (u : ℕ) (later here : Bool) → nat_eq u t ≡ here → cond later x (f u) ≡ cond (here || later) x (f u)
    go u true true is = refl
    go u true false is = refl
    go u false true is = ap f (eqb-true u t is) ∙ there
    go u false false is = refl

pub applied_append : (ps qs : List Part) (bytes : List ℕ) → applied (ps ++ qs) bytes ≡ applied qs (applied ps bytes)
applied_append [] qs bytes = refl
applied_append (p ∷ ps) qs bytes = applied_append ps qs _

-- as many parts as ranges
pub group_ranges : (logs : Logs Part) (ranges : Logs (ℕ × ℕ)) (ts : List ℕ) → ((t : ℕ) → length (listed (ranges t)) ≡ length (listed (logs t))) → length (group_log ranges ts) ≡ length (group_log logs ts)
group_ranges logs ranges [] same = refl
group_ranges logs ranges (t ∷ ts) same =
    omega (arith, same t, group_ranges logs ranges ts same, length-append (listed (ranges t)) (group_log ranges ts), length-append (listed (logs t)) (group_log logs ts))

-- something for each number of a group, and for the others as before
pub with_each_over : {A B : Type 0} (f : A → B) (g : ℕ → A) (ts : List ℕ) (x : A) (y : B) → f x ≡ y → (λ (u : ℕ). f (with_each g ts x u)) ≡ with_each (λ (u : ℕ). f (g u)) ts y
with_each_over f g ts x y is = λ i u. go u (is_one_of ts u) i
  where
    go : (u : ℕ) (b : Bool) → f (cond b x (g u)) ≡ cond b y (f (g u))
    go u true = is
    go u false = refl

pub with_each_two : {A B : Type 0} (P : ℕ → A → B → Type 0) (f : ℕ → A) (g : ℕ → B) (ts : List ℕ) (x : A) (y : B) → ((u : ℕ) → is_one_of ts u ≡ true → P u x y) → ((u : ℕ) → P u (f u) (g u)) → (u : ℕ) → P u (with_each f ts x u) (with_each g ts y u)
with_each_two P f g ts x y here there u = go (is_one_of ts u) refl
  where
    go : (b : Bool) → is_one_of ts u ≡ b → P u (cond b x (f u)) (cond b y (g u))
    go true is = here u is
    go false is = there u

-- those of a group that pass a test
module _ (p : ℕ → Bool) where
  pub passes_in : (ts : List ℕ) (u : ℕ) → is_one_of (filter p ts) u ≡ true → p u ≡ true
  passes_in [] u is = absurd (false≢true is)
  passes_in (t ∷ ts) u is = go (p t) refl (passes_in ts u) is
    where
      here : (same : Bool) → nat_eq u t ≡ same → p t ≡ true → (is_one_of (filter p ts) u ≡ true → p u ≡ true) → same || is_one_of (filter p ts) u ≡ true → p u ≡ true
      here true same passes later is = ap p (eqb-true u t same) ∙ passes
      here false same passes later is = later is

      go : (b : Bool) → p t ≡ b → (is_one_of (filter p ts) u ≡ true → p u ≡ true) → is_one_of (cond b (t ∷ filter p ts) (filter p ts)) u ≡ true → p u ≡ true
      go true passes later is = here (nat_eq u t) refl passes later is
      go false fails later is = later is

  -- a number that passes is among them if it is one of the group
  pub passing_in : (ts : List ℕ) (u : ℕ) → p u ≡ true → is_one_of (filter p ts) u ≡ is_one_of ts u
  passing_in [] u passes = refl
  passing_in (t ∷ ts) u passes = go (p t) refl (passing_in ts u passes)
    where
      other : (same : Bool) → nat_eq u t ≡ same → p t ≡ false → is_one_of (filter p ts) u ≡ is_one_of ts u → is_one_of (filter p ts) u ≡ (same || is_one_of ts u)
      other true same fails later = absurd (false≢true (sym fails ∙ ap p (sym (eqb-true u t same)) ∙ passes))
      other false same fails later = later

      go : (b : Bool) → p t ≡ b → is_one_of (filter p ts) u ≡ is_one_of ts u → is_one_of (cond b (t ∷ filter p ts) (filter p ts)) u ≡ is_one_of (t ∷ ts) u
      go true same later = ap (λ (b : Bool). nat_eq u t || b) later
      go false same later = other (nat_eq u t) refl same later

  pub one_of_all : (ts : List ℕ) (u : ℕ) → is_one_of (filter p ts) u ≡ true → is_one_of ts u ≡ true
  one_of_all ts u is = sym (passing_in ts u (passes_in ts u is)) ∙ is

-- the numbers without a log add nothing to a group
module _ {A : Type 0} (logs : Logs A) where
  live_log : (o : Option (List A)) (rest : List A) → cond (is_some o) (listed o ++ rest) rest ≡ listed o ++ rest
  live_log None rest = refl
  live_log (Some log) rest = refl

  split : (b : Bool) (t : ℕ) (ts : List ℕ) → group_log logs (cond b (t ∷ ts) ts) ≡ cond b (listed (logs t) ++ group_log logs ts) (group_log logs ts)
  split true t ts = refl
  split false t ts = refl

  pub group_live : (ts : List ℕ) → group_log logs (filter (λ t. is_some (logs t)) ts) ≡ group_log logs ts
  group_live [] = refl
  group_live (t ∷ ts) =
      split (is_some (logs t)) t (filter (λ t. is_some (logs t)) ts)
      ∙ ap (λ (rest : List A). cond (is_some (logs t)) (listed (logs t) ++ rest) rest) (group_live ts)
      ∙ live_log (logs t) (group_log logs ts)

  -- nor do they lose anything
  freed_live : (ts : List ℕ) (u : ℕ) (o : Option (List A)) → logs u ≡ o → cond (is_one_of (filter (λ t. is_some (logs t)) ts) u) None o ≡ cond (is_one_of ts u) None o
  freed_live ts u None is = none (is_one_of (filter (λ t. is_some (logs t)) ts) u) ∙ sym (none (is_one_of ts u))
    where
      none : (b : Bool) → (let no : Option (List A) = None in cond b no no ≡ no)
      none true = refl
      none false = refl
  freed_live ts u (Some log) is = ap (λ (b : Bool). let no : Option (List A) = None in cond b no (Some log)) (passing_in (λ t. is_some (logs t)) ts u (ap is_some is))

  pub each_live : (ts : List ℕ) → with_each logs (filter (λ t. is_some (logs t)) ts) None ≡ with_each logs ts None
  each_live ts = λ i u. freed_live ts u (logs u) refl i

-- what is live in one store is live in another
pub known_there : (store other : StoreView) → ((t : ℕ) → IsLive store t → IsLive other t) → (ts : List ℕ) → known store (commit_group ts) None → known other (commit_group ts) None
known_there store other live [] is = tt
known_there store other live (t ∷ ts) is = (live t is.0, known_there store other live ts is.1)

-- none of the live numbers of a group is unknown
pub none_unknown : (store : StoreView) → ((t : ℕ) → is_some (store.ranges t) ≡ true → IsLive store t) → (ts : List ℕ) (u : ℕ) → known store (commit_group (filter (λ t. is_some (store.ranges t)) ts)) (Some u) → ⊥
none_unknown store live [] u bad = bad
none_unknown store live (t ∷ ts) u bad = go (is_some (store.ranges t)) refl (none_unknown store live ts u) bad
  where
    go : (b : Bool) → is_some (store.ranges t) ≡ b → (known store (commit_group (filter (λ v. is_some (store.ranges v)) ts)) (Some u) → ⊥)
        → known store (commit_group (cond b (t ∷ filter (λ v. is_some (store.ranges v)) ts) (filter (λ v. is_some (store.ranges v)) ts))) (Some u) → ⊥
    go true some later bad = ⊎_elim (λ here. here.0 (live t some)) (λ rest. later rest.1) bad
    go false none later bad = later bad

-- a group of live numbers has no unknown one
pub known_whole : (store : StoreView) (ts : List ℕ) (u : ℕ) → known store (commit_group ts) None → known store (commit_group ts) (Some u) → ⊥
known_whole store [] u live bad = bad
known_whole store (t ∷ ts) u live bad = ⊎_elim (λ here. here.0 live.0) (λ later. known_whole store ts u live.1 later.1) bad

-- each number of a group of live ones is live
pub known_one : (store : StoreView) (ts : List ℕ) → known store (commit_group ts) None → (t : ℕ) → is_one_of ts t ≡ true → IsLive store t
known_one store [] live t so = absurd (false≢true so)
known_one store (u ∷ ts) live t so = go (nat_eq t u) refl so (known_one store ts live.1 t)
  where
    go : (b : Bool) → nat_eq t u ≡ b → (b || is_one_of ts t) ≡ true → (is_one_of ts t ≡ true → IsLive store t) → IsLive store t
    go true is so later = subst (IsLive store) (sym (eqb-true t u is)) live.0
    go false is so later = later so
