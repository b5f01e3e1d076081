-- An insertion as a whole, given how what is left of it after the first steps ends.
use Rattle.std.proofs.Common.{◌≡◌, ℕ, ◌-◌, ◌≤◌, ◌⊎◌, inl, inr, Bool, List, Result, Ok, Err, sym, ◌∙◌, ap, subst, arith}
use Rattle.std.specs.Prelude.{IsTrue}
use Rattle.mars_base.specs.Causes.{Rose}
use Rattle.mars_base.proofs.Going.{then, weaker}
use Rattle.array_shape.specs.declared.shape.Shape.{Shape}
use Rattle.eaw_face.specs.Causes.{IsAlive}
use Rattle.eaw_face.proofs.Mirroring.{sent_then}
use Rattle.record_slots.specs.Places.{used_slots, used_pages}
use Rattle.page_store.specs.Index.{Index, Grows, Rests, Gains, slots_of, index_pages_of}
use Rattle.page_store.specs.Inserts.{MayBecome, AllFit, LackPages, LackRoom, ComesTo, InsertCause, Made, Inserts}
use Rattle.page_store.specs.Shown.{PagesView}
use Rattle.page_store.specs.declared.index_fault.IndexFault.{IndexFault}
use Rattle.page_store.specs.declared.index_fault.IndexFault.TheVariants as index
use Rattle.index_pages.proofs.Going.{Going, logs_then, alive_now}
use Rattle.index_pages.proofs.Left.{DecidesAll, all_fit_same, lack_pages_same, lack_room_same, lacks_same}

-- what steps after the first ones make of the data is what all of them make of it
pub record Joins (up ix : Index) (root table key : ℕ) (a b : List ℕ) : Type 0 where
  pub grows : (c : List ℕ) → Grows ix root b c → Grows up root a c
  pub rests : (c : List ℕ) → Rests ix root b c → Rests up root a c
  pub gains : (c : List ℕ) → Gains ix root table key b c → Gains up root table key a c
  pub full : (n : ℕ) (c : List ℕ) → (n ≤ used_pages c) ⊎ (7 ≤ ix.level c root) → (n ≤ used_pages c) ⊎ (7 ≤ up.level c root)

pub joins_same : (ix : Index) (root table key : ℕ) (a b : List ℕ) → b ≡ a → Joins ix ix root table key a b
joins_same ix root table key a b same = subst (λ (x : List ℕ). Joins ix ix root table key a x) (sym same) (record { grows = λ c g. g; rests = λ c r. r; gains = λ c g. g; full = λ n c f. f })

module _ (tells : Bool) (E : Shape → List ℕ → List ℕ → Type 0) (t root table key : ℕ) (v0 v v' : PagesView) (up ix : Index) (going : Going up tells (E v0.store.shape) t root table key v0 v) (alive : IsAlive v0.store)
    (joins : IsTrue tells → Joins up ix root table key v0.store.state.bytes v.store.state.bytes)
    (decides : IsTrue tells → DecidesAll v0.store t (index_pages_of v0.store.shape - used_pages v0.store.state.bytes) (up.actions v0.store.state.bytes root key) (index_pages_of v0.store.shape - used_pages v.store.state.bytes)
    (ix.actions v.store.state.bytes root key)) where
  pages_same : index_pages_of v.store.shape ≡ index_pages_of v0.store.shape
  pages_same = ap index_pages_of going.shape

  slots_same : slots_of v.store.shape ≡ slots_of v0.store.shape
  slots_same = ap slots_of going.shape

  next_same : IsTrue tells → used_slots v.store.state.bytes ≡ used_slots v0.store.state.bytes
  next_same told = (going.made told alive).1.slots

  all_fit : IsTrue tells → ComesTo ix root key v.store (AllFit v.store t) → ComesTo up root key v0.store (AllFit v0.store t)
  all_fit told comes = (
    omega (arith, comes.0, slots_same, next_same told),
    (decides told).fit (all_fit_same v0.store v.store t going.shape (going.logs.ranges t) (index_pages_of v0.store.shape - used_pages v.store.state.bytes) (ix.actions v.store.state.bytes root key)
        (subst (λ (n : ℕ). AllFit v.store t (n - used_pages v.store.state.bytes) (ix.actions v.store.state.bytes root key)) pages_same comes.1)),
  )

  lack_pages : IsTrue tells → ComesTo ix root key v.store (LackPages v.store t) → ComesTo up root key v0.store (LackPages v0.store t)
  lack_pages told comes = (
    omega (arith, comes.0, slots_same, next_same told),
    (decides told).lack_pages (lack_pages_same v0.store v.store t going.shape (going.logs.ranges t) (index_pages_of v0.store.shape - used_pages v.store.state.bytes) (ix.actions v.store.state.bytes root key)
        (subst (λ (n : ℕ). LackPages v.store t (n - used_pages v.store.state.bytes) (ix.actions v.store.state.bytes root key)) pages_same comes.1)),
  )

  lack_room : (g h n : ℕ) → IsTrue tells → ComesTo ix root key v.store (LackRoom v.store t g h n) → ComesTo up root key v0.store (LackRoom v0.store t g h n)
  lack_room g h n told comes = (
    omega (arith, comes.0, slots_same, next_same told),
    (decides told).lack_room g h n (lack_room_same v0.store v.store t going.shape (going.logs.ranges t) g h n (index_pages_of v0.store.shape - used_pages v.store.state.bytes) (ix.actions v.store.state.bytes root key)
        (subst (λ (m : ℕ). LackRoom v.store t g h n (m - used_pages v.store.state.bytes) (ix.actions v.store.state.bytes root key)) pages_same comes.1)),
  )

  cause_then : (r : Result ℕ IndexFault) → InsertCause tells ix t root key v.store r → InsertCause tells up t root key v0.store r
  cause_then (Ok slot) cause = (alive, omega (arith, cause.1, slots_same), λ told. all_fit told (cause.2 told))
  cause_then (Err (index.SlotsFull n)) cause = (alive, cause.1 ∙ slots_same, λ told. sym (next_same told) ∙ cause.2 told)
  cause_then (Err (index.PagesFull n)) cause = (alive, cause.1 ∙ ap (λ (m : ℕ). m - 1) pages_same, λ told. lack_pages told (cause.2 told))
  cause_then (Err (index.LogFull g h n)) cause =
      (alive, (cause.1.0, cause.1.1, lacks_same v0.store v.store t going.shape (going.logs.ranges t) cause.1.0 g h n cause.1.2), λ told. lack_room g h n told (cause.2 told))
  cause_then (Err index.Media) cause = alive
  cause_then (Err index.Dead) cause = sym going.logs.dead ∙ cause
  cause_then (Err (index.Damaged bad)) cause = (alive, cause.1)

  made_then : (r : Result ℕ IndexFault) → IsTrue tells → Made ix root table key v.store.state.bytes v'.store.state.bytes r → Made up root table key v0.store.state.bytes v'.store.state.bytes r
  made_then (Ok slot) told made = let j = joins told in (made.0 ∙ (going.made told alive).1.due, j.grows v'.store.state.bytes made.1, j.gains v'.store.state.bytes made.2)
  made_then (Err (index.PagesFull n)) told made = let j = joins told in (j.grows v'.store.state.bytes made.0, j.rests v'.store.state.bytes made.1, j.full n v'.store.state.bytes made.2)
  made_then (Err index.Media) told made = tt
  made_then (Err (index.SlotsFull n)) told made = let j = joins told in (j.grows v'.store.state.bytes made.0, j.rests v'.store.state.bytes made.1)
  made_then (Err (index.LogFull g h n)) told made = let j = joins told in (j.grows v'.store.state.bytes made.0, j.rests v'.store.state.bytes made.1)
  made_then (Err index.Dead) told made = let j = joins told in (j.grows v'.store.state.bytes made.0, j.rests v'.store.state.bytes made.1)
  made_then (Err (index.Damaged bad)) told made = let j = joins told in (j.grows v'.store.state.bytes made.0, j.rests v'.store.state.bytes made.1)

  may_then : (bytes : List ℕ) → IsTrue tells → MayBecome ix root table key v.store.state.bytes bytes → MayBecome up root table key v0.store.state.bytes bytes
  may_then bytes told (grows, inl still) = let j = joins told in (j.grows bytes grows, inl (j.rests bytes still))
  may_then bytes told (grows, inr gains) = let j = joins told in (j.grows bytes grows, inr (j.gains bytes gains))

  pub inserts_then : (r : Result ℕ IndexFault) → Inserts tells (E v.store.shape) ix t root table key v v' r → Inserts tells (E v0.store.shape) up t root table key v0 v' r
  inserts_then r rest' =
      let rest = subst (λ (sh : Shape). Inserts tells (E sh) ix t root table key v v' r) going.shape rest' in
      let living : IsAlive v.store = alive_now up tells (E v0.store.shape) t root table key v0 v going alive in
      record {
        shape = rest.shape ∙ going.shape;
        depth = rest.depth ∙ going.depth;
        mirrors = sent_then tells v0.store v.store v'.store going.mirrors rest.mirrors;
        cause = cause_then r rest.cause;
        saves = rest.saves ∙ going.saves;
        others = λ u ne. rest.others u ne ∙ going.others u ne;
        kept = λ well. logs_then tells v0 v v' going.logs (rest.kept well);
        made = λ told running. made_then r told (rest.made told living);
        dies = λ failed. let dies = rest.dies failed in (dies.0, subst (λ (n : ℕ). Rose n v'.store.faults) going.logs.faults dies.1);
        time = λ told running.
            (then) (going.time told alive)
            (weaker (λ image left. (left.0, left.1, may_then left.0 told left.2)) (rest.time told living));
      }
