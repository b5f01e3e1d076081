-- Faults of reads, as a check tells them, and what a check of a whole index tells.
use Rattle.std.proofs.Common.{◌≡◌, ℕ, Bool, List, Some, None, Result, Ok, Err, inl, inr, IsTrue, refl, sym, ◌∙◌, subst}
use Rattle.std.proofs.lemmas.Bool.{false≢true}
use Rattle.mars_base.specs.Check.{Check, both}
use Rattle.eaw_face.specs.StoreView.{StoreView}
use Rattle.eaw_face.specs.Causes.{IsAlive}
use Rattle.record_slots.specs.Places.{tables_of, IsSuper}
use Rattle.record_slots.specs.declared.super_page.Super.{Super}
use Rattle.page_store.specs.Index.{Index}
use Rattle.page_store.specs.Looks.{Looks, CheckCause, is_failed, is_check_failed}
use Rattle.page_store.specs.Shown.{PagesView}
use Rattle.page_store.specs.declared.fault.PageFault.{PageFault}
use Rattle.page_store.specs.declared.fault.PageFault.TheVariants as page
use Rattle.page_store.specs.declared.index_fault.CheckFault.{CheckFault}
use Rattle.page_store.specs.declared.index_fault.CheckFault.TheVariants as check
use Rattle.page_store.specs.Faults.{as_check}
use Rattle.index_pages.specs.Fetched.{ReadCause, TestCause}
use Rattle.index_pages.specs.Slots.{IsVerdict, slots_check, pages_check, tables_check, index_check}

-- the medium failed in what is told exactly if it did in the read
pub failed_same : (T : Type 0) (fault : PageFault) → (let r : Result T PageFault = Err fault in let s : Result (Unit {0}) CheckFault = Err (as_check fault) in is_failed r ≡ is_check_failed s)
failed_same T page.Media = refl
failed_same T page.Dead = refl
failed_same T (page.Damaged bad) = refl
failed_same T (page.LogFull g h n) = refl
failed_same T page.SavesFull = refl

pub check_looks : (T : Type 0) (tells : Bool) (Opens : List ℕ → List ℕ → Type 0) (old new : PagesView) (fault : PageFault) (told : CheckFault) → told ≡ as_check fault
    → (let r : Result T PageFault = Err fault in Looks tells Opens (is_failed r) old new) → (let s : Result (Unit {0}) CheckFault = Err told in Looks tells Opens (is_check_failed s) old new)
check_looks T tells Opens old new fault told is looks = subst (λ (f : CheckFault). (let s : Result (Unit {0}) CheckFault = Err f in Looks tells Opens (is_check_failed s) old new)) (sym is)
    (subst (λ (b : Bool). Looks tells Opens b old new) (failed_same T fault) looks)

pub dead_told : (T : Type 0) (tells : Bool) (Good : Type 0) (at : ℕ) (old : StoreView) (fault : PageFault) (told : CheckFault) → (let r : Result T PageFault = Err fault in TestCause tells Good at old r) → told ≡ as_check fault
    → (let s : Result (Unit {0}) CheckFault = Err told in s ≡ Err check.Dead) → fault ≡ page.Dead
dead_told T tells Good at old page.Dead told cause is e = refl
dead_told T tells Good at old page.Media told cause is e = absurd (cc)
dead_told T tells Good at old (page.Damaged bad) told cause is e = absurd (cc)
dead_told T tells Good at old (page.LogFull g h n) told cause is e = absurd cause
dead_told T tells Good at old page.SavesFull told cause is e = absurd cause

-- an answer that is not that of a dead store
pub not_damaged : {P : Type 0} (n : ℕ) → (let r : Result (Unit {0}) CheckFault = Err (check.Damaged n) in r ≡ Err check.Dead) → P
not_damaged n e = absurd (cc)

pub not_passed : {P : Type 0} → (let r : Result (Unit {0}) CheckFault = Ok tt in r ≡ Err check.Dead) → P
not_passed e = absurd (cc)

module _ (tells : Bool) (Opens : List ℕ → List ℕ → Type 0) (old new : PagesView) (alive : IsAlive old.store) (fault : PageFault) (cause : (let r : Result (Unit {0}) PageFault = Err fault in ReadCause old.store r)) where
  -- the store is alive, so the medium failed
  only_media : fault ≡ page.Media
  only_media = here fault cause
    where
      here : (fault : PageFault) → (let r : Result (Unit {0}) PageFault = Err fault in ReadCause old.store r) → fault ≡ page.Media
      here page.Media cause = (cc)
      here page.Dead cause = absurd (false≢true (sym alive ∙ cause))
      here (page.Damaged bad) cause = absurd cause
      here (page.LogFull g h n) cause = absurd cause
      here page.SavesFull cause = absurd cause

  pub told_media : (told : CheckFault) → told ≡ as_check fault → told ≡ check.Media
  told_media told is = is ∙ subst (λ (f : PageFault). as_check f ≡ check.Media) (sym only_media) (cc)

  pub told_looks : (told : CheckFault) → told ≡ as_check fault → (let r : Result (Unit {0}) PageFault = Err fault in Looks tells Opens (is_failed r) old new) → (let r : Result (Unit {0}) CheckFault = Err told in Looks tells Opens (is_check_failed r) old new)
  told_looks told is looks = subst (λ (f : CheckFault). (let r : Result (Unit {0}) CheckFault = Err f in Looks tells Opens (is_check_failed r) old new)) (sym (told_media told is))
      (subst (λ (f : PageFault). (let r : Result (Unit {0}) PageFault = Err f in Looks tells Opens (is_failed r) old new)) only_media looks)

  pub told_verdict : (told : CheckFault) → told ≡ as_check fault → (tests : Check ℕ) → (let r : Result (Unit {0}) CheckFault = Err told in IsVerdict tests r)
  told_verdict told is tests = subst (λ (f : CheckFault). (let r : Result (Unit {0}) CheckFault = Err f in IsVerdict tests r)) (sym (told_media told is)) tt

  pub told_dead : {P : Type 0} (told : CheckFault) → told ≡ as_check fault → (let r : Result (Unit {0}) CheckFault = Err told in r ≡ Err check.Dead) → P
  told_dead told is e = (let media = told_media told is in absurd (cc))

-- What a check of a whole index of this form tells, from what its parts tell.
module _ (ix : Index) (form : ℕ) (test : List ℕ → ℕ → ℕ → Check ℕ) (sound_is : (bytes : List ℕ) → index_check form test bytes None → ix.sound bytes) (fails_is : (bytes : List ℕ) (bad : ℕ) → index_check form test bytes (Some bad) → ix.fails bytes bad)
    (tells : Bool) (old : StoreView) where
  -- first the super page
  pub super_fails : (fault : PageFault) (told : CheckFault) → told ≡ as_check fault
      → (let r : Result Super PageFault = Err fault in TestCause tells (IsSuper form old.state.bytes) 0 old r) → (let s : Result (Unit {0}) CheckFault = Err told in CheckCause tells ix old s)
  super_fails page.Dead told is cause = subst (λ (f : CheckFault). (let s : Result (Unit {0}) CheckFault = Err f in CheckCause tells ix old s)) (sym is) cause
  super_fails page.Media told is cause = subst (λ (f : CheckFault). (let s : Result (Unit {0}) CheckFault = Err f in CheckCause tells ix old s)) (sym is) cause
  super_fails (page.Damaged bad) told is cause = subst (λ (f : CheckFault). (let s : Result (Unit {0}) CheckFault = Err f in CheckCause tells ix old s)) (sym is)
      (cause.0, λ t. fails_is old.state.bytes bad (subst (λ (n : ℕ). index_check form test old.state.bytes (Some n)) (sym cause.1) (inl (cause.2 t, refl))))
  super_fails (page.LogFull g h n) told is cause = absurd cause
  super_fails page.SavesFull told is cause = absurd cause

  module _ (alive : IsAlive old) (super : IsTrue tells → IsSuper form old.state.bytes) where
    -- then the lists
    pub lists_fail : (fault : CheckFault) → (let r : Result (Unit {0}) CheckFault = Err fault in IsTrue tells → IsVerdict (both (slots_check old.state.bytes) (pages_check old.state.bytes)) r)
        → (let r : Result (Unit {0}) CheckFault = Err fault in r ≡ Err check.Dead → ⊥) → (let r : Result (Unit {0}) CheckFault = Err fault in CheckCause tells ix old r)
    lists_fail (check.Damaged bad) cause dead = (alive, λ t. fails_is old.state.bytes bad (inr (super t, inl (cause t))))
    lists_fail check.Media cause dead = alive
    lists_fail check.Dead cause dead = absurd (dead refl)
    lists_fail check.NoMemory cause dead = alive

    -- then the tables
    pub tables_tell : (IsTrue tells → both (slots_check old.state.bytes) (pages_check old.state.bytes) None) → (r : Result (Unit {0}) CheckFault)
        → (IsTrue tells → IsVerdict (tables_check (test old.state.bytes) 0 (tables_of old.state.bytes)) r) → (r ≡ Err check.Dead → ⊥) → CheckCause tells ix old r
    tables_tell lists (Ok done) cause dead = (alive, λ t. sound_is old.state.bytes (super t, (lists t, cause t)))
    tables_tell lists (Err (check.Damaged bad)) cause dead = (alive, λ t. fails_is old.state.bytes bad (inr (super t, inr (lists t, cause t))))
    tables_tell lists (Err check.Media) cause dead = alive
    tables_tell lists (Err check.Dead) cause dead = absurd (dead refl)
    tables_tell lists (Err check.NoMemory) cause dead = alive
