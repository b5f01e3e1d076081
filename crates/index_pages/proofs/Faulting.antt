-- What a fault of pages tells of an insertion's answer: that a store is dead is told only by one that is.
use Rattle.std.proofs.Common.{◌≡◌, ◌≢◌, ℕ, ◌<◌, ◌≤◌, Bool, List, length, Result, Ok, Err, refl, sym, ◌∙◌, subst, arith}
use Rattle.std.proofs.lemmas.Bool.{false≢true}
use Rattle.eaw_face.specs.StoreView.{StoreView}
use Rattle.eaw_face.specs.Causes.{IsAlive}
use Rattle.page_store.specs.Looks.{LookCause}
use Rattle.page_store.specs.Pairs.{Pair}
use Rattle.page_store.specs.declared.fault.PageFault.{PageFault}
use Rattle.page_store.specs.declared.fault.PageFault.TheVariants as page
use Rattle.page_store.specs.declared.index_fault.IndexFault.{IndexFault}
use Rattle.page_store.specs.declared.index_fault.IndexFault.TheVariants as index
use Rattle.index_pages.specs.Acts.{ActCause}
use Rattle.page_store.specs.Faults.{as_index}
use Rattle.index_pages.specs.Fetched.{TestCause}

-- it is not that of too many saves
abbrev pub IsOfIndex : PageFault → Type 0
IsOfIndex page.SavesFull = ⊥
IsOfIndex _ = Unit {0}

-- a fault of a read, a look or an action is not that of too many saves
pub test_of_index : (T : Type 0) (tells : Bool) (Good : Type 0) (at : ℕ) (old : StoreView) (fault : PageFault) → (let r : Result T PageFault = Err fault in TestCause tells Good at old r) → IsOfIndex fault
test_of_index T tells Good at old page.Media cause = tt
test_of_index T tells Good at old page.Dead cause = tt
test_of_index T tells Good at old (page.Damaged bad) cause = tt
test_of_index T tells Good at old (page.LogFull g h n) cause = absurd cause
test_of_index T tells Good at old page.SavesFull cause = absurd cause

pub look_of_index : (T : Type 0) (tells : Bool) (old : StoreView) (fault : PageFault) → (let r : Result T PageFault = Err fault in LookCause tells old r) → IsOfIndex fault
look_of_index T tells old page.Media cause = tt
look_of_index T tells old page.Dead cause = tt
look_of_index T tells old (page.Damaged bad) cause = tt
look_of_index T tells old (page.LogFull g h n) cause = absurd cause
look_of_index T tells old page.SavesFull cause = absurd cause

pub act_of_index : (old : StoreView) (t : ℕ) (pages : List ℕ) (fault : PageFault) → (let r : Result (Unit {0}) PageFault = Err fault in ActCause old t pages r) → IsOfIndex fault
act_of_index old t pages page.Media cause = tt
act_of_index old t pages page.Dead cause = tt
act_of_index old t pages (page.LogFull g h n) cause = tt
act_of_index old t pages (page.Damaged bad) cause = absurd cause
act_of_index old t pages page.SavesFull cause = absurd cause

-- an answer that a store is dead comes of such a fault
pub dead_fault : (fault : PageFault) (told : IndexFault) → IsOfIndex fault → told ≡ as_index fault → (let r : Result ℕ IndexFault = Err told in r ≡ Err index.Dead) → fault ≡ page.Dead
dead_fault page.Dead told of is e = refl
dead_fault page.SavesFull told of is e = absurd of
dead_fault page.Media told of is e = absurd (cc)
dead_fault (page.LogFull g h n) told of is e = absurd (cc)
dead_fault (page.Damaged bad) told of is e = absurd (cc)

pub not_full : {P : Type 0} (n : ℕ) → (let r : Result ℕ IndexFault = Err (index.PagesFull n) in r ≡ Err index.Dead) → P
not_full n e = absurd (cc)

pub not_slots : {P : Type 0} (n : ℕ) → (let r : Result ℕ IndexFault = Err (index.SlotsFull n) in r ≡ Err index.Dead) → P
not_slots n e = absurd (cc)

pub not_done : {P : Type 0} (n : ℕ) → (let r : Result ℕ IndexFault = Ok n in r ≡ Err index.Dead) → P
not_done n e = absurd (cc)

-- a store that is not dead does not say so
pub dead_test : {P : Type 0} (T : Type 0) (tells : Bool) (Good : Type 0) (at : ℕ) (old : StoreView) (fault : PageFault) → IsAlive old → fault ≡ page.Dead → (let r : Result T PageFault = Err fault in TestCause tells Good at old r) → P
dead_test T tells Good at old fault alive is cause = absurd (false≢true (sym alive ∙ subst (λ (f : PageFault). (let r : Result T PageFault = Err f in TestCause tells Good at old r)) is cause))

pub dead_look : {P : Type 0} (T : Type 0) (tells : Bool) (old : StoreView) (fault : PageFault) → IsAlive old → fault ≡ page.Dead → (let r : Result T PageFault = Err fault in LookCause tells old r) → P
dead_look T tells old fault alive is cause = absurd (false≢true (sym alive ∙ subst (λ (f : PageFault). (let r : Result T PageFault = Err f in LookCause tells old r)) is cause))

pub dead_act : {P : Type 0} (old : StoreView) (t : ℕ) (pages : List ℕ) (fault : PageFault) → IsAlive old → fault ≡ page.Dead → (let r : Result (Unit {0}) PageFault = Err fault in ActCause old t pages r) → P
dead_act old t pages fault alive is cause = absurd (false≢true (sym alive ∙ subst (λ (f : PageFault). (let r : Result (Unit {0}) PageFault = Err f in ActCause old t pages r)) is cause))

pub not_damage : {P : Type 0} (n : ℕ) → (let r : Result ℕ IndexFault = Err (index.Damaged n) in r ≡ Err index.Dead) → P
not_damage n e = absurd (cc)

-- how many pairs a page has, by a count of them
pub room_for : (pairs : List Pair) (len : ℕ) → len ≡ length pairs → len < 30 → length pairs < 30
room_for pairs len is less = omega arith

pub full_with : (pairs : List Pair) (len : ℕ) → len ≡ length pairs → 30 ≤ len → length pairs ≤ 30 → length pairs ≡ 30
full_with pairs len is many most = omega arith

pub not_zero : (n : ℕ) → 0 < n → n ≢ 0
not_zero n more is = absurd (omega arith)

pub two_some : (n : ℕ) → 2 ≤ n → 1 ≤ n
two_some n two = omega arith
