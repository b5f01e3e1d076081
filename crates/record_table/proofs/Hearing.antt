-- How answers follow from what slots said.
use Rattle.std.proofs.Common.{◌≡◌, ℕ, ◌+◌, ◌*◌, ◌/◌, ◌<◌, ◌≤◌, ◌⊎◌, Bool, inl, inr, List, [], ◌∷◌, ◌++◌, length, get_or, Option, Some, None, Result, Ok, Err, refl, sym, ◌∙◌, ap, subst, arith}
use Rattle.std.specs.Prelude.{IsSome}
use Rattle.array_shape.specs.Places.{page_count}
use Rattle.array_shape.specs.declared.shape.Shape.{Shape}
use Rattle.eaw_face.specs.Command.{Command}
use Rattle.eaw_face.specs.StoreView.{StoreView}
use Rattle.history.specs.Writes.{Row}
use Rattle.page_store.specs.Course.{Course, Reading, AreThere}
use Rattle.page_store.specs.Follows.{Follows, IsLast}
use Rattle.page_store.specs.Index.{slots_of, index_pages_of}
use Rattle.page_store.specs.Pairs.{Pair, AreInside}
use Rattle.page_store.specs.Records.{row_at, value_of}
use Rattle.page_store.specs.declared.fault.PageFault.{PageFault}
use Rattle.page_store.specs.declared.fault.PageFault.TheVariants.{LogFull, SavesFull, Media, Dead, Damaged}
use Rattle.record_slots.specs.declared.slot.Slot.{Slot}
use Rattle.record_table.specs.Faults.{as_table, told_as}
use Rattle.record_table.specs.Hearing.{Hearing, AllSpoke, AllHeld, IsSilent, IsDamage, HearsNext, HearsOne, HearsRows, HearsAbsent, IsHeardAbsent, rows_heard, slot_page}
use Rattle.record_table.specs.declared.fault.TableFault.{TableFault}
use Rattle.record_table.specs.declared.fault.TableFault.TheVariants as table
use Rattle.record_table.specs.declared.scanning.Next.{Next}
use Rattle.record_table.proofs.Doing.{scanned_as}

-- the page of a slot is one of the array
pub slot_page_there : (shape : Shape) (slot : ℕ) → slot < slots_of shape → slot_page shape slot < page_count shape
slot_page_there shape slot lt = omega (arith, lt)

-- the page that was read last is one of the array
pub last_there : (count page : ℕ) (read : List Reading) → AreThere count read → IsLast read page → page < count
last_there count page [] there is = absurd is
last_there count page (r ∷ rs) there is = omega (arith, there.0, is)

-- where nothing was heard yet
pub all_spoke_yet : (hs : List Hearing) → hs ≡ [] → AllSpoke hs
all_spoke_yet hs none = subst AllSpoke (sym none) tt

pub all_held_yet : (hs : List Hearing) → hs ≡ [] → AllHeld hs
all_held_yet hs none = subst AllHeld (sym none) tt

pub no_rows_yet : (hs : List Hearing) (rows : List Row) → hs ≡ [] → rows ≡ [] → rows ≡ rows_heard hs
no_rows_yet hs rows none empty = empty ∙ ap rows_heard (sym none)

held_one : (said : Option Slot) → IsSome (value_of said) → IsSome said
held_one None some = absurd (cc)
held_one (Some said) some = refl

-- a slot that holds a record says something
pub held_spoke : (hs : List Hearing) → AllHeld hs → AllSpoke hs
held_spoke [] held = tt
held_spoke (h ∷ hs) held = (held_one h.2 held.0, held_spoke hs held.1)

-- the slot of one pair is read
module _ (shape : Shape) (pair : ℕ × ℕ) (before : List Hearing) where
  pub next_failed : (fault : PageFault) → (fault ≡ Media) ⊎ (fault ≡ Dead) → HearsNext shape pair before before (Err fault)
  next_failed Media is = refl
  next_failed Dead is = refl
  next_failed (LogFull g h n) is = refl
  next_failed SavesFull is = refl
  next_failed (Damaged bad) (inl is) = absurd (cc)
  next_failed (Damaged bad) (inr is) = absurd (cc)

  pub next_heard : (after : List Hearing) (said : Option Slot) (spoke : Slot) (next : Next) → said ≡ Some spoke → after ≡ (pair.0, pair.1, said) ∷ before → next.key ≡ pair.0 → next.value ≡ value_of (Some spoke) → HearsNext shape pair before after (Ok next)
  next_heard after said spoke next speaks heard key value = (spoke, heard ∙ ap (λ (o : Option Slot). (pair.0, pair.1, o) ∷ before) speaks, key, value)

  pub next_silent : (after : List Hearing) (said : Option Slot) (fault : PageFault) (bad : ℕ) → fault ≡ Damaged bad → said ≡ None → after ≡ (pair.0, pair.1, said) ∷ before → bad ≡ slot_page shape pair.1 → HearsNext shape pair before after (Err fault)
  next_silent after said fault bad is silent heard at =
      subst (λ (f : PageFault). HearsNext shape pair before after (Err f)) (sym is) (heard ∙ ap (λ (o : Option Slot). (pair.0, pair.1, o) ∷ before) silent, at)

  -- one more is heard, or none
  pub next_met : (after : List Hearing) (next : Next) → HearsNext shape pair before after (Ok next) → length after ≡ length before + 1
  next_met after next hears = let n = ap (λ (hs : List Hearing). length hs) hears.1 in omega (arith, n)

  pub refused_met : (after : List Hearing) (fault : PageFault) → HearsNext shape pair before after (Err fault) → length after ≤ length before + 1
  refused_met after Media hears = let n = ap (λ (hs : List Hearing). length hs) hears in omega (arith, n)
  refused_met after Dead hears = let n = ap (λ (hs : List Hearing). length hs) hears in omega (arith, n)
  refused_met after (LogFull g h m) hears = let n = ap (λ (hs : List Hearing). length hs) hears in omega (arith, n)
  refused_met after SavesFull hears = let n = ap (λ (hs : List Hearing). length hs) hears in omega (arith, n)
  refused_met after (Damaged bad) hears = let n = ap (λ (hs : List Hearing). length hs) hears.0 in omega (arith, n)

  -- all spoke before, and so does this one
  pub next_spoke : (after : List Hearing) (next : Next) → HearsNext shape pair before after (Ok next) → AllSpoke before → AllSpoke after
  next_spoke after next hears spoke = subst AllSpoke (sym hears.1) (refl, spoke)

  pub next_rows : (after : List Hearing) (next : Next) (rows more : List Row) → HearsNext shape pair before after (Ok next) → rows ≡ rows_heard before → more ≡ rows ++ row_at next.key next.value → more ≡ rows_heard after
  next_rows after next rows more hears all is =
      is ∙ (λ i. all i ++ row_at (hears.2 i) (hears.3 i)) ∙ sym (ap rows_heard hears.1)

  -- or it is silent, and its page is damaged
  next_damaged : (after : List Hearing) (bad : ℕ) → pair.1 < slots_of shape → HearsNext shape pair before after (Err (Damaged bad)) → AllSpoke before → IsDamage shape after bad
  next_damaged after bad lt hears spoke =
      (subst (λ (n : ℕ). n < page_count shape) (sym hears.1) (slot_page_there shape pair.1 lt), inl (subst (λ (hs : List Hearing). IsSilent shape hs bad) (sym hears.0) (refl, hears.1, spoke)))

  pub next_refused : {T : Type 0} (after : List Hearing) (rows : T → List Row) (fault : PageFault) → pair.1 < slots_of shape → HearsNext shape pair before after (Err fault) → AllSpoke before → HearsRows shape after rows (Err (as_table fault))
  next_refused after rows Media lt hears spoke = subst AllSpoke (sym hears) spoke
  next_refused after rows Dead lt hears spoke = subst AllSpoke (sym hears) spoke
  next_refused after rows (LogFull g h n) lt hears spoke = subst AllSpoke (sym hears) spoke
  next_refused after rows SavesFull lt hears spoke = subst AllSpoke (sym hears) spoke
  next_refused after rows (Damaged bad) lt hears spoke = next_damaged after bad lt hears spoke

-- the index is not read to the end
module _ {T A : Type 0} (tells : Bool) (calls calls_now : Command → ℕ) (course : Course A) (shown : T → A) (old new : StoreView) (hs : List Hearing) where
  index_damaged : (bad : ℕ) → (let r : Result T PageFault = Err (Damaged bad) in Follows tells calls calls_now course shown old new r) → bad < page_count old.shape
  index_damaged bad follows = last_there (page_count old.shape) bad follows.read follows.reads.there follows.blames

  pub index_refused : {U : Type 0} (rows : U → List Row) (fault : PageFault) → (let r : Result T PageFault = Err fault in Follows tells calls calls_now course shown old new r) → AllSpoke hs → HearsRows old.shape hs rows (Err (as_table fault))
  index_refused rows Media follows spoke = spoke
  index_refused rows Dead follows spoke = spoke
  index_refused rows (LogFull g h n) follows spoke = spoke
  index_refused rows SavesFull follows spoke = spoke
  index_refused rows (Damaged bad) follows spoke = (index_damaged bad follows, inr spoke)

  pub one_unfound : (fault : PageFault) → (let r : Result T PageFault = Err fault in Follows tells calls calls_now course shown old new r) → HearsOne old.shape hs hs (Err fault)
  one_unfound Media follows = refl
  one_unfound Dead follows = refl
  one_unfound (LogFull g h n) follows = refl
  one_unfound SavesFull follows = refl
  one_unfound (Damaged bad) follows = (index_damaged bad follows, inr refl)

-- the slot of the next pair is read, or not
module _ (shape : Shape) (before : List Hearing) where
  pub one_failed : (fault : PageFault) → (fault ≡ Media) ⊎ (fault ≡ Dead) → HearsOne shape before before (Err fault)
  one_failed Media is = refl
  one_failed Dead is = refl
  one_failed (LogFull g h n) is = refl
  one_failed SavesFull is = refl
  one_failed (Damaged bad) (inl is) = absurd (cc)
  one_failed (Damaged bad) (inr is) = absurd (cc)

  pub one_silent : (mid : Shape) (after : List Hearing) (key slot : ℕ) (said : Option Slot) (fault : PageFault) (bad : ℕ) → mid ≡ shape → slot < slots_of shape → fault ≡ Damaged bad → said ≡ None → after ≡ (key, slot, said) ∷ before → bad ≡ slot_page mid slot → HearsOne shape before after (Err fault)
  one_silent mid after key slot said fault bad same lt is silent heard at =
      let at_shape : bad ≡ slot_page shape slot = at ∙ ap (λ (s : Shape). slot_page s slot) same in
      subst (λ (f : PageFault). HearsOne shape before after (Err f)) (sym is) (
        subst (λ (n : ℕ). n < page_count shape) (sym at_shape) (slot_page_there shape slot lt),
        inl ((key, slot), heard ∙ ap (λ (o : Option Slot). (key, slot, o) ∷ before) silent, at_shape),
      )

  pub one_met : (after : List Hearing) (next : Next) → HearsOne shape before after (Ok (Some next)) → length after ≡ length before + 1
  one_met after next hears = let n = ap (λ (hs : List Hearing). length hs) hears.2 in omega (arith, n)

  -- the slot holds a record
  pub one_held : (after : List Hearing) (next : Next) → HearsOne shape before after (Ok (Some next)) → IsSome next.value → AllHeld before → AllHeld after
  one_held after next hears some held = subst AllHeld (sym hears.2) (subst (λ (o : Option (List ℕ)). IsSome o) hears.3 some, held)

  -- or none
  pub one_absent : (after : List Hearing) (next : Next) → HearsOne shape before after (Ok (Some next)) → next.value ≡ None → AllHeld before → IsHeardAbsent next.key after
  one_absent after next hears none held = subst (IsHeardAbsent next.key) (sym hears.2) (refl, hears.1, refl, sym hears.3 ∙ none, held)

  damaged_one : (after : List Hearing) (bad : ℕ) → HearsOne shape before after (Err (Damaged bad)) → AllHeld before → IsDamage shape after bad
  damaged_one after bad hears held = (
    hears.0,
    elim hears.1 [
      | inl silent ↦ inl (subst (λ (hs : List Hearing). IsSilent shape hs bad) (sym silent.1) (refl, silent.2, held_spoke before held))
      | inr same ↦ inr (subst AllSpoke (sym same) (held_spoke before held))
    ],
  )

  pub one_refused : (after : List Hearing) (fault : PageFault) → HearsOne shape before after (Err fault) → AllHeld before → HearsAbsent shape after (Err (as_table fault))
  one_refused after Media hears held = subst AllHeld (sym hears) held
  one_refused after Dead hears held = subst AllHeld (sym hears) held
  one_refused after (LogFull g h n) hears held = subst AllHeld (sym hears) held
  one_refused after SavesFull hears held = subst AllHeld (sym hears) held
  one_refused after (Damaged bad) hears held = damaged_one after bad hears held

-- a refusal says nothing of rows
pub rows_refused : {T U : Type 0} (shape : Shape) (hs : List Hearing) (one : T → List Row) (other : U → List Row) (fault : TableFault) → HearsRows shape hs one (Err fault) → HearsRows shape hs other (Err fault)
rows_refused shape hs one other (table.Damaged page) hears = hears
rows_refused shape hs one other table.Media hears = hears
rows_refused shape hs one other table.Dead hears = hears
rows_refused shape hs one other table.SavesFull hears = hears
rows_refused shape hs one other table.NoMemory hears = hears
rows_refused shape hs one other (table.SlotsFull n) hears = hears
rows_refused shape hs one other (table.PagesFull n) hears = hears
rows_refused shape hs one other (table.LogFull g h n) hears = hears

-- the first of some pairs leads to a slot of the array
pub first_inside : (ps : List Pair) (from bound : ℕ) → 1 ≤ length ps → AreInside from bound ps → (get_or ps 0 (0, 0)).1 < bound
first_inside [] from bound some inside = absurd (omega (arith, some))
first_inside (p ∷ ps) from bound some inside = inside.1

-- the rows of a scan that gives them
pub rows_given : (shape : Shape) (hs : List Hearing) (rows : List Row) (r : Result (Unit {0}) TableFault) → HearsRows shape hs (λ done. rows) r → HearsRows shape hs (λ (answer : List Row). answer) (scanned_as rows r)
rows_given shape hs rows (Ok done) hears = hears
rows_given shape hs rows (Err fault) hears = rows_refused shape hs (λ (done : Unit {0}). rows) (λ (answer : List Row). answer) fault hears
