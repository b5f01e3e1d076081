-- What a look-up of a key and of its slot reads and costs, from what its two parts do.
use Rattle.std.proofs.Common.{◌≡◌, ℕ, ◌+◌, ◌*◌, ◌/◌, ◌<◌, ◌≤◌, ◌⊎◌, inl, inr, Bool, true, false, List, [], ◌∷◌, Option, Some, None, Result, Ok, Err, refl, sym, ◌∙◌, ap, subst, arith}
use Rattle.std.specs.Prelude.{if◌then◌else◌, IfOk, IsFalse}
use Rattle.std.specs.Option.{option_map}
use Rattle.std.proofs.lemmas.Bool.{false≢true}
use Rattle.mars_base.specs.Costs.{Costs}
use Rattle.array_shape.specs.declared.shape.Shape.{Shape}
use Rattle.eaw_face.specs.Command.{Command, log_read}
use Rattle.eaw_face.specs.Command as store
use Rattle.eaw_face.specs.Causes.{IsAlive}
use Rattle.eaw_face.specs.State.{Logs, listed}
use Rattle.eaw_face.specs.StoreView.{StoreView}
use Rattle.page_store.specs.Course.{Course}
use Rattle.page_store.specs.Follows.{Follows, reads_cost}
use Rattle.page_store.specs.Index.{slots_of, index_pages_of}
use Rattle.page_store.specs.Looks.{LookCause, is_failed}
use Rattle.page_store.specs.Reads.{overlap, lay_cost, laid_cost, seen_cost}
use Rattle.page_store.specs.declared.fault.PageFault.{PageFault}
use Rattle.page_store.specs.declared.fault.PageFault.TheVariants.{LogFull, SavesFull, Media, Dead, Damaged}
use Rattle.page_store.specs.Records.{value_of}
use Rattle.record_slots.specs.declared.slot.Slot.{Slot}
use Rattle.record_table.specs.Hearing.{Hearing}
use Rattle.record_table.specs.Seeks.{Blames, IsHeard, Seeks, slot_cost}
use Rattle.record_table.specs.declared.slots.Place.{Place}

laid_same : (calls other : Command → ℕ) (t : ℕ) (r : ℕ × ℕ) (parts : List (ℕ × ℕ)) → ((command : Command) → other command ≡ calls command) → laid_cost other t r parts ≡ laid_cost calls t r parts
laid_same calls other t r [] same = refl
laid_same calls other t r (p ∷ ps) same =
    let one : lay_cost other t r p ≡ lay_cost calls t r p = ap (λ (n : ℕ). if overlap r p then n else 0) (same (log_read t)) in
    omega (arith, one, laid_same calls other t r ps same)

-- reads leave what a slot costs
slot_same : (calls other : Command → ℕ) (t slot : ℕ) (old mid : StoreView) → mid.shape ≡ old.shape → mid.ranges ≡ old.ranges → ((command : Command) → other command ≡ calls command)
    → slot_cost other t mid (Some slot) ≡ slot_cost calls t old (Some slot)
slot_same calls other t slot old mid shape ranges same =
    let addr = 64 * (slots_of mid.shape + slot) in
    let one : slot_cost other t mid (Some slot) ≡ slot_cost calls t mid (Some slot) =
    omega (arith, same (store.read (64 * (slots_of mid.shape + slot)) 64), laid_same calls other t (64 * (slots_of mid.shape + slot), 64) (listed (mid.ranges t)) same) in
    one ∙ ap (λ (s : Shape). seen_cost calls t (64 * (slots_of s + slot)) 64 (listed (mid.ranges t))) shape
    ∙ ap (λ (rs : Logs (ℕ × ℕ)). seen_cost calls t (64 * (slots_of old.shape + slot)) 64 (listed (rs t))) ranges

module _ (tells : Bool) (course : Course (Option ℕ)) (key t : ℕ) (calls calls_mid : Command → ℕ) (before : List Hearing) (old mid : StoreView) where
  -- the index lacks the key
  pub seeks_none : (let r : Result (Option ℕ) PageFault = Ok None in Follows tells calls calls_mid course (λ slot. slot) old mid r) → Seeks course key t calls before before old mid.moment (Ok None)
  seeks_none walks = record {
    read = walks.read;
    slot = None;
    there = walks.reads.there;
    way = walks.way;
    few = walks.few;
    inside = tt;
    most = omega (arith, walks.reads.most);
    exact = λ well. omega (arith, walks.reads.exact refl);
    answers = (walks.ends, refl);
    hears = (refl, refl);
    blames = tt;
  }

  -- the index is not read to the end
  pub seeks_err : (fault : PageFault) → (let r : Result (Option ℕ) PageFault = Err fault in Follows tells calls calls_mid course (λ slot. slot) old mid r) → Seeks course key t calls before before old mid.moment (Err fault)
  seeks_err Media walks = record { read = walks.read; slot = None; there = walks.reads.there; way = walks.way; few = walks.few; inside = tt; most = omega (arith, walks.reads.most); exact = λ well. absurd (false≢true (sym well)); answers = tt; hears = (refl, tt); blames = tt }
  seeks_err Dead walks = record { read = walks.read; slot = None; there = walks.reads.there; way = walks.way; few = walks.few; inside = tt; most = omega (arith, walks.reads.most); exact = λ well. omega (arith, walks.reads.exact refl); answers = tt; hears = (refl, tt); blames = tt }
  seeks_err (Damaged bad) walks = record { read = walks.read; slot = None; there = walks.reads.there; way = walks.way; few = walks.few; inside = tt; most = omega (arith, walks.reads.most); exact = λ well. omega (arith, walks.reads.exact refl); answers = tt; hears = (refl, tt); blames = walks.blames }
  seeks_err (LogFull g h n) walks = record { read = walks.read; slot = None; there = walks.reads.there; way = walks.way; few = walks.few; inside = tt; most = omega (arith, walks.reads.most); exact = λ well. omega (arith, walks.reads.exact refl); answers = tt; hears = (refl, tt); blames = tt }
  seeks_err SavesFull walks = record { read = walks.read; slot = None; there = walks.reads.there; way = walks.way; few = walks.few; inside = tt; most = omega (arith, walks.reads.most); exact = λ well. omega (arith, walks.reads.exact refl); answers = tt; hears = (refl, tt); blames = tt }

  -- the index has the key, and its slot is read
  module _ (slot : ℕ) (inside : slot < slots_of old.shape) (shape : mid.shape ≡ old.shape) (ranges : mid.ranges ≡ old.ranges) (new : StoreView)
      (walks : (let r : Result (Option ℕ) PageFault = Ok (Some slot) in Follows tells calls calls_mid course (λ slot. slot) old mid r)) where
    same : slot_cost calls_mid t mid (Some slot) ≡ slot_cost calls t old (Some slot)
    same = slot_same calls calls_mid t slot old mid shape ranges (walks.reads.steady refl)

    -- the read of the slot comes last, whatever is answered then
    seeks_slot : (now : ℕ) (after : List Hearing) (r : Result (Option Place) PageFault)
        → (now ≤ old.moment + (reads_cost calls walks.read + slot_cost calls t old (Some slot))) × (IsFalse (is_failed r) → now ≡ old.moment + (reads_cost calls walks.read + slot_cost calls t old (Some slot)))
        → IfOk r (λ place. (course.answer walks.read ≡ Some (option_map (λ place. place.slot) place)) × (Some slot ≡ option_map (λ place. place.slot) place))
        → IsHeard key (Some slot) before after r → Blames old.shape walks.read (Some slot) r → Seeks course key t calls before after old now r
    seeks_slot now after r calls_made answers hears blames = record {
      read = walks.read;
      slot = Some slot;
      there = walks.reads.there;
      way = walks.way;
      few = walks.few;
      inside = inside;
      most = calls_made.0;
      exact = calls_made.1;
      answers = answers;
      hears = hears;
      blames = blames;
    }

    -- the read fails
    pub seeks_unread : {T : Type 0} (fault : PageFault) → IsAlive mid → (fault ≡ Media) ⊎ (fault ≡ Dead) → (let r : Result T PageFault = Err fault in LookCause tells mid r)
        → (let r : Result T PageFault = Err fault in Costs true (slot_cost calls_mid t mid (Some slot)) mid.moment new.moment r) → Seeks course key t calls before before old new.moment (Err fault)
    seeks_unread Media alive is cause costs = seeks_slot new.moment before (Err Media) (omega (arith, walks.reads.exact refl, costs.most, same), λ well. absurd (false≢true (sym well))) tt refl tt
    seeks_unread Dead alive is cause costs = absurd (false≢true (sym alive ∙ cause))
    seeks_unread (Damaged bad) alive (inl is) cause costs = absurd (cc)
    seeks_unread (Damaged bad) alive (inr is) cause costs = absurd (cc)
    seeks_unread (LogFull g h n) alive is cause costs = absurd cause
    seeks_unread SavesFull alive is cause costs = absurd cause

    module _ {T : Type 0} (x : T) (costs : (let r : Result T PageFault = Ok x in Costs true (slot_cost calls_mid t mid (Some slot)) mid.moment new.moment r)) where
      seeks_read : (after : List Hearing) (r : Result (Option Place) PageFault) → IfOk r (λ place. (course.answer walks.read ≡ Some (option_map (λ place. place.slot) place)) × (Some slot ≡ option_map (λ place. place.slot) place))
          → IsHeard key (Some slot) before after r → Blames old.shape walks.read (Some slot) r → Seeks course key t calls before after old new.moment r
      seeks_read after r = seeks_slot new.moment after r (omega (arith, walks.reads.exact refl, costs.most, same), λ well. omega (arith, walks.reads.exact refl, costs.done refl, same))

      -- it says nothing
      pub seeks_bad : (fault : PageFault) (page : ℕ) (said : Option Slot) (after : List Hearing) → fault ≡ Damaged page → said ≡ None → after ≡ (key, slot, said) ∷ before → page ≡ index_pages_of mid.shape + slot / 8 → Seeks course key t calls before after old new.moment (Err fault)
      seeks_bad fault page said after is none heard at = subst (λ (f : PageFault). Seeks course key t calls before after old new.moment (Err f)) (sym is)
          (seeks_read after (Err (Damaged page)) tt (heard ∙ ap (λ (o : Option Slot). (key, slot, o) ∷ before) none) (at ∙ ap (λ (s : Shape). index_pages_of s + slot / 8) shape))

      -- it is heard
      pub seeks_some : (place : Place) (said : Option Slot) (spoke : Slot) (after : List Hearing) → place.slot ≡ slot → said ≡ Some spoke → place.value ≡ value_of (Some spoke) → after ≡ (key, slot, said) ∷ before → Seeks course key t calls before after old new.moment (Ok (Some place))
      seeks_some place said spoke after is speaks value heard =
          seeks_read after (Ok (Some place)) (walks.ends ∙ ap (λ (n : ℕ). Some (Some n)) (sym is), ap Some (sym is))
          (spoke, heard ∙ ap (λ (o : Option Slot). (key, slot, o) ∷ before) speaks, λ i. Some (record { slot = is i; value = value i })) tt

-- a damaged page does not say that the store is dead
pub damaged_not_dead : {P T : Type 0} (fault : PageFault) (page : ℕ) → fault ≡ Damaged page → (let r : Result T PageFault = Err fault in r ≡ Err Dead) → P
damaged_not_dead Dead page is dead = absurd (cc)
damaged_not_dead Media page is dead = absurd (cc)
damaged_not_dead SavesFull page is dead = absurd (cc)
damaged_not_dead (Damaged bad) page is dead = absurd (cc)
damaged_not_dead (LogFull g h n) page is dead = absurd (cc)

pub damaged_well : (T : Type 0) (fault : PageFault) (page : ℕ) → fault ≡ Damaged page → (let r : Result T PageFault = Err fault in is_failed r) ≡ false
damaged_well T fault page is = ap (λ (f : PageFault). (let r : Result T PageFault = Err f in is_failed r)) is
