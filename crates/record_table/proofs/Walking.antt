-- How a walk over the keys of a table goes on, look by look and slot by slot.
use Rattle.std.proofs.Common.{◌≡◌, ℕ, ◌+◌, ◌*◌, ◌≤◌, ◌⊎◌, inl, inr, Bool, false, List, [], ◌∷◌, length, Result, Ok, Err, refl, sym, ◌∙◌, ap, subst, arith}
use Rattle.std.proofs.lemmas.Bool.{false≢true}
use Rattle.std.specs.Prelude.{IsFalse}
use Rattle.array_shape.specs.Places.{page_count}
use Rattle.array_shape.specs.declared.shape.Shape.{Shape}
use Rattle.eaw_face.specs.Command.{Command}
use Rattle.eaw_face.specs.Command as store
use Rattle.eaw_face.specs.StoreView.{StoreView}
use Rattle.eaw_face.specs.State.{listed}
use Rattle.eaw_face.specs.Causes.{IsAlive}
use Rattle.history.specs.Writes.{Row}
use Rattle.page_store.specs.Course.{Course, Reading, AreThere}
use Rattle.page_store.specs.Follows.{Follows, reads_cost}
use Rattle.page_store.specs.Access.{Access}
use Rattle.page_store.specs.Index.{slots_of}
use Rattle.page_store.specs.Looks.{LookCause, is_failed}
use Rattle.page_store.specs.Reads.{seen_cost}
use Rattle.page_store.specs.Pairs.{Pair}
use Rattle.page_store.specs.declared.fault.PageFault.{PageFault}
use Rattle.page_store.specs.declared.fault.PageFault.TheVariants.{LogFull, SavesFull, Media, Dead, Damaged}
use Rattle.record_table.specs.Does as answers
use Rattle.record_table.specs.declared.fault.TableFault.{TableFault}
use Rattle.record_table.specs.Seeks.{row_cost}
use Rattle.record_table.specs.Hearing.{Hearing}
use Rattle.record_table.specs.Faults.{told_as}
use Rattle.record_table.proofs.Doing.{scanned_as}
use Rattle.record_table.proofs.Looking.{failed_told}
use Rattle.record_table.specs.Walked.{Look, AreLooks, ArePaid, LooksOnce, Walked, looks_cost, heard_cost, data_cost}

-- so far: at most so many looks, and the calls that they and the slots behind them make
pub record Walking (access : Access) (root : ℕ) (calls : Command → ℕ) (cost : ℕ → ℕ) (shape : Shape) (failed : Bool) (most before now : ℕ) (heard : List Hearing) : Type 0 where
  pub looks : List Look
  pub are : AreLooks access root shape looks
  pub few : length looks ≤ most
  pub exact : IsFalse failed → now ≡ before + (looks_cost calls looks + heard_cost cost heard)

-- the same calls cost the same
reads_same : (one other : Command → ℕ) (read : List Reading) → ((command : Command) → one command ≡ other command) → reads_cost one read ≡ reads_cost other read
reads_same one other read same = ap (λ (calls : Command → ℕ). reads_cost calls read) (λ i command. same command i)

pub heard_same : (one other : ℕ → ℕ) (heard : List Hearing) → ((slot : ℕ) → one slot ≡ other slot) → heard_cost one heard ≡ heard_cost other heard
heard_same one other heard same = ap (λ (cost : ℕ → ℕ). heard_cost cost heard) (λ i slot. same slot i)

-- a slot costs the same to read, as number t, where nothing has changed
pub row_same : (one other : Command → ℕ) (t : ℕ) (here there : StoreView) → ((command : Command) → one command ≡ other command) → here.shape ≡ there.shape → here.ranges ≡ there.ranges → (slot : ℕ) → row_cost one t here slot ≡ row_cost other t there slot
row_same one other t here there same shape ranges slot = λ i. seen_cost (λ command. same command i) t (64 * (slots_of (shape i) + slot)) 64 (listed (ranges i t))

pub read_same : (one other : Command → ℕ) (here there : Shape) → ((command : Command) → one command ≡ other command) → here ≡ there → (slot : ℕ) → data_cost one here slot ≡ data_cost other there slot
read_same one other here there same shape slot = λ i. same (store.read (64 * (slots_of (shape i) + slot)) 64) i

pub paid_same : (failed : Bool) (one cost : ℕ → ℕ) (before now : ℕ) (old new : List Hearing) → ((slot : ℕ) → one slot ≡ cost slot) → ArePaid failed one before now old new → ArePaid failed cost before now old new
paid_same failed one cost before now old new same paid well = let a = heard_same one cost old same in let b = heard_same one cost new same in omega (arith, paid well, a, b)

-- reads of slots, one after another
pub paid_then : (failed : Bool) (one cost : ℕ → ℕ) (before mid now : ℕ) (old heard new : List Hearing) → mid + heard_cost cost old ≡ before + heard_cost cost heard → ((slot : ℕ) → one slot ≡ cost slot)
    → ArePaid failed one mid now heard new → ArePaid failed cost before now old new
paid_then failed one cost before mid now old heard new first same second well = let next = paid_same failed one cost mid now heard new same second well in omega (arith, first, next)

-- one read of a slot, which says something or not
pub paid_one : (cost : ℕ → ℕ) (before now slot : ℕ) (old new : List Hearing) (h : Hearing) → now ≡ before + cost slot → new ≡ h ∷ old → h.1 ≡ slot → now + heard_cost cost old ≡ before + heard_cost cost new
paid_one cost before now slot old new h spent is at = let a = ap (heard_cost cost) is in let b = ap cost at in omega (arith, spent, a, b)

-- a read of a store that is not dead is refused by its medium alone
pub not_refused : (tells : Bool) (old : StoreView) (fault : PageFault) → (fault ≡ Media) ⊎ (fault ≡ Dead) → (let r : Result (Unit {0}) PageFault = Err fault in LookCause tells old r) → IsAlive old → IsFalse (let r : Result (Unit {0}) PageFault = Err fault in is_failed r) → ⊥
not_refused tells old Media is cause alive well = false≢true (sym well)
not_refused tells old Dead is cause alive well = false≢true (sym alive ∙ cause)
not_refused tells old (LogFull g h n) is cause alive well = absurd cause
not_refused tells old SavesFull is cause alive well = absurd cause
not_refused tells old (Damaged bad) (inl is) cause alive well = absurd (cc)
not_refused tells old (Damaged bad) (inr is) cause alive well = absurd (cc)

pub scanned_failed : (rows : List Row) (r : Result (Unit {0}) TableFault) → answers.is_failed (scanned_as rows r) ≡ answers.is_failed r
scanned_failed rows (Ok done) = refl
scanned_failed rows (Err fault) = refl

pub told_failed : {T : Type 0} (r : Result T PageFault) → answers.is_failed (told_as r) ≡ is_failed r
told_failed (Ok x) = refl
told_failed (Err fault) = failed_told fault

module _ (access : Access) (root : ℕ) (calls : Command → ℕ) (cost : ℕ → ℕ) (shape : Shape) where
  pub walk_begins : (before : ℕ) (heard : List Hearing) → heard ≡ [] → Walking access root calls cost shape false 0 before before heard
  walk_begins before heard none = record {
    looks = [];
    are = tt;
    few = omega arith;
    exact = λ well. let n = ap (heard_cost cost) none in omega (arith, n);
  }

  -- one more look
  pub walk_looks : {T : Type 0} (tells : Bool) (calls_old calls_now : Command → ℕ) (most before from : ℕ) (heard : List Hearing) (shown : T → List Pair) (old new : StoreView) (result : Result T PageFault)
      → Walking access root calls cost shape false most before old.moment heard → ((command : Command) → calls_old command ≡ calls command) → old.shape ≡ shape
      → Follows tells calls_old calls_now (access.nexting root from) shown old new result
      → Walking access root calls cost shape (is_failed result) (most + 1) before new.moment heard
  walk_looks tells calls_old calls_now most before from heard shown old new result walking same shape_same follows =
      record {
        looks = (from, follows.read) ∷ walking.looks;
        are = (
          follows.way,
          subst (λ (s : Shape). length follows.read ≤ (access.nexting root from).most s) shape_same follows.few,
          subst (λ (s : Shape). AreThere (page_count s) follows.read) shape_same follows.reads.there,
          walking.are,
        );
        few = omega (arith, walking.few);
        exact = λ well. let cost_is = reads_same calls_old calls follows.read same in omega (arith, walking.exact refl, follows.reads.exact well, cost_is);
      }

  -- slots are read
  pub walk_hears : (failed : Bool) (most before mid now : ℕ) (heard more : List Hearing) → Walking access root calls cost shape false most before mid heard
      → (IsFalse failed → now + heard_cost cost heard ≡ mid + heard_cost cost more) → Walking access root calls cost shape failed most before now more
  walk_hears failed most before mid now heard more walking goes = record {
    looks = walking.looks;
    are = walking.are;
    few = walking.few;
    exact = λ well. omega (arith, walking.exact refl, goes well);
  }

  pub walk_more : (failed : Bool) (most other before now : ℕ) (heard : List Hearing) → most ≤ other → Walking access root calls cost shape failed most before now heard → Walking access root calls cost shape failed other before now heard
  walk_more failed most other before now heard le walking = record { looks = walking.looks; are = walking.are; few = omega (arith, walking.few, le); exact = walking.exact }

  pub walk_ends : (failed : Bool) (most before now : ℕ) (heard : List Hearing) → most ≤ slots_of shape + 1 → length heard ≤ slots_of shape + 30 → Walking access root calls cost shape failed most before now heard
      → Walked access root calls cost shape failed before now heard
  walk_ends failed most before now heard le few walking = record { looks = walking.looks; are = walking.are; few = omega (arith, walking.few, le); few_heard = few; exact = walking.exact }

  -- one more look, and a slot
  pub walk_steps : (failed : Bool) (calls_old : Command → ℕ) (one : ℕ → ℕ) (old_shape : Shape) (most before mid now from : ℕ) (heard more : List Hearing) → Walking access root calls cost shape false most before mid heard
      → ((command : Command) → calls_old command ≡ calls command) → ((slot : ℕ) → one slot ≡ cost slot) → old_shape ≡ shape
      → LooksOnce (access.nexting root from) calls_old one old_shape failed mid now heard more
      → Walking access root calls cost shape failed (most + 1) before now more
  walk_steps failed calls_old one old_shape most before mid now from heard more walking same same_cost shape_same looks =
      record {
        looks = (from, looks.read) ∷ walking.looks;
        are = (
          looks.way,
          subst (λ (s : Shape). length looks.read ≤ (access.nexting root from).most s) shape_same looks.few,
          subst (λ (s : Shape). AreThere (page_count s) looks.read) shape_same looks.there,
          walking.are,
        );
        few = omega (arith, walking.few);
        exact = λ well.
            let read_is = reads_same calls_old calls looks.read same in
            let old_is = heard_same one cost heard same_cost in
            let new_is = heard_same one cost more same_cost in
            omega (arith, walking.exact refl, looks.exact well, read_is, old_is, new_is);
      }

-- what a look alone, and one with a slot behind it, have cost
module _ {T : Type 0} (tells : Bool) (calls calls_now : Command → ℕ) (cost : ℕ → ℕ) (course : Course (List Pair)) (shown : T → List Pair) (old mid : StoreView) (heard : List Hearing) where
  pub looks_alone : (result : Result T PageFault) → Follows tells calls calls_now course shown old mid result → LooksOnce course calls cost old.shape (is_failed result) old.moment mid.moment heard heard
  looks_alone result follows = record {
    read = follows.read;
    way = follows.way;
    few = follows.few;
    there = follows.reads.there;
    exact = λ well. omega (arith, follows.reads.exact well);
  }

  pub looks_on : (failed : Bool) (now : ℕ) (more : List Hearing) (x : T) → Follows tells calls calls_now course shown old mid (Ok x) → (IsFalse failed → now + heard_cost cost heard ≡ mid.moment + heard_cost cost more)
      → LooksOnce course calls cost old.shape failed old.moment now heard more
  looks_on failed now more x follows paid = record {
    read = follows.read;
    way = follows.way;
    few = follows.few;
    there = follows.reads.there;
    exact = λ well. omega (arith, follows.reads.exact refl, paid well);
  }
