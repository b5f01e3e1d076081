-- The end of a group of numbers.
use Rattle.std.proofs.Common.{◌≡◌, ℕ, ◌≤◌, Bool, true, inl, inr, List, Result, Ok, Err, refl, sym, ◌∙◌, ap, subst, arith}
use Rattle.std.specs.Prelude.{Some, None, IsTrue, IfErr, OnOk, OnErr, IsErrOf, is_some, filter}
use Rattle.std.proofs.lemmas.Bool.{cases_lt, false≢true}
use Rattle.eaw_face.specs.State.{is_one_of}
use Rattle.eaw_face.specs.StoreView.{StoreView, IsLive}
use Rattle.eaw_face.specs.Command.{commit_group}
use Rattle.eaw_face.specs.Causes as causes
use Rattle.eaw_face.specs.Does as does_store
use Rattle.eaw_face.specs.declared.fault.EawFault.{EawFault}
use Rattle.eaw_face.specs.declared.fault.EawFault.TheVariants as fault
use Rattle.eaw_face.proofs.Groups.{one_of_all, none_unknown}
use Rattle.page_store.specs.Command.{end_group}
use Rattle.page_store.specs.Does.{Does}
use Rattle.page_store.specs.Kept.{IsOrdered, IsAllowed}
use Rattle.page_store.specs.Outline.{outline_after}
use Rattle.page_store.specs.Shown.{PagesView, outline_of}
use Rattle.page_store.specs.Told.{IsKnown, TellsAs}
use Rattle.page_store.specs.declared.fault.PageFault.{PageFault}
use Rattle.page_store.specs.declared.fault.PageFault.TheVariants.{Media}
use Rattle.page_store.proofs.Lifting.{Makes, lifted}
use Rattle.page_store.proofs.Shown.{IsTold}

-- the numbers of a group that have a log
abbrev pub live_in : StoreView → List ℕ → List ℕ
live_in store ts = filter (λ t. is_some (store.ranges t)) ts

-- a number that has a log is one of the array's
pub live_is : (store : StoreView) → ((t : ℕ) → store.shape.numbers ≤ t → store.ranges t ≡ None) → (t : ℕ) → is_some (store.ranges t) ≡ true → IsLive store t
live_is store beyond t some = elim (cases_lt t store.shape.numbers) [
  | inl lt ↦ record { small = lt; live = some }
  | inr past ↦ absurd (false≢true (ap is_some (sym (beyond t (omega arith))) ∙ some))
]

-- the store knows the numbers that it is asked for
pub answer_known : (store : StoreView) → ((t : ℕ) → store.shape.numbers ≤ t → store.ranges t ≡ None) → (ts live : List ℕ) → live ≡ live_in store ts → (faults : ℕ) (r : Result (Unit {0}) EawFault) → causes.Cause store (commit_group live) faults r → IfErr r IsKnown
answer_known store beyond ts live is faults (Ok x) cause = tt
answer_known store beyond ts live is faults (Err (fault.UnknownTid u)) cause = none_unknown store (live_is store beyond) ts u (subst (λ us. causes.known store (commit_group us) (Some u)) is cause.1)
answer_known store beyond ts live is faults (Err (fault.LogFull g h n)) cause = tt
answer_known store beyond ts live is faults (Err fault.Media) cause = tt
answer_known store beyond ts live is faults (Err fault.Dead) cause = tt

module _ (tells : Bool) (Opens : List ℕ → List ℕ → Type 0) (ts live : List ℕ) (old new : PagesView) (is : live ≡ live_in old.store ts)
    (allowed : IsAllowed old.store.shape (end_group ts) (outline_of old)) (ordered : IsOrdered (outline_of old)) (told : IsTrue tells → IsTold old.store) where
  makes : Makes tells (end_group ts) (commit_group live) old
  makes = record {
    device_is = ap (λ (us : List ℕ). Some (commit_group us)) (sym is);
    allowed = λ alive. allowed;
    ordered = λ alive. ordered;
    told = λ tell alive. told tell;
    room = λ has. tt;
    full = λ g h n full. full;
    number = λ u ne so. ne (one_of_all (λ t. is_some (old.store.ranges t)) ts u (subst (λ us. is_one_of us u ≡ true) is so));
  }

  pub group_does : (r : Result (Unit {0}) EawFault) (s : Result (Unit {0}) PageFault) → TellsAs r s → does_store.Does tells Opens (commit_group live) old.store new.store r
      → OnOk s ((new.counts ≡ (outline_after (end_group ts) (outline_of old)).counts) × (new.top ≡ (outline_after (end_group ts) (outline_of old)).top))
      → OnErr s ((new.counts ≡ old.counts) × (new.top ≡ old.top)) → Does tells Opens (end_group ts) old new s
  group_does = lifted tells Opens (end_group ts) (commit_group live) old new makes

-- only a fault of the medium is told as one
pub media_of : (r : Result (Unit {0}) EawFault) (p : PageFault) → (let s : Result (Unit {0}) PageFault = Err p in TellsAs r s) → p ≡ Media → IsErrOf r fault.Media
media_of (Ok x) p told is = absurd told
media_of (Err (fault.UnknownTid t)) p told is = absurd told.0
media_of (Err (fault.LogFull g h n)) p told is = let never : ⊥ = cc (told.1, is) in absurd never
media_of (Err fault.Media) p told is = refl
media_of (Err fault.Dead) p told is = let never : ⊥ = cc (told.1, is) in absurd never
