-- Who asked for what: what steps add, and what stays.
use Rattle.std.proofs.Common.{◌≡◌, ◌⊎◌, ℕ, zero, suc, ◌+◌, ◌<◌, ◌≤◌, Bool, true, false, List, [], ◌∷◌, ◌++◌, refl, sym, ap, ◌∙◌, subst, inl, inr, ⊎_elim, arith, append_assoc}
use Rattle.std.specs.Prelude.{nat_lt, nat_eq, is_some, length, unwrap_or, ◌&&◌, Option, Some, None, Contains}
use Rattle.record_slots.specs.Names.{number_of}
use Rattle.history.specs.Key.{of_table}
use Rattle.std.specs.Int.{bit_at}
use mathlib.Core.List.{append-nil}
use Rattle.std.proofs.lemmas.List.Elements.{Contains-append_left, Contains-append_right, Contains-append_cases}
use Rattle.history.specs.Locks.{has_table, touches, key_stripe, stripe_of}
use Rattle.history.specs.declared.call.Call.TheVariants.{Table}
use Rattle.history.specs.declared.call.TableCall.{TableCall}
use Rattle.history.specs.declared.call.TableCall.TheVariants.{Get, Put, Del, Scan, Save, Back}
use Rattle.std.proofs.lemmas.Bool.{lt-ltb, eq-eqb, and_from}
use Rattle.history.specs.declared.locks.Mode.{Mode}
use Rattle.history.specs.declared.locks.Mode.TheVariants as mode
use Rattle.stripe_words.specs.declared.hold.Hold.{Hold}
use Rattle.stripe_words.specs.declared.hold.Hold.TheVariants.{Free, Shared, Exclusive}
use Rattle.stripe_words.specs.Words.{Stands, gained, marked, HasLock, Refuses}
use Rattle.mars_manager.specs.declared.view.Met.{Met}
use Rattle.mars_manager.specs.declared.view.Known.{Known}
use Rattle.mars_manager.specs.Locks.{number_asked, locks, met}
use Rattle.mars_manager.specs.Asked.{bit_for, set_for, AsksFor, HasAsked, IsCaused, against, IsStepFor, IsReadingBelow, IsStepOf, AreRising, Meets, AsksUp}

pub only_one : {A : Type 0} (x y : A) → Contains (x ∷ []) y → x ≡ y
only_one x y (zero, l, e) = e
only_one x y (suc k, l, e) = absurd (omega arith)

pub one_here : {A : Type 0} (x : A) → Contains (x ∷ []) x
one_here x = (0, omega arith, refl)

pub none_here : {A X : Type 0} (y : A) → Contains [] y → X
none_here y (k, l, e) = absurd (omega arith)

later_there : {A : Type 0} (x : A) (xs : List A) (y : A) → Contains xs y → Contains (x ∷ xs) y
later_there x xs y (k, l, e) = (suc k, omega (arith, l), e)

-- steps for one stripe rise, and so do those for stripes above behind others
rise_at : (low t : ℕ) (steps : List Met) → low ≤ t → ((step : Met) → Contains steps step → step.stripe ≡ t) → AreRising low steps
rise_at low t [] le all = tt
rise_at low t (step ∷ steps) le all =
    let is = all step (0, omega arith, refl) in (omega (arith, le, is), rise_at step.stripe t steps (omega (arith, is)) (λ other there. all other (later_there step steps other there)))

rising_from : (low n : ℕ) (steps : List Met) → low ≤ n → AreRising n steps → AreRising low steps
rising_from low n [] le rising = tt
rising_from low n (step ∷ steps) le rising = (omega (arith, le, rising.0), rising.1)

rising_on : (low n : ℕ) (xs ys : List Met) → low ≤ n → AreRising low xs → ((step : Met) → Contains xs step → step.stripe ≤ n) → AreRising n ys → AreRising low (xs ++ ys)
rising_on low n [] ys le a below b = rising_from low n ys le b
rising_on low n (x ∷ xs) ys le a below b = (a.0, rising_on x.stripe n xs ys (below x (0, omega arith, refl)) a.1 (λ step there. below step (later_there x xs step there)) b)

-- a bit of a word is set where its pass has what sets it
pub bit_is : (asked : Mode) (w : ℕ) (has : ℕ → Hold) (n : ℕ) → n < 32 → Stands w has → bit_at w (bit_for asked n) ≡ set_for asked (has n)
bit_is mode.Shared w has n l s = s.marks n l
bit_is mode.Exclusive w has n l s = s.locks n l

pub asked_left : (asked : Mode) (t : ℕ) (xs ys : List Met) → HasAsked asked t xs → HasAsked asked t (xs ++ ys)
asked_left asked t xs ys (step, there, asks) = (step, Contains-append_left xs ys step there, asks)

pub asked_right : (asked : Mode) (t : ℕ) (xs ys : List Met) → HasAsked asked t ys → HasAsked asked t (xs ++ ys)
asked_right asked t xs ys (step, there, asks) = (step, Contains-append_right xs ys step there, asks)

-- who asked for writing asked for reading
pub asked_less : (t : ℕ) (steps : List Met) → HasAsked mode.Exclusive t steps → HasAsked mode.Shared t steps
asked_less t steps (step, there, asks) = (step, there, asks.0)

-- whoever refuses a call by a word has asked for its stripe
pub refused_caused : (asked : Mode) (found n h : ℕ) (met : ℕ → List Met) (step : Met) → step.found ≡ found → IsCaused met n step → Refuses asked found n h → HasAsked (against asked) step.stripe (met h)
refused_caused mode.Shared found n h met step is c r = c mode.Exclusive h r.small r.other (ap (λ w. bit_at w (32 + h)) is ∙ r.it_has)
refused_caused mode.Exclusive found n h met step is c r = ⊎_elim
    (λ (mark : bit_at found h ≡ 1). c mode.Shared h r.small r.other (ap (λ w. bit_at w h) is ∙ mark))
    (λ (lock : HasLock found h). asked_less step.stripe (met h) (c mode.Exclusive h r.small r.other (ap (λ w. bit_at w (32 + h)) is ∙ lock)))
    r.it_has

-- a call that asks for no table that is there locks nothing
pub locks_none : (names : List (List ℕ)) (call : TableCall) (t : ℕ) (m : Mode) → number_asked names call ≡ None → locks names (Table call) t m ≡ false
locks_none names (Get name key) t m none = ap (λ (o : Option ℕ). is_some o && touches names (Get name key) t m) none
locks_none names (Put name key value) t m none = ap (λ (o : Option ℕ). is_some o && touches names (Put name key value) t m) none
locks_none names (Del name key) t m none = ap (λ (o : Option ℕ). is_some o && touches names (Del name key) t m) none
locks_none names (Scan name low high) t m none = ap (λ (o : Option ℕ). is_some o && touches names (Scan name low high) t m) none
locks_none names Save t m none = refl
locks_none names (Back save) t m none = refl

-- one of a table that is there locks the stripe of its key
pub locks_key : (names : List (List ℕ)) (name : List ℕ) (key table : ℕ) → number_of names name ≡ Some table → (t : ℕ) → (is_some (number_of names name) && nat_eq (key_stripe names (of_table name key)) t) ≡ nat_eq (stripe_of table key) t
locks_key names name key table is t = ap (λ (o : Option ℕ). is_some o && nat_eq (stripe_of (unwrap_or o (length names)) key) t) is

-- so what each call locks of the stripe of its key
pub locks_get : (names : List (List ℕ)) (call : TableCall) (name : List ℕ) (key table t : ℕ) → call ≡ Get name key → number_asked names call ≡ Some table → t ≡ stripe_of table key → locks names (Table call) t mode.Shared ≡ true
locks_get names call name key table t is there at =
    subst (λ (c : TableCall). number_asked names c ≡ Some table → locks names (Table c) t mode.Shared ≡ true) (sym is) (λ n. locks_key names name key table n t ∙ eq-eqb (stripe_of table key) t (sym at)) there

pub locks_put : (names : List (List ℕ)) (call : TableCall) (name : List ℕ) (key : ℕ) (value : List ℕ) (table t : ℕ) → call ≡ Put name key value → number_asked names call ≡ Some table → t ≡ stripe_of table key → locks names (Table call) t mode.Exclusive ≡ true
locks_put names call name key value table t is there at =
    subst (λ (c : TableCall). number_asked names c ≡ Some table → locks names (Table c) t mode.Exclusive ≡ true) (sym is) (λ n. locks_key names name key table n t ∙ eq-eqb (stripe_of table key) t (sym at)) there

pub locks_del : (names : List (List ℕ)) (call : TableCall) (name : List ℕ) (key table t : ℕ) → call ≡ Del name key → number_asked names call ≡ Some table → t ≡ stripe_of table key → locks names (Table call) t mode.Exclusive ≡ true
locks_del names call name key table t is there at =
    subst (λ (c : TableCall). number_asked names c ≡ Some table → locks names (Table c) t mode.Exclusive ≡ true) (sym is) (λ n. locks_key names name key table n t ∙ eq-eqb (stripe_of table key) t (sym at)) there

pub scan_there : (names : List (List ℕ)) (call : TableCall) (name : List ℕ) (low high table : ℕ) → call ≡ Scan name low high → number_asked names call ≡ Some table → has_table names call ≡ true
scan_there names call name low high table is there = subst (λ (c : TableCall). number_asked names c ≡ Some table → has_table names c ≡ true) (sym is) (λ n. ap is_some n) there

-- a step for a stripe that a call locks in this mode
pub step_of : (names : List (List ℕ)) (call : TableCall) (asked : Mode) (t : ℕ) → locks names (Table call) t asked ≡ true → (step : Met) → IsStepFor asked t step → IsStepOf names (Table call) step
step_of names call asked t touch step (same, up) = (asked, subst (λ i. locks names (Table call) i asked ≡ true) (sym same) touch, up)

-- a step of a scan
pub scan_step : (names : List (List ℕ)) (call : TableCall) (name : List ℕ) (low high : ℕ) → call ≡ Scan name low high → has_table names call ≡ true → (step : Met) → IsReadingBelow 64 step → IsStepOf names (Table call) step
scan_step names call name low high is there step (less, up) = subst (λ (c : TableCall). IsStepOf names (Table c) step) (sym is)
    (mode.Shared, and_from (has_table names (Scan name low high)) (nat_lt step.stripe 64) (ap (has_table names) (sym is) ∙ there) (lt-ltb step.stripe 64 less), up)

module _ {C : Type 0} where
  -- what a step that found the word w adds to the steps of its pass, which then has x of the stripe
  pub record Notes (t w : ℕ) (was x : Hold) (k k' : Known C) : Type 0 where
    pub more : List Met
    pub is : k'.met ≡ k.met ++ more
    pub of : (step : Met) → Contains more step → (step.stripe ≡ t) × (step.found ≡ w)
    pub asks : (asked : Mode) → set_for asked x ≡ 1 → (set_for asked was ≡ 1) ⊎ HasAsked asked t more

  -- a step that is noted, with what it asked for
  pub notes_one : (t w : ℕ) (asked : Mode) (was x : Hold) (k k' : Known C) → k'.met ≡ k.met ++ met t asked w ∷ [] → ((m : Mode) → set_for m x ≡ 1 → (set_for m was ≡ 1) ⊎ AsksFor m t (met t asked w)) → Notes t w was x k k'
  notes_one t w asked was x k k' is asks = record {
    more = met t asked w ∷ [];
    is = is;
    of = λ step there. (let e = only_one (met t asked w) step there in (ap (λ (s : Met). s.stripe) (sym e), ap (λ (s : Met). s.found) (sym e)));
    asks = λ m e. ⊎_elim inl (λ (a : AsksFor m t (met t asked w)). inr (met t asked w, one_here (met t asked w), a)) (asks m e);
  }

  -- one that is not
  pub notes_none : (t w : ℕ) (was x : Hold) (k k' : Known C) → k'.met ≡ k.met → ((m : Mode) → set_for m x ≡ 1 → set_for m was ≡ 1) → Notes t w was x k k'
  notes_none t w was x k k' is less = record {
    more = [];
    is = is ∙ sym (append-nil k.met);
    of = λ step there. none_here step there;
    asks = λ m e. inl (less m e);
  }

  -- more steps of a pass: none, one, two, and those of one call after another
  pub meets_none : (Holds : Met → Type 0) (k k' : Known C) → k'.met ≡ k.met → Meets Holds k k'
  meets_none Holds k k' is = record { more = []; is = is ∙ sym (append-nil k.met); each = λ step there. none_here step there }

  pub meets_one : (Holds : Met → Type 0) (step : Met) (k k' : Known C) → k'.met ≡ k.met ++ step ∷ [] → Holds step → Meets Holds k k'
  meets_one Holds step k k' is holds = record { more = step ∷ []; is = is; each = λ one there. subst Holds (only_one step one there) holds }

  pub meets_on : (Holds : Met → Type 0) (k1 k2 k3 : Known C) → Meets Holds k1 k2 → Meets Holds k2 k3 → Meets Holds k1 k3
  meets_on Holds k1 k2 k3 a b = record {
    more = a.more ++ b.more;
    is = b.is ∙ ap (λ (ms : List Met). ms ++ b.more) a.is ∙ append_assoc k1.met a.more b.more;
    each = λ step there. ⊎_elim (a.each step) (b.each step) (Contains-append_cases a.more b.more step there);
  }

  pub meets_as : (One Other : Met → Type 0) (k k' : Known C) → ((step : Met) → One step → Other step) → Meets One k k' → Meets Other k k'
  meets_as One Other k k' so a = record { more = a.more; is = a.is; each = λ step there. so step (a.each step there) }

  -- what changes besides the steps does not matter
  pub meets_same : (Holds : Met → Type 0) (j k k' j' : Known C) → k.met ≡ j.met → j'.met ≡ k'.met → Meets Holds k k' → Meets Holds j j'
  meets_same Holds j k k' j' before after a = record { more = a.more; is = after ∙ a.is ∙ ap (λ (ms : List Met). ms ++ a.more) before; each = a.each }

  -- steps for one stripe are made by rising stripe
  pub up_at : (asked : Mode) (t : ℕ) (k k' : Known C) → Meets (IsStepFor asked t) k k' → AsksUp k k'
  up_at asked t k k' a = record { more = a.more; is = a.is; rising = rise_at 0 t a.more (omega arith) (λ step there. (a.each step there).0) }

  -- and so are those for all stripes below one
  pub record UpTo (n : ℕ) (k k' : Known C) : Type 0 where
    pub up : AsksUp k k'
    pub below : (step : Met) → Contains up.more step → step.stripe < n

  pub up_none : (k : Known C) → UpTo 0 k k
  up_none k = record { up = record { more = []; is = sym (append-nil k.met); rising = tt }; below = λ step there. none_here step there }

  pub up_on : (asked : Mode) (n : ℕ) (k1 k2 k3 : Known C) → UpTo n k1 k2 → Meets (IsStepFor asked n) k2 k3 → UpTo (n + 1) k1 k3
  up_on asked n k1 k2 k3 a b = record {
    up = record {
      more = a.up.more ++ b.more;
      is = b.is ∙ ap (λ (ms : List Met). ms ++ b.more) a.up.is ∙ append_assoc k1.met a.up.more b.more;
      rising = rising_on 0 n a.up.more b.more (omega arith) a.up.rising (λ step there. let less = a.below step there in omega (arith, less)) (rise_at n n b.more (omega arith) (λ step there. (b.each step there).0));
    };
    below = λ step there. ⊎_elim
        (λ (before : Contains a.up.more step). let less = a.below step before in omega (arith, less))
        (λ (now : Contains b.more step). let is = (b.each step now).0 in omega (arith, is))
        (Contains-append_cases a.up.more b.more step there);
  }

  pub up_same : (k k' now : Known C) → now.met ≡ k'.met → AsksUp k k' → AsksUp k now
  up_same k k' now same a = record { more = a.more; is = same ∙ a.is; rising = a.rising }

  pub up_still : (k k' : Known C) → k'.met ≡ k.met → AsksUp k k'
  up_still k k' same = record { more = []; is = same ∙ sym (append-nil k.met); rising = tt }

-- a mark asks for reading
pub mark_asks : (t w : ℕ) (was : Hold) (b : Bool) (m : Mode) → set_for m (gained b) ≡ 1 → (set_for m was ≡ 1) ⊎ AsksFor m t (met t mode.Shared w)
mark_asks t w was b mode.Shared e = inr refl
mark_asks t w was true mode.Exclusive e = absurd (omega arith)
mark_asks t w was false mode.Exclusive e = absurd (omega arith)

-- and the exclusive step for both
pub exclude_asks : (t w : ℕ) (was x : Hold) (m : Mode) → set_for m x ≡ 1 → (set_for m was ≡ 1) ⊎ AsksFor m t (met t mode.Exclusive w)
exclude_asks t w was x mode.Shared e = inr refl
exclude_asks t w was x mode.Exclusive e = inr (refl, refl)

pub free_asks : (was : Hold) (m : Mode) → set_for m Free ≡ 1 → set_for m was ≡ 1
free_asks was mode.Shared e = absurd (omega arith)
free_asks was mode.Exclusive e = absurd (omega arith)

pub back_asks : (was : Hold) → was ≡ Exclusive → (m : Mode) → set_for m Shared ≡ 1 → set_for m was ≡ 1
back_asks was full mode.Shared e = ap marked full
back_asks was full mode.Exclusive e = absurd (omega arith)
