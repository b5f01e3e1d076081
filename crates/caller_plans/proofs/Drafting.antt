-- What one more line changes in what callers plan.
use Rattle.std.proofs.Common.{ℕ, zero, suc, ◌≡◌, ◌<◌, ◌+◌, Bool, true, false, nat_eq, if◌then◌else◌, List, [], ◌∷◌, ◌++◌, length, set, map, replicate, slice_get, Option, Some, None, is_some, inl, inr, refl, sym, ap, ap₂, ◌∙◌, arith}
use Rattle.std.specs.Map.{update}
use Rattle.std.proofs.Math.Path.{fun_ext}
use Rattle.std.proofs.lemmas.Bool.{cases_eq, cond-true, cond-false, eq-eqb}
use Rattle.std.proofs.lemmas.Bool.Decides.{nat_tests}
use Rattle.std.proofs.lemmas.List.{append_assoc, append-nil, length-set}
use Rattle.std.proofs.lemmas.Option.{slice_get_within}
use Rattle.history.specs.declared.call.Call.{Call}
use Rattle.history.specs.declared.key.Key.{Key}
use Rattle.history.specs.declared.call.Call.TheVariants.{Begin, Control}
use Rattle.history.specs.declared.call.TableCall.{TableCall}
use Rattle.history.specs.declared.call.Control.TheVariants.{Settle, Purge}
use Rattle.script_text.specs.declared.joint_line.JointLine.{JointLine}
use Rattle.script_text.specs.declared.joint_line.JointLine.TheVariants.{Nothing, Told, Read, Bad}
use Rattle.caller_plans.specs.Asks.{keys_by, keys_from, all_asked}
use Rattle.caller_plans.specs.declared.fate.LineFault.{LineFault}
use Rattle.caller_plans.specs.declared.fate.LineFault.TheVariants as fault
use Rattle.caller_plans.specs.declared.plan.Plan.{Plan}
use Rattle.caller_plans.specs.declared.draft.Draft.{Draft}
use Rattle.caller_plans.specs.declared.script.Reading.{Reading}
use Rattle.caller_plans.specs.Plans.{after_call, planned, faults_from, plans_from}
use Rattle.caller_plans.specs.Drafts.{empty_draft, one_begun, begun_in, drafted, all_drafted, Takes}

-- a stray call begins and ends nothing
pub stray_stays : (begun : Option (List TableCall)) (call : Call) → (after_call begun call).0 ≡ true → ((after_call begun call).1 ≡ begun) × ((after_call begun call).2 ≡ [])
stray_stays None Begin stray = cc
stray_stays None call stray = (refl, refl)
stray_stays (Some made) Begin stray = (refl, refl)
stray_stays (Some made) (Control Settle) stray = (refl, refl)
stray_stays (Some made) (Control Purge) stray = (refl, refl)
stray_stays (Some made) call stray = cc

-- one draft was set: it says what its caller is within, and the others are as they were
within-here : (drafts : List Draft) (i : ℕ) (draft : Draft) → i < length drafts → begun_in (set drafts i draft) i ≡ draft.begun
within-here [] i draft lt = absurd (omega (arith, lt))
within-here (was ∷ drafts) zero draft lt = refl
within-here (was ∷ drafts) (suc i) draft lt = within-here drafts i draft (omega (arith, lt))

within-apart : (drafts : List Draft) (i k : ℕ) (draft : Draft) → (k ≡ i → ⊥) → begun_in (set drafts i draft) k ≡ begun_in drafts k
within-apart [] i k draft ne = refl
within-apart (was ∷ drafts) zero zero draft ne = absurd (ne refl)
within-apart (was ∷ drafts) zero (suc k) draft ne = refl
within-apart (was ∷ drafts) (suc i) zero draft ne = refl
within-apart (was ∷ drafts) (suc i) (suc k) draft ne = within-apart drafts i k draft (λ e. ne (ap suc e))

apart : (a b : ℕ) → (a ≡ b → ⊥) → nat_eq a b ≡ false
apart a b ne = grind (arith, nat_tests)

pub within-set : (drafts : List Draft) (i : ℕ) (draft : Draft) (now : Option (List TableCall)) → i < length drafts → draft.begun ≡ now
    → begun_in (set drafts i draft) ≡ update nat_eq (begun_in drafts) i now
within-set drafts i draft now lt is = fun_ext (λ k. elim (cases_eq i k) [
  | inl e ↦ ap (begun_in (set drafts i draft)) (sym e) ∙ (within-here drafts i draft lt ∙ (is ∙ sym (cond-true (nat_eq i k) now (begun_in drafts k) (eq-eqb i k e))))
  | inr ne ↦ within-apart drafts i k draft (λ e. ne (sym e)) ∙ sym (cond-false (nat_eq i k) now (begun_in drafts k) (apart i k ne))
])

-- to set a caller's state to what it was changes nothing
pub within_same : (begun : ℕ → Option (List TableCall)) (i : ℕ) (now : Option (List TableCall)) → now ≡ begun i → begun ≡ update nat_eq begun i now
within_same begun i now is = fun_ext (λ k. elim (cases_eq i k) [
  | inl e ↦ ap begun (sym e) ∙ (sym is ∙ sym (cond-true (nat_eq i k) now (begun k) (eq-eqb i k e)))
  | inr ne ↦ sym (cond-false (nat_eq i k) now (begun k) (apart i k ne))
])

set_same : (drafts : List Draft) (i : ℕ) (was : Draft) → slice_get drafts i ≡ Some was → set drafts i was ≡ drafts
set_same [] i was at = refl
set_same (draft ∷ drafts) zero was at = ap (λ (d : Draft). d ∷ drafts) (let same : was ≡ draft = cc in same)
set_same (draft ∷ drafts) (suc i) was at = ap (λ (others : List Draft). draft ∷ others) (set_same drafts i was at)

-- another caller's call is in no plan of this one
other_planned : (caller other : ℕ) (call : Call) (begun : Option (List TableCall)) (lines : List JointLine) → (other ≡ caller → ⊥) → planned caller begun (Told other call ∷ lines) ≡ planned caller begun lines
other_planned caller other call begun lines ne =
    cond-false (nat_eq other caller) ((after_call begun call).2 ++ planned caller (after_call begun call).1 lines) (planned caller begun lines) (apart other caller ne)

-- callers after the one that calls make no call
drafted_past : (first caller : ℕ) (call : Call) (drafts : List Draft) (lines : List JointLine) → caller < first → all_drafted first drafts (Told caller call ∷ lines) ≡ all_drafted first drafts lines
drafted_past first caller call [] lines lt = refl
drafted_past first caller call (draft ∷ drafts) lines lt =
    ap (λ (plans : List Plan). (draft.plans ++ plans) ∷ all_drafted (suc first) drafts (Told caller call ∷ lines)) (other_planned first caller call draft.begun lines (λ e. omega (arith, e, lt)))
    ∙ ap (λ (others : List (List Plan)). drafted first draft lines ∷ others) (drafted_past (suc first) caller call drafts lines (omega (arith, lt)))

-- after a draft took the call, its caller has the plans that it had with the call before the rest,
drafted_more : (caller : ℕ) (call : Call) (was draft : Draft) (lines : List JointLine) → draft.plans ≡ was.plans ++ (after_call was.begun call).2 → draft.begun ≡ (after_call was.begun call).1
    → drafted caller draft lines ≡ drafted caller was (Told caller call ∷ lines)
drafted_more caller call was draft lines plans begun =
    (λ i. plans i ++ planned caller (begun i) lines)
    ∙ (append_assoc was.plans (after_call was.begun call).2 (planned caller (after_call was.begun call).1 lines)
    ∙ ap (λ (more : List Plan). was.plans ++ more) (sym (cond-true (nat_eq caller caller) ((after_call was.begun call).2 ++ planned caller (after_call was.begun call).1 lines) (planned caller was.begun lines) (eq-eqb caller caller refl))))

-- and the others have theirs
pub drafted-set : (first i caller : ℕ) (call : Call) (drafts : List Draft) (was draft : Draft) (lines : List JointLine) → slice_get drafts i ≡ Some was → caller ≡ first + i
    → draft.plans ≡ was.plans ++ (after_call was.begun call).2 → draft.begun ≡ (after_call was.begun call).1
    → all_drafted first (set drafts i draft) lines ≡ all_drafted first drafts (Told caller call ∷ lines)
drafted-set first i caller call [] was draft lines at is plans begun = cc
drafted-set first zero caller call (one ∷ drafts) was draft lines at is plans begun =
    let same : was ≡ one = cc in
    let here : first ≡ caller = omega (arith, is) in
    ap (λ (all : List Plan). all ∷ all_drafted (suc first) drafts lines) (drafted_more first call was draft lines plans begun ∙ (λ k. drafted first (same k) (Told (here k) call ∷ lines)))
    ∙ ap (λ (others : List (List Plan)). drafted first one (Told caller call ∷ lines) ∷ others) (sym (drafted_past (suc first) caller call drafts lines (omega (arith, is))))
drafted-set first (suc i) caller call (one ∷ drafts) was draft lines at is plans begun =
    ap (λ (others : List (List Plan)). drafted first one lines ∷ others) (drafted-set (suc first) i caller call drafts was draft lines at (omega (arith, is)) plans begun)
    ∙ ap (λ (all : List Plan). (one.plans ++ all) ∷ all_drafted (suc first) drafts (Told caller call ∷ lines)) (sym (other_planned first caller call one.begun lines (λ e. omega (arith, e, is))))

-- a line without a call leaves what callers plan
drafted_silent : (first : ℕ) (drafts : List Draft) (line : JointLine) (lines : List JointLine)
    → ((caller : ℕ) (begun : Option (List TableCall)) → planned caller begun (line ∷ lines) ≡ planned caller begun lines) → all_drafted first drafts lines ≡ all_drafted first drafts (line ∷ lines)
drafted_silent first [] line lines silent = refl
drafted_silent first (draft ∷ drafts) line lines silent =
    ap (λ (plans : List Plan). (draft.plans ++ plans) ∷ all_drafted (suc first) drafts lines) (sym (silent first draft.begun))
    ∙ ap (λ (others : List (List Plan)). drafted first draft (line ∷ lines) ∷ others) (drafted_silent (suc first) drafts line lines silent)

-- a line by which no reader asks leaves what they ask for
asked_silent : (first : ℕ) (asks : List (List Key)) (line : JointLine) (lines : List JointLine) → ((reader : ℕ) → keys_by reader (line ∷ lines) ≡ keys_by reader lines)
    → all_asked first asks lines ≡ all_asked first asks (line ∷ lines)
asked_silent first [] line lines silent = refl
asked_silent first (keys ∷ asks) line lines silent =
    ap (λ (ks : List Key). (keys ++ ks) ∷ all_asked (first + 1) asks lines) (sym (silent first))
    ∙ ap (λ (others : List (List Key)). (keys ++ keys_by first (line ∷ lines)) ∷ others) (asked_silent (first + 1) asks line lines silent)

-- readers after the one that asks ask for nothing
asked_past : (first reader : ℕ) (key : Key) (asks : List (List Key)) (lines : List JointLine) → reader < first → all_asked first asks (Read reader key ∷ lines) ≡ all_asked first asks lines
asked_past first reader key [] lines lt = refl
asked_past first reader key (keys ∷ asks) lines lt =
    ap (λ (ks : List Key). (keys ++ ks) ∷ all_asked (first + 1) asks (Read reader key ∷ lines)) (cond-false (nat_eq reader first) (key ∷ keys_by first lines) (keys_by first lines) (apart reader first (λ e. omega (arith, e, lt))))
    ∙ ap (λ (others : List (List Key)). (keys ++ keys_by first lines) ∷ others) (asked_past (first + 1) reader key asks lines (omega (arith, lt)))

-- after a reader's key was added, it asks for what it did with the key before the rest, and the others for theirs
asked-set : (first i reader : ℕ) (key : Key) (asks : List (List Key)) (was : List Key) (lines : List JointLine) → slice_get asks i ≡ Some was → reader ≡ first + i
    → all_asked first (set asks i (was ++ key ∷ [])) lines ≡ all_asked first asks (Read reader key ∷ lines)
asked-set first i reader key [] was lines at is = cc
asked-set first zero reader key (one ∷ asks) was lines at is =
    let same : was ≡ one = cc in
    ap (λ (ks : List Key). ks ∷ all_asked (first + 1) asks lines) (append_assoc was (key ∷ []) (keys_by first lines) ∙ ap (λ (ks : List Key). ks ++ key ∷ keys_by first lines) same)
    ∙ (ap (λ (ks : List Key). (one ++ ks) ∷ all_asked (first + 1) asks lines) (sym (cond-true (nat_eq reader first) (key ∷ keys_by first lines) (keys_by first lines) (eq-eqb reader first (omega (arith, is)))))
    ∙ ap (λ (others : List (List Key)). (one ++ keys_by first (Read reader key ∷ lines)) ∷ others) (sym (asked_past (first + 1) reader key asks lines (omega (arith, is)))))
asked-set first (suc i) reader key (one ∷ asks) was lines at is =
    ap (λ (others : List (List Key)). (one ++ keys_by first lines) ∷ others) (asked-set (first + 1) i reader key asks was lines at (omega (arith, is)))
    ∙ ap (λ (ks : List Key). (one ++ ks) ∷ all_asked (first + 1) asks (Read reader key ∷ lines)) (sym (cond-false (nat_eq reader first) (key ∷ keys_by first lines) (keys_by first lines) (apart reader first (λ e. omega (arith, e, is)))))

-- of readers that have asked for nothing, all that they ask for is that of the lines
pub first_asked : (first n : ℕ) (lines : List JointLine) → all_asked first (replicate n []) lines ≡ keys_from first n lines
first_asked first zero lines = refl
first_asked first (suc n) lines = ap (λ (others : List (List Key)). keys_by first lines ∷ others) (first_asked (first + 1) n lines)

-- what they ask for when no line is left
pub asked_last : (first : ℕ) (asks : List (List Key)) → all_asked first asks [] ≡ asks
asked_last first [] = refl
asked_last first (keys ∷ asks) = ap₂ (λ (ks : List Key) (others : List (List Key)). ks ∷ others) (append-nil keys) (asked_last (first + 1) asks)

pub takes_nothing : (n : ℕ) (old : Reading) → Takes n Nothing old old
takes_nothing n old = record {
  count = refl;
  faults = λ lines. refl;
  plans = λ lines. drafted_silent 0 old.drafts.items Nothing lines (λ caller begun. refl);
  readers = refl;
  asks = λ lines. asked_silent 0 old.asks.items Nothing lines (λ reader. refl);
}

pub takes_bad : (n : ℕ) (old new : Reading) → new.faults ≡ old.faults ++ fault.Bad n ∷ [] → new.drafts.items ≡ old.drafts.items → new.asks.items ≡ old.asks.items → Takes n Bad old new
takes_bad n old new faults drafts asks = record {
  count = ap length drafts;
  faults = λ lines.
      ap (λ (ds : List Draft). new.faults ++ faults_from (suc n) (begun_in ds) lines) drafts
      ∙ (ap (λ (fs : List LineFault). fs ++ faults_from (suc n) (begun_in old.drafts.items) lines) faults
      ∙ append_assoc old.faults (fault.Bad n ∷ []) (faults_from (suc n) (begun_in old.drafts.items) lines));
  plans = λ lines. ap (λ (ds : List Draft). all_drafted 0 ds lines) drafts ∙ drafted_silent 0 old.drafts.items Bad lines (λ caller begun. refl);
  readers = ap length asks;
  asks = λ lines. ap (λ (ks : List (List Key)). all_asked 0 ks lines) asks ∙ asked_silent 0 old.asks.items Bad lines (λ reader. refl);
}

-- a line by which a reader asks for a key, which is then the last that it asks for
pub takes_asked : (n reader : ℕ) (key : Key) (old new : Reading) (was : List Key) → slice_get old.asks.items reader ≡ Some was → new.faults ≡ old.faults → new.drafts.items ≡ old.drafts.items
    → new.asks.items ≡ set old.asks.items reader (was ++ key ∷ []) → Takes n (Read reader key) old new
takes_asked n reader key old new was at faults drafts asks = record {
  count = ap length drafts;
  faults = λ lines.
      ap (λ (ds : List Draft). new.faults ++ faults_from (suc n) (begun_in ds) lines) drafts
      ∙ ap (λ (fs : List LineFault). fs ++ faults_from (suc n) (begun_in old.drafts.items) lines) faults;
  plans = λ lines. ap (λ (ds : List Draft). all_drafted 0 ds lines) drafts ∙ drafted_silent 0 old.drafts.items (Read reader key) lines (λ caller begun. refl);
  readers = ap length asks ∙ length-set old.asks.items reader (was ++ key ∷ []);
  asks = λ lines. ap (λ (ks : List (List Key)). all_asked 0 ks lines) asks ∙ asked-set 0 reader reader key old.asks.items was lines at (omega arith);
}

module _ (n caller : ℕ) (call : Call) (old new : Reading) (was : Draft) (at : slice_get old.drafts.items caller ≡ Some was) where
  begun_is : begun_in old.drafts.items caller ≡ was.begun
  begun_is = ap one_begun at

  -- the line of a stray call
  pub takes_stray : (after_call was.begun call).0 ≡ true → new.faults ≡ old.faults ++ fault.Stray n ∷ [] → new.drafts.items ≡ old.drafts.items → new.asks.items ≡ old.asks.items
      → Takes n (Told caller call) old new
  takes_stray stray faults drafts asks =
      let begun = begun_in old.drafts.items in
      let strays : (after_call (begun caller) call).0 ≡ true = ap (λ (b : Option (List TableCall)). (after_call b call).0) begun_is ∙ stray in
      let behind = update nat_eq begun caller (after_call (begun caller) call).1 in
      let same : begun_in new.drafts.items ≡ behind = ap begun_in drafts ∙ within_same begun caller (after_call (begun caller) call).1 (stray_stays (begun caller) call strays).0 in
      let stays = stray_stays was.begun call stray in
      record {
        count = ap length drafts;
        faults = λ lines.
            ap (λ (fs : List LineFault). fs ++ faults_from (suc n) (begun_in new.drafts.items) lines) faults
            ∙ (ap (λ (b : ℕ → Option (List TableCall)). (old.faults ++ fault.Stray n ∷ []) ++ faults_from (suc n) b lines) same
            ∙ (append_assoc old.faults (fault.Stray n ∷ []) (faults_from (suc n) behind lines)
            ∙ ap (λ (fs : List LineFault). old.faults ++ (fs ++ faults_from (suc n) behind lines)) (sym (cond-true (after_call (begun caller) call).0 (fault.Stray n ∷ []) [] strays))));
        plans = λ lines.
            ap (λ (ds : List Draft). all_drafted 0 ds lines) (drafts ∙ sym (set_same old.drafts.items caller was at))
            ∙ drafted-set 0 caller caller call old.drafts.items was was lines at (omega arith) (sym (append-nil was.plans) ∙ ap (λ (ps : List Plan). was.plans ++ ps) (sym stays.1)) (sym stays.0);
        readers = ap length asks;
        asks = λ lines. ap (λ (ks : List (List Key)). all_asked 0 ks lines) asks ∙ asked_silent 0 old.asks.items (Told caller call) lines (λ reader. refl);
      }

  -- the line of another call, which the draft then has
  pub takes_added : (draft : Draft) → (after_call was.begun call).0 ≡ false → new.faults ≡ old.faults → new.drafts.items ≡ set old.drafts.items caller draft → new.asks.items ≡ old.asks.items
      → draft.plans ≡ was.plans ++ (after_call was.begun call).2 → draft.begun ≡ (after_call was.begun call).1 → Takes n (Told caller call) old new
  takes_added draft proper faults drafts asks plans goes =
      let begun = begun_in old.drafts.items in
      let stays : (after_call (begun caller) call).0 ≡ false = ap (λ (b : Option (List TableCall)). (after_call b call).0) begun_is ∙ proper in
      let behind = update nat_eq begun caller (after_call (begun caller) call).1 in
      let same : begun_in new.drafts.items ≡ behind =
      ap begun_in drafts
      ∙ within-set old.drafts.items caller draft (after_call (begun caller) call).1 (slice_get_within old.drafts.items caller was at) (goes ∙ ap (λ (b : Option (List TableCall)). (after_call b call).1) (sym begun_is)) in
      record {
        count = ap length drafts ∙ length-set old.drafts.items caller draft;
        faults = λ lines.
            ap (λ (fs : List LineFault). fs ++ faults_from (suc n) (begun_in new.drafts.items) lines) faults
            ∙ (ap (λ (b : ℕ → Option (List TableCall)). old.faults ++ faults_from (suc n) b lines) same
            ∙ ap (λ (fs : List LineFault). old.faults ++ (fs ++ faults_from (suc n) behind lines)) (sym (cond-false (after_call (begun caller) call).0 (fault.Stray n ∷ []) [] stays)));
        plans = λ lines. ap (λ (ds : List Draft). all_drafted 0 ds lines) drafts ∙ drafted-set 0 caller caller call old.drafts.items was draft lines at (omega arith) plans goes;
        readers = ap length asks;
        asks = λ lines. ap (λ (ks : List (List Key)). all_asked 0 ks lines) asks ∙ asked_silent 0 old.asks.items (Told caller call) lines (λ reader. refl);
      }

-- of callers that have made no call, none is within a transaction, and all their plans are those of the lines
none_within : (n caller : ℕ) → begun_in (replicate n empty_draft) caller ≡ None
none_within zero caller = refl
none_within (suc n) zero = refl
none_within (suc n) (suc caller) = none_within n caller

pub first_within : (n : ℕ) → begun_in (replicate n empty_draft) ≡ (λ caller. None)
first_within n = fun_ext (none_within n)

pub first_drafted : (first n : ℕ) (lines : List JointLine) → all_drafted first (replicate n empty_draft) lines ≡ plans_from first n lines
first_drafted first zero lines = refl
first_drafted first (suc n) lines = ap (λ (others : List (List Plan)). planned first None lines ∷ others) (first_drafted (suc first) n lines)

-- the plans when no line is left
pub drafted_last : (first : ℕ) (drafts : List Draft) → all_drafted first drafts [] ≡ map (λ (draft : Draft). drafted 0 draft []) drafts
drafted_last first [] = refl
drafted_last first (draft ∷ drafts) = ap (λ (others : List (List Plan)). drafted 0 draft [] ∷ others) (drafted_last (suc first) drafts)
