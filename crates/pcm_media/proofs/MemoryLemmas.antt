-- What a call does to a medium in memory.
use Rattle.std.proofs.Common.{◌≡◌, ℕ, ◌+◌, ◌-◌, ◌^◌, ◌<◌, ◌≤◌, ◌⊎◌, Bool, true, false, inl, inr, ⊎_elim, List, [], ◌∷◌, ◌++◌, length, take, drop, Result, Ok, Err, refl, sym, ◌∙◌, ap, subst, arith}
use Rattle.std.proofs.lemmas.List.{take_all, drop_all, append-nil, length-append}
use Rattle.std.specs.Prelude.{OnOk, OnErr, IsErr, ◌↔◌, Contains}
use Rattle.std.proofs.lemmas.Bool.{cases_lt}
use Rattle.std.proofs.lemmas.List.Elements.{Contains-append_left}
use Rattle.mars_base.specs.Moments.{Elapses}
use Rattle.mars_base.proofs.Going.{weaker}
use Rattle.pcm_media.specs.declared.call.Call.{Call}
use Rattle.pcm_media.specs.declared.call.Call.TheVariants.{Read, Write, Barrier}
use Rattle.pcm_media.specs.Calls.{Record}
use Rattle.mars_base.specs.Bytes.{put}
use Rattle.pcm_media.specs.Images.{Content, MayLeave, Touched, written}
use Rattle.pcm_media.specs.View.{Writes}
use Rattle.pcm_media.specs.Kept.{Kept, IsKept, IsPassed, Makes, HasRoom, MustFail, records_with}
use Rattle.pcm_media.specs.Replay.{at_rest, range_of, byte_count_of, next_content_by, total_bytes, asked_bytes, content_after, LeftBefore, IsStamped}
use Rattle.pcm_media.specs.Memory.{Memory, content_of, LeftSince, view_of, Tells, IsSpent}
use Rattle.pcm_media.proofs.Left.{touched_by_nothing, touched_by_write, touched_by_loss, touched_by_barrier, left_partly}
use Rattle.mars_base.proofs.Puts.{length-put}
use Rattle.pcm_media.proofs.Replay.{content_push, before_push, before_last, before_only, before_past, total_bytes-push, asked_bytes-push, total_asked, stamped_push, stamped_later}

-- A call and the bytes that it writes fit each other and the medium.
abbrev pub Suits : Call → List ℕ → ℕ → Type 0
Suits Read bytes size = bytes ≡ []
Suits (Write at len) bytes size = (len ≡ length bytes) × (at + len ≤ size)
Suits Barrier bytes size = bytes ≡ []

-- the written bytes that belong to a call
abbrev pub own_bytes : Bool → List ℕ → List ℕ
own_bytes true bytes = bytes
own_bytes false bytes = []

byte_count_is : (call : Call) (is_done : Bool) (bytes : List ℕ) (size : ℕ) → Suits call bytes size → byte_count_of call is_done ≡ length (own_bytes is_done bytes)
byte_count_is Read true bytes size suits = sym (ap length suits)
byte_count_is Read false bytes size suits = refl
byte_count_is (Write at len) true bytes size suits = suits.0
byte_count_is (Write at len) false bytes size suits = refl
byte_count_is Barrier true bytes size suits = sym (ap length suits)
byte_count_is Barrier false bytes size suits = refl

touched_by_step : (call : Call) (is_done : Bool) (bytes : List ℕ) (content : Content) → Suits call bytes (length content.bytes) → Touched (range_of call) content (next_content_by call is_done (own_bytes is_done bytes) content)
touched_by_step Read is_done bytes content suits = touched_by_nothing [] content
touched_by_step (Write at len) true bytes content suits =
    let whole : take len bytes ≡ bytes = take_all len bytes (omega (arith, suits.0)) in
    subst (λ (l : List ℕ). Touched ((at, len) ∷ []) content (record { bytes = put content.bytes at l; unsettled = (at, len) ∷ content.unsettled })) (sym whole)
    (subst (λ (n : ℕ). Touched ((at, n) ∷ []) content (record { bytes = put content.bytes at bytes; unsettled = (at, n) ∷ content.unsettled })) (sym suits.0)
    (touched_by_write content at bytes (omega (arith, suits.0, suits.1))))
touched_by_step (Write at len) false bytes content suits = touched_by_loss content at len
touched_by_step Barrier true bytes content suits = touched_by_barrier content
touched_by_step Barrier false bytes content suits = touched_by_nothing [] content

module _ (start : List ℕ) (old new : Kept) where
  abbrev shows : Kept → Memory
  shows kept = record { start = start; kept = kept }

  module _ (call : Call) (is_done : Bool) (bytes : List ℕ) (kept : IsKept call is_done bytes old new) (whole : total_bytes old.records ≡ length old.written) where
    made : Record
    made = record { moment = new.moment; call = call; is_done = is_done }

    pub content_kept : content_of (shows new) ≡ next_content_by call is_done bytes (content_of (shows old))
    unfolding made
    content_kept =
        ap (λ (l : List Record). content_after l new.written (at_rest start)) kept.records
        ∙ ap (λ (l : List ℕ). content_after (old.records ++ made ∷ []) l (at_rest start)) kept.written
        ∙ content_push made bytes old.records old.written (at_rest start) whole

    -- what might have been left before one of the calls kept now
    before : (t : ℕ) (image : List ℕ) → LeftBefore new.records new.written (at_rest start) t image ≡ LeftBefore (old.records ++ made ∷ []) (old.written ++ bytes) (at_rest start) t image
    unfolding made
    before t image =
        ap (λ (l : List Record). LeftBefore l new.written (at_rest start) t image) kept.records
        ∙ ap (λ (l : List ℕ). LeftBefore (old.records ++ made ∷ []) l (at_rest start) t image) kept.written

    pub time_kept : IsStamped old.moment old.records → Elapses old.moment new.moment (LeftSince (shows old)) (LeftSince (shows new)) (MayLeave (content_of (shows new)))
    unfolding made
    time_kept stamped = record {
      later = omega (arith, kept.later);
      keeps = λ t image le left. ⊎_elim
          (λ now. inr (omega (arith, kept.later), subst (λ (X : Type 0). X) (sym (before t image)) (before_last made bytes t image old.records old.written (at_rest start) whole (omega (arith, kept.later)) now)))
          (λ past. inr (omega (arith, kept.later), subst (λ (X : Type 0). X) (sym (before t image)) (before_push made bytes t image old.records old.written (at_rest start) whole past.1)))
          left;
      only = λ t image le left. ⊎_elim
          (λ now. inr now)
          (λ past. ⊎_elim
          (λ earlier. inl (inr (before_past old.moment t image old.records old.written (at_rest start) stamped earlier, earlier)))
          (λ last. inl (inl last))
          (before_only made bytes t image old.records old.written (at_rest start) whole (subst (λ (X : Type 0). X) (before t image) past.1)))
          left;
    }

    pub stamped_kept : IsStamped old.moment old.records → IsStamped new.moment new.records
    unfolding made
    stamped_kept stamped = subst (IsStamped new.moment) (sym kept.records) (stamped_push made new.moment old.records (omega arith) (stamped_later old.moment new.moment old.records (omega (arith, kept.later)) stamped))

    pub whole_kept : byte_count_of call is_done ≡ length bytes → total_bytes new.records ≡ length new.written
    unfolding made
    whole_kept own = ap total_bytes kept.records ∙ total_bytes-push made bytes old.records ∙ omega (arith, length-append old.written bytes) ∙ sym (ap length kept.written)

  module _ (passed : IsPassed old new) where
    pub content_passed : content_of (shows new) ≡ content_of (shows old)
    content_passed =
        ap (λ (l : List Record). content_after l new.written (at_rest start)) passed.records
        ∙ ap (λ (l : List ℕ). content_after old.records l (at_rest start)) passed.written

    before_same : (t : ℕ) (image : List ℕ) → LeftBefore new.records new.written (at_rest start) t image ≡ LeftBefore old.records old.written (at_rest start) t image
    before_same t image =
        ap (λ (l : List Record). LeftBefore l new.written (at_rest start) t image) passed.records
        ∙ ap (λ (l : List ℕ). LeftBefore old.records l (at_rest start) t image) passed.written

    pub time_passed : IsStamped old.moment old.records → Elapses old.moment new.moment (LeftSince (shows old)) (LeftSince (shows new)) (MayLeave (content_of (shows new)))
    time_passed stamped = record {
      later = passed.later;
      keeps = λ t image early left. ⊎_elim
          (λ now. inl (subst (λ (c : Content). MayLeave c image) (sym content_passed) now))
          (λ past. inr (omega (arith, past.0, passed.later), subst (λ (X : Type 0). X) (sym (before_same t image)) past.1))
          left;
      only = λ t image early left. ⊎_elim
          (λ now. inr now)
          (λ past. let earlier = subst (λ (X : Type 0). X) (before_same t image) past.1 in inl (inr (before_past old.moment t image old.records old.written (at_rest start) stamped earlier, earlier)))
          left;
    }

    pub tells_passed : (read : List ℕ) → Tells (shows old) read → (0 < new.faults → IsSpent new) → Tells (shows new) read
    tells_passed read tells spent = record {
      most = omega (arith, ap (λ (l : List Record). length l) passed.records, passed.later, tells.most);
      spent = spent;
      stamped = subst (IsStamped new.moment) (sym passed.records) (stamped_later old.moment new.moment old.records passed.later tells.stamped);
      whole = ap total_bytes passed.records ∙ tells.whole ∙ sym (ap length passed.written);
      bytes = (λ i. (content_passed i).bytes) ∙ tells.bytes;
    }

  -- what no call changes, and the moment does not fall
  pub record Stays : Type 0 where
    pub later : old.moment ≤ new.moment
    pub listed : new.listed ≡ old.listed
    pub calls_room : new.calls_room ≡ old.calls_room
    pub bytes_room : new.bytes_room ≡ old.bytes_room

  pub stays_of : {call : Call} {bytes : List ℕ} {T E : Type 0} (result : Result T E) → Makes call bytes old new result → Stays
  stays_of {call} {bytes} result makes = record { later = later result makes.done makes.failed; listed = makes.listed; calls_room = makes.calls_room; bytes_room = makes.bytes_room }
    where
      later : {T E : Type 0} (r : Result T E) → OnOk r (IsKept call true bytes old new) → OnErr r (IsPassed old new ⊎ IsKept call false [] old new) → old.moment ≤ new.moment
      later (Ok x) done failed = omega (arith, done.later)
      later (Err e) done failed = ⊎_elim (λ passed. passed.later) (λ kept. omega (arith, kept.later)) failed

  -- a medium that is spent stays so
  still_spent : Stays → asked_bytes old.records ≤ asked_bytes new.records → IsSpent old → IsSpent new
  still_spent stays asked spent = ⊎_elim
      (λ met. inl (met.0, subst (λ (l : List ℕ). Contains l met.0) (sym stays.listed) met.1, met.2, omega (arith, met.3, stays.later)))
      (λ rest. ⊎_elim (λ calls. inr (inl (omega (arith, calls, stays.calls_room, stays.later))))
      (λ more. ⊎_elim (λ written. inr (inr (inl (omega (arith, written, stays.bytes_room, asked))))) (λ last. inr (inr (inr (omega (arith, last, stays.later))))) more) rest)
      spent

  -- one call, whatever it answered
  module _ (call : Call) (bytes read : List ℕ) (tells : Tells (shows old) read) (suits : Suits call bytes (length read)) where
    suits_content : Suits call bytes (length (content_of (shows old)).bytes)
    suits_content = subst (λ (l : List ℕ). Suits call bytes (length l)) (sym tells.bytes) suits

    touched_kept : (is_done : Bool) → IsKept call is_done (own_bytes is_done bytes) old new → Touched (range_of call) (content_of (shows old)) (content_of (shows new))
    touched_kept is_done kept = subst (Touched (range_of call) (content_of (shows old))) (sym (content_kept call is_done (own_bytes is_done bytes) kept tells.whole)) (touched_by_step call is_done bytes (content_of (shows old)) suits_content)

    touched_passed : IsPassed old new → Touched (range_of call) (content_of (shows old)) (content_of (shows new))
    touched_passed passed = subst (Touched (range_of call) (content_of (shows old))) (sym (content_passed passed)) (touched_by_nothing (range_of call) (content_of (shows old)))

    pub touched : {T E : Type 0} (result : Result T E) → Makes call bytes old new result → Touched (range_of call) (content_of (shows old)) (content_of (shows new))
    touched (Ok x) makes = touched_kept true makes.done
    touched (Err e) makes = ⊎_elim touched_passed (touched_kept false) makes.failed

    time : {T E : Type 0} (result : Result T E) → Makes call bytes old new result → Elapses old.moment new.moment (LeftSince (shows old)) (LeftSince (shows new)) (MayLeave (content_of (shows new)))
    time (Ok x) makes = time_kept call true bytes makes.done tells.whole tells.stamped
    time (Err e) makes = ⊎_elim (λ passed. time_passed passed tells.stamped) (λ kept. time_kept call false [] kept tells.whole tells.stamped) makes.failed

    pub does : {T E : Type 0} (result : Result T E) → Makes call bytes old new result → Writes true (range_of call) (view_of (shows old)) (view_of (shows new)) result
    does result makes = let change : Touched (range_of call) (content_of (shows old)) (content_of (shows new)) = touched result makes in record {
      size = change.bytes.long;
      device = refl;
      cause = makes.cause;
      touched = λ told. change;
      time = λ told. weaker (left_partly (range_of call) (content_of (shows old)) (content_of (shows new)) change) (time result makes);
    }

    pub content_done : IsKept call true bytes old new → content_of (shows new) ≡ next_content_by call true bytes (content_of (shows old))
    content_done kept = content_kept call true bytes kept tells.whole

    kept_most : (is_done : Bool) (own : List ℕ) → IsKept call is_done own old new → length new.records ≤ new.moment
    kept_most is_done own kept = omega (arith, ap (λ (l : List Record). length l) kept.records, length-append old.records (record { moment = new.moment; call = call; is_done = is_done } ∷ []), kept.later, tells.most)

    asked_kept : (is_done : Bool) → new.records ≡ records_with old new.moment call is_done → asked_bytes new.records ≡ asked_bytes old.records + byte_count_of call true
    asked_kept is_done records = ap asked_bytes records ∙ asked_bytes-push (record { moment = new.moment; call = call; is_done = is_done }) bytes old.records

    more_asked : (is_done : Bool) (own : List ℕ) → IsKept call is_done own old new → asked_bytes old.records ≤ asked_bytes new.records
    more_asked is_done own kept = omega (arith, asked_kept is_done kept.records)

    -- a call that fails leaves a medium that is spent
    pub failed_spent : {T E : Type 0} (e : E) → (let r : Result T E = Err e in Makes call bytes old new r) → (let r : Result T E = Err e in HasRoom old (length bytes) → (IsErr r ↔ MustFail old)) → IsSpent new
    failed_spent e makes within = ⊎_elim (λ low. ⊎_elim (kept low) (λ full. inr (inl (omega (arith, makes.ticks.next, makes.calls_room, full, tells.most, low)))) (cases_lt (length old.records) old.calls_room)) last (cases_lt old.moment (2 ^ 64 - 1))
      where
        last : 2 ^ 64 - 1 ≤ old.moment → IsSpent new
        last high = inr (inr (inr (omega (arith, makes.ticks.next, high))))

        kept : old.moment < 2 ^ 64 - 1 → length old.records < old.calls_room → IsSpent new
        kept low room = ⊎_elim
            (λ over. inr (inr (inl (omega (arith, over, makes.bytes_room, asked_kept false (makes.kept low room), byte_count_is call true bytes (length read) suits, total_asked old.records, tells.whole)))))
            (λ fits. ⊎_elim (λ high. last (omega (arith, high)))
            (λ listed. inl (old.moment + 1, subst (λ (l : List ℕ). Contains l (old.moment + 1)) (sym makes.listed) listed, omega arith, omega (arith, makes.ticks.next, low)))
            ((within (room, omega (arith, fits))).0 refl))
            (cases_lt old.bytes_room (length old.written + length bytes))

    -- A call that was done leaves these bytes, and one that failed leaves the old ones.
    pub tells_done : (after : List ℕ) → (next_content_by call true bytes (content_of (shows old))).bytes ≡ after → IsKept call true bytes old new → Stays → new.faults ≡ old.faults → Tells (shows new) after
    tells_done after is kept stays same = record {
      most = kept_most true bytes kept;
      spent = λ some. still_spent stays (more_asked true bytes kept) (tells.spent (omega (arith, some, same)));
      stamped = stamped_kept call true bytes kept tells.whole tells.stamped;
      whole = whole_kept call true bytes kept tells.whole (byte_count_is call true bytes (length read) suits);
      bytes = (λ i. (content_done kept i).bytes) ∙ is;
    }

    same_read : (next_content_by call false [] (content_of (shows old))).bytes ≡ read
    same_read = stays call ∙ tells.bytes
      where
        stays : (x : Call) → (next_content_by x false [] (content_of (shows old))).bytes ≡ (content_of (shows old)).bytes
        stays Read = refl
        stays (Write at len) = refl
        stays Barrier = refl

    pub tells_failed : IsPassed old new ⊎ IsKept call false [] old new → IsSpent new → Tells (shows new) read
    tells_failed failed spent = ⊎_elim
        (λ passed. tells_passed passed read tells (λ some. spent))
        (λ kept. record {
          most = kept_most false [] kept;
          spent = λ some. spent;
          stamped = stamped_kept call false [] kept tells.whole tells.stamped;
          whole = whole_kept call false [] kept tells.whole (byte_count_is call false bytes (length read) suits);
          bytes = (λ i. (content_kept call false [] kept tells.whole i).bytes) ∙ same_read;
        })
        failed

    -- the same for a call that changes no byte
    pub tells_either : {T E : Type 0} (result : Result T E) → (next_content_by call true bytes (content_of (shows old))).bytes ≡ (content_of (shows old)).bytes → Makes call bytes old new result
        → (HasRoom old (length bytes) → (IsErr result ↔ MustFail old)) → Tells (shows new) read
    tells_either (Ok x) same makes within = tells_done read (same ∙ tells.bytes) makes.done (stays_of (Ok x) makes) makes.faults
    tells_either (Err e) same makes within = tells_failed makes.failed (failed_spent e makes within)

    pub content_on_ok : {T E : Type 0} (result : Result T E) → Makes call bytes old new result → OnOk result (content_of (shows new) ≡ next_content_by call true bytes (content_of (shows old)))
    content_on_ok (Ok x) makes = content_done makes.done
    content_on_ok (Err e) makes = tt

    content_failed : IsPassed old new ⊎ IsKept call false [] old new → (content_of (shows new) ≡ content_of (shows old)) ⊎ (content_of (shows new) ≡ next_content_by call false [] (content_of (shows old)))
    content_failed failed = ⊎_elim (λ passed. inl (content_passed passed)) (λ kept. inr (content_kept call false [] kept tells.whole)) failed

    -- a call that does nothing if it fails
    pub content_on_err : {T E : Type 0} (result : Result T E) → next_content_by call false [] (content_of (shows old)) ≡ content_of (shows old) → Makes call bytes old new result → OnErr result (content_of (shows new) ≡ content_of (shows old))
    content_on_err (Ok x) none makes = tt
    content_on_err (Err e) none makes = ⊎_elim (λ same. same) (λ step. step ∙ none) (content_failed makes.failed)

    -- a call that does nothing at all
    pub content_same : {T E : Type 0} (result : Result T E) → next_content_by call true bytes (content_of (shows old)) ≡ content_of (shows old) → next_content_by call false [] (content_of (shows old)) ≡ content_of (shows old) → Makes call bytes old new result → content_of (shows new) ≡ content_of (shows old)
    content_same (Ok x) done none makes = content_done makes.done ∙ done
    content_same (Err e) done none makes = ⊎_elim (λ same. same) (λ step. step ∙ none) (content_failed makes.failed)

    pub bytes_failed : IsPassed old new ⊎ IsKept call false [] old new → (content_of (shows new)).bytes ≡ (content_of (shows old)).bytes
    bytes_failed failed = ⊎_elim (λ same i. (same i).bytes) (λ step. (λ i. (step i).bytes) ∙ same_read ∙ sym tells.bytes) (content_failed failed)

    -- a failed call for which there was room
    pub content_lost : {T E : Type 0} (e : E) → (let r : Result T E = Err e in Makes call bytes old new r) → length old.records < old.calls_room → old.moment < 2 ^ 64 - 1 → content_of (shows new) ≡ next_content_by call false [] (content_of (shows old))
    content_lost e makes room low =
        let written : new.written ≡ old.written ++ [] = ⊎_elim (λ passed. passed.written ∙ sym (append-nil old.written)) (λ kept. kept.written) makes.failed in
        content_kept call false [] (record { later = omega (arith, makes.ticks.next); records = makes.kept low room; written = written }) tells.whole

-- a write that was done makes the content that `written` says
pub step_written : (at : ℕ) (bytes : List ℕ) (content : Content) → next_content_by (Write at (length bytes)) true bytes content ≡ written at bytes content
step_written at bytes content = ap (λ (l : List ℕ). record { bytes = put content.bytes at l; unsettled = (at, length bytes) ∷ content.unsettled }) (take_all (length bytes) bytes (omega arith))

-- a vector whose slice was changed as a whole
pub written_back : (items slice over more : List ℕ) (at n : ℕ) → n ≡ length items → slice ≡ items → over ≡ put slice at more → at + length more ≤ length items → take n (over ++ drop (length over) items) ≡ put items at more
written_back items slice over more at n count is done fits =
    let all : over ≡ put items at more = done ∙ ap (λ (l : List ℕ). put l at more) is in
    let long : length over ≡ length items = ap length all ∙ length-put items at more fits in
    ap (λ (l : List ℕ). take n (over ++ l)) (drop_all (length over) items (omega arith)) ∙ ap (take n) (append-nil over) ∙ take_all n over (omega arith) ∙ all

-- one more call is listed
pub tells_listed : (start read : List ℕ) (old : Kept) (nth : ℕ) → Tells (record { start = start; kept = old }) read → Tells (record { start = start; kept = record old { listed = old.listed ++ nth ∷ [] } }) read
tells_listed start read old nth tells = record {
  stamped = tells.stamped;
  whole = tells.whole;
  bytes = tells.bytes;
  most = tells.most;
  spent = λ some. ⊎_elim (λ met. inl (met.0, Contains-append_left old.listed (nth ∷ []) met.0 met.1, met.2, met.3)) (λ rest. inr rest) (tells.spent some);
}
