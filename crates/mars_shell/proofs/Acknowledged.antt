-- What was acknowledged as committed stands in the history.
use Rattle.std.proofs.Common.{Bool, true, ◌≡◌, ℕ, ◌+◌, ◌-◌, ◌<◌, ◌≤◌, ◌^◌, List, [], ◌∷◌, ◌++◌, length, get_or, Option, Some, None, inl, inr, refl, sym, ap, subst, ◌∙◌, arith}
use Rattle.std.specs.Prelude.{Contains, codes}
use Rattle.std.specs.Fmt.{decimal}
use Rattle.std.specs.Str.Parse.{AllDigits}
use Rattle.std.proofs.lemmas.Bool.{cases_lt}
use Rattle.std.proofs.lemmas.Option.{slice_get_within}
use Rattle.std.proofs.lemmas.Fmt.{decimal_injective, decimal_nonempty, digits_decimal}
use Rattle.std.proofs.lemmas.List.{append_cancel_left, append_cancel_right, append_assoc, length-append, append-nil}
use Rattle.std.proofs.lemmas.List.Elements.{Contains-append_cases, Contains-push_cases}
use Rattle.std.proofs.lemmas.Str.Parse.{numerals_by_value, tells_digits, digit_at}
use Rattle.history.specs.declared.call.Call.{Call}
use Rattle.history.specs.declared.call.Call.TheVariants.{Control}
use Rattle.history.specs.declared.call.TableCall.{TableCall}
use Rattle.history.specs.declared.call.TableCall.TheVariants.{Get, Put, Del, Scan, Save, Back}
use Rattle.history.specs.declared.call.Control.TheVariants.{Settle}
use Rattle.history.specs.declared.call.Reply.{Reply}
use Rattle.history.specs.declared.call.Reply.TheVariants.{Committed, Media, NoMemory}
use Rattle.history.specs.Table.{Work, found, removed, Answers}
use Rattle.history.specs.declared.transaction.Done.{Done}
use Rattle.caller_steps.specs.State.{State, done_by}
use Rattle.caller_steps.specs.Room.{Limits}
use Rattle.caller_steps.specs.Run.{Turn}
use Rattle.caller_steps.specs.Step.{Step, Runs}
use Rattle.caller_steps.proofs.Continuing.{grows_longer}
use Rattle.caller_steps.specs.Sound.{IsCommittedAs, IsSound}
use Rattle.caller_steps.proofs.Fates.{Fate, refused, failed, began, granted, committed, doubted, aborted, given, settled, unsure, told as numbered, purged, step_fate}
use Rattle.caller_steps.proofs.Settling.{settle_told}
use Rattle.caller_steps.proofs.Sound.{runs_sound}
use Rattle.caller_steps.proofs.Refusing.{line_is as turn_is}
use Rattle.caller_steps.proofs.Running.{turns_grow, turns_tell}
use Rattle.script_text.specs.Replies.{reply_text, row_lines, reply_line, bad_line}
use Rattle.script_text.proofs.Words.{first_space}
use Rattle.script_text.proofs.Numbers.{decimal_is_word}
use Rattle.script_run.specs.Transcript.{Ends, Answered}
use Rattle.script_run.specs.declared.ended.Ended.{Ended}
use Rattle.script_run.specs.declared.ended.Ended.TheVariants.{All, WriteFault, MediaFault, NoMemory as Short}
use Rattle.frame_lines.proofs.FrontLines.{head}
use Rattle.mars_shell.specs.Lines.{LineGives, LineStops, call_script}

first : List ℕ → ℕ
first text = get_or text 0 0

-- only the reply of a commit has its text
same_reply : (reply : Reply) (caller n : ℕ) → n < 2 ^ 64 → (reply_text reply ++ 10 ∷ []) ++ row_lines caller reply ≡ codes "committed " ++ (decimal n ++ 10 ∷ []) → (k : ℕ) × (reply ≡ Committed k) × (n ≤ k)
unfolding first
same_reply (Committed k) caller n fits is = (
  k,
  refl,
  elim (cases_lt k (2 ^ 64)) [
    | inl small ↦ (
        let texts : decimal k ++ 10 ∷ [] ≡ decimal n ++ 10 ∷ [] = append_cancel_left (codes "committed ") (decimal k ++ 10 ∷ []) (decimal n ++ 10 ∷ [])
        (sym (append_assoc (codes "committed ") (decimal k) (10 ∷ [])) ∙ sym (append-nil ((codes "committed " ++ decimal k) ++ 10 ∷ [])) ∙ is) in
        let same : k ≡ n = decimal_injective k n small fits (without_last (decimal k) (decimal n) texts) in omega (arith, same))
    | inr large ↦ omega (arith, large, fits)
  ],
)
  where
    without_last : (a b : List ℕ) → a ++ 10 ∷ [] ≡ b ++ 10 ∷ [] → a ≡ b
    without_last a b is = append_cancel_right a b (10 ∷ []) is
same_reply _ caller n fits is = absurd (let h = ap first is in omega (arith, h))

-- a caller's line, split at its first space
line_is : (caller : ℕ) (reply : Reply) → reply_line caller reply ≡ decimal caller ++ 32 ∷ ((reply_text reply ++ 10 ∷ []) ++ row_lines caller reply)
unfolding reply_line
line_is caller reply =
    ap (λ (l : List ℕ). l ++ row_lines caller reply) (append_assoc (decimal caller) (32 ∷ reply_text reply) (10 ∷ [])) ∙ append_assoc (decimal caller) (32 ∷ reply_text reply ++ 10 ∷ []) (row_lines caller reply)

told_is : (caller n : ℕ) → reply_line caller (Committed n) ≡ decimal caller ++ 32 ∷ (codes "committed " ++ (decimal n ++ 10 ∷ []))
told_is caller n =
    line_is caller (Committed n) ∙ ap (λ (rest : List ℕ). decimal caller ++ 32 ∷ rest) (append-nil ((codes "committed " ++ decimal n) ++ 10 ∷ []) ∙ append_assoc (codes "committed ") (decimal n) (10 ∷ []))

same_line : (caller other : ℕ) (reply : Reply) (n : ℕ) → caller < 2 ^ 64 → other < 2 ^ 64 → n < 2 ^ 64 → reply_line caller (Committed n) ≡ reply_line other reply → (k : ℕ) × (reply ≡ Committed k) × (n ≤ k)
same_line caller other reply n few less fits is =
    let both = first_space (decimal other) (decimal caller) ((reply_text reply ++ 10 ∷ []) ++ row_lines other reply) (codes "committed " ++ (decimal n ++ 10 ∷ [])) (decimal_is_word other less) (decimal_is_word caller few)
    (sym (line_is other reply) ∙ sym is ∙ told_is caller n) in
    same_reply reply other n fits both.1

-- a reply's line is not empty and begins with a digit
not_empty : (caller n : ℕ) → caller < 2 ^ 64 → reply_line caller (Committed n) ≡ [] → ⊥
not_empty caller n few is = let long = ap length (sym (told_is caller n) ∙ is) in omega (arith, decimal_nonempty caller few, simp length-append at long)

not_bad : (caller n m : ℕ) → caller < 2 ^ 64 → reply_line caller (Committed n) ≡ bad_line m → ⊥
unfolding bad_line first
not_bad caller n m few is =
    let both = first_space (decimal caller) (codes "bad") (codes "committed " ++ (decimal n ++ 10 ∷ [])) (codes "line " ++ (decimal m ++ 10 ∷ [])) (decimal_is_word caller few)
    (λ e. omega (arith, e), (λ e. omega (arith, e), (λ e. omega (arith, e), tt)))
    (sym (told_is caller n) ∙ is ∙ append_assoc (codes "bad line ") (decimal m) (10 ∷ [])) in
    let all : AllDigits 10 (decimal caller) = digits_decimal (numerals_by_value (AllDigits 10) tells_digits) caller few in
    let digit = digit_at (decimal caller) 0 all (decimal_nonempty caller few) in
    omega (arith, digit.1, ap first both.0)

-- ---- how an answer begins

head_of : (front rest : List ℕ) → 0 < length front → head (front ++ rest) ≡ head front
head_of [] rest some = absurd (omega (arith, some))
head_of (x ∷ front) rest some = refl

-- a caller's line begins with a digit
begins_with_digit : (caller : ℕ) (reply : Reply) → caller < 2 ^ 64 → head (reply_line caller reply) ≤ 57
begins_with_digit caller reply few =
    let all : AllDigits 10 (decimal caller) = digits_decimal (numerals_by_value (AllDigits 10) tells_digits) caller few in
    let digit = digit_at (decimal caller) 0 all (decimal_nonempty caller few) in
    let same : head (reply_line caller reply) ≡ head (decimal caller) = ap head (line_is caller reply) ∙ head_of (decimal caller) (32 ∷ ((reply_text reply ++ 10 ∷ []) ++ row_lines caller reply)) (decimal_nonempty caller few) in
    omega (arith, digit.1, same)

bad_begins : (n : ℕ) → head (bad_line n) ≡ 98
unfolding bad_line
bad_begins n = refl

-- neither it nor another answer begins as the line of a frame does
pub told_no_frame : (caller : ℕ) (reply : Reply) → caller < 2 ^ 64 → head (reply_line caller reply) ≡ 102 → ⊥
told_no_frame caller reply few is = omega (arith, is, begins_with_digit caller reply few)

pub no_frame : (callers : ℕ) → callers ≤ 2 ^ 64 → (old : List Turn) (n : ℕ) (bytes text : List ℕ) (new : List Turn) → LineGives callers old n bytes text new → head text ≡ 102 → ⊥
no_frame callers most old n bytes text new (inl over) is = let none : head text ≡ 0 = ap head over.1 in omega (arith, is, none)
no_frame callers most old n bytes text new (inr (inl bad)) is = let begins : head text ≡ 98 = ap head bad.1 ∙ bad_begins n in omega (arith, is, begins)
no_frame callers most old n bytes text new (inr (inr told)) is = told_no_frame told.0 told.1 (omega (arith, most, told.2.1.0)) (ap head (sym told.4) ∙ is)

-- ---- commits

-- a table's reply to a call is never that of a commit
found_is_no_commit : (o : Option (List ℕ)) (k : ℕ) → Committed k ≡ found o → ⊥
found_is_no_commit None k is = cc
found_is_no_commit (Some value) k is = cc

removed_is_no_commit : (o : Option (List ℕ)) (k : ℕ) → Committed k ≡ removed o → ⊥
removed_is_no_commit None k is = cc
removed_is_no_commit (Some value) k is = cc

table_commits_nothing : (work : Work) (call : TableCall) (k : ℕ) → Answers work call (Committed k) → ⊥
table_commits_nothing work (Get name key) k is = found_is_no_commit _ k is
table_commits_nothing work (Put name key value) k is = cc
table_commits_nothing work (Del name key) k is = removed_is_no_commit _ k is
table_commits_nothing work (Scan name low high) k is = cc
table_commits_nothing work Save k is = cc
table_commits_nothing work (Back n) k is = let e = is.1 in cc

-- the number of a transaction of the history is none beyond it
number_within : (history : List Done) (caller n : ℕ) → IsCommittedAs history caller n → n ≤ length history
number_within history caller n is = let within = slice_get_within history (n - 1) is.1 is.2 in omega (arith, is.0, within)

-- a commit or a settle is answered with the number of a transaction that the history then has
committed_long : (limits : Limits) (old : State) (caller : ℕ) (call : Call) (k : ℕ) (new : State) → IsSound old → Step limits old caller call (Committed k) new → k ≤ length new.history
committed_long limits old caller call k new sound step = go (step_fate limits old caller new call (Committed k) step)
  where
    settles : call ≡ Control Settle → k ≤ length new.history
    settles is = number_within new.history caller k (settle_told limits old new caller k sound (subst (λ (c : Call). Step limits old caller c (Committed k) new) is step))

    go : Fate limits.callers old caller call (Committed k) new → k ≤ length new.history
    go (refused is sure index e) = absurd (cc)
    go (failed apart is index e) = absurd (cc)
    go (began un none is re e) = absurd (cc)
    go (granted asked calls un is live free answers index e) = absurd (table_commits_nothing _ asked k answers)
    go (committed calls un is re live index e) =
        let count : k ≡ length old.history + 1 = cc in
        omega (arith, count, ap (λ (s : State). length s.history) e, length-append old.history (done_by old caller calls ∷ []))
    go (doubted calls un is re live index e) = absurd (cc)
    go (aborted calls un is re live e) = absurd (cc)
    go (given calls un is re live e) = absurd (cc)
    go (settled inside has is re index e) = settles is
    go (unsure inside has is re index e) = absurd (cc)
    go (numbered n has is re e) = settles is
    go (purged n un live is re index e) = absurd (cc)

-- The lines of a script only add turns.
record Adds (old new : List Turn) : Type 0 where
  pub more : List Turn
  pub is : new ≡ old ++ more

none_added : (old new : List Turn) → new ≡ old → Adds old new
none_added old new same = record { more = []; is = same ∙ sym (append-nil old) }

module _ (callers : ℕ) where
  gives_more : (old : List Turn) (n : ℕ) (bytes text : List ℕ) (new : List Turn) → LineGives callers old n bytes text new → Adds old new
  gives_more old n bytes text new (inl over) = none_added old new over.2
  gives_more old n bytes text new (inr (inl bad)) = none_added old new bad.2
  gives_more old n bytes text new (inr (inr told)) = record { more = (told.0, told.2.0, told.1) ∷ []; is = told.2.2 }

  stops_more : (old : List Turn) (n : ℕ) (bytes : List ℕ) (new : List Turn) → LineStops callers old n bytes new → Adds old new
  stops_more old n bytes new (inl short) = record { more = (short.0, short.1.0, NoMemory) ∷ []; is = short.1.2 }
  stops_more old n bytes new (inr done) = gives_more old n bytes done.0 new done.1

  ends_more : (old : List Turn) (n : ℕ) (bytes : List ℕ) (ended : Ended) (cut : Bool) (rest : List ℕ) (new : List Turn) → Ends (call_script callers) old n bytes ended cut rest new → Adds old new
  ends_more old n bytes WriteFault cut rest new ends = gives_more old n bytes ends.1 new ends.2
  ends_more old n bytes MediaFault cut rest new ends = record { more = (ends.0, ends.1.0, Media) ∷ []; is = ends.1.2 }
  ends_more old n bytes Short cut rest new ends = stops_more old n bytes new ends.2
  ends_more old n bytes All cut rest new ends = absurd ends

  answered_more : (old : List Turn) (n : ℕ) (lines : List (List ℕ)) (ended : Ended) (cut : Bool) (answers : List (List ℕ)) (rest : List ℕ) (new : List Turn)
      → Answered (call_script callers) old n lines ended cut answers rest new → Adds old new
  answered_more old n [] ended cut [] rest new is = none_added old new is.3
  answered_more old n [] ended cut (answer ∷ answers) rest new is = absurd is
  answered_more old n (bytes ∷ lines) ended cut [] rest new ends = ends_more old n bytes ended cut rest new ends
  answered_more old n (bytes ∷ lines) ended cut (answer ∷ answers) rest new more =
      let first = gives_more old n bytes answer more.0 more.1 in
      let later = answered_more more.0 (n + 1) lines ended cut answers rest new more.2 in
      record { more = first.more ++ later.more; is = later.is ∙ ap (λ (turns : List Turn). turns ++ later.more) first.is ∙ append_assoc old first.more later.more }

-- a turn was answered as a commit with this number or a higher one
record IsTold (m : ℕ) (turns : List Turn) : Type 0 where
  pub before : List Turn
  pub caller : ℕ
  pub call : Call
  pub number : ℕ
  pub after : List Turn
  pub is : turns ≡ before ++ (caller, call, Committed number) ∷ after
  pub enough : m ≤ number

module _ (callers : ℕ) (most : callers ≤ 2 ^ 64) (caller m : ℕ) (few : caller < 2 ^ 64) (fits : m < 2 ^ 64) where
  gives_told : (old : List Turn) (n : ℕ) (bytes : List ℕ) (new : List Turn) → LineGives callers old n bytes (reply_line caller (Committed m)) new → IsTold m new
  gives_told old n bytes new (inl over) = absurd (not_empty caller m few over.1)
  gives_told old n bytes new (inr (inl bad)) = absurd (not_bad caller m n few bad.1)
  gives_told old n bytes new (inr (inr told)) =
      let meets = told.2 in
      let same = same_line caller told.0 told.1 m few (omega (arith, most, meets.1.0)) fits told.4 in
      record { before = old; caller = told.0; call = meets.0; number = same.0; after = []; is = meets.2 ∙ ap (λ (r : Reply). old ++ (told.0, meets.0, r) ∷ []) same.1; enough = same.2 }

  told_on : (old new : List Turn) → IsTold m old → Adds old new → IsTold m new
  told_on old new told adds = record {
    before = told.before;
    caller = told.caller;
    call = told.call;
    number = told.number;
    after = told.after ++ adds.more;
    is = adds.is ∙ ap (λ (turns : List Turn). turns ++ adds.more) told.is ∙ append_assoc told.before ((told.caller, told.call, Committed told.number) ∷ told.after) adds.more;
    enough = told.enough;
  }

  -- An acknowledgement is the reply of some turn.
  answered_told : (old : List Turn) (n : ℕ) (lines : List (List ℕ)) (ended : Ended) (cut : Bool) (answers : List (List ℕ)) (rest : List ℕ) (new : List Turn)
      → Answered (call_script callers) old n lines ended cut answers rest new → Contains answers (reply_line caller (Committed m)) → IsTold m new
  answered_told old n lines ended cut [] rest new answered has = absurd (omega (arith, has.1))
  answered_told old n [] ended cut (answer ∷ answers) rest new answered has = absurd answered
  answered_told old n (bytes ∷ lines) ended cut (answer ∷ answers) rest new more has = elim (Contains-append_cases (answer ∷ []) answers (reply_line caller (Committed m)) has) [
    | inl first ↦ elim (Contains-push_cases [] answer (reply_line caller (Committed m)) first) [
      | inl none ↦ absurd (omega (arith, none.1))
      | inr same ↦ told_on more.0 new (gives_told old n bytes more.0 (subst (λ (text : List ℕ). LineGives callers old n bytes text more.0) same more.1))
          (answered_more callers more.0 (n + 1) lines ended cut answers rest new more.2)
    ]
    | inr later ↦ answered_told more.0 (n + 1) lines ended cut answers rest new more.2 later
  ]

  -- The history has all that was acknowledged.
  pub committed_kept : (limits : Limits) (first final : State) (lines : List (List ℕ)) (ended : Ended) (cut : Bool) (answers : List (List ℕ)) (rest : List ℕ) (turns : List Turn)
      → IsSound first → Runs limits first turns final → Answered (call_script callers) [] 1 lines ended cut answers rest turns → Contains answers (reply_line caller (Committed m)) → m ≤ length final.history
  committed_kept limits first final lines ended cut answers rest turns sound runs answered has =
      let told = answered_told [] 1 lines ended cut answers rest turns answered has in
      let turn : Turn = (told.caller, told.call, Committed told.number) in
      let at = turn_is limits first final told.before told.after turn (subst (λ (all : List Turn). Runs limits first all final) told.is runs) in
      let there = runs_sound limits first told.before at.old sound (turns_tell true limits first at.old told.before refl at.until) in
      let long = committed_long limits at.old told.caller told.call told.number at.new there at.step in
      omega (arith, told.enough, long, grows_longer at.new.history final.history (turns_grow true limits at.new final told.after at.since))
