-- Each save is a prefix of the next, and the last is a prefix of the writes.
use Rattle.std.proofs.Common.{◌≡◌, ℕ, zero, suc, ◌-◌, ◌<◌, ◌≤◌, Bool, true, false, nat_lt, nat_le, List, [], ◌∷◌, ◌++◌, length, take, drop, get_or, Some, None, refl, sym, ap, subst, ◌∙◌, arith, length-append, take-take}
use Rattle.std.specs.Prelude.{if◌then◌else◌}
use Rattle.std.specs.List.{fold}
use Rattle.std.proofs.lemmas.Bool.{and_parts, ltb-true, leb-true}
use Rattle.std.proofs.lemmas.List.{length-take-le, take-append-le, take_all}
use Rattle.history.specs.Key.{of_table}
use Rattle.history.specs.Writes.{Write, replaced, with_write}
use Rattle.history.specs.Table.{Granted, has_save}
use Rattle.history.specs.Log.{Log, save_at, floor_of, log_after, log_of}
use Rattle.history.specs.declared.call.TableCall.{TableCall}
use Rattle.history.specs.declared.call.TableCall.TheVariants.{Get, Put, Del, Scan, Save, Back}
use Rattle.history.specs.declared.call.Reply.{Reply}
use Rattle.history.specs.declared.call.Reply.TheVariants.{Fine}

-- one list of writes is a prefix of another
pub record IsFront (front whole : List Write) : Type 0 where
  pub within : length front ≤ length whole
  pub is : take (length front) whole ≡ front

front_self : (writes : List Write) → IsFront writes writes
front_self writes = record { within = omega arith; is = take_all (length writes) writes (omega arith) }

front_through : (one two three : List Write) → IsFront one two → IsFront two three → IsFront one three
front_through one two three a b = record {
  within = omega (arith, a.within, b.within);
  is = sym (take-take (length one) (length two) three a.within) ∙ ap (take (length one)) b.is ∙ a.is;
}

-- each is a prefix of the next, from the first to the last
Rises : List Write → List (List Write) → List Write → Type 0
Rises low [] high = IsFront low high
Rises low (save ∷ saves) high = IsFront low save × Rises save saves high

rises-push : (low : List Write) (saves : List (List Write)) (high : List Write) → Rises low saves high → Rises low (saves ++ high ∷ []) high
unfolding Rises
rises-push low [] high rises = (rises, front_self high)
rises-push low (save ∷ saves) high rises = (rises.0, rises-push save saves high rises.1)

-- the last of them, or low if there is none
last_of : List Write → List (List Write) → List Write
last_of low [] = low
last_of low (save ∷ saves) = last_of save saves

last_is : (low : List Write) (saves : List (List Write)) (i : ℕ) → length saves ≡ suc i → get_or saves i [] ≡ last_of low saves
unfolding last_of
last_is low [] i long = absurd (omega (arith, long))
last_is low (save ∷ []) zero long = refl
last_is low (save ∷ []) (suc i) long = absurd (omega (arith, long))
last_is low (save ∷ (next ∷ saves)) zero long = absurd (omega (arith, long))
last_is low (save ∷ (next ∷ saves)) (suc i) long = last_is save (next ∷ saves) i (omega (arith, long))

rises_last : (low : List Write) (saves : List (List Write)) (high : List Write) → Rises low saves high → Rises low saves (last_of low saves) × IsFront (last_of low saves) high
unfolding Rises last_of
rises_last low [] high rises = (front_self low, rises)
rises_last low (save ∷ saves) high rises = let rest = rises_last save saves high rises.1 in ((rises.0, rest.0), rest.1)

-- the end may be replaced by one of which the last is a prefix
rises_to : (low : List Write) (saves : List (List Write)) (high : List Write) → Rises low saves (last_of low saves) → IsFront (last_of low saves) high → Rises low saves high
unfolding Rises last_of
rises_to low [] high rises front = front
rises_to low (save ∷ saves) high rises front = (rises.0, rises_to save saves high rises.1 front)

rises-take : (i : ℕ) (low : List Write) (saves : List (List Write)) (high : List Write) → i < length saves → Rises low saves high
    → Rises low (take (suc i) saves) (get_or saves i []) × IsFront (get_or saves i []) high
unfolding Rises
rises-take i low [] high within rises = absurd (omega arith)
rises-take zero low (save ∷ saves) high within rises = ((rises.0, front_self save), whole save saves high rises.1)
  where
    whole : (low : List Write) (saves : List (List Write)) (high : List Write) → Rises low saves high → IsFront low high
    whole low [] high rises = rises
    whole low (save ∷ saves) high rises = front_through low save high rises.0 (whole save saves high rises.1)
rises-take (suc i) low (save ∷ saves) high within rises = let rest = rises-take i save saves high (omega arith) rises.1 in ((rises.0, rest.0), rest.1)

abbrev IsRising : Log → Type 0
IsRising log = Rises [] log.saved log.writes

-- the writes of the last save
last_save : (log : Log) → save_at log.saved (length log.saved) ≡ last_of [] log.saved
unfolding last_of
last_save log = go log.saved
  where
    go : (saved : List (List Write)) → save_at saved (length saved) ≡ last_of [] saved
    go [] = refl
    go (save ∷ saved) = last_is [] (save ∷ saved) (length (save ∷ saved) - 1) (omega arith)

front_written : (front : List Write) (write : Write) (writes : List Write) → IsFront front writes → IsFront front (with_write (length front) write writes)
front_written front write writes is =
    let long : length (take (length front) writes) ≡ length front = length-take-le (length front) writes is.within in
    record {
      within = omega (arith, long, length-append (take (length front) writes) (replaced write (drop (length front) writes)));
      is = take-append-le (length front) (take (length front) writes) (replaced write (drop (length front) writes)) (omega (arith, long))
          ∙ ap (take (length front)) is.is ∙ take_all (length front) front (omega arith);
    }

rising-written : (log : Log) (write : Write) → IsRising log → IsRising (record log { writes = with_write (floor_of log) write log.writes })
rising-written log write rising =
    let last = rises_last [] log.saved log.writes rising in
    rises_to [] log.saved (with_write (floor_of log) write log.writes) last.0
    (subst (λ floor. IsFront (last_of [] log.saved) (with_write floor write log.writes)) (sym (ap length (last_save log))) (front_written (last_of [] log.saved) write log.writes last.1))

rising-back : (log : Log) (n : ℕ) → has_save log.saved n ≡ true → IsRising log → IsRising (record { writes = save_at log.saved n; saved = take n log.saved })
rising-back log n is rising =
    let both : (nat_lt 0 n ≡ true) × (nat_le n (length log.saved) ≡ true) = and_parts (nat_lt 0 n) (nat_le n (length log.saved)) is in
    let some : 0 < n = ltb-true 0 n both.0 in
    let within : n ≤ length log.saved = leb-true n (length log.saved) both.1 in
    let next : suc (n - 1) ≡ n = omega (arith, some) in
    subst (λ j. Rises [] (take j log.saved) (save_at log.saved n)) next (rises-take (n - 1) [] log.saved log.writes (omega (arith, some, within)) rising).0

rising-after : (log : Log) (call : TableCall) (reply : Reply) → IsRising log → IsRising (log_after log call reply)
rising-after log (Get name key) reply rising = rising
rising-after log (Put name key value) reply rising = rising-written log (of_table name key, Some value) rising
rising-after log (Del name key) Fine rising = rising-written log (of_table name key, None) rising
rising-after log (Del name key) _ rising = rising
rising-after log (Scan name low high) reply rising = rising
rising-after log Save reply rising = rises-push [] log.saved log.writes rising
rising-after log (Back n) reply rising = go (has_save log.saved n) refl
  where
    go : (b : Bool) → has_save log.saved n ≡ b → IsRising (if b then record { writes = save_at log.saved n; saved = take n log.saved } else log)
    go true is = rising-back log n is rising
    go false is = rising

rising_through : (calls : Granted) (log : Log) → IsRising log → IsRising (fold (λ was entry. log_after was entry.0 entry.1) log calls)
rising_through [] log rising = rising
rising_through (entry ∷ calls) log rising = rising_through calls (log_after log entry.0 entry.1) (rising-after log entry.0 entry.1 rising)

rising : (calls : Granted) → IsRising (log_of calls)
unfolding Rises
rising calls = rising_through calls (record { writes = []; saved = [] }) (record { within = omega arith; is = refl })

-- Each save is a prefix of the writes,
pub save_is_front : (calls : Granted) (n : ℕ) → has_save (log_of calls).saved n ≡ true → IsFront (save_at (log_of calls).saved n) (log_of calls).writes
save_is_front calls n is =
    let saved : List (List Write) = (log_of calls).saved in
    let both : (nat_lt 0 n ≡ true) × (nat_le n (length saved) ≡ true) = and_parts (nat_lt 0 n) (nat_le n (length saved)) is in
    let some : 0 < n = ltb-true 0 n both.0 in
    let within : n ≤ length saved = leb-true n (length saved) both.1 in
    (rises-take (n - 1) [] saved (log_of calls).writes (omega (arith, some, within)) (rising calls)).1

-- so is the last one, even if there is none yet,
pub last_is_front : (calls : Granted) → IsFront (save_at (log_of calls).saved (length (log_of calls).saved)) (log_of calls).writes
last_is_front calls = subst (λ front. IsFront front (log_of calls).writes) (sym (last_save (log_of calls))) (rises_last [] (log_of calls).saved (log_of calls).writes (rising calls)).1

-- so the writes that can no longer be replaced are among the writes.
pub floor_within : (calls : Granted) → floor_of (log_of calls) ≤ length (log_of calls).writes
floor_within calls = (last_is_front calls).within
