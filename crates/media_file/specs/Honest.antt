-- The past of a file in memory.
use Rattle.std.specs.Prelude.{ℕ, ◌≡◌, Bool, true, false, List, [], ◌∷◌, length, take, drop, reverse, refl}
use Rattle.std.proofs.Common.{sym, ◌∙◌, ap, ⊎_elim, arith, take_all}
use Rattle.std.proofs.lemmas.List.{length-take-le}
use Rattle.std.proofs.lemmas.Bool.{cases_lt}
use Rattle.mars_base.specs.Bytes.{range}
use Rattle.pcm_media.specs.Images.{Content}
use Rattle.pcm_media.specs.Replay.{at_rest}
use Rattle.media_file.specs.declared.honest_call.Done.{Done}
use Rattle.media_file.specs.declared.honest_call.Done.TheVariants.{Measured, Read, Written, Resized, Synced}
use Rattle.media_file.specs.declared.honest_call.HonestCall.{HonestCall}
use Rattle.media_file.specs.Past.{Event, Made, Past, measured, came, stands, resized, synced, content_after, Answers, IsHonest}

-- a call with its answer, given what was held before it
abbrev pub event_of : Done → Content → Event
event_of Measured held = measured (length held.bytes)
event_of (Read at count) held = came at (range held.bytes at count)
event_of (Written at bytes) held = stands at bytes.items
event_of (Resized len) held = resized len
event_of Synced held = synced

-- the kept calls with their answers, the newest first
abbrev pub told : Content → List HonestCall → List Made
told first [] = []
told first (call ∷ earlier) = record { moment = call.moment; event = event_of call.done (content_after first (told first earlier)) } ∷ told first earlier

-- the past of a file with these bytes at first, all settled, and these calls since, the oldest first
abbrev pub past_of : List ℕ → List HonestCall → Past
past_of first calls = record { first = at_rest first; calls = told (at_rest first) (reverse calls) }

-- a call that changes no byte
abbrev pub is_quiet : Done → Bool
is_quiet Measured = true
is_quiet (Read at count) = true
is_quiet (Written at bytes) = false
is_quiet (Resized len) = false
is_quiet Synced = true

take_taken : (n : ℕ) (bytes : List ℕ) → take n bytes ≡ take (length (take n bytes)) bytes
take_taken n bytes = ⊎_elim
    (λ lt. ap (λ (m : ℕ). take m bytes) (sym (length-take-le n bytes (omega arith))))
    (λ le.
    let whole = take_all n bytes le in
    whole ∙ sym (take_all (length (take n bytes)) bytes (omega (arith, ap length whole))))
    (cases_lt n (length bytes))

answers_told : (done : Done) (held : Content) → Answers (event_of done held) held
answers_told Measured held = refl
answers_told (Read at count) held = take_taken count (drop at held.bytes)
answers_told (Written at bytes) held = tt
answers_told (Resized len) held = tt
answers_told Synced held = tt

-- such a past is honest
pub honest_told : (first : Content) (calls : List HonestCall) → IsHonest first (told first calls)
honest_told first [] = tt
honest_told first (call ∷ earlier) = (answers_told call.done (content_after first (told first earlier)), honest_told first earlier)
