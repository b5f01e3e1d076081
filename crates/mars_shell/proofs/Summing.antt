-- What a drill over a core comes to.
use Rattle.std.proofs.Common.{◌≡◌, ◌≢◌, ℕ, List, [], ◌∷◌, ◌++◌, map, take, length, Bool, true, false, refl, sym, ap, subst, ◌∙◌}
use Rattle.std.specs.Prelude.{IsTrue, if◌then◌else◌, codes, count_by, flat_map}
use Rattle.std.specs.Fmt.{decimal}
use Rattle.std.proofs.lemmas.List.{append_assoc, append-nil, length-map}
use Rattle.history.specs.Key.{main_name}
use Rattle.history.specs.Writes.{rows_of}
use Rattle.history.specs.declared.call.Call.{Call}
use Rattle.history.specs.declared.call.Reply.{Reply}
use Rattle.history.specs.declared.call.Reply.TheVariants.{Listed}
use Rattle.caller_steps.specs.State.{records_of}
use Rattle.caller_steps.specs.Core.{CoreView}
use Rattle.caller_steps.specs.Run.{Turn, has_fault}
use Rattle.mars_manager.specs.Sharing.{CanShare}
use Rattle.command_words.specs.declared.words.DrillNumbers.{DrillNumbers}
use Rattle.texts.specs.MediaFault.{media_line}
use Rattle.texts.specs.Written.{IsWritten}
use Rattle.script_run.specs.declared.ended.Ended.{Ended}
use Rattle.script_run.specs.declared.ended.Ended.TheVariants.{All, WriteFault, MediaFault, NoMemory}
use Rattle.script_run.specs.declared.responder.Stop.TheVariants as stop
use Rattle.history_text.specs.Text.{number_line}
use Rattle.script_text.specs.Replies.{reply_line}
use Rattle.mars_shell.specs.Drill.{drill_calls, summary_text, AreMade, Drills}
use Rattle.mars_shell.specs.Made.{without_reply, GoOn, Made, EndsEarly, SummedUp}
use Rattle.mars_shell.specs.OnCore.{TurnsOn}
use Rattle.mars_shell.specs.Tally.{counts, tally_of, key_sum, look_text, tally_text}
use Rattle.mars_shell.specs.Told.{TellsEnd}
use Rattle.mars_shell.proofs.Lining.{safe_now}
use Rattle.mars_shell.proofs.Making.{clean_all, living}

-- the summary of a tally is that of the replies that it counts
four : (f : List ℕ → List ℕ) (a b c d rest : List ℕ) → f a ++ (f b ++ (f c ++ (f d ++ rest))) ≡ flat_map f (a ∷ b ∷ c ∷ d ∷ []) ++ rest
four f a b c d rest =
    let flat : f a ++ (f b ++ (f c ++ (f d ++ rest))) ≡ (f a ++ (f b ++ (f c ++ (f d ++ [])))) ++ rest = simp (append_assoc, append-nil) in flat

tally_is : (numbers : DrillNumbers) (turns : List Turn) (rows : List (ℕ × List ℕ)) → tally_text numbers (tally_of turns) (Listed rows) ≡ summary_text numbers turns rows
tally_is numbers turns rows = ap (λ (l : List ℕ). number_line (codes "drill " ++ decimal numbers.seed) numbers.count ++ l)
    (four (λ (word : List ℕ). number_line word (count_by (λ (turn : Turn). counts word turn.2 turn.1) turns)) (codes "committed") (codes "aborted") (codes "busy") (codes "refused")
    (number_line (codes "records") (length rows) ++ number_line (codes "sum") (key_sum rows)))

-- a reply that lists nothing is told as it is
pub look_else : (reply : Reply) → ((rows : List (ℕ × List ℕ)) → reply ≡ Listed rows → ⊥) → look_text reply ≡ reply_line 0 reply
look_else (Listed rows) other = absurd (other rows refl)
look_else reply other = refl

-- it was written whole or cut short
summed_as : (ended : Ended) (cut : Bool) (text whole : List ℕ) → ended ≡ (if cut then WriteFault else All) → IsWritten cut text whole → TellsEnd ended cut text whole media_line
summed_as ended true text whole end wrote = subst (λ (e : Ended). TellsEnd e true text whole media_line) (sym end) (refl, wrote)
summed_as ended false text whole end wrote = subst (λ (e : Ended). TellsEnd e false text whole media_line) (sym end) (refl, wrote)

-- all calls were made
made_as : (ended : Ended) (cut : Bool) (script : List (ℕ × Call)) (turns : List Turn) → ended ≡ (if cut then WriteFault else All) → map without_reply turns ≡ script → GoOn turns → AreMade ended script turns
made_as ended true script turns end whole on = subst (λ (e : Ended). AreMade e script turns) (sym end) (sym (length-map turns without_reply) ∙ ap length whole, on)
made_as ended false script turns end whole on = subst (λ (e : Ended). AreMade e script turns) (sym end) (sym (length-map turns without_reply) ∙ ap length whole, on)

module _ (numbers : DrillNumbers) (tells : Bool) (old new : CoreView) (callers : ℕ) (callers_are : callers ≡ old.limits.callers) where
  -- the script of so many callers is the array's
  own : (turns : List Turn) → Made tells old (drill_calls numbers.seed numbers.count callers) turns new → map without_reply turns ≡ take (length turns) (drill_calls numbers.seed numbers.count old.limits.callers)
  own turns made = subst (λ (n : ℕ). map without_reply turns ≡ take (length turns) (drill_calls numbers.seed numbers.count n)) callers_are made.drawn

  module _ (told : IsTrue tells) (ready : CanShare tells 0 old) where
    -- turns of the script, of which this is told
    turns_on : (ended : Ended) (cut : Bool) (text : List ℕ) (turns : List Turn) → Made tells old (drill_calls numbers.seed numbers.count callers) turns new
        → AreMade ended (drill_calls numbers.seed numbers.count old.limits.callers) turns → TellsEnd ended cut text (summary_text numbers turns (rows_of main_name (records_of new.state))) media_line
        → (ended ≢ MediaFault → has_fault turns ≡ false) → TurnsOn (Drills numbers ended cut text) old ended new
    turns_on ended cut text turns made all said clean = record {
      turns = turns;
      runs = made.runs told;
      does = record { drawn = own turns made; made = all; told = said };
      continues = made.comes told (ready.sound told) (safe_now tells 0 old ready told);
      alive = λ unfailed. living old.limits old.state new.state turns (made.runs told) ready.alive (clean unfailed);
    }

    -- a drill comes to a summary, which is written whole or cut short,
    pub summary_told : (whole : List ℕ) (ended : Ended) (cut : Bool) (text : List ℕ) → SummedUp tells numbers old (drill_calls numbers.seed numbers.count callers) whole new
        → ended ≡ (if cut then WriteFault else All) → IsWritten cut text whole → TurnsOn (Drills numbers ended cut text) old ended new
    summary_told whole ended cut text up end wrote = turns_on ended cut text up.0 up.1
        (made_as ended cut (drill_calls numbers.seed numbers.count old.limits.callers) up.0 end (subst (λ (n : ℕ). map without_reply up.0 ≡ drill_calls numbers.seed numbers.count n) callers_are up.2) up.3)
        (summed_as ended cut text (summary_text numbers up.0 (rows_of main_name (records_of new.state))) end (subst (λ (t : List ℕ). IsWritten cut text t) (up.4 told ∙ tally_is numbers up.0 (rows_of main_name (records_of new.state))) wrote))
        (λ unfailed. clean_all up.0 up.3)

    -- to a fault of the medium,
    pub fault_told : (number : ℕ) (cut : Bool) (text : List ℕ) → EndsEarly tells old (drill_calls numbers.seed numbers.count callers) (stop.Media number) new → IsWritten cut text media_line
        → TurnsOn (Drills numbers MediaFault cut text) old MediaFault new
    fault_told number cut text early wrote = turns_on MediaFault cut text early.0 early.1 early.2 wrote (λ unfailed. absurd (unfailed refl))

    -- or to an end for lack of memory
    pub short_told : EndsEarly tells old (drill_calls numbers.seed numbers.count callers) stop.NoMemory new → TurnsOn (Drills numbers NoMemory false []) old NoMemory new
    short_told early = turns_on NoMemory false [] early.0 early.1 tt (refl, refl) (λ unfailed. early.2)
