-- What was read shows that the table holds no queue of so many places.
use Rattle.std.proofs.Common.{◌≡◌, ℕ, ◌+◌, ◌^◌, ◌<◌, ◌≤◌, List, [], ◌∷◌, ◌++◌, length, Option, Some, None, unwrap_or, refl, sym, ◌∙◌, ap, subst, arith}
use Rattle.std.specs.FinMap.{get}
use Rattle.history.specs.Key.{main_name, of_main}
use Rattle.history.specs.Legal.{records}
use Rattle.history.specs.Table.{Granted, found}
use Rattle.history.specs.Writes.{Table}
use Rattle.history.specs.declared.call.TableCall.{TableCall}
use Rattle.history.specs.declared.call.TableCall.TheVariants.{Get}
use Rattle.history.specs.declared.call.Reply.{Reply}
use Rattle.history.specs.declared.call.Reply.TheVariants.{Absent}
use Rattle.caller_steps.specs.Core.{CoreView}
use Rattle.caller_steps.specs.State.{records_of}
use Rattle.transactions.specs.Adds.{Stays, Adds}
use Rattle.transactions.proofs.Reading.{read_among}
use Rattle.job_queue.specs.Queue.{IsNumber, IsQueue, HasNoQueue, Reads, place}
use Rattle.job_queue.proofs.Ring.{same_number}

module _ (size : ℕ) (table : Table) (fits : size < 2 ^ 64) where
  first_of : (told : Option (List ℕ)) (jobs : List (List ℕ)) (queue : IsQueue size table jobs) → told ≡ get table (of_main 0) → IsNumber queue.first told
  first_of told jobs queue same = subst (λ (o : Option (List ℕ)). IsNumber queue.first o) (sym same) queue.says_first

  count_of : (told : Option (List ℕ)) (jobs : List (List ℕ)) (queue : IsQueue size table jobs) → told ≡ get table (of_main 1) → IsNumber (length jobs) told
  count_of told jobs queue same = subst (λ (o : Option (List ℕ)). IsNumber (length jobs) o) (sym same) queue.says_count

  pub first_beyond : (told : Option (List ℕ)) (first : ℕ) → told ≡ get table (of_main 0) → IsNumber first told → first < 2 ^ 64 → size ≤ first → HasNoQueue size table
  first_beyond told first same is small beyond jobs queue =
      let inside = queue.within in
      let equal = same_number first queue.first told small (omega (arith, inside, fits)) is (first_of told jobs queue same) in
      absurd (omega (arith, inside, equal, beyond))

  pub count_beyond : (told : Option (List ℕ)) (count : ℕ) → told ≡ get table (of_main 1) → IsNumber count told → count < 2 ^ 64 → size < count → HasNoQueue size table
  count_beyond told count same is small beyond jobs queue =
      let room = queue.fits in
      let equal = same_number count (length jobs) told small (omega (arith, room, fits)) is (count_of told jobs queue same) in
      absurd (omega (arith, room, equal, beyond))

  -- there are jobs, and there is none at the first place
  pub job_missing : (one other : Option (List ℕ)) (first count : ℕ) → one ≡ get table (of_main 0) → other ≡ get table (of_main 1) → IsNumber first one → IsNumber count other
      → first < 2 ^ 64 → count < 2 ^ 64 → 0 < count → None ≡ get table (of_main (first + 2)) → HasNoQueue size table
  job_missing one other first count same same_count is is_count small little more gone [] queue =
      let equal = same_number count 0 other little (omega arith) is_count (count_of other [] queue same_count) in
      absurd (omega (arith, equal, more))
  job_missing one other first count same same_count is is_count small little more gone (job ∷ jobs) queue =
      let inside = queue.within in
      let equal = same_number first queue.first one small (omega (arith, inside, fits)) is (first_of one (job ∷ jobs) queue same) in
      let here : place size queue.first 0 ≡ queue.first = (let below : queue.first + 0 < size = omega (arith, inside) in grind (arith, below)) in
      let there : place size queue.first 0 + 2 ≡ first + 2 = omega (arith, here, equal) in
      let has = queue.lie.0 in
      let told = ap (λ (n : ℕ). get table (of_main n)) there in
      let e : None ≡ Some job = gone ∙ sym told ∙ has in
      absurd (cc)

-- the bounds were read, and what was told of them is what the records have
module _ (size caller first count : ℕ) (old mid : CoreView) (fits : size < 2 ^ 64) (begun_so : old.state.live caller ≡ Some []) (reads : Reads first count caller old mid) where
  abbrev read_first : TableCall × Reply
  read_first = (Get main_name 0, found reads.one)

  abbrev read_count : TableCall × Reply
  read_count = (Get main_name 1, found reads.other)

  pub both_live : mid.state.live caller ≡ Some (read_first ∷ read_count ∷ [])
  both_live = reads.live ∙ ap (λ (o : Option Granted). Some (unwrap_or o [] ++ read_first ∷ read_count ∷ [])) begun_so

  same_records : (new : CoreView) → Stays caller old new → records_of new.state ≡ records_of old.state
  same_records new stays = λ i. records (stays.goes_on.base i) (stays.history i)

  pub told_first : (new : CoreView) (back : Granted) → Stays caller old new → new.state.live caller ≡ Some (read_first ∷ read_count ∷ back) → reads.one ≡ get (records_of old.state) (of_main 0)
  told_first new back stays live =
      read_among new.state caller [] (read_count ∷ back) main_name 0 reads.one stays.goes_on.sound live refl ∙ ap (λ (t : Table). get t (of_main 0)) (same_records new stays)

  pub told_count : (new : CoreView) (back : Granted) → Stays caller old new → new.state.live caller ≡ Some (read_first ∷ read_count ∷ back) → reads.other ≡ get (records_of old.state) (of_main 1)
  told_count new back stays live =
      read_among new.state caller (read_first ∷ []) back main_name 1 reads.other stays.goes_on.sound live refl ∙ ap (λ (t : Table). get t (of_main 1)) (same_records new stays)

  -- the first place is none of the queue's
  pub first_out : Stays caller old mid → first < 2 ^ 64 → size ≤ first → HasNoQueue size (records_of old.state)
  first_out stays small beyond = first_beyond size (records_of old.state) fits reads.one first (told_first mid [] stays both_live) reads.is_first small beyond

  -- there are more jobs than places
  pub count_out : Stays caller old mid → count < 2 ^ 64 → size < count → HasNoQueue size (records_of old.state)
  count_out stays small beyond = count_beyond size (records_of old.state) fits reads.other count (told_count mid [] stays both_live) reads.is_count small beyond

  -- there are jobs, and the first one is not there
  pub job_out : (new : CoreView) → Stays caller old new → Adds caller (Get main_name (first + 2)) Absent mid new → first < 2 ^ 64 → count < 2 ^ 64 → 0 < count → HasNoQueue size (records_of old.state)
  job_out new stays adds small little more =
      let read_job : TableCall × Reply = (Get main_name (first + 2), found None) in
      let live : new.state.live caller ≡ Some (read_first ∷ read_count ∷ read_job ∷ []) = adds ∙ ap (λ (o : Option Granted). Some (unwrap_or o [] ++ read_job ∷ [])) both_live in
      let gone = read_among new.state caller (read_first ∷ read_count ∷ []) [] main_name (first + 2) None stays.goes_on.sound live refl ∙ ap (λ (t : Table). get t (of_main (first + 2))) (same_records new stays) in
      job_missing size (records_of old.state) fits reads.one reads.other first count (told_first new (read_job ∷ []) stays live) (told_count new (read_job ∷ []) stays live) reads.is_first reads.is_count small little more gone
