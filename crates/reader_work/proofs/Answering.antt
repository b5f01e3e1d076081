-- The answers of a reader, one after another.
use Rattle.std.proofs.Common.{◌≡◌, ℕ, zero, suc, ◌+◌, ◌<◌, ◌≤◌, List, [], ◌∷◌, ◌++◌, length, take, drop, get_or, refl, sym, ap, ◌∙◌, subst, arith, length-append, append_assoc}
use Rattle.std.specs.FinMap.{get}
use mathlib.Core.List.{IsPrefix}
use Rattle.history.specs.declared.key.Key.{Key}
use Rattle.history.specs.Legal.{records}
use Rattle.history.specs.Writes.{Table}
use Rattle.history.specs.declared.transaction.Done.{Done}
use Rattle.std.specs.Prelude.{All, Result, Ok, Err, IfOk}
use Rattle.std.specs.Global.{Vec}
use Rattle.std.proofs.lemmas.List.{take_more}
use Rattle.std.proofs.lemmas.List.Elements.{All-head, All-tail}
use Rattle.mars_base.specs.declared.NoMemory.{NoMemory}
use Rattle.logbook.specs.Pages.{Book}
use Rattle.snapshot_readers.specs.Batches.{Batch, joined}
use Rattle.snapshot_readers.specs.Feeds.{read, read_base}
use Rattle.snapshot_readers.proofs.Joining.{joined_prefix}
use Rattle.snapshot_readers.proofs.Prefixes.{prefix_trans}
use Rattle.history.specs.Answers.{IsAnswer, come_to, AreAnswers, AllAnswer}
use Rattle.caller_work.specs.declared.gate.Place.{Place}
use Rattle.caller_work.specs.declared.gate.Place.TheVariants.{ReadBegan}
use Rattle.reader_work.specs.Reading.{HasRead, read_places}
use Rattle.reader_work.specs.Readership.{keys_of, answers_of, IsReady}
use Rattle.history.specs.declared.answer.Answer.{Answer}
use Rattle.history.specs.declared.answer.Answer.TheVariants.{Value, NoTable}
use Rattle.reader_work.specs.declared.reading.ReadWorker.{ReadWorker}

take_in : {A : Type 0} (n : ℕ) (xs more : List A) → n ≤ length xs → take n (xs ++ more) ≡ take n xs
take_in zero xs more within = refl
take_in (suc n) [] more within = absurd (omega (arith, within))
take_in (suc n) (x ∷ xs) more within = ap (λ (l : List _). x ∷ l) (take_in n xs more (omega (arith, within)))

take_whole : {A : Type 0} (xs : List A) → take (length xs) xs ≡ xs
take_whole [] = refl
take_whole (x ∷ xs) = ap (λ (l : List _). x ∷ l) (take_whole xs)

-- where a reader comes to is in the list
come_within : (names : List (List ℕ)) (base : Table) (list : List Done) (least : ℕ) (key : Key) (answer : Answer) → least ≤ length list → IsAnswer names base list least key answer → come_to least answer ≤ length list
come_within names base list least key (Value asked at value) low is = is.3
come_within names base list least key NoTable low is = low

-- what is an answer in a list is one in a longer list
in_longer : (names : List (List ℕ)) (base : Table) (list longer : List Done) (least : ℕ) (key : Key) (answer : Answer) → IsPrefix list longer → IsAnswer names base list least key answer → IsAnswer names base longer least key answer
in_longer names base list longer least key (Value asked at value) front (there, same, rises, within, is) = (
  there,
  same,
  rises,
  (let e = ap (λ (l : List Done). length l) front.1 in omega (arith, e, length-append list front.0, within)),
  is ∙ ap (λ (l : List Done). get (records base l) key) (sym (take_in at list front.0 within) ∙ ap (λ (l : List Done). take at l) front.1),
)
in_longer names base list longer least key NoTable front is = is

pub all_longer : (names : List (List ℕ)) (base : Table) (list longer : List Done) (least : ℕ) (keys : List Key) (answers : List Answer) → IsPrefix list longer → AreAnswers names base list least keys answers
    → AreAnswers names base longer least keys answers
all_longer names base list longer least [] [] front are = tt
all_longer names base list longer least [] (answer ∷ answers) front are = absurd are
all_longer names base list longer least (key ∷ keys) [] front are = absurd are
all_longer names base list longer least (key ∷ keys) (answer ∷ answers) front are =
    (in_longer names base list longer least key answer front are.0, all_longer names base list longer (come_to least answer) keys answers front are.1)

-- what is an answer after so many transactions is one after fewer
from_lower : (names : List (List ℕ)) (base : Table) (list : List Done) (least more : ℕ) (key : Key) (answer : Answer) → least ≤ more → IsAnswer names base list more key answer → IsAnswer names base list least key answer
from_lower names base list least more key (Value asked at value) low (there, same, rises, within, is) = (there, same, omega (arith, low, rises), within, is)
from_lower names base list least more key NoTable low is = is

-- one more, which is after all of the list
one_more : (names : List (List ℕ)) (base : Table) (list : List Done) (least : ℕ) (keys : List Key) (answers : List Answer) (key : Key) (answer : Answer) → AreAnswers names base list least keys answers → least ≤ length list
    → IsAnswer names base list (length list) key answer → AreAnswers names base list least (keys ++ key ∷ []) (answers ++ answer ∷ [])
one_more names base list least [] [] key answer are low is = (from_lower names base list least (length list) key answer low is, tt)
one_more names base list least [] (other ∷ answers) key answer are low is = absurd are
one_more names base list least (one ∷ keys) [] key answer are low is = absurd are
one_more names base list least (one ∷ keys) (other ∷ answers) key answer are low is =
    (are.0, one_more names base list (come_to least other) keys answers key answer are.1 (come_within names base list least one other low are.0) is)

-- a reader's answers with the next, for the n-th of its keys, which it reads after a list that goes on from what it had read
pub next_of : (names : List (List ℕ)) (base : Table) (was now : List Done) (keys : List Key) (n : ℕ) (nothing : Key) (answers : List Answer) (answer : Answer) → n < length keys → AreAnswers names base was 0 (take n keys) answers
    → IsPrefix was now → IsAnswer names base now (length now) (get_or keys n nothing) answer → AreAnswers names base now 0 (take (n + 1) keys) (answers ++ answer ∷ [])
next_of names base was now keys n nothing answers answer within are front is =
    subst (λ (ks : List Key). AreAnswers names base now 0 ks (answers ++ answer ∷ [])) (sym (take_more keys n nothing within))
    (one_more names base now 0 (take n keys) answers (get_or keys n nothing) answer (all_longer names base was now 0 (take n keys) answers front are) (omega arith) is)

-- what all readers were answered, in what was seen: all that each has read is a front of what was fed, and that of what was seen
each_answers : (names : List (List ℕ)) (base : Table) (book : Book) (shown : List Batch) (seen : List Done) (before after : List ReadWorker) → IsPrefix (joined shown) seen → length after ≡ length before
    → ((i : ℕ) (w : ReadWorker) → i < length before → HasRead (get_or before i w) (get_or after i w)) → All (λ (worker : ReadWorker). IsPrefix (read worker.reader) shown) after → All (IsReady names book base) before
    → AllAnswer names base seen (keys_of before) (answers_of after)
each_answers names base book shown seen [] [] front same has learnt ready = tt
each_answers names base book shown seen [] (now ∷ after) front same has learnt ready = absurd (omega arith)
each_answers names base book shown seen (was ∷ before) [] front same has learnt ready = absurd (omega arith)
each_answers names base book shown seen (was ∷ before) (now ∷ after) front same has learnt ready =
    let one = has 0 was (omega arith) in
    let first = All-head (IsReady names book base) was before ready in
    let is : read_base was.reader ≡ base = first.fresh.2 in
    let far = prefix_trans (joined (read now.reader)) (joined shown) seen (joined_prefix (read now.reader) shown (All-head (λ (worker : ReadWorker). IsPrefix (read worker.reader) shown) now after learnt)) front in (
      all_longer names base (joined (read now.reader)) seen 0 was.keys now.answers.items far
          (subst (λ (t : List (List ℕ) × Table). AreAnswers t.0 t.1 (joined (read now.reader)) 0 was.keys now.answers.items) (λ i. (first.named i, is i)) one.answers),
      each_answers names base book shown seen before after front (omega arith) (λ i w within. has (suc i) w (omega (arith, within)))
          (All-tail (λ (worker : ReadWorker). IsPrefix (read worker.reader) shown) now after learnt) (All-tail (IsReady names book base) was before ready),
    )

pub all_answer : (r : Result (Vec (List Answer)) NoMemory) (book : Book) (shown : List Batch) (seen : List Done) (before after : List ReadWorker) → joined shown ++ drop (length (joined shown)) seen ≡ seen → length after ≡ length before
    → ((i : ℕ) (w : ReadWorker) → i < length before → HasRead (get_or before i w) (get_or after i w)) → IfOk r (λ told. All (λ (worker : ReadWorker). IsPrefix (read worker.reader) shown) after) → IfOk r (λ told. told.items ≡ answers_of after)
    → IfOk r (λ told. (names : List (List ℕ)) (base : Table) → All (IsReady names book base) before → AllAnswer names base seen (keys_of before) told.items)
all_answer (Ok told) book shown seen before after behind same has learnt is = λ names base ready. subst (AllAnswer names base seen (keys_of before)) (sym is) (each_answers names base book shown seen before after (drop (length (joined shown)) seen, behind) same has learnt ready)
all_answer (Err none) book shown seen before after behind same has learnt is = tt

-- where all is told, it is so in a longer history too
pub answer_longer : (names : List (List ℕ)) (base : Table) (seen longer : List Done) (asks : List (List Key)) (told : List (List Answer)) → IsPrefix seen longer → AllAnswer names base seen asks told → AllAnswer names base longer asks told
answer_longer names base seen longer [] [] front all = tt
answer_longer names base seen longer [] (one ∷ told) front all = absurd all
answer_longer names base seen longer (keys ∷ asks) [] front all = absurd all
answer_longer names base seen longer (keys ∷ asks) (one ∷ told) front all = (all_longer names base seen longer 0 keys one front all.0, answer_longer names base seen longer asks told front all.1)

-- the gate is told of one key more
reads_more : (reader at nth : ℕ) (keys : List Key) → nth < length keys → read_places reader at (take nth keys) ++ ReadBegan reader (at + nth) ∷ [] ≡ read_places reader at (take (nth + 1) keys)
reads_more reader at zero [] within = absurd (omega (arith, within))
reads_more reader at (suc nth) [] within = absurd (omega (arith, within))
reads_more reader at zero (key ∷ keys) within = let e : at + 0 ≡ at = omega arith in ap (λ (n : ℕ). ReadBegan reader n ∷ []) e
reads_more reader at (suc nth) (key ∷ keys) within =
    let e : at + suc nth ≡ at + 1 + nth = omega arith in
    let on : suc nth + 1 ≡ suc (nth + 1) = omega arith in
    ap (λ (l : List Place). ReadBegan reader at ∷ l) (ap (λ (n : ℕ). read_places reader (at + 1) (take nth keys) ++ ReadBegan reader n ∷ []) e ∙ reads_more reader (at + 1) nth keys (omega (arith, within)))
    ∙ ap (λ (n : ℕ). read_places reader at (take n (key ∷ keys))) (sym on)

pub told_next : (reader nth : ℕ) (keys : List Key) (before : List Place) → nth < length keys
    → (before ++ read_places reader 1 (take nth keys)) ++ ReadBegan reader (nth + 1) ∷ [] ≡ before ++ read_places reader 1 (take (nth + 1) keys)
told_next reader nth keys before within =
    let e : nth + 1 ≡ 1 + nth = omega arith in
    append_assoc before (read_places reader 1 (take nth keys)) (ReadBegan reader (nth + 1) ∷ [])
    ∙ ap (λ (l : List Place). before ++ l) (ap (λ (n : ℕ). read_places reader 1 (take nth keys) ++ ReadBegan reader n ∷ []) e ∙ reads_more reader 1 nth keys within)
