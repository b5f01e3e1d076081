use Rattle.std.proofs.Common.{◌≡◌, ◌+◌, ◌<◌, ℕ, [], ◌∷◌, ◌++◌, List, length, take, get_or, arith, sym, ap, ◌∙◌, subst, length-append}
use Rattle.history.specs.declared.key.Key.{Key}
use Rattle.history.specs.Writes.{Table}
use Rattle.snapshot_readers.specs.Batches.{joined}
use Rattle.snapshot_readers.specs.Feeds.{read, read_base}
use Rattle.snapshot_readers.proofs.Joining.{joined_prefix}
use Rattle.history.specs.Answers.{IsAnswer, AreAnswers}
use Rattle.history.specs.declared.answer.Answer.{Answer}
use Rattle.caller_work.specs.declared.gate.Place.TheVariants.{ReadBegan}
use Rattle.reader_work.proofs.Answering.{next_of, told_next}
use Rattle.reader_work.proofs.reading.read_keys.Goals as goal

pub loop-nth-preserved : goal.loop-nth-preserved
loop-nth-preserved g c =
    let i = c.loop-nth.invariant in
    let first = c.args.worker.now in
    let nth = c.loop-nth.nth in
    let was = c.loop-nth.worker.reader in
    let now = c.answer_for-answer.new.reader in
    let answer = c.answer_for-answer.result in
    let base = read_base first.reader in
    let within : nth < length first.keys = (let t = c.loop-nth-test.true in let e = c.len-nth-end.ensures in omega arith) in
    let front = joined_prefix (read was) (read now) c.answer_for-answer.ensures.on in
    let same : read_base now ≡ base = c.answer_for-answer.ensures.same.1 ∙ i.base in
    let listed : c.as_slice.result.now ≡ first.keys = c.as_slice.ensures ∙ i.keys in
    let key = c.index-as_slice-nth.result in
    let its : key ≡ get_or first.keys nth key = c.index-as_slice-nth.is ∙ ap (λ (l : List Key). get_or l nth key) listed in
    let is = subst (λ (x : List (List ℕ) × Table × Key). IsAnswer x.0 x.1 (joined (read now)) (length (joined (read now))) x.2 answer) (λ j. (i.names j, same j, its j)) c.answer_for-answer.ensures.answer in
    record {
      number = i.number;
      told = c.tell.ensures.notes ∙ (λ k. i.told k ++ ReadBegan (i.number k) (nth + 1) ∷ []) ∙ told_next first.number nth first.keys first.told.said within;
      keys = i.keys;
      names = i.names;
      room = c.push_reserved.ensures.capacity ∙ i.room;
      count = (let e = ap (λ (l : List Answer). length l) c.push_reserved.ensures.items in let n = i.count in omega (arith, e, n, length-append c.loop-nth.worker.answers.items (answer ∷ [])));
      book = c.answer_for-answer.ensures.same.0 ∙ i.book;
      base = same;
      answers = subst (λ (l : List Answer). AreAnswers first.names base (joined (read now)) 0 (take (nth + 1) first.keys) l) (sym c.push_reserved.ensures.items)
          (next_of first.names base (joined (read was)) (joined (read now)) first.keys nth key c.loop-nth.worker.answers.items answer within i.answers front is);
    }
