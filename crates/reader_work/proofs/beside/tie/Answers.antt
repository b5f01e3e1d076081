use Rattle.std.proofs.Common.{◌≡◌, ◌++◌, List, [], ◌∷◌, length, append_assoc, arith, refl, sym, ap, ◌∙◌, subst}
use Rattle.std.specs.Prelude.{All}
use Rattle.std.proofs.lemmas.List.{append-nil, map-append}
use Rattle.std.proofs.lemmas.List.Elements.{All-push, All-rest, All-weaker, All-head, All-same}
use mathlib.Core.List.{IsPrefix}
use Rattle.snapshot_readers.specs.Batches.{Batch}
use Rattle.snapshot_readers.specs.Feeds.{fed, fed_book, heard, told, read, read_book}
use Rattle.snapshot_readers.proofs.Prefixes.{prefix_trans}
use Rattle.history.specs.declared.answer.Answer.{Answer}
use Rattle.reader_work.specs.declared.reading.ReadWorker.{ReadWorker}
use Rattle.reader_work.proofs.beside.tie.Goals as goal

-- all that the reader has read is a front of this list
abbrev Begins : List Batch → ReadWorker → Type 0
Begins list worker = IsPrefix (read worker.reader) list

none_left : (xs : List ReadWorker) → length xs ≡ 0 → xs ≡ []
none_left [] is = refl
none_left (x ∷ xs) is = absurd (omega (arith, is))

pub learn-requires : goal.learn-requires
learn-requires g c =
    let Same = λ (w : ReadWorker). read_book w.reader ≡ fed_book c.loop-worker.feed in
    All-head Same c.in-Some.worker c.next.new.self.rest.items (subst (All Same) c.in-Some.ensures.steps.0 c.loop-worker.invariant.books)

pub loop-worker-preserved : goal.loop-worker-preserved
loop-worker-preserved g c =
    let i = c.loop-worker.invariant in
    let rest = c.in-Some.ensures.steps.0 in
    let worker = c.in-Some.worker in
    let first = i.learnt.0 in
    let was = heard c.loop-worker.feed in
    let now = heard c.learn.new.self in
    let learnt = c.learn.ensures.heard in
    record {
      learnt = (
        first ++ worker ∷ [],
        append_assoc first (worker ∷ []) c.next.new.self.rest.items ∙ ap (λ (l : List ReadWorker). first ++ l) (sym rest) ∙ i.learnt.1,
        c.push_reserved.ensures.items ∙ ap (λ (a : List Answer). c.loop-worker.told.items ++ a ∷ []) c.from.ensures ∙ ap (λ (l : List (List Answer)). l ++ worker.answers.items ∷ []) i.learnt.2
            ∙ sym (map-append (λ (w : ReadWorker). w.answers.items) first (worker ∷ [])),
        All-push (Begins now) first worker (All-weaker (Begins was) (Begins now) (λ w begins. prefix_trans (read w.reader) was now begins learnt.0) first i.learnt.3) learnt.1,
      );
      books = All-weaker (λ (w : ReadWorker). read_book w.reader ≡ fed_book c.loop-worker.feed) (λ (w : ReadWorker). read_book w.reader ≡ fed_book c.learn.new.self) (λ w is. is ∙ sym c.learn.ensures.same.2) c.next.new.self.rest.items
          (All-rest (λ (w : ReadWorker). read_book w.reader ≡ fed_book c.loop-worker.feed) worker c.next.new.self.rest.items c.loop-worker.worker-iterator.rest.items rest i.books);
      fed_is = c.learn.ensures.same.1 ∙ i.fed_is;
      room = c.push_reserved.ensures.capacity ∙ i.room;
    }

pub returns-clause-tied : goal.returns-clause-tied
returns-clause-tied g c =
    let i = c.loop-worker.invariant in
    let first = i.learnt.0 in
    let all : first ≡ c.args.readers.items = sym (append-nil first) ∙ ap (λ (l : List ReadWorker). first ++ l) (sym (none_left c.loop-worker.worker-iterator.rest.items (omega (arith, c.in-None.ensures.steps.0, c.loop-worker.worker-iterator.rest.ok.0)))) ∙ i.learnt.1 in
    let last : told c.in_ok-feed.field-0 ≡ fed c.args.feed.now = c.in_ok-feed.ensures.ok.0 ∙ i.fed_is in
    let reached = subst (IsPrefix (heard c.loop-worker.feed)) last c.in_ok-feed.ensures.heard in
    All-same (Begins (fed c.args.feed.now)) c.args.readers.items first (sym all)
    (All-weaker (Begins (heard c.loop-worker.feed)) (Begins (fed c.args.feed.now)) (λ w begins. prefix_trans (read w.reader) (heard c.loop-worker.feed) (fed c.args.feed.now) begins reached) first i.learnt.3)
